use Rattle.std.proofs.lemmas.Result.{IfOk-weaker}
use Rattle.machine_calling.proofs.Worked.{throws_own}
use Rattle.machine_calling.proofs.ruling.throw.Goals as goal

pub returns-in-Ok-clause-ran : goal.returns-in-Ok-clause-ran
returns-in-Ok-clause-ran c super = throws_own c.args.world.now c.args.state.now c.raise.new.state super c.in-Ok.step c.args.x c.in-Ok.ensures.moves
