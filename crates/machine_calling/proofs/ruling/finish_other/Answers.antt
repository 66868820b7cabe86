use Rattle.machine_calling.proofs.Worked.{finishes_own}
use Rattle.machine_calling.proofs.ruling.finish_other.Goals as goal

pub returns-clause-ran : goal.returns-clause-ran
returns-clause-ran c plain = finishes_own c.args.world.now c.args.state.now c.finish_work.new.state c.args.super_call c.in_ok-step.step c.args.work plain c.in_ok-step.ensures.moves
