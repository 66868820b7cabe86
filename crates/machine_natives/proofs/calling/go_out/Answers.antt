use Rattle.machine_natives.proofs.Onward.{goes_out}
use Rattle.machine_natives.proofs.calling.go_out.Goals as goal

pub returns-clause-goes : goal.returns-clause-goes
returns-clause-goes c =
    goes_out c.args.world.now c.args.state.now c.raise.new.state c.tell.new.state c.args.event c.args.x c.in_ok-step.step c.tell.result c.in_ok-step.ensures.moves c.in_ok-step.ensures.kept c.tell.ensures.tells

pub returns-clause-formed : goal.returns-clause-formed
returns-clause-formed c = c.tell.ensures.formed c.args.world.now c.raise.ensures.formed
