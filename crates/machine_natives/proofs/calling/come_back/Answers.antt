use Rattle.machine_natives.proofs.Onward.{comes_back}
use Rattle.machine_natives.proofs.calling.come_back.Goals as goal

pub returns-clause-comes : goal.returns-clause-comes
returns-clause-comes c =
    comes_back c.args.world.now c.args.state.now c.take_back-step.new.state c.tell.new.state c.args.event c.args.super_call c.args.value c.take_back-step.result c.tell.result c.take_back-step.ensures.taken c.tell.ensures.tells

pub returns-clause-formed : goal.returns-clause-formed
returns-clause-formed c = c.tell.ensures.formed c.args.world.now c.take_back-step.ensures.formed
