use Rattle.machine_natives.proofs.Onward.{script_ends}
use Rattle.machine_natives.proofs.calling.end_script.Goals as goal

pub returns-clause-ends : goal.returns-clause-ends
returns-clause-ends c = script_ends c.args.state.now c.tell.new.state c.args.event c.tell.result c.tell.ensures.tells
