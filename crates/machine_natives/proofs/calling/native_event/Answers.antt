use Rattle.machine_natives.proofs.Shown.{event_shown}
use Rattle.machine_natives.proofs.calling.native_event.Goals as goal

pub returns : goal.returns
returns c = event_shown c.args.world.now c.args.heap.now c.args.method.0 c.args.receiver c.args.given.now c.in_ok-name.name c.in_ok-values.values c.in_ok-name.ensures c.in_ok-values.ensures
