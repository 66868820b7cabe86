use Rattle.machine_natives.proofs.Shown.{method_named}
use Rattle.machine_natives.proofs.calling.method_name.Goals as goal

pub returns : goal.returns
returns c callee sees =
    let d = c.declared-declaration in
    method_named c.args.world.now d.result.class.0 d.result.head.now d.result.method.now callee c.in_ok-class.class c.in_ok-name.name c.in_ok-descriptor.descriptor (d.ensures.seen callee sees) c.in_ok-class.ensures c.in_ok-name.ensures c.in_ok-descriptor.ensures
