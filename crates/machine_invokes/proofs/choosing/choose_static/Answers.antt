use Rattle.machine_invocations.proofs.Seen.{seen_method}
use Rattle.class_file.specs.Lookup.{reference_seen}
use Rattle.machine_invokes.proofs.Searched.{none_static, instance_static, called_static, called_method}
use Rattle.machine_invokes.proofs.choosing.choose_static.Goals as goal

pub returns-in_default-clause-chosen : goal.returns-in_default-clause-chosen
returns-in_default-clause-chosen c =
    let k = c.args.world.now in
    let r = reference_seen c.args.named in
    none_static k c.args.frame.now r c.args.given.now c.in_default.ensures

pub is_static-requires : goal.is_static-requires
is_static-requires c = seen_method c.args.world.now c.in-Some.method.0 c.in-Some.ensures.method c.in-Some.ensures.sees

pub returns-then-not-is_static-clause-chosen : goal.returns-then-not-is_static-clause-chosen
returns-then-not-is_static-clause-chosen c =
    instance_static c.args.world.now c.args.frame.now (reference_seen c.args.named) c.args.given.now c.in-Some.method.0 c.is_static.result c.in-Some.ensures c.is_static.ensures c.if-not-is_static.true

pub returns-clause-chosen : goal.returns-clause-chosen
returns-clause-chosen c =
    called_static c.args.world.now c.args.frame.now (reference_seen c.args.named) c.args.given.now c.in-Some.method.0 c.is_static.result c.choose_called.result c.in-Some.ensures c.is_static.ensures c.if-not-is_static.false c.choose_called.ensures

pub returns-clause-method : goal.returns-clause-method
returns-clause-method c =
    called_method c.args.world.now c.args.frame.now c.args.given.now c.in-Some.method.0 c.choose_called.result (seen_method c.args.world.now c.in-Some.method.0 c.in-Some.ensures.method c.in-Some.ensures.sees) c.choose_called.ensures
