use Rattle.class_file.specs.Lookup.{reference_seen}
use Rattle.machine_invocations.proofs.Seen.{seen_method}
use Rattle.machine_invokes.proofs.Searched.{none_instance, static_instance, one_instance}
use Rattle.machine_invokes.proofs.choosing.find_instance.Goals as goal

pub returns-in_default-clause-found : goal.returns-in_default-clause-found
returns-in_default-clause-found c = none_instance c.args.world.now (reference_seen c.args.named) c.in_default.ensures

pub is_static-requires : goal.is_static-requires
is_static-requires c = seen_method c.args.world.now c.in-Some.method.0 c.in-Some.ensures.method c.in-Some.ensures.sees

pub returns-then-is_static-clause-found : goal.returns-then-is_static-clause-found
returns-then-is_static-clause-found c =
    static_instance c.args.world.now (reference_seen c.args.named) c.in-Some.method.0 c.is_static.result c.in-Some.ensures c.is_static.ensures c.if-is_static.true

pub returns-clause-found : goal.returns-clause-found
returns-clause-found c =
    one_instance c.args.world.now (reference_seen c.args.named) c.in-Some.method.0 c.is_static.result c.in-Some.ensures c.is_static.ensures c.if-is_static.false

pub returns-clause-method : goal.returns-clause-method
returns-clause-method c = seen_method c.args.world.now c.in-Some.method.0 c.in-Some.ensures.method c.in-Some.ensures.sees
