use Rattle.std.proofs.Common.{◌<◌, List, length, sym, subst}
use Rattle.class_heads.specs.declared.types.MethodHead.{MethodHead}
use Rattle.machine_invocations.proofs.Seen.{method_within, position_within, stands_in, seen_as}
use Rattle.machine_invocations.proofs.methods.declared.Goals as goal

pub method_at-position-requires : goal.method_at-position-requires
method_at-position-requires c = method_within c.args.world.now c.args.method.0 c.requires

pub bounds-as_slice-position : goal.bounds-as_slice-position
bounds-as_slice-position c =
    subst (λ (xs : List MethodHead). c.method_at-position.result.1 < length xs) (sym c.as_slice.ensures)
    (position_within c.args.world.now c.args.method.0 c.method_at-position.result.0.0 c.method_at-position.result.1 c.head-head.result.now c.method_at-position.ensures.member c.head-head.ensures)

pub returns-clause-stands : goal.returns-clause-stands
returns-clause-stands c =
    stands_in c.args.world.now c.args.method.0 c.method_at-position.result.0.0 c.method_at-position.result.1 c.head-head.result.now c.index-as_slice-position.result c.as_slice.result.now
    c.method_at-position.ensures.member c.head-head.ensures c.as_slice.ensures c.index-as_slice-position.is

pub returns-clause-seen : goal.returns-clause-seen
returns-clause-seen c m sees =
    seen_as c.args.world.now c.args.method.0 c.method_at-position.result.0.0 c.head-head.result.now c.index-as_slice-position.result m
    (stands_in c.args.world.now c.args.method.0 c.method_at-position.result.0.0 c.method_at-position.result.1 c.head-head.result.now c.index-as_slice-position.result c.as_slice.result.now
    c.method_at-position.ensures.member c.head-head.ensures c.as_slice.ensures c.index-as_slice-position.is) sees
