use Rattle.std.specs.Prelude.{ℕ, List, Some}
use Rattle.std.proofs.Common.{sym, ◌∙◌, subst}
use Rattle.machine_fields.specs.Settings.{world_setting}
use Rattle.machine_requests.specs.Objects.{IsBelow}
use Rattle.machine_invocations.proofs.Seen.{class_named}
use Rattle.machine_invokes.proofs.Served.{interface_serves, class_serves}
use Rattle.machine_invokes.proofs.selecting.serves_as.Goals as goal

pub returns-then-is_interface : goal.returns-then-is_interface
returns-then-is_interface c fields methods m is fit sees =
    let k = c.args.world.now in
    let place = c.declared-place.result in
    let e = c.declared-place.ensures in
    interface_serves k place.class.0 place.head.now m is.distinct e.within e.stands.at (class_named k c.args.method.0 place.class.0 place.head.now place.method.now m e.stands (e.seen m sees)) c.args.heap.now c.args.at
    (sym c.is_interface.ensures ∙ c.if-is_interface.true)

pub returns : goal.returns
returns c fields methods m is fit sees =
    let k = c.args.world.now in
    let place = c.declared-place.result in
    let e = c.declared-place.ensures in
    class_serves k place.class.0 place.head.now m is.distinct e.within e.stands.at (class_named k c.args.method.0 place.class.0 place.head.now place.method.now m e.stands (e.seen m sees)) c.args.heap.now c.args.at
    c.is_object_below.result (sym c.is_interface.ensures ∙ c.if-is_interface.false) (subst (λ (class : List ℕ). IsBelow c.args.heap.now (Some c.args.at) class c.is_object_below.result (world_setting k)) c.as_slice.ensures (c.is_object_below.ensures is.distinct fit))
