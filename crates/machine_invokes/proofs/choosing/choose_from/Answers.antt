use Rattle.std.proofs.Common.{sym, ◌∙◌}
use Rattle.std.proofs.lemmas.Bool.{ltb-true}
use Rattle.std.specs.Prelude.{length}
use Rattle.machine_invokes.proofs.Searched.{unknown_breaks, unserving_breaks, unselected_missing, selected_breaks, selected_runs}
use Rattle.machine_invokes.proofs.choosing.choose_from.Goals as goal

pub returns-then-not-is_known-clause-chosen : goal.returns-then-not-is_known-clause-chosen
returns-then-not-is_known-clause-chosen c =
    unknown_breaks c.args.world.now c.args.frame.now c.args.heap.now c.args.special c.args.at c.args.found.0 (sym c.is_known.ensures ∙ c.if-not-is_known.true)

pub serves_as-requires-clause-known : goal.serves_as-requires-clause-known
serves_as-requires-clause-known c = ltb-true c.args.at.0 (length c.args.heap.now.names) (sym c.is_known.ensures ∙ c.if-not-is_known.false)

pub selected-requires-clause-known : goal.selected-requires-clause-known
selected-requires-clause-known c = ltb-true c.args.at.0 (length c.args.heap.now.names) (sym c.is_known.ensures ∙ c.if-not-is_known.false)

pub returns-then-not-serves_as-clause-chosen : goal.returns-then-not-serves_as-clause-chosen
returns-then-not-serves_as-clause-chosen c =
    unserving_breaks c.args.world.now c.args.frame.now c.args.heap.now c.args.special c.args.at c.args.found.0 c.serves_as.result c.serves_as.ensures c.if-not-serves_as.true

pub returns-in_default-clause-chosen : goal.returns-in_default-clause-chosen
returns-in_default-clause-chosen c =
    unselected_missing c.args.world.now c.args.frame.now c.args.heap.now c.args.special c.args.at c.args.found.0 c.serves_as.result c.serves_as.ensures c.if-not-serves_as.false c.selected.result c.in_default.is c.selected.ensures.selected

pub returns-then-lacks_room-clause-chosen : goal.returns-then-lacks_room-clause-chosen
returns-then-lacks_room-clause-chosen c =
    selected_breaks c.args.world.now c.args.frame.now c.args.heap.now c.args.special c.args.at c.args.found.0 c.serves_as.result c.serves_as.ensures c.if-not-serves_as.false c.in-Some.method c.in-Some.ensures.selected
    c.lacks_room.result c.lacks_room.ensures c.if-lacks_room.true

pub returns-clause-chosen : goal.returns-clause-chosen
returns-clause-chosen c =
    selected_runs c.args.world.now c.args.frame.now c.args.heap.now c.args.special c.args.at c.args.found.0 c.serves_as.result c.serves_as.ensures c.if-not-serves_as.false c.in-Some.method c.in-Some.ensures.selected
    c.lacks_room.result c.lacks_room.ensures c.if-lacks_room.false
