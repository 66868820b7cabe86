use Rattle.std.proofs.Common.{◌&&◌, Bool, sym, ◌∙◌, ap, subst, length}
use Rattle.std.proofs.lemmas.Bool.{ltb-true}
use Rattle.machine_values.specs.declared.values.Value.{Value}
use Rattle.machine_values.specs.Standing.{is_settled}
use Rattle.machine_rules.specs.Boxes.{same_values, TellsSameBox}
use Rattle.machine_rules.proofs.BoxWork.{same_box_told, other_box_told}
use Rattle.machine_rules.proofs.boxes.holds_same.Goals as goal

pub returns-then-is_box : goal.returns-then-is_box
returns-then-is_box c =
    let k = c.args.world.now in
    let things = c.args.heap.now in
    let b = c.in-Reference.box_of_other in
    let known = ltb-true b.0 (length things.names) (sym (ap (is_settled (length things.names)) c.in-Reference.is) ∙ c.requires.other) in
    let v = c.read_hidden.result in
    let u = c.read_hidden-then-is_box.result in
    subst (λ (o : Value). TellsSameBox k things c.args.boxed c.args.at o c.same_values.result) (sym c.in-Reference.is)
    (same_box_told k things c.args.boxed c.args.at b v u c.same_values.result known c.read_hidden.ensures c.read_hidden-then-is_box.ensures
    (c.same_values.ensures ∙ ap (λ (x : Bool). x && same_values v u) (sym c.if-is_box.true ∙ c.is_box.ensures)))

pub returns-else-is_box : goal.returns-else-is_box
returns-else-is_box c =
    let k = c.args.world.now in
    let things = c.args.heap.now in
    let b = c.in-Reference.box_of_other in
    let known = ltb-true b.0 (length things.names) (sym (ap (is_settled (length things.names)) c.in-Reference.is) ∙ c.requires.other) in
    subst (λ (o : Value). TellsSameBox k things c.args.boxed c.args.at o c.is_box.result) (sym c.in-Reference.is)
    (other_box_told k things c.args.boxed c.args.at b c.is_box.result known (sym c.is_box.ensures ∙ c.if-is_box.false) c.if-is_box.false)
