use Rattle.std.proofs.Common.{◌≡◌, List, true, false, not, Option, sym, ap, ◌∙◌, subst}
use Rattle.aj_names.specs.declared.ids.ClassId.{ClassId}
use Rattle.class_heads.specs.declared.types.ClassHead.{ClassHead}
use Rattle.class_heads.specs.Hierarchy.{name_at}
use Rattle.class_machine.specs.Classes.{dotted}
use Rattle.class_machine.specs.Operations.{New}
use Rattle.class_machine.specs.Turn.{Needs}
use Rattle.class_machine.specs.Values.{fresh}
use Rattle.machine_steps.specs.Giving.{naming_of}
use Rattle.machine_statics.specs.Announcing.{FindsClass, IsNext}
use Rattle.machine_statics.proofs.Linked.{new_needs, quiet_new}
use Rattle.machine_statics.proofs.Tops.{new_tells}
use Rattle.machine_statics.proofs.Triggered.{at_top, breaks, refuses, goes_up, goes_on}
use Rattle.machine_statics.proofs.announcing.new_object.Goals as goal

pub returns-then-not-has_room-clause-moves : goal.returns-then-not-has_room-clause-moves
returns-then-not-has_room-clause-moves c =
    let k = c.args.world.now in
    let old = c.args.state.now in
    breaks k old (New c.args.class.now) old (λ m left t f below is runs top. new_tells k old c.has_room.result c.args.class.now c.has_room.ensures m left t f below is runs top ∙ ap not c.if-not-has_room.true)

pub returns-in_default-clause-moves : goal.returns-in_default-clause-moves
returns-in_default-clause-moves c =
    let k = c.args.world.now in
    let old = c.args.state.now in
    refuses k old (New c.args.class.now) old c.in_ok-text.text (dotted c.args.class.now)
    (λ m left t f below is runs top. new_tells k old c.has_room.result c.args.class.now c.has_room.ensures m left t f below is runs top ∙ ap not c.if-not-has_room.false)
    (λ m f is. new_needs m f k is c.args.class.now false (subst (λ (o : Option ClassId). FindsClass k c.args.class.now o) c.in_default.is c.find_class.ensures))
    c.in_ok-text.ensures

pub returns-then-pending-clause-moves : goal.returns-then-pending-clause-moves
returns-then-pending-clause-moves c =
    let k = c.args.world.now in
    let old = c.args.state.now in
    let has = c.in-Some.ensures in
    goes_up k old (New c.args.class.now) old c.begin.new.state (name_at k.heads c.in-Some.found.0)
    (λ m left t f below is runs top. new_tells k old c.has_room.result c.args.class.now c.has_room.ensures m left t f below is runs top ∙ ap not c.if-not-has_room.false)
    (λ m f is sound. new_needs m f k is c.args.class.now true has.has sound ∙ ap Needs (sym has.named))
    (λ m left t is runs. runs) c.in_ok-pending.pending c.if-pending.true (λ m left t is runs. c.in_ok-pending.ensures.begun m left t is runs)

pub returns-clause-moves : goal.returns-clause-moves
returns-clause-moves c =
    let k = c.args.world.now in
    let old = c.args.state.now in
    let has = c.in-Some.ensures in
    goes_on k old (New c.args.class.now) old c.begin.new.state (name_at k.heads c.in-Some.found.0)
    (λ m left t f below is runs top. new_tells k old c.has_room.result c.args.class.now c.has_room.ensures m left t f below is runs top ∙ ap not c.if-not-has_room.false)
    (λ m f is sound. new_needs m f k is c.args.class.now true has.has sound ∙ ap Needs (sym has.named))
    (λ m left t is runs. runs) c.in_ok-pending.pending c.if-pending.false (λ m left t is runs. c.in_ok-pending.ensures.begun m left t is runs)
    c.announce.new.state c.announce.result (IsNext c.args.class.now c.in-Some.found.0 c.in-Some-number_of_next.number)
    (λ m left t f below is runs top. record {
      named = ap (λ (heads : List ClassHead). name_at heads c.in-Some.found.0) is.heads ∙ has.named;
      numbered =
          at_top k old (λ m left t f below. c.in-Some-number_of_next.number ≡ fresh f.content.operands f.content.locals) (λ rest g split m left t is runs. c.in-Some-number_of_next.ensures rest g split (naming_of m old)) m left t f below is runs top;
    })
    (λ m w f. quiet_new m f w c.args.class.now) (c.announce.ensures.moves c.args.class.now)
