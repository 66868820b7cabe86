use Rattle.std.proofs.Common.{not, Option, ap, ◌∙◌, subst}
use Rattle.class_file.specs.Lookup.{reference_seen}
use Rattle.class_heads.specs.Hierarchy.{name_at}
use Rattle.class_machine.specs.declared.kinds.Access.TheVariants as access
use Rattle.class_machine.specs.Classes.{member_text}
use Rattle.class_machine.specs.Operations.{FieldAccess}
use Rattle.class_machine.specs.Turn.{Needs, missing_member}
use Rattle.machine_statics.specs.declared.fields.StaticField.{StaticField}
use Rattle.machine_statics.specs.StaticFields.{FindsStatic, Stores}
use Rattle.machine_statics.proofs.Classes.{stores_hold}
use Rattle.machine_statics.proofs.Linked.{put_needs, quiet_put}
use Rattle.machine_statics.proofs.Tops.{put_tells}
use Rattle.machine_statics.proofs.Triggered.{breaks, refuses, goes_up, goes_on}
use Rattle.machine_statics.proofs.putting.put_static.Goals as goal

pub returns-then-not-has_value-clause-moves : goal.returns-then-not-has_value-clause-moves
returns-then-not-has_value-clause-moves c =
    let k = c.args.world.now in
    let old = c.args.state.now in
    let r = reference_seen c.args.field in
    breaks k old (FieldAccess access.PutStatic r) old (λ m left t f below is runs top.
    put_tells k old c.has_value.result r c.kind_in-kind.result c.kind_in-kind.ensures c.has_value.ensures m left t f below is runs top ∙ ap not c.if-not-has_value.true)

pub returns-in_default-clause-moves : goal.returns-in_default-clause-moves
returns-in_default-clause-moves c =
    let k = c.args.world.now in
    let old = c.args.state.now in
    let r = reference_seen c.args.field in
    refuses k old (FieldAccess access.PutStatic r) old c.in_ok-name.name (member_text r)
    (λ m left t f below is runs top. put_tells k old c.has_value.result r c.kind_in-kind.result c.kind_in-kind.ensures c.has_value.ensures m left t f below is runs top ∙ ap not c.if-not-has_value.false)
    (λ m f is. put_needs m f k is r (missing_member r) (subst (λ (o : Option StaticField). FindsStatic k r o) c.in_default.is c.find_static.ensures))
    (c.in_ok-name.ensures r.member.descriptor)

pub returns-then-pending-clause-moves : goal.returns-then-pending-clause-moves
returns-then-pending-clause-moves c =
    let k = c.args.world.now in
    let old = c.args.state.now in
    let r = reference_seen c.args.field in
    let found = c.in-Some.ensures in
    goes_up k old (FieldAccess access.PutStatic r) old c.begin.new.state (name_at k.heads c.in-Some.found.class.0)
    (λ m left t f below is runs top. put_tells k old c.has_value.result r c.kind_in-kind.result c.kind_in-kind.ensures c.has_value.ensures m left t f below is runs top ∙ ap not c.if-not-has_value.false)
    (λ m f is. put_needs m f k is r (Needs (name_at k.heads c.in-Some.found.class.0)) found.needs)
    (λ m left t is runs. runs) c.in_ok-pending.pending c.if-pending.true (λ m left t is runs. c.in_ok-pending.ensures.begun m left t is runs)

pub returns-clause-moves : goal.returns-clause-moves
returns-clause-moves c =
    let k = c.args.world.now in
    let old = c.args.state.now in
    let r = reference_seen c.args.field in
    let found = c.in-Some.ensures in
    let begun = c.begin.new.state in
    let s = c.in-Some.found in
    goes_on k old (FieldAccess access.PutStatic r) old begun (name_at k.heads s.class.0)
    (λ m left t f below is runs top. put_tells k old c.has_value.result r c.kind_in-kind.result c.kind_in-kind.ensures c.has_value.ensures m left t f below is runs top ∙ ap not c.if-not-has_value.false)
    (λ m f is. put_needs m f k is r (Needs (name_at k.heads s.class.0)) found.needs)
    (λ m left t is runs. runs) c.in_ok-pending.pending c.if-pending.false (λ m left t is runs. c.in_ok-pending.ensures.begun m left t is runs)
    c.store.new.state c.store.result (Stores r s.id.0 c.element_of-element.result c.kind_in-kind.result _)
    (λ m left t f below is runs top. stores_hold k r s found m is c.element_of-element.result c.element_of-element.ensures c.kind_in-kind.result _ f c.kind_in-kind.ensures c.begin.ensures.formed.statics)
    (λ m w f. quiet_put m f w r) (c.store.ensures.moves r)
