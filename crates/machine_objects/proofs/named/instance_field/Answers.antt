use Rattle.std.proofs.Common.{◌≡◌, sym, ◌∙◌, ap}
use Rattle.std.specs.Prelude.{slice_get}
use Rattle.std.proofs.lemmas.Option.{same_Some}
use Rattle.class_file.specs.Lookup.{reference_seen}
use Rattle.class_heads.specs.declared.types.FieldHead.{FieldHead}
use Rattle.class_heads.specs.declared.types.ClassHead.{ClassHead}
use Rattle.class_machine.specs.Declarations.{is_static_field}
use Rattle.machine_objects.proofs.Found.{stands_in, is_static, is_instance}
use Rattle.machine_objects.proofs.named.instance_field.Goals as goal

pub returns-then-is_static-clause-none : goal.returns-then-is_static-clause-none
returns-then-is_static-clause-none c none =
    let k = c.args.world.now in
    let r = reference_seen c.args.field in
    let place = c.field_at-position.result.0.0 in
    let position = c.field_at-position.result.1 in
    let s = stands_in k r c.in-Some.class.0 c.in-Some-find_field_named.number.0 place position (sym c.in-Some.ensures.place) c.in-Some-find_field_named.ensures.number c.field_at-position.ensures.member in
    let h : c.head.result.now ≡ s.head = same_Some c.head.result.now s.head (sym c.head.ensures ∙ s.at) in
    let f : c.in-Some-get.found.now ≡ s.field = same_Some c.in-Some-get.found.now s.field (c.in-Some-get.ensures.value ∙ ap (λ (x : ClassHead). slice_get x.fields position) h ∙ s.stands) in
    is_static k r place position s (ap (λ (x : FieldHead). is_static_field x) (sym f) ∙ sym c.is_static.ensures ∙ c.if-is_static.true)

pub returns-else-is_static-clause-found : goal.returns-else-is_static-clause-found
returns-else-is_static-clause-found c =
    let k = c.args.world.now in
    let r = reference_seen c.args.field in
    let place = c.field_at-position.result.0.0 in
    let position = c.field_at-position.result.1 in
    let s = stands_in k r c.in-Some.class.0 c.in-Some-find_field_named.number.0 place position (sym c.in-Some.ensures.place) c.in-Some-find_field_named.ensures.number c.field_at-position.ensures.member in
    let h : c.head.result.now ≡ s.head = same_Some c.head.result.now s.head (sym c.head.ensures ∙ s.at) in
    let f : c.in-Some-get.found.now ≡ s.field = same_Some c.in-Some-get.found.now s.field (c.in-Some-get.ensures.value ∙ ap (λ (x : ClassHead). slice_get x.fields position) h ∙ s.stands) in
    is_instance k r place position s (ap (λ (x : FieldHead). is_static_field x) (sym f) ∙ sym c.is_static.ensures ∙ c.if-is_static.false)
