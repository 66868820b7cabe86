use Rattle.std.proofs.Common.{◌≡◌, length, sym, ◌∙◌, ap}
use Rattle.std.specs.Prelude.{slice_get}
use Rattle.std.specs.List.{flat_map}
use Rattle.std.proofs.lemmas.Option.{same_Some}
use Rattle.class_heads.specs.declared.types.FieldHead.{FieldHead}
use Rattle.class_heads.specs.declared.types.ClassHead.{ClassHead}
use Rattle.class_heads.specs.Hierarchy.{superclasses}
use Rattle.class_machine.specs.ClassFiles.{field_constant}
use Rattle.class_machine.specs.Declarations.{declared_in}
use Rattle.machine_fields.specs.Positions.{in_place}
use Rattle.machine_fields.proofs.Walks.{at_class, by_parts}
use Rattle.machine_fields.proofs.positions.field_position.Goals as goal

pub returns : goal.returns
returns c distinct head field at stands =
    let heads = c.args.world.now.heads in
    let all = flat_map (in_place heads) (superclasses heads c.args.class.0) in
    let h : c.head-head.result.now ≡ head = same_Some c.head-head.result.now head (sym c.head-head.ensures ∙ at) in
    let f : c.in_ok-found.found.now ≡ field = same_Some c.in_ok-found.found.now field (c.in_ok-found.ensures.value ∙ ap (λ (x : ClassHead). slice_get x.fields c.args.position) h ∙ stands) in
    at_class heads (length c.args.world.now.files) (field_constant c.args.world.now.files) distinct c.args.class.0 (declared_in head.name field.name) c.place_upward.result c.requires.class
    (by_parts all c.as_slice.result.now c.as_slice-2.result.now c.as_slice-3.result.now head field c.place_upward.result
    (c.as_slice.ensures ∙ ap (λ (x : ClassHead). x.name) h) (c.as_slice-2.ensures ∙ ap (λ (x : FieldHead). x.name.name) f) (c.as_slice-3.ensures ∙ ap (λ (x : FieldHead). x.name.descriptor) f)
    c.place_upward.ensures)
