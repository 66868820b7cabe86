use Rattle.std.proofs.Common.{sym, ap, ◌∙◌}
use Rattle.std.specs.Option.{option_map}
use Rattle.aj_names.specs.declared.ids.ClassId.{ClassId}
use Rattle.aj_names.specs.declared.ids.FieldId.{FieldId}
use Rattle.class_file.specs.Lookup.{reference_seen}
use Rattle.machine_statics.proofs.Named.{is_static, not_static, stands_at}
use Rattle.machine_statics.proofs.fields.find_static.Goals as goal

pub returns-then-is_static : goal.returns-then-is_static
returns-then-is_static c =
    let k = c.args.world.now in
    let r = reference_seen c.args.reference in
    let from = c.in_ok-from.from.0 in
    let members = sym c.class_of_members.ensures.place ∙ ap (option_map (λ (x : ClassId). x.0)) c.in_ok-from.was in
    let class = c.field_at-position.result.0 in
    let position = c.field_at-position.result.1 in
    is_static k c.requires r from members c.in_ok-id.id class position c.head.result.now c.index-as_slice-position.result
    (sym (ap (option_map (λ (x : FieldId). x.0)) c.in_ok-id.was) ∙ c.find_field_named.ensures.number) c.field_at-position.ensures.member c.head.ensures
    (stands_at k c.requires r from members c.in_ok-id.id.0 class.0 position c.head.result.now c.index-as_slice-position.result c.as_slice.result.now c.field_at-position.ensures.member c.head.ensures c.as_slice.ensures c.index-as_slice-position.is)
    (sym c.is_static.ensures ∙ c.if-is_static.true) c.in_ok-id.ensures.within

pub returns-else-is_static : goal.returns-else-is_static
returns-else-is_static c =
    let k = c.args.world.now in
    let r = reference_seen c.args.reference in
    let from = c.in_ok-from.from.0 in
    let members = sym c.class_of_members.ensures.place ∙ ap (option_map (λ (x : ClassId). x.0)) c.in_ok-from.was in
    let class = c.field_at-position.result.0 in
    let position = c.field_at-position.result.1 in
    not_static k c.requires r from members c.in_ok-id.id class position c.head.result.now c.index-as_slice-position.result
    (sym (ap (option_map (λ (x : FieldId). x.0)) c.in_ok-id.was) ∙ c.find_field_named.ensures.number) c.field_at-position.ensures.member c.head.ensures
    (stands_at k c.requires r from members c.in_ok-id.id.0 class.0 position c.head.result.now c.index-as_slice-position.result c.as_slice.result.now c.field_at-position.ensures.member c.head.ensures c.as_slice.ensures c.index-as_slice-position.is)
    (sym c.is_static.ensures ∙ c.if-is_static.false)
