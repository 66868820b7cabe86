use Rattle.std.proofs.Common.{ℕ, ◌+◌, List, length, sym, ◌∙◌, ap, Some}
use Rattle.std.specs.Prelude.{Option, not}
use Rattle.std.specs.List.{filter, position_from}
use Rattle.std.specs.Option.{option_map}
use Rattle.class_heads.specs.declared.types.FieldHead.{FieldHead}
use Rattle.class_heads.specs.Searches.{same_name}
use Rattle.class_machine.specs.Declarations.{is_static_field}
use Rattle.class_world.specs.Found.{member_named}
use Rattle.machine_fields.proofs.Places.{not_in, in_own, in_hidden}
use Rattle.machine_fields.proofs.positions.place_in.Goals as goal

pub returns-then-ne : goal.returns-then-ne
returns-then-ne c = not_in c.args.head.now c.args.declaring.now c.args.name.now c.args.descriptor.now c.as_slice.result.now c.as_slice.ensures (sym c.ne.ensures ∙ c.if-ne.true)

pub returns-in_err-place-in-None : goal.returns-in_err-place-in-None
returns-in_err-place-in-None c =
    c.from_residual.ensures
    ∙ sym (in_hidden c.args.head.now c.args.declaring.now c.args.name.now c.args.descriptor.now c.as_slice.result.now c.as_slice-2.result.now c.as_slice.ensures (sym c.ne.ensures ∙ c.if-ne.false) c.as_slice-2.ensures (sym c.own_place.ensures ∙ c.in-None.is)
    ∙ ap (λ (o : Option ℕ). option_map (λ i. length (filter (λ field. not (is_static_field field)) c.as_slice-2.result.now) + i) o) (sym c.hidden_place.ensures.hidden ∙ c.in_err-place-in-None.was))

pub returns-in-Some : goal.returns-in-Some
returns-in-Some c =
    sym (in_own c.args.head.now c.args.declaring.now c.args.name.now c.args.descriptor.now c.as_slice.result.now c.as_slice-2.result.now c.as_slice.ensures (sym c.ne.ensures ∙ c.if-ne.false) c.as_slice-2.ensures c.in-Some.place (sym c.own_place.ensures ∙ c.in-Some.is))

pub returns-in_ok-place-in-None : goal.returns-in_ok-place-in-None
returns-in_ok-place-in-None c =
    ap (λ (k : ℕ). Some (k + c.in_ok-place-in-None.place)) c.own_count.ensures.own
    ∙ sym (in_hidden c.args.head.now c.args.declaring.now c.args.name.now c.args.descriptor.now c.as_slice.result.now c.as_slice-in-None.result.now c.as_slice.ensures (sym c.ne.ensures ∙ c.if-ne.false) c.as_slice-in-None.ensures
    (ap (λ (fs : List FieldHead). position_from (λ field. same_name field.name (member_named c.args.name.now c.args.descriptor.now)) 0 (filter (λ field. not (is_static_field field)) fs)) (c.as_slice-in-None.ensures ∙ sym c.as_slice-2.ensures) ∙ sym c.own_place.ensures ∙ c.in-None.is)
    ∙ ap (λ (o : Option ℕ). option_map (λ i. length (filter (λ field. not (is_static_field field)) c.as_slice-in-None.result.now) + i) o) (sym c.hidden_place.ensures.hidden ∙ c.in_ok-place-in-None.was))
