use Rattle.std.proofs.Common.{◌≡◌, List, length, map, reverse, sym, ◌∙◌, ap}
use Rattle.std.specs.List.{refill}
use Rattle.machine_values.specs.declared.values.Value.{Value}
use Rattle.machine_values.specs.Stacks.{Stack, weight, filled_in}
use Rattle.machine_values.proofs.Slots.{refilled_with, filled_reversed, filled_weight}
use Rattle.machine_values.proofs.operands.Operands.fill_in.Goals as goal

pub invariant_of-self : goal.invariant_of-self
invariant_of-self c =
    let values = c.self.inside.items.items in
    let whole : refill (length values) values c.fill_in.new.values ≡ map (filled_in c.args.number c.args.object) values =
    refilled_with c.args.number c.args.object values c.fill_in.new.values (c.fill_in.ensures ∙ ap (map (filled_in c.args.number c.args.object)) c.as_mut_slice.ensures.value) in
    (c.self.invariant.0 ∙ sym (ap (λ (vs : List Value). weight (reverse vs)) whole ∙ filled_weight c.args.number c.args.object values), c.self.invariant.1, c.self.invariant.2)

pub returns-clause-filled : goal.returns-clause-filled
returns-clause-filled c =
    let values = c.self.inside.items.items in
    let whole : refill (length values) values c.fill_in.new.values ≡ map (filled_in c.args.number c.args.object) values =
    refilled_with c.args.number c.args.object values c.fill_in.new.values (c.fill_in.ensures ∙ ap (map (filled_in c.args.number c.args.object)) c.as_mut_slice.ensures.value) in
    ap (λ (vs : List Value). reverse vs) whole ∙ filled_reversed c.args.number c.args.object values
    ∙ ap (λ (s : Stack). map (filled_in c.args.number c.args.object) s.values) c.self.view_is
