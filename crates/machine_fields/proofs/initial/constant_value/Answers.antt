use Rattle.std.proofs.Common.{ℕ, List, sym, ◌∙◌, ap}
use Rattle.class_machine.specs.Values as machine
use Rattle.machine_values.specs.declared.values.Value.TheVariants.{Reference as Pointer}
use Rattle.machine_fields.specs.Constants.{constant_seen}
use Rattle.machine_fields.proofs.FirstHeld.{there_held, another}
use Rattle.machine_fields.proofs.initial.constant_value.Goals as goal

pub returns-in_ok-at-in-Text-clause-ok : goal.returns-in_ok-at-in-Text-clause-ok
returns-in_ok-at-in-Text-clause-ok c s others w distinct shares =
    another s (machine.Reference (machine.Literal c.as_slice.result.now)) (constant_seen c.args.constant) c.literal.new.heap others w (Pointer c.in_ok-at-in-Text.at)
    (ap (λ (u : List ℕ). machine.Reference (machine.Literal u)) (c.as_slice.ensures.value ∙ c.in_ok-units-in-Text.ensures) ∙ sym (ap constant_seen c.in-Text.is))
    (there_held s (machine.Literal c.as_slice.result.now) c.literal.new.heap others w c.in_ok-at-in-Text.at (c.in_ok-at-in-Text.ensures.ok s others w distinct shares))
