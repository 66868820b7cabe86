use Rattle.std.proofs.Common.{ℕ, List, ap, sym, ◌∙◌}
use Rattle.std.specs.Prelude.{ℤ}
use Rattle.std.specs.Int.{w32}
use mir.Val.{to_z, of_z}
use Rattle.std.proofs.lemmas.Int.{to_z-of_z}
use Rattle.machine_values.specs.declared.values.Value.TheVariants.{Int}
use Rattle.machine_rules.specs.Texts.{unit_in}
use Rattle.machine_rules.proofs.StringWork.{char_given, char_missing}
use Rattle.machine_rules.proofs.strings.char_at.Goals as goal

pub returns-in-Some : goal.returns-in-Some
returns-in-Some c k =
    char_given k c.args.heap.now c.args.at c.args.index c.in-Some.unit (Int (to_z w32 (of_z w32 c.from.result))) c.requires
    (ap (λ (l : List ℕ). unit_in l c.args.index) (sym c.units_at.ensures) ∙ ap (λ (i : ℤ). unit_in c.units_at.result.now i) (sym (to_z-of_z w32 c.args.index c.ranges.index)) ∙ sym c.unit_in.ensures ∙ c.in-Some.is)
    (ap Int (to_z-of_z w32 c.from.result (record { sfits = c.from.type_inv }) ∙ c.from.ensures))

pub returns-in-None : goal.returns-in-None
returns-in-None c k =
    char_missing k c.args.heap.now c.args.at c.args.index c.requires
    (ap (λ (l : List ℕ). unit_in l c.args.index) (sym c.units_at.ensures) ∙ ap (λ (i : ℤ). unit_in c.units_at.result.now i) (sym (to_z-of_z w32 c.args.index c.ranges.index)) ∙ sym c.unit_in.ensures ∙ c.in-None.is)
