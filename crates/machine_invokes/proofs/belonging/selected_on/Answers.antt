use Rattle.std.specs.Prelude.{◌≡◌, true, false}
use Rattle.std.proofs.Common.{sym, ◌∙◌, subst}
use Rattle.std.specs.Prelude.{Bool}
use Rattle.machine_invokes.specs.Selecting.{Selects}
use Rattle.machine_invokes.proofs.belonging.selected_on.Goals as goal

pub returns-then-not-is_known-clause-selected : goal.returns-then-not-is_known-clause-selected
returns-then-not-is_known-clause-selected c fields methods f m is fit same sees known = absurd (let e : true ≡ false = sym known ∙ sym c.is_known.ensures ∙ c.if-not-is_known.true in cc)

pub returns-clause-selected : goal.returns-clause-selected
returns-clause-selected c fields methods f m is fit same sees known =
    subst (λ (special : Bool). Selects c.args.world.now c.args.heap.now c.args.frame.now.method.0 special c.args.at c.args.found.0 c.selected.result) c.is_special.ensures c.selected.ensures.selected fields methods f m is fit same sees
