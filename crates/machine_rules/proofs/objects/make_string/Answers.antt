use Rattle.std.proofs.Common.{ℕ, sym, subst}
use Rattle.std.proofs.lemmas.Result.{IfOk-weaker}
use Rattle.machine_values.specs.Things.{Things}
use Rattle.machine_rules.specs.Works.{Grows}
use Rattle.machine_rules.specs.Works.{AddsText}
use Rattle.machine_rules.proofs.Standing.{string_made, string_grows}
use Rattle.machine_rules.specs.Filling.{FillsStill}
use Rattle.machine_rules.proofs.Filling.{string_filled}
use Rattle.machine_rules.proofs.objects.make_string.Goals as goal

pub returns-clause-made : goal.returns-clause-made
returns-clause-made c =
    let k = c.args.world.now in
    let class = c.string_class.result in
    IfOk-weaker c.make_text.result _ _ (λ at made.
    subst (λ (p : ℕ × Things). AddsText k c.args.heap.now c.args.units.now p.1 (record { 0 = p.0 })) (sym made)
    (string_made k c.args.heap.now c.args.units.now class c.string_class.ensures.name c.string_class.ensures.within))
    c.make_text.ensures.ok

pub returns-clause-grown : goal.returns-clause-grown
returns-clause-grown c =
    IfOk-weaker c.make_text.result _ _ (λ at made. subst (λ (p : ℕ × Things). Grows c.args.heap.now p.1) (sym made) (string_grows c.args.heap.now c.args.units.now c.string_class.result)) c.make_text.ensures.ok

pub returns-clause-filled : goal.returns-clause-filled
returns-clause-filled c =
    IfOk-weaker c.make_text.result _ _ (λ at made.
    subst (λ (p : ℕ × Things). FillsStill c.args.world.now c.args.heap.now p.1) (sym made)
    (string_filled c.args.world.now c.args.heap.now c.args.units.now c.string_class.result c.string_class.ensures.name))
    c.make_text.ensures.ok
