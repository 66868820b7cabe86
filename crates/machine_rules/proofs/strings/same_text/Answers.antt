use Rattle.std.proofs.Common.{ℕ, List, ap, sym, ◌∙◌, subst}
use Rattle.boot_library.specs.declared.rule.LibraryRule.TheVariants as rule
use Rattle.class_machine.specs.LibraryCalls as calls
use Rattle.machine_values.specs.declared.values.Value.{Value}
use Rattle.machine_values.specs.Standing.{name_of, held}
use Rattle.machine_rules.specs.declared.work.Work.TheVariants.{Results}
use Rattle.std.specs.Prelude.{Some, None}
use Rattle.machine_rules.specs.Texts.{same_units_as}
use Rattle.machine_rules.specs.Works.{Does}
use Rattle.machine_rules.proofs.StringWork.{same_given}
use Rattle.machine_rules.proofs.strings.same_text.Goals as goal

pub returns : goal.returns
returns c =
    let k = c.args.world.now in
    let things = c.args.heap.now in
    subst (λ (v : Value). Does k things (λ s ns w. calls.with_argument s.classes w rule.SameText (name_of s.heads ns c.args.at) (held s.heads ns c.args.other)) things (Results None (Some v))) (sym c.truth.ensures)
    (same_given k things c.args.at c.args.other c.is_same_text.result c.requires.at c.requires.other
    (c.is_same_text.ensures ∙ ap (λ (l : List ℕ). same_units_as k.heads things l c.args.other) c.units_at.ensures))
