use Rattle.std.proofs.Common.{sym, subst, rules}
use Rattle.std.specs.Prelude.{ℤ}
use Rattle.std.specs.Int.{w32}
use mir.Val.{SFits}
use Rattle.std.proofs.lemmas.Int.{to_z-of_z}
use Rattle.boot_library.specs.declared.rule.LibraryRule.TheVariants as rule
use Rattle.class_machine.specs.LibraryCalls as calls
use Rattle.machine_values.specs.declared.values.Value.{Value}
use Rattle.machine_values.specs.Standing.{name_of, held}
use Rattle.machine_rules.specs.Works.{Does}
use Rattle.machine_rules.proofs.ruling.char_of.Goals as goal

pub returns-in-Int : goal.returns-in-Int
returns-in-Int c k =
    let things = c.args.heap.now in
    let fits : SFits w32 c.in-Int.place = search rules in
    subst (λ (v : Value). Does k things (λ s ns w. calls.with_argument s.classes w rule.CharAt (name_of s.heads ns c.args.at) (held s.heads ns v)) things c.char_at.result) (sym c.in-Int.is)
    (subst (λ (i : ℤ). Does k things (λ s ns w. calls.char_in w (calls.units_in w (name_of s.heads ns c.args.at)) i) things c.char_at.result) (to_z-of_z w32 c.in-Int.place fits) (c.char_at.ensures k))
