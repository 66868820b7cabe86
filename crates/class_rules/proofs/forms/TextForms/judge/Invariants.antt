use Rattle.std.proofs.Common.{◌≡◌, take}
use Rattle.std.specs.Prelude.{map}
use Rattle.class_rules.specs.Forms.{form_of}
use Rattle.class_rules.proofs.forms.TextForms.judge.Given as goal

abbrev pub invariant-loop-entry : goal.invariant-loop-entry
invariant-loop-entry l = l.forms.items ≡ map form_of (take l.entry-index l.pool)
