use Rattle.std.proofs.Common.{◌≡◌, drop}
use Rattle.class_file.specs.FirstForm.{are_distinct, names_in}
use Rattle.class_file.proofs.first_form.are_distinct.Given as goal

abbrev pub invariant-loop-i : goal.invariant-loop-i
invariant-loop-i l = are_distinct (names_in l.pool (drop l.i l.methods)) ≡ are_distinct (names_in l.pool l.methods)
