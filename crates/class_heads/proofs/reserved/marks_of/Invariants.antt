use Rattle.std.proofs.Common.{◌≡◌, take}
use Rattle.std.specs.Prelude.{map}
use Rattle.class_heads.specs.Marked.{entry_mark}
use Rattle.class_heads.proofs.reserved.marks_of.Given as goal

abbrev pub invariant-loop-entry : goal.invariant-loop-entry
invariant-loop-entry l = l.marks ≡ map entry_mark (take l.entry-index l.pool)
