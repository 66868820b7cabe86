use Rattle.std.proofs.Common.{◌≡◌, take, map}
use Rattle.before_weave.specs.Marks.{is_match}
use Rattle.before_weave.proofs.marks.marks_of.Given as goal

abbrev pub invariant-loop-entry : goal.invariant-loop-entry
invariant-loop-entry l = l.marks.items ≡ map (is_match l.pool l.aspect) (take l.entry-index l.pool)
