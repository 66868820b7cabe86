use Rattle.std.proofs.Common.{◌≡◌}
use Rattle.weaver.proofs.answer.Given as goal

-- granting a word counts no failure
abbrev pub invariant-loop-word : goal.invariant-loop-word
invariant-loop-word l = (l.shelf.faults ≡ 0) × (l.shelf.missing ≡ 0) × (l.shelf.write_faults ≡ 0)
