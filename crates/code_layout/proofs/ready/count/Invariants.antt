use Rattle.std.proofs.Common.{◌≡◌, take, get_or, pos, ◌+ℤ◌}
use Rattle.class_file.specs.Code.{numbered}
use Rattle.code_layout.proofs.ready.count.Given as goal

abbrev pub invariant-loop-i : goal.invariant-loop-i
invariant-loop-i l = take l.i l.keys ≡ numbered l.i (λ j. get_or l.keys 0 (pos 0) +ℤ pos j)
