use Rattle.std.proofs.Common.{◌≡◌, ◌++◌, replicate}
use Rattle.code_layout.proofs.laid_bytes.put_head.Given as goal

abbrev pub invariant-loop-i : goal.invariant-loop-i
invariant-loop-i l = l.out.items ≡ l.initial.out.items ++ replicate l._i 0
