use Rattle.std.proofs.Common.{◌≡◌, ◌++◌, map, take}
use Rattle.code_layout.specs.Spelled.{pairs_bytes, way}
use Rattle.code_layout.proofs.laid_bytes.put_pairs.Given as goal

abbrev pub invariant-loop-i : goal.invariant-loop-i
invariant-loop-i l = l.out.items ≡ l.initial.out.items ++ pairs_bytes l.keys (map (way l.places l.pc) (take l.i l.to))
