use Rattle.std.proofs.Common.{◌≡◌, ◌++◌, map, take}
use Rattle.code_layout.specs.Spelled.{words, way}
use Rattle.code_layout.proofs.laid_bytes.put_ways.Given as goal

abbrev pub invariant-loop-row : goal.invariant-loop-row
invariant-loop-row l = l.out.items ≡ l.initial.out.items ++ words (map (way l.places l.pc) (take l.row-index l.to))
