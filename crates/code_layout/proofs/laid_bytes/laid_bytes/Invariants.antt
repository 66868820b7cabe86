use Rattle.std.proofs.Common.{◌≡◌, take}
use Rattle.code_layout.specs.Spelled.{bytes_from, place_in}
use Rattle.code_layout.proofs.laid_bytes.laid_bytes.Given as goal

abbrev pub invariant-loop-i : goal.invariant-loop-i
invariant-loop-i l = l.out.items ≡ bytes_from (place_in l.places) 0 (take l.i l.rows) l.wide
