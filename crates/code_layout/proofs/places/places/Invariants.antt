use Rattle.code_layout.proofs.Placing.{PlacesTo}
use Rattle.code_layout.proofs.places.places.Given as goal

-- the places so far
abbrev pub invariant-loop-i : goal.invariant-loop-i
invariant-loop-i l = PlacesTo l.rows l.wide l.places.items l.i l.pc
