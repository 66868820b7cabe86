use Rattle.std.proofs.Common.{◌≡◌, ℕ, get_or, drop, true, false}
use Rattle.class_world.specs.Places.{stands_in}
use Rattle.class_world.proofs.tables.clear.Given as goal

abbrev pub invariant-loop-place : goal.invariant-loop-place
invariant-loop-place l = (q : ℕ) → get_or l.seen q false ≡ true → stands_in (drop l.place-index l.table) q ≡ true
