use Rattle.std.proofs.Common.{◌≡◌, ◌<◌, length, ℕ, true, false, None, take}
use Rattle.std.specs.Option.{ForSome}
use Rattle.class_heads.specs.Graph.{LiesOnCircle}
use Rattle.class_world.specs.First.{IsFirst}
use Rattle.class_world.specs.Places.{stands_in, table_at}
use Rattle.class_world.specs.Above.{IsJudged}
use Rattle.class_world.proofs.faults.first_on_circle.Given as goal

abbrev pub invariant-loop-place : goal.invariant-loop-place
invariant-loop-place l = record {
  first : IsFirst l.heads (λ place. stands_in (take l.place-index l.stuck) place ≡ true) (LiesOnCircle (table_at l.steps)) l.best;
  off : l.best ≡ None → (place : ℕ) → stands_in (take l.place-index l.stuck) place ≡ true → IsJudged l.steps place false;
  within : ForSome l.best (λ best. best < length l.heads);
}
