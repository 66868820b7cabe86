use Rattle.std.proofs.Common.{◌≡◌, ◌<◌, length, true}
use Rattle.std.specs.Option.{ForSome}
use Rattle.class_world.specs.First.{IsFirst, IsBefore, has_wrong_super_at}
use Rattle.class_world.proofs.faults.first_wrong.Given as goal

abbrev pub invariant-loop-place : goal.invariant-loop-place
invariant-loop-place l = record {
  first : IsFirst l.heads (IsBefore l.place) (λ place. has_wrong_super_at l.heads place ≡ true) l.best;
  within : ForSome l.best (λ best. best < length l.heads);
}
