use Rattle.class_world.specs.Places.{IsRound, IsClear}
use Rattle.class_world.proofs.tables.fill_ready.Given as goal

abbrev pub invariant-loop-place : goal.invariant-loop-place
invariant-loop-place l = record {
  round : IsRound l.steps l.tables l.left l.waiting.items l.place-index;
  clear : IsClear l.seen;
}
