use Rattle.std.proofs.Common.{◌≡◌, [], take, drop}
use Rattle.weave_plan.specs.Parsed.{has_aspect, first_refused}
use Rattle.weave_plan.proofs.built.first_not_built.Given as goal

abbrev pub invariant-loop-place : goal.invariant-loop-place
invariant-loop-place l = record {
  refused : first_refused l.files (take l.place l.files) l.place (drop l.place l.files) ≡ first_refused l.files [] 0 l.files;
  aspects : l.behind_aspect ≡ has_aspect (take l.place l.files);
  beside : l.beside_aspect ≡ has_aspect l.files;
}
