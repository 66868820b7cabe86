use Rattle.std.proofs.Common.{◌≡◌, ◌++◌, take, drop}
use Rattle.class_heads.specs.Hierarchy.{before_semicolon}
use Rattle.run_lines.proofs.printing.before_semicolon.Given as goal

abbrev pub invariant-loop-place : goal.invariant-loop-place
invariant-loop-place l = before_semicolon l.name ≡ take l.place l.name ++ before_semicolon (drop l.place l.name)
