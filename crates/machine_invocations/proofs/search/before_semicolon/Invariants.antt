use Rattle.std.proofs.Common.{◌≡◌, ◌++◌, take, drop}
use Rattle.class_heads.specs.Hierarchy.{before_semicolon}
use Rattle.machine_invocations.proofs.search.before_semicolon.Given as goal

-- what was passed is before the semicolon
abbrev pub invariant-loop-i : goal.invariant-loop-i
invariant-loop-i l = take l.i l.text ++ before_semicolon (drop l.i l.text) ≡ before_semicolon l.text
