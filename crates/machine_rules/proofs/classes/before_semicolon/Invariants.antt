use Rattle.std.proofs.Common.{◌≡◌, ◌++◌, take, drop}
use Rattle.class_heads.specs.Hierarchy.{before_semicolon}
use Rattle.machine_rules.proofs.classes.before_semicolon.Given as goal

abbrev pub invariant-loop-i : goal.invariant-loop-i
invariant-loop-i l = before_semicolon l.text ≡ take l.i l.text ++ before_semicolon (drop l.i l.text)
