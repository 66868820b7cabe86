use Rattle.std.proofs.Common.{◌≡◌, ◌++◌, take, drop}
use Rattle.class_heads.specs.Hierarchy.{before_semicolon}
use Rattle.machine_natives.proofs.descriptors.before_semicolon.Given as goal

-- no semicolon so far
abbrev pub invariant-loop-i : goal.invariant-loop-i
invariant-loop-i l = take l.i l.text ++ before_semicolon (drop l.i l.text) ≡ before_semicolon l.text
