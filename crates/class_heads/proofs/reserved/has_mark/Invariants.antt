use Rattle.std.proofs.Common.{◌≡◌, drop}
use Rattle.class_heads.specs.Reserved.{has_mark}
use Rattle.class_heads.proofs.reserved.has_mark.Given as goal

abbrev pub invariant-loop-i : goal.invariant-loop-i
invariant-loop-i l = has_mark l.text ≡ has_mark (drop l.i l.text)
