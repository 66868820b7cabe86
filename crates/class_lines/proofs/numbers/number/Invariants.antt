use Rattle.std.proofs.Common.{◌≡◌, ◌≤◌, drop}
use Rattle.class_lines.proofs.Digits.{with_digits}
use Rattle.class_lines.proofs.numbers.number.Given as goal

-- the number so far, and the digits that are left
abbrev pub invariant-loop-digit : goal.invariant-loop-digit
invariant-loop-digit l = (with_digits l.radix l.most 0 l.digits ≡ with_digits l.radix l.most l.value (drop l.digit-index l.digits)) × (l.value ≤ l.most)
