-- The tests of numbers, as facts.
use Rattle.std.proofs.Common.{◌≡◌, ℕ, ◌-◌, ◌^◌, ◌≤◌, Bool, true, ap, arith, ℤ, pos, negsuc, ◌-ℤ◌, ◌+ℤ◌}
use Rattle.std.specs.Prelude.{FitsSigned, if◌then◌else◌, ◌≤ℤ◌}
use Rattle.std.specs.Int.{w8, w16, w32}
use Rattle.std.proofs.lemmas.Bool.{leb-true, le-leb, lt-ltb}
use Rattle.std.proofs.lemmas.Int.{ints}
use Rattle.class_file.specs.Range.{is_s4, is_s8}
use Rattle.class_lines.specs.Lines.{is_integer}
use Rattle.class_text.specs.Bytes.{fitting}

pub fits_1 : (z : ℤ) → is_integer 127 z ≡ true → FitsSigned w8 z
fits_1 (pos n) h = let le : n ≤ 127 = leb-true n 127 h in grind (arith, ints)
fits_1 (negsuc n) h = let le : n ≤ 127 = leb-true n 127 h in grind (arith, ints)

pub fits_2 : (z : ℤ) → is_integer 32767 z ≡ true → FitsSigned w16 z
fits_2 (pos n) h = let le : n ≤ 32767 = leb-true n 32767 h in grind (arith, ints)
fits_2 (negsuc n) h = let le : n ≤ 32767 = leb-true n 32767 h in grind (arith, ints)

pub fits_4 : (z : ℤ) → is_integer 2147483647 z ≡ true → FitsSigned w32 z
fits_4 (pos n) h = let le : n ≤ 2147483647 = leb-true n 2147483647 h in grind (arith, ints)
fits_4 (negsuc n) h = let le : n ≤ 2147483647 = leb-true n 2147483647 h in grind (arith, ints)

pub integer_from : (most : ℕ) (z : ℤ) → z ≤ℤ pos most → negsuc most ≤ℤ z → is_integer most z ≡ true
integer_from most (pos n) h k = le-leb n most (grind (arith, ints))
integer_from most (negsuc n) h k = le-leb n most (grind (arith, ints))

pub fitting_is : (most : ℕ) (z : ℤ) → is_integer most z ≡ true → fitting most z ≡ z
fitting_is most z h = ap (λ (b : Bool). if b then z else pos 0) h

-- the way between two places of code
pub way_is : (pc to : ℕ) → pc ≤ 65535 → to ≤ 65535 → is_integer 2147483647 (pos to -ℤ pos pc) ≡ true
way_is pc to p q = integer_from 2147483647 (pos to -ℤ pos pc) (grind (arith, ints)) (grind (arith, ints))

pub back : (a b : ℕ) → pos a +ℤ (pos b -ℤ pos a) ≡ pos b
back a b = grind (arith, ints)

-- 2 ^ 31 - 1 and 2 ^ 63 - 1
pub int_is : (z : ℤ) → is_integer (2 ^ 31 - 1) z ≡ true → is_s4 z ≡ true
int_is (pos n) h = let le : n ≤ 2147483647 = leb-true n 2147483647 h in lt-ltb n 2147483648 (omega arith)
int_is (negsuc n) h = let le : n ≤ 2147483647 = leb-true n 2147483647 h in lt-ltb n 2147483648 (omega arith)

pub long_is : (z : ℤ) → is_integer (2 ^ 63 - 1) z ≡ true → is_s8 z ≡ true
long_is (pos n) h = let le : n ≤ 9223372036854775807 = leb-true n 9223372036854775807 h in lt-ltb n 9223372036854775808 (omega arith)
long_is (negsuc n) h = let le : n ≤ 9223372036854775807 = leb-true n 9223372036854775807 h in lt-ltb n 9223372036854775808 (omega arith)
