-- What the comparison of two keys says.
use Rattle.std.proofs.Common.{◌≡◌, ◌<◌, true, false, arith}
use Rattle.std.specs.Prelude.{ℤ, int_lt}
use Rattle.std.specs.Int.{w32, cast_signed, cast_unsigned}
use Rattle.std.specs.Int.Signed.{le_z, mag}
use Rattle.std.proofs.lemmas.Int.{ints}

pub not_above : (a b : ℤ) → mag a < 2147483648 → mag b < 2147483648 → le_z (cast_signed w32 (cast_unsigned w32 a)) (cast_signed w32 (cast_unsigned w32 b)) ≡ true → int_lt b a ≡ false
not_above a b p q h = grind (arith, ints)

pub above : (a b : ℤ) → mag a < 2147483648 → mag b < 2147483648 → le_z (cast_signed w32 (cast_unsigned w32 a)) (cast_signed w32 (cast_unsigned w32 b)) ≡ false → int_lt b a ≡ true
above a b p q h = grind (arith, ints)
