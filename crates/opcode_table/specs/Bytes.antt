-- The bytes of a number, and the number of those bytes.
use Rattle.std.proofs.Common.{◌≡◌, ℕ, zero, suc, ◌^◌, ◌<◌, List, [], ◌∷◌, get_or, arith, refl, ap, ◌∙◌}
use Rattle.std.specs.Prelude.{ℤ, pos, negsuc, FitsSigned}
use Rattle.std.specs.Int.{w8, w16, w32, from_be_bytes, to_be_bytes, cast_signed, cast_unsigned}
use Rattle.std.proofs.lemmas.Nat.{be_bytes_2, be_bytes_4, from_be_bytes-to_be_bytes_2, from_be_bytes-to_be_bytes_4}
use Rattle.std.proofs.lemmas.Int.{of_z-to_z, to_z-of_z}
use Rattle.std.proofs.Math.Facts.{sfits_to_z}
use Rattle.opcode_table.specs.Decoding.{u2, s1, s2, s4}
use Rattle.opcode_table.specs.Spelling.{u2_bytes, s1_bytes, s2_bytes, s4_bytes}

abbrev pub IsBytes : List ℕ → Type 0
IsBytes bytes = (i : ℕ) → get_or bytes i 0 < 256

pub IsBytes-rest : (a : ℕ) (rest : List ℕ) → IsBytes (a ∷ rest) → IsBytes rest
IsBytes-rest a rest fits i = fits (suc i)

pair_fits : (a b : ℕ) → a < 256 → b < 256 → IsBytes (a ∷ b ∷ [])
pair_fits a b p q zero = p
pair_fits a b p q (suc zero) = q
pair_fits a b p q (suc (suc i)) = omega arith

four_fit : (a b c d : ℕ) → a < 256 → b < 256 → c < 256 → d < 256 → IsBytes (a ∷ b ∷ c ∷ d ∷ [])
four_fit a b c d p q r s zero = p
four_fit a b c d p q r s (suc zero) = q
four_fit a b c d p q r s (suc (suc zero)) = r
four_fit a b c d p q r s (suc (suc (suc zero))) = s
four_fit a b c d p q r s (suc (suc (suc (suc i)))) = omega arith

pub u2_spelled : (a b : ℕ) → a < 256 → b < 256 → u2_bytes (u2 a b) ≡ a ∷ b ∷ []
u2_spelled a b p q = be_bytes_2 (a ∷ b ∷ []) (u2 a b) refl (pair_fits a b p q) refl

pub u2_below : (a b : ℕ) → a < 256 → b < 256 → u2 a b < 2 ^ 16
u2_below a b p q = omega arith

s4_below : (a b c d : ℕ) → a < 256 → b < 256 → c < 256 → d < 256 → from_be_bytes w32 (a ∷ b ∷ c ∷ d ∷ []) < 2 ^ 32
s4_below a b c d p q r s = omega arith

pub s1_spelled : (a : ℕ) → a < 256 → s1_bytes (s1 a) ≡ a ∷ []
s1_spelled a p = rw of_z-to_z refl

pub s1_fits : (a : ℕ) → a < 256 → FitsSigned w8 (s1 a)
s1_fits a p = sfits_to_z (record { fits = p })

pub s2_spelled : (a b : ℕ) → a < 256 → b < 256 → s2_bytes (s2 a b) ≡ a ∷ b ∷ []
s2_spelled a b p q = ap (to_be_bytes w16) (of_z-to_z w16 (u2 a b) (u2_below a b p q)) ∙ u2_spelled a b p q

pub s2_fits : (a b : ℕ) → a < 256 → b < 256 → FitsSigned w16 (s2 a b)
s2_fits a b p q = sfits_to_z (record { fits = u2_below a b p q })

pub s4_spelled : (a b c d : ℕ) → a < 256 → b < 256 → c < 256 → d < 256 → s4_bytes (s4 a b c d) ≡ a ∷ b ∷ c ∷ d ∷ []
s4_spelled a b c d p q r s =
    let n : ℕ = from_be_bytes w32 (a ∷ b ∷ c ∷ d ∷ []) in
    ap (to_be_bytes w32) (of_z-to_z w32 n (s4_below a b c d p q r s)) ∙ be_bytes_4 (a ∷ b ∷ c ∷ d ∷ []) n refl (four_fit a b c d p q r s) refl

pub s4_fits : (a b c d : ℕ) → a < 256 → b < 256 → c < 256 → d < 256 → FitsSigned w32 (s4 a b c d)
s4_fits a b c d p q r s = sfits_to_z (record { fits = s4_below a b c d p q r s })

-- ---- back again

pub cast_below_8 : (z : ℤ) → FitsSigned w8 z → cast_unsigned w8 z < 2 ^ 8
cast_below_8 (pos n) fits = omega arith
cast_below_8 (negsuc n) fits = omega arith

cast_below_16 : (z : ℤ) → FitsSigned w16 z → cast_unsigned w16 z < 2 ^ 16
cast_below_16 (pos n) fits = omega arith
cast_below_16 (negsuc n) fits = omega arith

cast_below_32 : (z : ℤ) → FitsSigned w32 z → cast_unsigned w32 z < 2 ^ 32
cast_below_32 (pos n) fits = omega arith
cast_below_32 (negsuc n) fits = omega arith

pub u2_again : (n : ℕ) → n < 2 ^ 16 → from_be_bytes w16 (u2_bytes n) ≡ n
u2_again n lt = from_be_bytes-to_be_bytes_2 n lt

pub s1_again : (z : ℤ) → FitsSigned w8 z → s1 (cast_unsigned w8 z) ≡ z
s1_again z fits = to_z-of_z w8 z fits

pub s2_again : (z : ℤ) → FitsSigned w16 z → cast_signed w16 (from_be_bytes w16 (s2_bytes z)) ≡ z
s2_again z fits = ap (cast_signed w16) (u2_again (cast_unsigned w16 z) (cast_below_16 z fits)) ∙ to_z-of_z w16 z fits

pub s4_again : (z : ℤ) → FitsSigned w32 z → cast_signed w32 (from_be_bytes w32 (s4_bytes z)) ≡ z
s4_again z fits = ap (cast_signed w32) (from_be_bytes-to_be_bytes_4 (cast_unsigned w32 z) (cast_below_32 z fits)) ∙ to_z-of_z w32 z fits
