-- Modified UTF-8 (JVMS 4.4.7): the bytes of a text of UTF-16 units, unit by unit. A lone surrogate
-- is a unit like another. No other bytes spell a text, so each text has one spelling.
use Rattle.std.specs.Prelude.{◌≡◌, ℕ, ◌+◌, ◌/◌, ◌%◌, ◌<◌, ◌^◌, List, [], ◌∷◌, ◌++◌, length, take, drop, if◌then◌else◌, nat_lt, ◌&&◌}
use Rattle.std.specs.List.{AllByRecursion, flat_map}

-- 1 to 7F take one byte, 0 and 80 to 7FF two bytes, 800 to FFFF three
abbrev pub unit_spelling : ℕ → List ℕ
unit_spelling u =
    if nat_lt 0 u && nat_lt u 0x80
    then u ∷ []
    else if nat_lt u 0x800
    then (0xC0 + u / 64) ∷ (0x80 + u % 64) ∷ []
    else (0xE0 + u / 4096) ∷ (0x80 + u / 64 % 64) ∷ (0x80 + u % 64) ∷ []

abbrev pub text_spelling : List ℕ → List ℕ
text_spelling units = flat_map unit_spelling units

abbrev pub IsUnit : ℕ → Type 0
IsUnit u = u < 2 ^ 16

abbrev pub AreUnits : List ℕ → Type 0
AreUnits units = AllByRecursion IsUnit units

-- the bytes are the spelling of a text
pub record IsUtf8Text (bytes : List ℕ) : Type 0 where
  pub units : List ℕ
  pub fit : AreUnits units
  pub spelled : bytes ≡ text_spelling units

-- no unit's spelling stands at the front of the bytes
abbrev pub BeginsNoUnit : List ℕ → Type 0
BeginsNoUnit bytes = (u : ℕ) (rest : List ℕ) → IsUnit u → ¬ (bytes ≡ unit_spelling u ++ rest)

-- the first n bytes are a text, and no unit's spelling stands behind them: a wrong sequence does
pub record IsUtf8Fault (bytes : List ℕ) (n : ℕ) : Type 0 where
  pub within : n < length bytes
  pub before : IsUtf8Text (take n bytes)
  pub wrong : BeginsNoUnit (drop n bytes)
