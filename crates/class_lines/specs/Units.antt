-- The UTF-16 units of a text in modified UTF-8 (JVMS 4.4.7).
use Rattle.std.specs.Prelude.{◌≡◌, ℕ, ◌+◌, ◌*◌, ◌%◌, if◌then◌else◌, nat_lt, List, [], ◌∷◌, refl}

-- 110 and five bits, 10 and six bits
abbrev pub unit_of_two : ℕ → ℕ → ℕ
unit_of_two a b = a % 32 * 64 + b % 64

-- 1110 and four bits, and twice 10 and six bits
abbrev pub unit_of_three : ℕ → ℕ → ℕ → ℕ
unit_of_three a b c = a % 16 * 4096 + b % 64 * 64 + c % 64

-- the units, of one byte, two or three; what is cut short stands for itself
abbrev pub units_of : List ℕ → List ℕ
units_of [] = []
units_of (a ∷ []) = a ∷ []
units_of (a ∷ b ∷ []) = if nat_lt a 0x80 then a ∷ b ∷ [] else unit_of_two a b ∷ []
units_of (a ∷ b ∷ c ∷ rest) =
    if nat_lt a 0x80 then a ∷ units_of (b ∷ c ∷ rest) else
    (if nat_lt a 0xE0 then unit_of_two a b ∷ units_of (c ∷ rest) else unit_of_three a b c ∷ units_of rest)

-- ---- examples

zero_unit : units_of (0x41 ∷ 0xC0 ∷ 0x80 ∷ []) ≡ 0x41 ∷ 0 ∷ []
zero_unit = refl

-- U+1F600, by two surrogates, and another one alone
face : units_of (0xED ∷ 0xA0 ∷ 0xBD ∷ 0xED ∷ 0xB8 ∷ 0x80 ∷ 0xED ∷ 0xA0 ∷ 0xBD ∷ []) ≡ 0xD83D ∷ 0xDE00 ∷ 0xD83D ∷ []
face = refl
