-- Bytes of modified UTF-8 in UTF-8: two surrogates, of three bytes each, become the character that they stand for, and each other byte stays.
use Rattle.std.specs.Prelude.{◌≡◌, ℕ, ◌+◌, ◌-◌, ◌*◌, ◌/◌, ◌%◌, ◌==◌, Bool, not, ◌&&◌, if◌then◌else◌, List, [], ◌∷◌, ◌++◌, refl}
use Rattle.std.specs.List.{list_all}
use Rattle.class_file.specs.Text.{within}

-- the four bytes of a character past U+FFFF, by the ten bits of each of its surrogates
abbrev pub four_bytes : ℕ → ℕ → List ℕ
four_bytes high low =
    let n = 0x10000 + (high * 1024 + low) in
    (0xF0 + n / 0x40000) ∷ (0x80 + n / 0x1000 % 64) ∷ (0x80 + n / 64 % 64) ∷ (0x80 + n % 64) ∷ []

-- three bytes are a surrogate, whose second one is one of the 16 from the least one on
abbrev pub is_surrogate : ℕ → ℕ → ℕ → ℕ → Bool
is_surrogate least a b c = a == 0xED && (within least (least + 16) b && within 0x80 0xC0 c)

-- six bytes are a high surrogate and a low one
abbrev pub is_pair : ℕ → ℕ → ℕ → ℕ → ℕ → ℕ → Bool
is_pair a b c d e f = is_surrogate 0xA0 a b c && is_surrogate 0xB0 d e f

-- the ten bits that a surrogate holds in its last two bytes
abbrev pub surrogate_bits : ℕ → ℕ → ℕ → ℕ
surrogate_bits least b c = (b - least) * 64 + (c - 0x80)

abbrev pub utf8_of : List ℕ → List ℕ
utf8_of (a ∷ b ∷ c ∷ d ∷ e ∷ f ∷ rest) =
    if is_pair a b c d e f
    then four_bytes (surrogate_bits 0xA0 b c) (surrogate_bits 0xB0 e f) ++ utf8_of rest
    else a ∷ utf8_of (b ∷ c ∷ d ∷ e ∷ f ∷ rest)
utf8_of bytes = bytes

-- no line feed is among the bytes
abbrev pub is_no_feed : ℕ → Bool
is_no_feed b = not (b == 10)

abbrev pub is_one_line : List ℕ → Bool
is_one_line bytes = list_all is_no_feed bytes

-- ---- examples

-- U+1F600 between two letters
face : utf8_of (0x41 ∷ 0xED ∷ 0xA0 ∷ 0xBD ∷ 0xED ∷ 0xB8 ∷ 0x80 ∷ 0x42 ∷ []) ≡ 0x41 ∷ 0xF0 ∷ 0x9F ∷ 0x98 ∷ 0x80 ∷ 0x42 ∷ []
face = refl

alone : utf8_of (0xED ∷ 0xA0 ∷ 0xBD ∷ 0x41 ∷ []) ≡ 0xED ∷ 0xA0 ∷ 0xBD ∷ 0x41 ∷ []
alone = refl
