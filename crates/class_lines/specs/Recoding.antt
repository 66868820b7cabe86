-- A line of a text in UTF-8, in the modified UTF-8 of a class file (JVMS 4.4.7): U+0000 takes two bytes, a character past U+FFFF two times three, and each other one the same bytes.
use Rattle.std.specs.Prelude.{◌≡◌, ℕ, zero, suc, ◌+◌, ◌-◌, ◌*◌, ◌/◌, ◌%◌, ◌==◌, Bool, ◌&&◌, if◌then◌else◌, [], ◌∷◌, ◌++◌, length, codes, Option, Some, None, option_map, refl}
use Rattle.aj_names.specs.ModifiedUtf8.{text_spelling}
use Rattle.class_file.specs.Text.{within}
use Rattle.class_lines.specs.declared.recoding.Code.{Code}
use Rattle.class_lines.specs.Words.{◌>>=◌, Text}

-- a byte behind the first of a character
abbrev pub goes_on : ℕ → Bool
goes_on b = within 0x80 0xC0 b

-- the second byte of three: no shorter form, and no surrogate
abbrev pub is_second_of_three : ℕ → ℕ → Bool
is_second_of_three a b =
    if a == 0xE0 then within 0xA0 0xC0 b else
    (if a == 0xED then within 0x80 0xA0 b else goes_on b)

-- the second byte of four: no shorter form, and nothing past U+10FFFF
abbrev pub is_second_of_four : ℕ → ℕ → Bool
is_second_of_four a b =
    if a == 0xF0 then within 0x90 0xC0 b else
    (if a == 0xF4 then within 0x80 0x90 b else goes_on b)

-- the number of a character of four bytes
abbrev pub four_value : ℕ → ℕ → ℕ → ℕ → ℕ
four_value a b c d = (a - 0xF0) * 0x4_0000 + (b - 0x80) * 0x1000 + (c - 0x80) * 0x40 + (d - 0x80)

-- the two surrogates of a character past U+FFFF
abbrev pub high_of : ℕ → ℕ
high_of value = 0xD800 + (value - 0x1_0000) / 0x400

abbrev pub low_of : ℕ → ℕ
low_of value = 0xDC00 + (value - 0x1_0000) % 0x400

-- a character in modified UTF-8
abbrev pub code_bytes : Code → Text
code_bytes Code.Zero = 0xC0 ∷ 0x80 ∷ []
code_bytes (Code.One a) = a ∷ []
code_bytes (Code.Two a b) = a ∷ b ∷ []
code_bytes (Code.Three a b c) = a ∷ b ∷ c ∷ []
code_bytes (Code.Pair high low) = text_spelling (high ∷ low ∷ [])

-- the character at the front, and what stands behind it
abbrev pub Front : Type 0
Front = Option (Code × Text)

unfoldable pub two_at : ℕ → Text → Front
two_at a [] = None
two_at a (b ∷ rest) = if goes_on b then Some (Code.Two a b, rest) else None

unfoldable pub three_at : ℕ → Text → Front
three_at a (b ∷ c ∷ rest) = if is_second_of_three a b && goes_on c then Some (Code.Three a b c, rest) else None
three_at a _ = None

unfoldable pub four_at : ℕ → Text → Front
four_at a (b ∷ c ∷ d ∷ rest) =
    if is_second_of_four a b && (goes_on c && goes_on d)
    then Some (Code.Pair (high_of (four_value a b c d)) (low_of (four_value a b c d)), rest) else None
four_at a _ = None

unfoldable pub character_at : Text → Front
character_at [] = None
character_at (a ∷ rest) =
    if a == 0 then Some (Code.Zero, rest) else
    (if within 1 0x80 a then Some (Code.One a, rest) else
    (if within 0xC2 0xE0 a then two_at a rest else
    (if within 0xE0 0xF0 a then three_at a rest else
    (if within 0xF0 0xF5 a then four_at a rest else None))))

-- the characters are no more than turns
abbrev pub characters : ℕ → Text → Option Text
characters turns [] = Some []
characters zero (a ∷ rest) = None
characters (suc turns) (a ∷ rest) = character_at (a ∷ rest) >>= (λ c. option_map (λ more. code_bytes c.0 ++ more) (characters turns c.1))

-- the line in modified UTF-8, if it is UTF-8
abbrev pub modified : Text → Option Text
modified line = characters (length line) line

-- ---- examples

plain : modified (codes "nop") ≡ Some (codes "nop")
unfolding character_at
plain = refl

accent : modified (0xC3 ∷ 0xA9 ∷ []) ≡ Some (0xC3 ∷ 0xA9 ∷ [])
unfolding character_at two_at
accent = refl

-- U+1F600 is the units D83D and DE00
face : modified (0xF0 ∷ 0x9F ∷ 0x98 ∷ 0x80 ∷ []) ≡ Some (0xED ∷ 0xA0 ∷ 0xBD ∷ 0xED ∷ 0xB8 ∷ 0x80 ∷ [])
unfolding character_at four_at
face = refl

surrogate : modified (0xED ∷ 0xA0 ∷ 0xBD ∷ []) ≡ None
unfolding character_at three_at
surrogate = refl
