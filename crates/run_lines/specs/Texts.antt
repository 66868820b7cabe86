-- Texts in quotes.
use Rattle.std.specs.Prelude.{◌≡◌, ℕ, ◌==◌, ◌||◌, ◌⊎◌, if◌then◌else◌, List, [], ◌∷◌, ◌++◌}
use Rattle.std.specs.List.{flat_map}
use Rattle.std.specs.Str.{IsUtf8, chars}
use Rattle.aj_names.specs.Names.{character_units}
use Rattle.run_lines.specs.Splits.{Text}

-- a byte between quotes: a quote and a backslash stand behind a backslash
abbrev pub escape : ℕ → Text
escape b = if b == 34 || b == 92 then 92 ∷ b ∷ [] else b ∷ []

-- a quote or a backslash
abbrev pub IsMarked : ℕ → Type 0
IsMarked b = (b ≡ 34) ⊎ (b ≡ 92)

abbrev pub IsMarkedAt : Text → ℕ → Text → Type 0
IsMarkedAt text b behind = IsMarked b × (text ≡ b ∷ behind)

abbrev pub IsEscapedAt : Text → ℕ → Text → Type 0
IsEscapedAt text b behind = text ≡ escape b ++ behind

-- the text up to its closing quote
abbrev pub IsClosed : Text → Text → Text → Type 0
IsClosed written text behind = written ≡ flat_map escape text ++ 34 ∷ behind

-- a text in quotes
abbrev pub quote : Text → Text
quote text = 34 ∷ (flat_map escape text ++ 34 ∷ [])

-- the UTF-16 units of a text in UTF-8: one of a character, or two of one past U+FFFF
pub record AreUnits (units text : List ℕ) : Type 0 where
  pub utf8 : IsUtf8 text
  pub same : units ≡ flat_map character_units (chars text)

-- the word is the text of these units in quotes
pub record IsText (units word : List ℕ) : Type 0 where
  pub text : Text
  pub quoted : word ≡ quote text
  pub are_units : AreUnits units text
