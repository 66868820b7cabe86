-- Names of classes and members in modified UTF-8 (JVMS 4.2, 4.4.7).
use Rattle.std.specs.Prelude.{◌≡◌, ◌≢◌, ℕ, ◌+◌, ◌-◌, ◌/◌, ◌%◌, ◌<◌, ◌⊎◌, List, [], ◌∷◌, if◌then◌else◌, nat_lt}
use Rattle.std.specs.List.{AllByRecursion, flat_map, join_with_byte}
use Rattle.aj_names.specs.ModifiedUtf8.{text_spelling}

-- the UTF-16 units of a character: one, or a pair of surrogates past FFFF
abbrev pub character_units : ℕ → List ℕ
character_units c =
    if nat_lt c 0x10000
    then c ∷ []
    else (0xD800 + (c - 0x10000) / 1024) ∷ (0xDC00 + (c - 0x10000) % 1024) ∷ []

abbrev pub character_spelling : ℕ → List ℕ
character_spelling c = text_spelling (character_units c)

-- a code point that is no surrogate
abbrev pub IsCharacter : ℕ → Type 0
IsCharacter c = (c < 0xD800) ⊎ ((0xDFFF < c) × (c < 0x110000))

-- a character of a name: not U+0000 and none of . / ; [
pub record IsNameCharacter (c : ℕ) : Type 0 where
  pub character : IsCharacter c
  pub not_zero : c ≢ 0
  pub not_dot : c ≢ 46
  pub not_slash : c ≢ 47
  pub not_semicolon : c ≢ 59
  pub not_bracket : c ≢ 91

-- the name of a member, or a part of a class name: one or more such characters
pub record IsMemberName (bytes : List ℕ) : Type 0 where
  pub characters : List ℕ
  pub not_empty : characters ≢ []
  pub allowed : AllByRecursion IsNameCharacter characters
  pub spelled : bytes ≡ flat_map character_spelling characters

-- one or more parts with / between each two
pub record IsClassName (bytes : List ℕ) : Type 0 where
  pub parts : List (List ℕ)
  pub not_empty : parts ≢ []
  pub names : AllByRecursion IsMemberName parts
  pub joined : bytes ≡ join_with_byte 47 parts
