-- The text of an aspect of the form that is built:
--     aspect NAME { before(): call(void CLASS.METHOD()) { System.out.println("TEXT"); } }
use Rattle.std.specs.Prelude.{◌≡◌, ℕ, ◌==◌, ◌&&◌, ◌||◌, not, nat_le, Bool, true, IsTrue, List, [], ◌∷◌, ◌++◌, length, codes}
use Rattle.std.specs.List.{list_all}
use Rattle.std.specs.Str.{bytes_eq}
use Rattle.class_file.specs.FirstForm.{is_letter_or_digit, is_identifier, is_printable_text}
use Rattle.jp_model.specs.declared.first_aspect.FirstAspect.{FirstAspect}
use Rattle.jp_model.specs.Aspects.{PrintLine, Aspect}

-- ---- tokens

-- a character of an identifier or a reserved word: a letter, a digit, `_` or `$`
abbrev pub is_word_character : ℕ → Bool
is_word_character b = is_letter_or_digit b || (b == 95 || b == 36)

-- a blank, a tab or a line feed
abbrev pub is_space : ℕ → Bool
is_space b = b == 32 || (b == 9 || b == 10)

pub data Token : Type 0 where
  -- an identifier or a reserved word: the longest run of its characters is taken
  Word : (text : List ℕ) → Token
  -- a bracket, a point or another sign, or a text in quotes
  Sign : (text : List ℕ) → Token

abbrev pub token_text : Token → List ℕ
token_text (Word text) = text
token_text (Sign text) = text

abbrev pub begins_outside : List ℕ → Bool
begins_outside [] = true
begins_outside (b ∷ rest) = not (is_word_character b)

-- what may stand behind a token
abbrev pub may_follow : Token → List ℕ → Bool
may_follow (Word text) rest = begins_outside rest
may_follow (Sign text) rest = true

-- The text is these tokens, with any number of blanks, tabs and line feeds before and behind each.
abbrev pub IsText : List Token → List ℕ → Type 0
IsText [] text = IsTrue (list_all is_space text)
IsText (t ∷ tokens) text =
    (gap : List ℕ) × (rest : List ℕ) × IsTrue (list_all is_space gap) × (text ≡ gap ++ (token_text t ++ rest))
    × IsTrue (may_follow t rest) × IsText tokens rest

-- ---- the form

abbrev pub word : List ℕ → Token
word text = Word text

abbrev pub sign : List ℕ → Token
sign text = Sign text

abbrev pub quoted : List ℕ → List ℕ
quoted text = 34 ∷ (text ++ 34 ∷ [])

abbrev pub tokens_of : FirstAspect → List Token
tokens_of a =
    word (codes "aspect") ∷ word a.name ∷ sign (codes "{") ∷
    word (codes "before") ∷ sign (codes "(") ∷ sign (codes ")") ∷ sign (codes ":") ∷
    word (codes "call") ∷ sign (codes "(") ∷ word (codes "void") ∷ word a.class ∷ sign (codes ".") ∷ word a.method ∷
    sign (codes "(") ∷ sign (codes ")") ∷ sign (codes ")") ∷ sign (codes "{") ∷
    word (codes "System") ∷ sign (codes ".") ∷ word (codes "out") ∷ sign (codes ".") ∷ word (codes "println") ∷
    sign (codes "(") ∷ sign (quoted a.text) ∷ sign (codes ")") ∷ sign (codes ";") ∷ sign (codes "}") ∷ sign (codes "}") ∷ []

-- Identifiers have at most 1,000 characters.
abbrev pub is_short_identifier : List ℕ → Bool
is_short_identifier name = is_identifier name && nat_le (length name) 1000

-- neither a quote nor a backslash
abbrev pub is_unescaped : ℕ → Bool
is_unescaped b = not (b == 34) && not (b == 92)

-- A text has at most 65,535 bytes, as a text of a class file.
abbrev pub is_literal : List ℕ → Bool
is_literal text = is_printable_text text && (list_all is_unescaped text && nat_le (length text) 65535)

-- The name System is left to java.lang: an aspect of this name would hide it from its own body.
abbrev pub is_first_aspect : FirstAspect → Bool
is_first_aspect a =
    is_short_identifier a.name && (not (bytes_eq a.name (codes "System")) && (is_short_identifier a.class
    && (is_short_identifier a.method && is_literal a.text)))

-- the text is that of the aspect; a file has at most 16,777,216 bytes
pub record SpellsAspect (bytes : List ℕ) (a : FirstAspect) : Type 0 where
  pub formed : IsTrue (is_first_aspect a)
  pub spelled : IsText (tokens_of a) bytes
  pub bounded : IsTrue (nat_le (length bytes) 16777216)

-- the aspect itself
abbrev pub aspect_of : FirstAspect → Aspect
aspect_of a = record {
  name = a.name;
  advice = record { pointcut = record { class = a.class; method = a.method }; body = PrintLine a.text ∷ [] } ∷ [];
}
