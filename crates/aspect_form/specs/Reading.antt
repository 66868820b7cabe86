-- Reading the text of an aspect from left to right: what is read, with the rest of the text behind it.
use Rattle.std.specs.Prelude.{ℕ, ◌==◌, ◌&&◌, not, nat_le, Bool, if◌then◌else◌, List, [], ◌∷◌, length, codes, Option, Some, None}
use Rattle.std.specs.List.{list_all}
use Rattle.std.specs.Str.{bytes_eq}
use Rattle.class_file.specs.FirstForm.{is_printable, is_reserved, is_letter_or_digit, begins_with_letter}
use Rattle.jp_model.specs.declared.first_aspect.FirstAspect.{FirstAspect}
use Rattle.jp_model.specs.AspectText.{Token, is_word_character, is_space, is_unescaped, word, sign}
use Rattle.jp_model.specs.AspectText.Token.{Word, Sign}

infixl 10 ◌>>=◌
abbrev pub ◌>>=◌ : {A B : Type 0} → Option A → (A → Option B) → Option B
None >>= f = None
(Some x) >>= f = f x

-- the longest run of bytes at the front that pass
abbrev pub run_of : (ℕ → Bool) → List ℕ → List ℕ
run_of test [] = []
run_of test (b ∷ rest) = if test b then b ∷ run_of test rest else []

-- what stands behind that run
abbrev pub behind_run : (ℕ → Bool) → List ℕ → List ℕ
behind_run test [] = []
behind_run test (b ∷ rest) = if test b then behind_run test rest else b ∷ rest

-- what stands behind these bytes, where the text begins with them
abbrev pub stripped : List ℕ → List ℕ → Option (List ℕ)
stripped [] text = Some text
stripped (s ∷ sign) [] = None
stripped (s ∷ sign) (b ∷ text) = if b == s then stripped sign text else None

-- blanks, and a token that is known
unfoldable pub token_at : Token → List ℕ → Option (List ℕ)
token_at (Word text) bytes =
    if bytes_eq (run_of is_word_character (behind_run is_space bytes)) text
    then Some (behind_run is_word_character (behind_run is_space bytes)) else None
token_at (Sign text) bytes = stripped text (behind_run is_space bytes)

-- tokens that are known
abbrev pub tokens_at : List Token → List ℕ → Option (List ℕ)
tokens_at [] bytes = Some bytes
tokens_at (t ∷ tokens) bytes = token_at t bytes >>= tokens_at tokens

-- a keyword, a literal or a word of advice
unfoldable pub is_taken : List ℕ → Bool
is_taken text = is_reserved text

-- a short identifier
unfoldable pub is_name : List ℕ → Bool
is_name text = (begins_with_letter text && (list_all is_letter_or_digit text && not (is_taken text))) && nat_le (length text) 1000

-- blanks, and an identifier
unfoldable pub identifier_at : List ℕ → Option (List ℕ × List ℕ)
identifier_at bytes =
    if is_name (run_of is_word_character (behind_run is_space bytes))
    then Some (run_of is_word_character (behind_run is_space bytes), behind_run is_word_character (behind_run is_space bytes)) else None

-- a byte of a text in quotes
abbrev pub is_quotable : ℕ → Bool
is_quotable b = is_printable b && is_unescaped b

-- blanks, and a text in quotes
unfoldable pub quoted_at : List ℕ → Option (List ℕ × List ℕ)
quoted_at bytes = do
  inside ← token_at (sign (codes "\"")) bytes
  rest ← stripped (codes "\"") (behind_run is_quotable inside)
  if nat_le (length (run_of is_quotable inside)) 65535 then Some (run_of is_quotable inside, rest) else None

-- ---- the form, in three parts

-- aspect NAME { before ( ) :
unfoldable pub header_at : List ℕ → Option (List ℕ × List ℕ)
header_at bytes = do
  first ← tokens_at (word (codes "aspect") ∷ []) bytes
  name ← identifier_at first
  rest ← tokens_at (sign (codes "{") ∷ word (codes "before") ∷ sign (codes "(") ∷ sign (codes ")") ∷ sign (codes ":") ∷ []) name.1
  if not (bytes_eq name.0 (codes "System")) then Some (name.0, rest) else None

-- call ( void CLASS . METHOD ( ) ), with the class, the method and the rest
unfoldable pub pointcut_at : List ℕ → Option (List ℕ × List ℕ × List ℕ)
pointcut_at bytes = do
  first ← tokens_at (word (codes "call") ∷ sign (codes "(") ∷ word (codes "void") ∷ []) bytes
  class ← identifier_at first
  point ← tokens_at (sign (codes ".") ∷ []) class.1
  method ← identifier_at point
  rest ← tokens_at (sign (codes "(") ∷ sign (codes ")") ∷ sign (codes ")") ∷ []) method.1
  Some (class.0, method.0, rest)

-- { System . out . println ( "TEXT" ) ; }
unfoldable pub body_at : List ℕ → Option (List ℕ × List ℕ)
body_at bytes = do
  first ← tokens_at (sign (codes "{") ∷ word (codes "System") ∷ sign (codes ".") ∷ word (codes "out") ∷ sign (codes ".") ∷ word (codes "println") ∷ sign (codes "(") ∷ []) bytes
  text ← quoted_at first
  rest ← tokens_at (sign (codes ")") ∷ sign (codes ";") ∷ sign (codes "}") ∷ []) text.1
  Some (text.0, rest)

-- the aspect of a whole text
unfoldable pub aspect_at : List ℕ → Option FirstAspect
aspect_at bytes = do
  header ← header_at bytes
  pointcut ← pointcut_at header.1
  body ← body_at pointcut.2
  rest ← tokens_at (sign (codes "}") ∷ []) body.1
  if length (behind_run is_space rest) == 0 && nat_le (length bytes) 16777216 then Some (record { name = header.0; class = pointcut.0; method = pointcut.1; text = body.0 }) else None
