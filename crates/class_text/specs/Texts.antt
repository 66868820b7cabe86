-- The lines of a text, and what each says.
use Rattle.std.specs.Prelude.{◌≡◌, ℕ, ◌+◌, ◌==◌, Bool, not, if◌then◌else◌, List, [], ◌∷◌, codes, Option, Some, None, refl}
use Rattle.std.specs.List.{cons_option}
use Rattle.class_lines.specs.declared.line.Line.{Line}
use Rattle.class_lines.specs.Words.{Text}
use Rattle.class_lines.specs.Heard.{heard}
use Rattle.class_text.specs.declared.numbered.Numbered.{Numbered}

abbrev pub is_in_line : ℕ → Bool
is_in_line b = not (b == 10)

abbrev pub put_front : ℕ → List Text → List Text
put_front b [] = (b ∷ []) ∷ []
put_front b (line ∷ lines) = (b ∷ line) ∷ lines

-- what stands between line feeds; the last line may lack its own
abbrev pub lines : List ℕ → List Text
lines [] = []
lines (b ∷ rest) = if b == 10 then [] ∷ lines rest else put_front b (lines rest)

-- A line that says nothing is passed over. For one that isn't of the form there is no line.
abbrev pub said : ℕ → Option (Option Line) → Option Numbered
said number (Some None) = None
said number (Some (Some line)) = Some (record { number = number; line = Some line })
said number None = Some (record { number = number; line = None })

abbrev pub line_numbered : ℕ → Text → Option Numbered
line_numbered number text = said number (heard text)

-- the lines with their numbers, from this one on
abbrev pub numbered : ℕ → List Text → List Numbered
numbered number [] = []
numbered number (text ∷ texts) = cons_option (line_numbered number text) (numbered (number + 1) texts)

-- ---- examples

two : lines (codes "a\n\nb") ≡ codes "a" ∷ [] ∷ codes "b" ∷ []
two = refl

ended : lines (codes "a\n") ≡ codes "a" ∷ []
ended = refl

none : lines [] ≡ []
none = refl
