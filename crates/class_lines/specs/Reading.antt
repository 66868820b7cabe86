-- What a line is.
use Rattle.std.specs.Prelude.{◌-◌, ◌==◌, Bool, true, false, ◌&&◌, nat_lt, if◌then◌else◌, List, [], ◌∷◌, length, take, codes, slice_index, Option, Some, None, option_map}
use Rattle.std.specs.Str.{bytes_eq}
use Rattle.class_lines.specs.declared.line.Line.{Line}
use Rattle.class_lines.specs.declared.words.WordKind.{WordKind}
use Rattle.class_lines.specs.Fields.{fields}
use Rattle.class_lines.specs.Words.{◌>>=◌, Text, fits, word_at, ended}
use Rattle.class_lines.specs.Heads.{class_at, any_field_at, any_method_at}
use Rattle.class_lines.specs.Operations.{operation_at}

-- the label before the colon at the end of a word
unfoldable pub label_before : Text → Option Text
label_before word =
    if nat_lt 0 (length word) && (slice_index word (length word - 1) == 58 && fits WordKind.Label (take (length word - 1) word))
    then Some (take (length word - 1) word) else None

abbrev pub labelled_at : Text → List Text → Option Line
labelled_at label words = option_map (λ o. Line.Step (Some label) o) (operation_at words)

abbrev pub unlabelled_at : List Text → Option Line
unlabelled_at words = option_map (λ o. Line.Step None o) (operation_at words)

abbrev pub labelled_or : List Text → List Text → Option Text → Option Line
labelled_or all words (Some label) = labelled_at label words
labelled_or all words None = unlabelled_at all

-- a label, if there is one, a mnemonic and its operands
unfoldable pub step_at : List Text → Option Line
step_at [] = None
step_at (w ∷ words) = labelled_or (w ∷ words) words (label_before w)

-- a class that is caught, or `any`
unfoldable pub caught_at : List Text → Option (Option Text)
caught_at (w ∷ []) = if bytes_eq w (codes "any") then Some None else (if fits WordKind.TypeName w then Some (Some w) else None)
caught_at _ = None

-- behind `catch`
unfoldable pub catch_at : List Text → Option Line
catch_at words = do
  from ← word_at WordKind.Label words
  to ← word_at WordKind.Label from.1
  handler ← word_at WordKind.Label to.1
  class ← caught_at handler.1
  Some (Line.Catch from.0 to.0 handler.0 class)

-- by the first word
unfoldable pub line_at : List Text → Option Line
line_at [] = None
line_at (w ∷ words) =
    if bytes_eq w (codes "class") then class_at words else
    (if bytes_eq w (codes "field") then any_field_at words else
    (if bytes_eq w (codes "method") then any_method_at words else
    (if bytes_eq w (codes "catch") then catch_at words else
    (if bytes_eq w (codes "end") then ended words Line.End else step_at (w ∷ words)))))

-- a line of blanks alone, or a comment
abbrev pub is_passed_over : List Text → Bool
is_passed_over [] = true
is_passed_over ([] ∷ words) = false
is_passed_over ((b ∷ word) ∷ words) = b == 59

-- What a line says: nothing where it is passed over.
unfoldable pub read_as : Text → Option (Option Line)
read_as line = if is_passed_over (fields line) then Some None else option_map Some (line_at (fields line))
