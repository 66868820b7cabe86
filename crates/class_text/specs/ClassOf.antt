-- The class that a text is, or the number of the first line that isn't of the form.
use Rattle.std.specs.Prelude.{ℕ, ◌+◌, nat_lt, List, [], length, min, Option, Some, None, Result, Ok, Err}
use Rattle.std.specs.List.{take_while}
use Rattle.class_file.specs.declared.types.ClassFile.{ClassFile}
use Rattle.class_lines.specs.Words.{Text}
use Rattle.class_text.specs.declared.numbered.Numbered.{Numbered}
use Rattle.class_text.specs.declared.order.Place.{Place}
use Rattle.class_text.specs.Texts.{lines, numbered}
use Rattle.class_text.specs.Order.{misplaced}
use Rattle.class_text.specs.Labels.{mislabelled}
use Rattle.class_text.specs.Making.{class_made_of}

abbrev pub first_of : Option ℕ → Option ℕ → Option ℕ
first_of None b = b
first_of (Some a) None = Some a
first_of (Some a) (Some b) = Some (min a b)

-- the first line that is wrong whatever the pool is; the number of the line after the last is given
abbrev pub first_wrong : ℕ → List Numbered → Option ℕ
first_wrong last lines = first_of (misplaced last Place.Start lines) (mislabelled [] 0 lines)

abbrev pub refused : ℕ → Result ClassFile ℕ → Result ClassFile ℕ
refused number (Ok class) = Err number
refused number (Err earlier) = Err earlier

-- A line that passes what the pool or a count may be is wrong too; the lines from the first wrong one on don't count.
abbrev pub judged : List Numbered → Option ℕ → Result ClassFile ℕ
judged lines None = class_made_of 1 lines
judged lines (Some number) = refused number (class_made_of number (take_while (λ (l : Numbered). nat_lt l.number number) lines))

abbrev pub class_of_lines : List Text → Result ClassFile ℕ
class_of_lines texts = let all = numbered 1 texts in judged all (first_wrong (length texts + 1) all)

abbrev pub class_of : List ℕ → Result ClassFile ℕ
class_of text = class_of_lines (lines text)
