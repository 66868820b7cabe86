-- The places of instructions (JVMS 4.7.3, 6.4), and the labels that stand before them.
use Rattle.std.specs.Prelude.{ℕ, ◌+◌, ◌-◌, ◌*◌, ◌%◌, ◌==◌, min, Bool, true, false, not, ◌&&◌, ◌||◌, nat_le, nat_lt, if◌then◌else◌, List, [], ◌∷◌, length, Option, Some, None, is_some, ℤ, pos, ◌-ℤ◌}
use Rattle.std.specs.List.{list_all}
use Rattle.std.specs.Str.{bytes_eq}
use Rattle.opcode_table.specs.declared.form.Form.{Form}
use Rattle.opcode_table.specs.Table.{form_of}
use Rattle.class_lines.specs.declared.line.Line.{Line}
use Rattle.class_lines.specs.declared.line.Operation.{Operation}
use Rattle.class_lines.specs.declared.line.Case.{Case}
use Rattle.class_lines.specs.Words.{Text}
use Rattle.class_lines.specs.Lines.{is_integer}
use Rattle.class_text.specs.declared.numbered.Numbered.{Numbered}

-- ---- sizes

-- the zeros between a switch's opcode and its table, which begins at a multiple of four
abbrev pub padding : ℕ → ℕ
padding pc = 3 - pc % 4

-- an `iinc` whose operands need two bytes each
abbrev pub is_wide_increment : ℕ → ℤ → Bool
is_wide_increment index by = nat_lt 255 index || not (is_integer 127 by)

abbrev pub is_wide_form : Option Form → Bool
is_wide_form (Some Form.WideBranch) = true
is_wide_form _ = false

-- how many bytes the instruction at a place has
abbrev pub size_at : ℕ → Operation → ℕ
size_at pc (Operation.Plain op) = 1
size_at pc (Operation.Bipush value) = 2
size_at pc (Operation.Sipush value) = 3
size_at pc (Operation.Local op index) = if nat_lt 255 index then 4 else 2
size_at pc (Operation.Iinc index by) = if is_wide_increment index by then 6 else 3
size_at pc (Operation.Constant op constant) = if op == 18 then 2 else 3
size_at pc (Operation.Long n) = 3
size_at pc (Operation.Double bits) = 3
size_at pc (Operation.Member op class name descriptor) = if op == 185 then 5 else 3
size_at pc (Operation.Class op class) = 3
size_at pc (Operation.NewArray code) = 2
size_at pc (Operation.Multi class dims) = 4
size_at pc (Operation.Branch op to) = if is_wide_form (form_of op) then 5 else 3
size_at pc (Operation.TableSwitch low labels default) = 13 + padding pc + 4 * length labels
size_at pc (Operation.LookupSwitch cases default) = 9 + padding pc + 8 * length cases

-- The place behind an instruction. Places are counted up to 2^32 - 1, far behind the last that code may have.
abbrev pub advance : ℕ → Operation → ℕ
advance pc operation = min (pc + size_at pc operation) 4294967295

-- ---- labels

-- behind a line of a method
abbrev pub place_behind : ℕ → Option Line → ℕ
place_behind pc (Some (Line.Step label operation)) = advance pc operation
place_behind pc _ = pc

-- the line has the label
abbrev pub is_labelled : Text → Option Line → Bool
is_labelled name (Some (Line.Step (Some label) operation)) = bytes_eq label name
is_labelled name _ = false

abbrev pub is_end : Option Line → Bool
is_end (Some Line.End) = true
is_end _ = false

-- the place of the first instruction that has the label, in the lines of a method up to its end; the first line is at pc
abbrev pub place_of : Text → ℕ → List Numbered → Option ℕ
place_of name pc [] = None
place_of name pc (line ∷ lines) =
    if is_labelled name line.line then Some pc else
    (if is_end line.line then None else place_of name (place_behind pc line.line) lines)

-- whether the method of these lines has the label
abbrev pub has_label : List Numbered → Text → Bool
has_label body name = is_some (place_of name 0 body)

-- ---- the labels of a line

-- the distance to a place that is there
abbrev pub distance : ℕ → Option ℕ → ℤ
distance pc None = pos 0
distance pc (Some to) = pos to -ℤ pos pc

-- whether the labels that an instruction names are there, and a branch of two bytes reaches its own
abbrev pub leads_well : List Numbered → ℕ → Operation → Bool
leads_well body pc (Operation.Branch op to) = has_label body to && (is_wide_form (form_of op) || is_integer 32767 (distance pc (place_of to 0 body)))
leads_well body pc (Operation.TableSwitch low labels default) = has_label body default && list_all (has_label body) labels
leads_well body pc (Operation.LookupSwitch cases default) = has_label body default && list_all (λ (c : Case). has_label body c.label) cases
leads_well body pc _ = true

abbrev pub is_at : ℕ → Option ℕ → Bool
is_at pc None = false
is_at pc (Some place) = place == pc

-- the label is that of no earlier instruction
abbrev pub is_new : List Numbered → ℕ → Option Text → Bool
is_new body pc None = true
is_new body pc (Some label) = is_at pc (place_of label 0 body)

-- a line of a method with these lines, at a place; code has from 1 to 65535 bytes
abbrev pub is_right : List Numbered → ℕ → Option Line → Bool
is_right body pc (Some (Line.Step label operation)) = is_new body pc label && (leads_well body pc operation && nat_le (advance pc operation) 65535)
is_right body pc (Some (Line.Catch from to handler class)) = has_label body from && (has_label body to && has_label body handler)
is_right body pc (Some Line.End) = nat_lt 0 pc
is_right body pc _ = true

abbrev pub is_head : Option Line → Bool
is_head (Some (Line.Method head stack locals)) = true
is_head _ = false

-- the first line, of those left, that is wrong in its method, whose lines and place are given
abbrev pub mislabelled : List Numbered → ℕ → List Numbered → Option ℕ
mislabelled body pc [] = None
mislabelled body pc (line ∷ lines) =
    if is_right body pc line.line
    then (if is_head line.line then mislabelled lines 0 lines else mislabelled body (place_behind pc line.line) lines)
    else Some line.number
