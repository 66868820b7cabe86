-- The bytes of an instruction (JVMS 6.4), with the index of its pool entry and the places of its labels.
use Rattle.std.specs.Prelude.{ℕ, ◌+◌, ◌==◌, min, Bool, true, false, ◌||◌, if◌then◌else◌, nat_lt, List, [], ◌∷◌, ◌++◌, length, take, drop, ℤ, pos, ◌+ℤ◌, ◌-ℤ◌}
use Rattle.std.specs.List.{flat_map}
use Rattle.opcode_table.specs.Table.{form_of}
use Rattle.opcode_table.specs.Spelling.{u2_bytes, s1_bytes, s2_bytes, s4_bytes, local_bytes, increment_bytes}
use Rattle.class_lines.specs.declared.line.Operation.{Operation}
use Rattle.class_lines.specs.declared.line.Case.{Case}
use Rattle.class_lines.specs.Words.{Text}
use Rattle.class_lines.specs.Lines.{is_integer}
use Rattle.class_text.specs.declared.numbered.Numbered.{Numbered}
use Rattle.class_text.specs.declared.slots.Scan.{Scan}
use Rattle.class_text.specs.Labels.{padding, is_wide_increment, is_wide_form, place_of, distance}

-- ---- slots

-- Where a byte of a descriptor stands (JVMS 4.3.3): where a type may begin, behind the brackets of an array type, or inside the name of a class.
abbrev pub scan_after : Scan → ℕ → Scan
scan_after Scan.Name b = if b == 59 then Scan.Type else Scan.Name
scan_after Scan.Array b = if b == 91 then Scan.Array else (if b == 76 then Scan.Name else Scan.Type)
scan_after Scan.Type b = if b == 91 then Scan.Array else (if b == 76 then Scan.Name else Scan.Type)

-- a long or a double, J or D, takes two slots, each other type one
abbrev pub slots_of : Scan → ℕ → ℕ
slots_of Scan.Type b = if b == 74 || b == 68 then 2 else 1
slots_of _ b = 0

abbrev pub is_last : Scan → ℕ → Bool
is_last Scan.Type b = b == 41
is_last _ b = false

-- the slots of the parameters from a byte on, up to the bracket behind them
abbrev pub slots : Scan → List ℕ → ℕ
slots scan [] = 0
slots scan (b ∷ bytes) = if is_last scan b then 0 else slots_of scan b + slots (scan_after scan b) bytes

-- those of the receiver and the parameters of a descriptor
abbrev pub argument_slots : Text → ℕ
argument_slots descriptor = 1 + slots Scan.Type (drop 1 descriptor)

-- ---- instructions

-- a number that fits, which each one does where the lines are right
abbrev pub fitting : ℕ → ℤ → ℤ
fitting most n = if is_integer most n then n else pos 0

abbrev pub place_bytes : List Numbered → ℕ → Text → List ℕ
place_bytes body pc name = s4_bytes (fitting 2147483647 (distance pc (place_of name 0 body)))

abbrev pub branch_bytes : List Numbered → ℕ → Text → Bool → List ℕ
branch_bytes body pc name true = place_bytes body pc name
branch_bytes body pc name false = s2_bytes (fitting 32767 (distance pc (place_of name 0 body)))

abbrev pub local_operation : ℕ → ℕ → List ℕ
local_operation op index = local_bytes op index (nat_lt 255 index)

abbrev pub increment_operation : ℕ → ℤ → List ℕ
increment_operation index by = increment_bytes index by (is_wide_increment index by)

-- 18, `ldc`, has an index of one byte
abbrev pub constant_bytes : ℕ → ℕ → List ℕ
constant_bytes op index = if op == 18 then op ∷ min index 255 ∷ [] else op ∷ u2_bytes index

-- 185 calls an interface's method, and counts the slots of the arguments in a byte
abbrev pub count_bytes : ℕ → Text → List ℕ
count_bytes op descriptor = if op == 185 then min (argument_slots descriptor) 255 ∷ 0 ∷ [] else []

abbrev pub member_bytes : ℕ → ℕ → Text → List ℕ
member_bytes op index descriptor = op ∷ u2_bytes index ++ count_bytes op descriptor

-- those between a switch's opcode and its table
abbrev pub zeros : ℕ → List ℕ
zeros pc = take (padding pc) (0 ∷ 0 ∷ 0 ∷ [])

-- a switch's opcode, padding and default
abbrev pub switch_bytes : List Numbered → ℕ → ℕ → Text → List ℕ
switch_bytes body pc op default = op ∷ zeros pc ++ place_bytes body pc default

-- the lowest and the highest key, and each one's distance
unfoldable pub table_bytes : List Numbered → ℕ → ℤ → List Text → List ℕ
table_bytes body pc low labels =
    s4_bytes low ++ (s4_bytes (fitting 2147483647 (low +ℤ pos (length labels) -ℤ pos 1)) ++ flat_map (place_bytes body pc) labels)

abbrev pub case_bytes : List Numbered → ℕ → Case → List ℕ
case_bytes body pc c = s4_bytes c.key ++ place_bytes body pc c.label

-- how many keys there are, and each with its distance
abbrev pub cases_bytes : List Numbered → ℕ → List Case → List ℕ
cases_bytes body pc cases = s4_bytes (fitting 2147483647 (pos (length cases))) ++ flat_map (case_bytes body pc) cases

abbrev pub operation_bytes : List Numbered → ℕ → ℕ → Operation → List ℕ
operation_bytes body pc index (Operation.Plain op) = op ∷ []
operation_bytes body pc index (Operation.Bipush value) = 16 ∷ s1_bytes value
operation_bytes body pc index (Operation.Sipush value) = 17 ∷ s2_bytes value
operation_bytes body pc index (Operation.Local op local) = local_operation op local
operation_bytes body pc index (Operation.Iinc local by) = increment_operation local by
operation_bytes body pc index (Operation.Constant op constant) = constant_bytes op index
operation_bytes body pc index (Operation.Long n) = 20 ∷ u2_bytes index
operation_bytes body pc index (Operation.Double bits) = 20 ∷ u2_bytes index
operation_bytes body pc index (Operation.Member op class name descriptor) = member_bytes op index descriptor
operation_bytes body pc index (Operation.Class op class) = op ∷ u2_bytes index
operation_bytes body pc index (Operation.NewArray code) = 188 ∷ code ∷ []
operation_bytes body pc index (Operation.Multi class dims) = 197 ∷ u2_bytes index ++ dims ∷ []
operation_bytes body pc index (Operation.Branch op to) = op ∷ branch_bytes body pc to (is_wide_form (form_of op))
operation_bytes body pc index (Operation.TableSwitch low labels default) = switch_bytes body pc 170 default ++ table_bytes body pc low labels
operation_bytes body pc index (Operation.LookupSwitch cases default) = switch_bytes body pc 171 default ++ cases_bytes body pc cases
