-- The text of values, events and endings. Each event is a line of its own, and the ending the last one.
use Rattle.std.specs.Prelude.{ℕ, zero, suc, ◌/◌, ◌%◌, ◌==◌, ◌||◌, if◌then◌else◌, nat_lt, List, [], ◌∷◌, ◌++◌, codes, map, Option, Some, None, pos}
use Rattle.std.specs.List.{flat_map}
use Rattle.opcode_table.specs.Table.{mnemonic_of}
use Rattle.class_heads.specs.Hierarchy.{before_semicolon}
use Rattle.class_machine.specs.declared.kinds.Element.{Element}
use Rattle.class_machine.specs.Numbers.{digit, decimal}
use Rattle.class_machine.specs.Descriptors.{element_of}
use Rattle.class_machine.specs.Classes.{dotted, member_text}
use Rattle.class_machine.specs.Events.{Shown, Event, Print, Native, Ending, Returned, Uncaught, InitFailed, Exit, Unmodelled, Unresolved, ScriptEnds, Broken}
use Rattle.class_machine.specs.Events as events

-- so many lower hexadecimal digits
abbrev pub fixed_digits : ℕ → ℕ → List ℕ
fixed_digits zero n = []
fixed_digits (suc count) n = fixed_digits count (n / 16) ++ digit (n % 16) ∷ []

-- a unit within quotes
abbrev pub quoted_unit : ℕ → List ℕ
quoted_unit u =
    if u == 34 || u == 92 then 92 ∷ u ∷ []
    else (if u == 10 then codes "\\n"
    else (if nat_lt u 32 || nat_lt 126 u then codes "\\u" ++ fixed_digits 4 u else u ∷ []))

-- a text in double quotes
abbrev pub quoted : List ℕ → List ℕ
quoted units = 34 ∷ flat_map quoted_unit units ++ 34 ∷ []

-- a type as an array's text names it
abbrev pub primitive_name : Element → List ℕ
primitive_name Element.Boolean = codes "boolean"
primitive_name Element.Byte = codes "byte"
primitive_name Element.Char = codes "char"
primitive_name Element.Short = codes "short"
primitive_name Element.Int = codes "int"
primitive_name Element.Long = codes "long"
primitive_name Element.Float = codes "float"
primitive_name Element.Double = codes "double"
primitive_name Element.Reference = []

abbrev pub type_name : List ℕ → List ℕ
type_name [] = []
type_name (b ∷ bytes) =
    if b == 91 then type_name bytes ++ codes "[]"
    else (if b == 76 then dotted (before_semicolon bytes) else primitive_name (element_of (b ∷ bytes)))

abbrev pub numbered_name : List ℕ → ℕ → List ℕ
numbered_name name k = name ++ 35 ∷ decimal (pos k)

abbrev pub value_text : Shown → List ℕ
value_text (events.Int n) = decimal n
value_text (events.Long n) = decimal n ++ 76 ∷ []
value_text (events.Float bits) = codes "float:" ++ fixed_digits 8 bits
value_text (events.Double bits) = codes "double:" ++ fixed_digits 16 bits
value_text events.Null = codes "null"
value_text (events.Text units) = quoted units
value_text (events.ClassObject class) = codes "class " ++ dotted class
value_text (events.Object class k) = numbered_name (dotted class) k
value_text (events.Array type k) = numbered_name (type_name type) k

-- values separated by a comma and a blank
abbrev pub separated : List (List ℕ) → List ℕ
separated [] = []
separated (text ∷ []) = text
separated (text ∷ next ∷ texts) = text ++ codes ", " ++ separated (next ∷ texts)

abbrev pub event_text : Event → List ℕ
event_text (Print text) = codes "print " ++ quoted text
event_text (Native method values) = codes "native " ++ member_text method ++ codes "(" ++ separated (map value_text values) ++ codes ")"

abbrev pub result_text : Option Shown → List ℕ
result_text None = codes "void"
result_text (Some v) = value_text v

abbrev pub message_text : Option (List ℕ) → List ℕ
message_text None = codes "null"
message_text (Some units) = quoted units

abbrev pub ending_text : Ending → List ℕ
ending_text (Returned result) = codes "returned " ++ result_text result
ending_text (Uncaught class message) = codes "uncaught " ++ dotted class ++ codes " " ++ message_text message
ending_text (InitFailed class) = codes "init-failed " ++ dotted class
ending_text (Exit status) = codes "exit " ++ decimal status
ending_text (Unmodelled op) = codes "unmodelled " ++ mnemonic_of op
ending_text (Unresolved name) = codes "unresolved " ++ name
ending_text ScriptEnds = codes "script-ends"
ending_text Broken = codes "broken"
