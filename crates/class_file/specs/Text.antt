-- Texts of modified UTF-8, names and descriptors, as tests (JVMS 4.2, 4.3, 4.4.7).
use Rattle.std.specs.Prelude.{ℕ, zero, suc, ◌+◌, ◌==◌, Bool, true, false, not, ◌&&◌, ◌||◌, if◌then◌else◌, List, [], ◌∷◌, length, take, drop, Option, Some, None, Result, Ok, Err, nat_lt, nat_le, position, take_while}
use Rattle.std.specs.List.{list_all}
use Rattle.class_file.specs.declared.text.Expected.{Expected}
use Rattle.class_file.specs.declared.text.Pairing.{Pairing}

-- low ≤ b < high
abbrev pub within : ℕ → ℕ → ℕ → Bool
within low high b = nat_le low b && nat_lt b high

-- ---- modified UTF-8: one byte for U+0001 to U+007F, two for U+0000 and up to U+07FF, else three

abbrev pub begun : ℕ → Expected
begun b =
    if within 1 0x80 b then Expected.Unit else
    (if b == 0xC0 then Expected.Zero else
    (if within 0xC2 0xE0 b then Expected.Last else
    (if b == 0xE0 then Expected.Second else
    (if within 0xE1 0xF0 b then Expected.Two else Expected.Nothing))))

abbrev pub expected_after : Expected → ℕ → Expected
expected_after Expected.Unit b = begun b
expected_after Expected.Last b = if within 0x80 0xC0 b then Expected.Unit else Expected.Nothing
expected_after Expected.Zero b = if b == 0x80 then Expected.Unit else Expected.Nothing
expected_after Expected.Second b = if within 0xA0 0xC0 b then Expected.Last else Expected.Nothing
expected_after Expected.Two b = if within 0x80 0xC0 b then Expected.Last else Expected.Nothing
expected_after Expected.Nothing b = Expected.Nothing

abbrev pub is_unit : Expected → Bool
is_unit Expected.Unit = true
is_unit _ = false

abbrev pub utf8_from : Expected → List ℕ → Bool
utf8_from expected [] = is_unit expected
utf8_from expected (b ∷ bytes) = utf8_from (expected_after expected b) bytes

-- the bytes are modified UTF-8; a surrogate may stand alone
abbrev pub is_utf8 : List ℕ → Bool
is_utf8 bytes = utf8_from Expected.Unit bytes

-- ---- names

abbrev pub pairing_after : Pairing → ℕ → Pairing
pairing_after Pairing.Outside b = if b == 0xED then Pairing.First else Pairing.Outside
pairing_after Pairing.First b = if nat_lt b 0xA0 then Pairing.Outside else (if nat_lt b 0xB0 then Pairing.High else Pairing.Lone)
pairing_after Pairing.High b = Pairing.Between
pairing_after Pairing.Between b = if b == 0xED then Pairing.Low else Pairing.Lone
pairing_after Pairing.Low b = if nat_lt b 0xB0 then Pairing.Lone else Pairing.Outside
pairing_after Pairing.Lone b = Pairing.Lone

abbrev pub is_outside : Pairing → Bool
is_outside Pairing.Outside = true
is_outside _ = false

abbrev pub paired_from : Pairing → List ℕ → Bool
paired_from pairing [] = is_outside pairing
paired_from pairing (b ∷ bytes) = paired_from (pairing_after pairing b) bytes

-- each surrogate of the text is one of a pair, the high one first
abbrev pub is_paired : List ℕ → Bool
is_paired bytes = paired_from Pairing.Outside bytes

-- a byte of a name: none of . ; [ and none of U+0000, which begins with C0
abbrev pub is_name_byte : ℕ → Bool
is_name_byte b = not (b == 46) && (not (b == 59) && (not (b == 91) && not (b == 0xC0)))

abbrev pub is_name_text : List ℕ → Bool
is_name_text bytes = is_utf8 bytes && (is_paired bytes && list_all is_name_byte bytes)

-- each part between two / has a byte; `fresh` where the part at hand has none yet
abbrev pub has_parts : Bool → List ℕ → Bool
has_parts fresh [] = not fresh
has_parts fresh (b ∷ bytes) = if b == 47 then not fresh && has_parts true bytes else has_parts false bytes

-- the name of a class, its parts joined by / (JVMS 4.2)
abbrev pub is_class_name : List ℕ → Bool
is_class_name bytes = is_name_text bytes && has_parts true bytes

abbrev pub is_not_slash : ℕ → Bool
is_not_slash b = not (b == 47)

-- the name of a field or a method: one part
abbrev pub is_member_name : List ℕ → Bool
is_member_name bytes = is_class_name bytes && list_all is_not_slash bytes

-- ---- descriptors

-- how many slots the type at the front takes, and the bytes behind it
abbrev pub Typed : Type 0
Typed = ℕ × List ℕ

abbrev pub up_to : List ℕ → Option ℕ → Option Typed
up_to bytes None = None
up_to bytes (Some end) = if is_class_name (take end bytes) then Some (1, drop (end + 1) bytes) else None

-- behind an L: the name of a class, up to the first ;
abbrev pub class_type : List ℕ → Option Typed
class_type bytes = up_to bytes (position (λ b. b == 59) bytes)

-- J and D are long and double
abbrev pub is_wide_letter : ℕ → Bool
is_wide_letter b = b == 74 || b == 68

-- B, C, F, I, S and Z are byte, char, float, int, short and boolean
abbrev pub is_narrow_letter : ℕ → Bool
is_narrow_letter b = b == 66 || (b == 67 || (b == 70 || (b == 73 || (b == 83 || b == 90))))

abbrev pub base_type : List ℕ → Option Typed
base_type [] = None
base_type (b ∷ bytes) =
    if b == 76 then class_type bytes else
    (if is_wide_letter b then Some (2, bytes) else
    (if is_narrow_letter b then Some (1, bytes) else None))

abbrev pub as_array : Option Typed → Option Typed
as_array None = None
as_array (Some type) = Some (1, type.1)

-- an array has at most 255 dimensions, a [ for each
abbrev pub with_dimensions : ℕ → List ℕ → Option Typed
with_dimensions zero bytes = base_type bytes
with_dimensions (suc n) bytes = if nat_lt n 255 then as_array (base_type (drop (suc n) bytes)) else None

-- how many [ stand at the front
abbrev pub dimensions : List ℕ → ℕ
dimensions bytes = length (take_while (λ b. b == 91) bytes)

abbrev pub field_type : List ℕ → Option Typed
field_type bytes = with_dimensions (dimensions bytes) bytes

abbrev pub is_ended : Option Typed → Bool
is_ended (Some (slots, [])) = true
is_ended _ = false

-- the descriptor of a field (JVMS 4.3.2)
abbrev pub is_field_descriptor : List ℕ → Bool
is_field_descriptor bytes = is_ended (field_type bytes)

abbrev pub is_array_descriptor : List ℕ → Bool
is_array_descriptor bytes = nat_lt 0 (dimensions bytes) && is_field_descriptor bytes

-- the descriptor of a result: V or that of a field
abbrev pub is_result : List ℕ → Bool
is_result [] = false
is_result (b ∷ []) = b == 86 || is_field_descriptor (b ∷ [])
is_result bytes = is_field_descriptor bytes

-- the slots up to here, and the bytes behind the parameter, or whether the rest ended a descriptor
abbrev pub further : ℕ → Option Typed → Result Typed Bool
further slots None = Err false
further slots (Some type) = if nat_le (slots + type.0) 255 then Ok (slots + type.0, type.1) else Err false

abbrev pub parameter : ℕ → List ℕ → Result Typed Bool
parameter slots [] = Err false
parameter slots (b ∷ bytes) = if b == 41 then Err (is_result bytes) else further slots (field_type (b ∷ bytes))

abbrev pub go_on : (ℕ → List ℕ → Bool) → Result Typed Bool → Bool
go_on next (Ok type) = next type.0 type.1
go_on next (Err answer) = answer

-- the parameters, which take at most 255 slots with those before, and the result; there are fewer than turns
abbrev pub parameters : ℕ → ℕ → List ℕ → Bool
parameters zero slots bytes = false
parameters (suc turns) slots bytes = go_on (parameters turns) (parameter slots bytes)

-- the descriptor of a method (JVMS 4.3.3), whose parameters take at most 255 slots with those before
abbrev pub is_method_descriptor_with : ℕ → List ℕ → Bool
is_method_descriptor_with slots [] = false
is_method_descriptor_with slots (b ∷ bytes) = b == 40 && parameters (length bytes) slots bytes

abbrev pub is_method_descriptor : List ℕ → Bool
is_method_descriptor bytes = is_method_descriptor_with 0 bytes

-- what a Class entry may name: a class or an array type (JVMS 4.4.1)
abbrev pub is_internal_name : List ℕ → Bool
is_internal_name bytes = is_class_name bytes || is_array_descriptor bytes
