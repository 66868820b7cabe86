-- What stands at a place in a method's code: an instruction and how many bytes it has, or why there is none (the Java Virtual Machine Specification, second edition, 6.4; what a class file may not have is 4.8.1).
use Rattle.std.specs.Prelude.{ℕ, ◌+◌, ◌-◌, ◌*◌, ◌/◌, Bool, true, false, not, ◌&&◌, zero, suc, if◌then◌else◌, List, [], ◌∷◌, length, take, drop, Option, Some, None, Result, Ok, Err, nat_lt, ℤ, pos, ◌-ℤ◌, int_lt, unsigned_abs}
use Rattle.std.specs.Int.{w8, w16, w32, from_be_bytes, cast_signed}
use Rattle.opcode_table.specs.declared.insn.Insn.{Insn}
use Rattle.opcode_table.specs.declared.form.Form.{Form}
use Rattle.opcode_table.specs.declared.fault.CodeFault.{CodeFault}
use Rattle.opcode_table.specs.declared.fault.CodeFault.TheVariants.{Opcode, Cut, Wide, Switch}
use Rattle.opcode_table.specs.Table.{form_of}

-- an instruction and its length in bytes, or a fault
abbrev pub Decoded : Type 0
Decoded = Result (Insn × ℕ) CodeFault

-- Numbers of several bytes have the highest first (4).
abbrev pub u2 : ℕ → ℕ → ℕ
u2 a b = from_be_bytes w16 (a ∷ b ∷ [])

abbrev pub s1 : ℕ → ℤ
s1 a = cast_signed w8 a

abbrev pub s2 : ℕ → ℕ → ℤ
s2 a b = cast_signed w16 (u2 a b)

abbrev pub s4 : ℕ → ℕ → ℕ → ℕ → ℤ
s4 a b c d = cast_signed w32 (from_be_bytes w32 (a ∷ b ∷ c ∷ d ∷ []))

-- ---- operands of one to four bytes, behind `used` bytes of the instruction at pc

abbrev pub one_byte : ℕ → ℕ → List ℕ → (ℕ → Insn) → Decoded
one_byte pc used (a ∷ rest) made = Ok (made a, used + 1)
one_byte pc used [] made = Err (Cut pc)

abbrev pub two_bytes : ℕ → ℕ → List ℕ → (ℕ → ℕ → Insn) → Decoded
two_bytes pc used (a ∷ b ∷ rest) made = Ok (made a b, used + 2)
two_bytes pc used _ made = Err (Cut pc)

abbrev pub three_bytes : ℕ → ℕ → List ℕ → (ℕ → ℕ → ℕ → Insn) → Decoded
three_bytes pc used (a ∷ b ∷ c ∷ rest) made = Ok (made a b c, used + 3)
three_bytes pc used _ made = Err (Cut pc)

abbrev pub four_bytes : ℕ → ℕ → List ℕ → (ℕ → ℕ → ℕ → ℕ → Insn) → Decoded
four_bytes pc used (a ∷ b ∷ c ∷ d ∷ rest) made = Ok (made a b c d, used + 4)
four_bytes pc used _ made = Err (Cut pc)

-- ---- switches

-- The table of a switch at pc begins at the next multiple of four: zero to three bytes of padding stand before it, of any value.
abbrev pub table_place : ℕ → ℕ
table_place pc = (pc / 4 + 1) * 4

-- the four bytes at a place, as a signed number
abbrev pub word_at : List ℕ → ℕ → ℤ
word_at code place = cast_signed w32 (from_be_bytes w32 (take 4 (drop place code)))

-- A tableswitch's table: the default's offset, the low and the high number, and an offset for each number from low to high.
abbrev pub table_low : List ℕ → ℕ → ℤ
table_low code table = word_at code (table + 4)

abbrev pub table_high : List ℕ → ℕ → ℤ
table_high code table = word_at code (table + 8)

-- how many offsets it has, where high isn't below low
abbrev pub table_count : List ℕ → ℕ → ℕ
table_count code table = unsigned_abs (table_high code table -ℤ table_low code table) + 1

abbrev pub table_offset : List ℕ → ℕ → ℕ → ℤ
table_offset code table i = word_at code (table + 12 + 4 * i)

abbrev pub table_length : List ℕ → ℕ → ℕ
table_length code table = 12 + 4 * table_count code table

-- A lookupswitch's table: the default's offset, the number of pairs, and the pairs, a key and an offset each.
abbrev pub pair_number : List ℕ → ℕ → ℤ
pair_number code table = word_at code (table + 4)

abbrev pub pair_count : List ℕ → ℕ → ℕ
pair_count code table = unsigned_abs (pair_number code table)

abbrev pub pair_key : List ℕ → ℕ → ℕ → ℤ
pair_key code table i = word_at code (table + 8 + 8 * i)

abbrev pub pair_offset : List ℕ → ℕ → ℕ → ℤ
pair_offset code table i = word_at code (table + 12 + 8 * i)

abbrev pub lookup_length : List ℕ → ℕ → ℕ
lookup_length code table = 8 + 8 * pair_count code table

-- the offset of the default, first in both
abbrev pub switch_default : List ℕ → ℕ → ℤ
switch_default code table = word_at code table

-- the test holds of each number below n
abbrev pub each_below : ℕ → (ℕ → Bool) → Bool
each_below zero test = true
each_below (suc n) test = each_below n test && test n

-- key i is below the next
abbrev pub ascends_at : List ℕ → ℕ → ℕ → Bool
ascends_at code table i = int_lt (pair_key code table i) (pair_key code table (i + 1))

-- each key but the last is below the next
abbrev pub keys_ascend : List ℕ → ℕ → Bool
keys_ascend code table = each_below (pair_count code table - 1) (λ i. ascends_at code table i)

-- `size` bytes stand from the place on
abbrev pub reaches : List ℕ → ℕ → ℕ → Bool
reaches code place size = not (nat_lt (length code) (place + size))

abbrev pub table_switch : List ℕ → ℕ → ℕ → Decoded
table_switch code pc table =
    if not (reaches code table 12) then Err (Cut pc) else
    (if int_lt (table_high code table) (table_low code table) then Err (Switch pc) else
    (if not (reaches code table (table_length code table)) then Err (Cut pc) else
    Ok (Insn.TableSwitch table, table + table_length code table - pc)))

abbrev pub lookup_switch : List ℕ → ℕ → ℕ → Decoded
lookup_switch code pc table =
    if not (reaches code table 8) then Err (Cut pc) else
    (if int_lt (pair_number code table) (pos 0) then Err (Switch pc) else
    (if not (reaches code table (lookup_length code table)) then Err (Cut pc) else
    (if keys_ascend code table then Ok (Insn.LookupSwitch table, table + lookup_length code table - pc) else Err (Switch pc))))

-- ---- each form

-- behind `wide`, an opcode of the form and the bytes behind it
abbrev pub widened : ℕ → ℕ → Option Form → List ℕ → Decoded
widened pc op (Some Form.Local) bytes = two_bytes pc 2 bytes (λ a b. Insn.Local op (u2 a b) true)
widened pc op (Some Form.Increment) bytes = four_bytes pc 2 bytes (λ a b c d. Insn.Iinc (u2 a b) (s2 c d) true)
widened pc op _ bytes = Err (Wide pc)

abbrev pub after_wide : ℕ → List ℕ → Decoded
after_wide pc [] = Err (Cut pc)
after_wide pc (op ∷ bytes) = widened pc op (form_of op) bytes

-- the bytes behind an opcode of the form
abbrev pub operands : List ℕ → ℕ → ℕ → Form → List ℕ → Decoded
operands code pc op Form.Plain bytes = Ok (Insn.Plain op, 1)
operands code pc op Form.Byte bytes = one_byte pc 1 bytes (λ a. Insn.Bipush (s1 a))
operands code pc op Form.Short bytes = two_bytes pc 1 bytes (λ a b. Insn.Sipush (s2 a b))
operands code pc op Form.Local bytes = one_byte pc 1 bytes (λ a. Insn.Local op a false)
operands code pc op Form.Increment bytes = two_bytes pc 1 bytes (λ a b. Insn.Iinc a (s1 b) false)
operands code pc op Form.NarrowPool bytes = one_byte pc 1 bytes (λ a. Insn.Pool op a)
operands code pc op Form.Pool bytes = two_bytes pc 1 bytes (λ a b. Insn.Pool op (u2 a b))
operands code pc op Form.Interface bytes = four_bytes pc 1 bytes (λ a b c d. Insn.Interface (u2 a b) c d)
operands code pc op Form.ArrayCode bytes = one_byte pc 1 bytes (λ a. Insn.NewArray a)
operands code pc op Form.Dimensions bytes = three_bytes pc 1 bytes (λ a b c. Insn.Multi (u2 a b) c)
operands code pc op Form.Branch bytes = two_bytes pc 1 bytes (λ a b. Insn.Branch op (s2 a b))
operands code pc op Form.WideBranch bytes = four_bytes pc 1 bytes (λ a b c d. Insn.Branch op (s4 a b c d))
operands code pc op Form.TableSwitch bytes = table_switch code pc (table_place pc)
operands code pc op Form.LookupSwitch bytes = lookup_switch code pc (table_place pc)
operands code pc op Form.Wide bytes = after_wide pc bytes

abbrev pub by_form : List ℕ → ℕ → ℕ → Option Form → List ℕ → Decoded
by_form code pc op None bytes = Err (Opcode pc op)
by_form code pc op (Some form) bytes = operands code pc op form bytes

-- the bytes of the code from pc on
abbrev pub instruction : List ℕ → ℕ → List ℕ → Decoded
instruction code pc [] = Err (Cut pc)
instruction code pc (op ∷ bytes) = by_form code pc op (form_of op) bytes

-- what stands at pc
unfoldable pub decoded : List ℕ → ℕ → Decoded
decoded code pc = instruction code pc (drop pc code)
