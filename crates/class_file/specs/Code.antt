-- The instructions of a method's code, where they lead, and the first place where code is wrong (JVMS
-- 4.7.3, 4.8.1).
use Rattle.std.specs.Prelude.{ℕ, zero, suc, ◌+◌, ◌==◌, Bool, true, false, not, ◌&&◌, ◌||◌, if◌then◌else◌, List, [], ◌∷◌, ◌++◌, length, map, Option, Some, None, Result, Ok, Err, nat_lt, nat_le, ℤ, pos, negsuc, ◌+ℤ◌}
use Rattle.std.specs.List.{list_all, list_any}
use Rattle.opcode_table.specs.declared.insn.Insn.{Insn}
use Rattle.opcode_table.specs.declared.fault.CodeFault.{CodeFault}
use Rattle.opcode_table.specs.declared.fault.CodeFault.TheVariants.{Opcode, Cut, Wide, Switch}
use Rattle.opcode_table.specs.Decoding.{Decoded, decoded, switch_default, table_count, table_offset, pair_count, pair_offset}
use Rattle.class_file.specs.declared.pool.PoolEntry.{PoolEntry}
use Rattle.class_file.specs.declared.pool.PoolEntry.TheVariants as entry
use Rattle.class_file.specs.declared.types.CodeAttr.{CodeAttr}
use Rattle.class_file.specs.declared.types.ExceptionEntry.{ExceptionEntry}
use Rattle.class_file.specs.Text.{within, dimensions}
use Rattle.class_file.specs.Pool.{entry_at, class_at}
use Rattle.class_file.specs.Sound.{is_some_that}

-- ---- the instructions

-- an instruction at its place
pub record Placed : Type 0 where
  pub pc : ℕ
  pub insn : Insn

abbrev pub in_front : Placed → Result (List Placed) CodeFault → Result (List Placed) CodeFault
in_front first (Ok others) = Ok (first ∷ others)
in_front first (Err fault) = Err fault

abbrev pub placed : ℕ → (ℕ → Result (List Placed) CodeFault) → Decoded → Result (List Placed) CodeFault
placed pc next (Ok (insn, size)) = in_front (record { pc = pc; insn = insn }) (next (pc + size))
placed pc next (Err fault) = Err fault

-- The instructions from pc on, each where the one before ends, or why at the first place that has none
-- there is none. There are at most as many as turns.
abbrev pub instructions_from : List ℕ → ℕ → ℕ → Result (List Placed) CodeFault
instructions_from code zero pc = Ok []
instructions_from code (suc turns) pc = if pc == length code then Ok [] else placed pc (instructions_from code turns) (decoded code pc)

-- the instructions of the code, in order
abbrev pub instructions : List ℕ → Result (List Placed) CodeFault
instructions code = instructions_from code (length code) 0

-- f of 0 up to below n
abbrev pub numbered : {X : Type 0} → ℕ → (ℕ → X) → List X
numbered zero f = []
numbered (suc n) f = numbered n f ++ f n ∷ []

-- the distances from an instruction to where it may lead, but for the next one: of a switch the default first
abbrev pub offsets : List ℕ → Insn → List ℤ
offsets code (Insn.Branch op offset) = offset ∷ []
offsets code (Insn.TableSwitch table) = switch_default code table ∷ numbered (table_count code table) (table_offset code table)
offsets code (Insn.LookupSwitch table) = switch_default code table ∷ numbered (pair_count code table) (pair_offset code table)
offsets code _ = []

-- an instruction stands at the place
abbrev pub is_start : List Placed → ℕ → Bool
is_start insns pc = list_any (λ p. p.pc == pc) insns

abbrev pub is_start_at : List Placed → ℤ → Bool
is_start_at insns (pos pc) = is_start insns pc
is_start_at insns (negsuc n) = false

-- each place where the instruction leads has an instruction
abbrev pub leads_well : List ℕ → List Placed → Placed → Bool
leads_well code insns p = list_all (λ offset. is_start_at insns (pos p.pc +ℤ offset)) (offsets code p.insn)

-- ---- operands

-- what ldc and ldc_w take: a class from Java 5 on
abbrev pub is_narrow_constant : ℕ → PoolEntry → Bool
is_narrow_constant major (entry.Integer n) = true
is_narrow_constant major (entry.Float bits) = true
is_narrow_constant major (entry.String text) = true
is_narrow_constant major (entry.Class name) = nat_le 49 major
is_narrow_constant major _ = false

-- what ldc2_w takes
abbrev pub is_wide_constant : PoolEntry → Bool
is_wide_constant (entry.Long n) = true
is_wide_constant (entry.Double bits) = true
is_wide_constant _ = false

abbrev pub is_field_entry : PoolEntry → Bool
is_field_entry (entry.Fieldref class member) = true
is_field_entry _ = false

abbrev pub is_method_entry : PoolEntry → Bool
is_method_entry (entry.Methodref class member) = true
is_method_entry _ = false

abbrev pub is_interface_entry : PoolEntry → Bool
is_interface_entry (entry.InterfaceMethodref class member) = true
is_interface_entry _ = false

abbrev pub is_class_entry : PoolEntry → Bool
is_class_entry (entry.Class name) = true
is_class_entry _ = false

-- the array type of elements of this class has at most 255 dimensions
abbrev pub is_element_name : List ℕ → Bool
is_element_name name = nat_lt (dimensions name) 255

-- at least one dimension is made, and at most those of the class
abbrev pub has_dimensions : ℕ → List ℕ → Bool
has_dimensions dims name = nat_lt 0 dims && nat_le dims (dimensions name)

-- 18 and 19 are ldc and ldc_w, 20 is ldc2_w, 178 to 181 get and put fields, 182 to 184 are
-- invokevirtual, invokespecial and invokestatic, 189 is anewarray, and 187, 192 and 193 are new,
-- checkcast and instanceof
abbrev pub is_pool_operand : ℕ → List PoolEntry → ℕ → ℕ → Bool
is_pool_operand major pool op index =
    if within 18 20 op then is_some_that (is_narrow_constant major) (entry_at pool index) else
    (if op == 20 then is_some_that is_wide_constant (entry_at pool index) else
    (if within 178 182 op then is_some_that is_field_entry (entry_at pool index) else
    (if within 182 185 op then is_some_that is_method_entry (entry_at pool index) else
    (if op == 189 then is_some_that is_element_name (class_at pool index) else
    is_some_that is_class_entry (entry_at pool index)))))

-- the operand of the instruction is of the kind that it takes
abbrev pub has_operand : ℕ → List PoolEntry → Insn → Bool
has_operand major pool (Insn.Pool op index) = is_pool_operand major pool op index
has_operand major pool (Insn.Interface index count last) = is_some_that is_interface_entry (entry_at pool index)
has_operand major pool (Insn.NewArray code) = within 4 12 code
has_operand major pool (Insn.Multi index dims) = is_some_that (has_dimensions dims) (class_at pool index)
has_operand major pool _ = true

-- ---- the first place that is wrong

abbrev pub place_of : CodeFault → ℕ
place_of (Opcode pc byte) = pc
place_of (Cut pc) = pc
place_of (Wide pc) = pc
place_of (Switch pc) = pc

abbrev pub or_else : Option ℕ → Option ℕ → Option ℕ
or_else (Some n) other = Some n
or_else None other = other

-- the place of the first instruction that fails the test
abbrev pub first_failing : (Placed → Bool) → List Placed → Option ℕ
first_failing test [] = None
first_failing test (p ∷ insns) = if test p then first_failing test insns else Some p.pc

abbrev pub unless : Bool → ℕ → Option ℕ
unless true pc = None
unless false pc = Some pc

-- the first of start, end and handler at which no instruction stands; the end may be that of the code
abbrev pub stray_in : List ℕ → List Placed → ExceptionEntry → Option ℕ
stray_in code insns e =
    or_else (unless (is_start insns e.start) e.start)
    (or_else (unless (is_start insns e.end || e.end == length code) e.end)
    (unless (is_start insns e.handler) e.handler))

abbrev pub first_stray : List ℕ → List Placed → List ExceptionEntry → Option ℕ
first_stray code insns [] = None
first_stray code insns (e ∷ entries) = or_else (stray_in code insns e) (first_stray code insns entries)

-- first the operands, then where branches lead, then the exception table
abbrev pub fault_among : ℕ → List PoolEntry → CodeAttr → Result (List Placed) CodeFault → Option ℕ
fault_among major pool c (Err fault) = Some (place_of fault)
fault_among major pool c (Ok insns) =
    or_else (first_failing (λ p. has_operand major pool p.insn) insns)
    (or_else (first_failing (leads_well c.code insns) insns)
    (first_stray c.code insns c.entries))

-- some code, of at most 65,535 bytes
abbrev pub is_sized : List ℕ → Bool
is_sized code = within 1 0x10000 (length code)

-- Where the code of a class of this major and pool is wrong: at 0 where it is empty or too long, else
-- at the first place without an instruction, else at the first instruction with a wrong operand, else
-- at the first branch to a place without an instruction, else at such a place of the exception table.
abbrev pub code_fault : ℕ → List PoolEntry → CodeAttr → Option ℕ
code_fault major pool c = if is_sized c.code then fault_among major pool c (instructions c.code) else Some 0
