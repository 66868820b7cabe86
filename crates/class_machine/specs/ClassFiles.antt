-- The code of class files, and the constants of their fields (JVMS 4 and 6). A place is a byte of a method's code.
use Rattle.std.specs.Prelude.{ℕ, ◌+◌, ◌&&◌, Bool, false, if◌then◌else◌, nat_le, nat_lt, ◌==◌, List, [], ◌∷◌, map, slice_get, Option, Some, None, Ok, Err, option_and_then, ℤ, pos, negsuc, ◌+ℤ◌}
use Rattle.std.specs.List.{filter, find, filter_map}
use Rattle.std.specs.Option.{option_map, unwrap_or}
use Rattle.std.specs.Str.{bytes_eq}
use Rattle.opcode_table.specs.declared.insn.Insn.{Insn}
use Rattle.opcode_table.specs.declared.insn.Insn.TheVariants as insn
use Rattle.opcode_table.specs.Decoding.{Decoded, decoded, table_low, table_count, pair_count, pair_key}
use Rattle.class_file.specs.declared.pool.PoolEntry.{PoolEntry}
use Rattle.class_file.specs.declared.pool.PoolEntry.TheVariants as entry
use Rattle.class_file.specs.declared.types.ClassFile.{ClassFile}
use Rattle.class_file.specs.declared.types.Member.{Member}
use Rattle.class_file.specs.declared.types.Attribute.{Attribute}
use Rattle.class_file.specs.declared.types.Content.{Content}
use Rattle.class_file.specs.declared.types.Content.TheVariants as attribute
use Rattle.class_file.specs.declared.types.CodeAttr.{CodeAttr}
use Rattle.class_file.specs.declared.types.ExceptionEntry.{ExceptionEntry}
use Rattle.class_file.specs.Pool.{NamedType, Reference, text_at, class_at, field_at, method_at, entry_at, referred, this_name, member_type}
use Rattle.class_file.specs.Code.{numbered, offsets}
use Rattle.class_machine.specs.declared.kinds.Element.{Element}
use Rattle.class_machine.specs.declared.kinds.Mode.{Mode}
use Rattle.class_machine.specs.declared.meaning.Basic.{Basic}
use Rattle.class_machine.specs.declared.meaning.Meaning.{Meaning}
use Rattle.class_machine.specs.declared.kinds.Constant.TheVariants as constant
use Rattle.class_machine.specs.Values.{Literal, Held, Int, Long, Float, Double, Reference as Pointer}
use Rattle.class_machine.specs.Texts.{units_of}
use Rattle.class_machine.specs.Meanings.{meaning_of}
use Rattle.class_machine.specs.Operations.{Operation, Do, Switch, Refer, ReferClass, FieldAccess, Invoke, New, NewReferenceArray, NewArrays, CheckCast, InstanceOf}
use Rattle.class_machine.specs.Classes.{same_type}
use Rattle.class_machine.specs.Turn.{Entry, Handler, Code}

-- ---- instructions

abbrev pub element_of_code : ℕ → Option Element
element_of_code n = option_and_then (λ x. x) (slice_get (None ∷ None ∷ None ∷ None ∷ Some Element.Boolean ∷ Some Element.Char ∷ Some Element.Float ∷ Some Element.Double ∷ Some Element.Byte ∷ Some Element.Short ∷ Some Element.Int ∷ Some Element.Long ∷ []) n)

abbrev pub basic_of : Meaning → Option Operation
basic_of (Meaning.Basic b) = Some (Do b)
basic_of _ = None

-- with the index of a local
abbrev pub local_of : ℕ → Meaning → Option Operation
local_of n (Meaning.Load k) = Some (Do (Basic.Load k n))
local_of n (Meaning.Store k) = Some (Do (Basic.Store k n))
local_of n Meaning.Ret = Some (Do (Basic.Ret n))
local_of n _ = None

abbrev pub as_interface_method : List PoolEntry → PoolEntry → Option Reference
as_interface_method pool (entry.InterfaceMethodref class member) = referred pool class member
as_interface_method pool _ = None

-- the method of an interface that the index names
abbrev pub interface_method_at : List PoolEntry → ℕ → Option Reference
interface_method_at pool index = option_and_then (as_interface_method pool) (entry_at pool index)

-- the method that an instruction names
abbrev pub invoked : List PoolEntry → ℕ → Mode → Option Reference
invoked pool index Mode.Interface = interface_method_at pool index
invoked pool index _ = method_at pool index

-- what `ldc`, `ldc_w` and `ldc2_w` push
abbrev pub constant_operation : List PoolEntry → PoolEntry → Option Operation
constant_operation pool (entry.Integer n) = Some (Do (Basic.Constant (constant.Int n)))
constant_operation pool (entry.Float bits) = Some (Do (Basic.Constant (constant.Float bits)))
constant_operation pool (entry.Long n) = Some (Do (Basic.Constant (constant.Long n)))
constant_operation pool (entry.Double bits) = Some (Do (Basic.Constant (constant.Double bits)))
constant_operation pool (entry.String text) = option_map (λ bytes. Refer (Literal (units_of bytes))) (text_at pool text)
constant_operation pool (entry.Class name) = option_map ReferClass (text_at pool name)
constant_operation pool _ = None

-- with an index of the constant pool
abbrev pub pool_of : List PoolEntry → ℕ → Meaning → Option Operation
pool_of pool index Meaning.LoadConstant = option_and_then (constant_operation pool) (entry_at pool index)
pool_of pool index (Meaning.Field access) = option_map (FieldAccess access) (field_at pool index)
pool_of pool index (Meaning.Invoke mode) = option_map (Invoke mode) (invoked pool index mode)
pool_of pool index Meaning.New = option_map New (class_at pool index)
pool_of pool index Meaning.NewReferenceArray = option_map NewReferenceArray (class_at pool index)
pool_of pool index Meaning.CheckCast = option_map CheckCast (class_at pool index)
pool_of pool index Meaning.InstanceOf = option_map InstanceOf (class_at pool index)
pool_of pool index _ = None

-- the keys of a switch: every number from low to high, or those of the pairs
abbrev pub table_keys : List ℕ → ℕ → List ℤ
table_keys code table = numbered (table_count code table) (λ i. table_low code table +ℤ pos i)

abbrev pub pair_keys : List ℕ → ℕ → List ℤ
pair_keys code table = numbered (pair_count code table) (pair_key code table)

abbrev pub int_operation : ℤ → Operation
int_operation n = Do (Basic.Constant (constant.Int n))

-- the semantic form of an instruction under a pool and in its code
abbrev pub operation : List PoolEntry → List ℕ → Insn → Option Operation
operation pool code (insn.Plain op) = option_and_then basic_of (meaning_of op)
operation pool code (insn.Bipush n) = Some (int_operation n)
operation pool code (insn.Sipush n) = Some (int_operation n)
operation pool code (insn.Local op index wide) = option_and_then (local_of index) (meaning_of op)
operation pool code (insn.Iinc index by wide) = Some (Do (Basic.Increment index by))
operation pool code (insn.Pool op index) = option_and_then (pool_of pool index) (meaning_of op)
operation pool code (insn.Interface index count last) = option_map (Invoke Mode.Interface) (interface_method_at pool index)
operation pool code (insn.NewArray n) = option_map (λ e. Do (Basic.NewArray e)) (element_of_code n)
operation pool code (insn.Multi index dims) = option_map (λ type. NewArrays type dims) (class_at pool index)
operation pool code (insn.Branch op offset) = option_and_then basic_of (meaning_of op)
operation pool code (insn.TableSwitch table) = Some (Switch (table_keys code table))
operation pool code (insn.LookupSwitch table) = Some (Switch (pair_keys code table))

-- ---- methods

abbrev pub code_in : Attribute → Option CodeAttr
code_in a = code_content a.content where
  code_content : Content → Option CodeAttr
  code_content (attribute.Code code) = Some code
  code_content _ = None

abbrev pub first_of : {X : Type 0} → List X → Option X
first_of [] = None
first_of (x ∷ xs) = Some x

abbrev pub code_of : Member → Option CodeAttr
code_of m = first_of (filter_map code_in m.attributes)

-- code, and the pool that it speaks of
pub record MethodCode : Type 0 where
  pub pool : List PoolEntry
  pub code : CodeAttr

abbrev pub is_named : List ℕ → Option (List ℕ) → Bool
is_named name None = false
is_named name (Some found) = bytes_eq found name

abbrev pub is_typed : NamedType → Option NamedType → Bool
is_typed type None = false
is_typed type (Some found) = same_type found type

abbrev pub file_named : List ClassFile → List ℕ → Option ClassFile
file_named files name = find (λ c. is_named name (this_name c)) files

abbrev pub member_in : ClassFile → NamedType → Option Member
member_in c type = find (λ m. is_typed type (member_type c.pool m)) c.methods

abbrev pub with_pool : ClassFile → CodeAttr → MethodCode
with_pool c code = record { pool = c.pool; code = code }

abbrev pub code_declared : NamedType → ClassFile → Option MethodCode
code_declared type c = option_map (with_pool c) (option_and_then code_of (member_in c type))

-- the code of a method, by the class that declares it
abbrev pub method_code : List ClassFile → Reference → Option MethodCode
method_code files r = option_and_then (code_declared r.member) (file_named files r.class)

-- ---- places

-- a place in a method: the number of a byte of its code
pub record Place : Type 0 where
  pub method : Reference
  pub pc : ℕ

abbrev pub place_in : Reference → ℕ → Place
place_in r pc = record { method = r; pc = pc }

abbrev pub operation_of : MethodCode → Decoded → Option Operation
operation_of m (Ok d) = operation m.pool m.code.code d.0
operation_of m (Err fault) = None

abbrev pub line_at : ℕ → MethodCode → Option Operation
line_at pc m = operation_of m (decoded m.code.code pc)

abbrev pub size_of : Decoded → ℕ
size_of (Ok d) = d.1
size_of (Err fault) = 0

abbrev pub next_pc : ℕ → Option MethodCode → ℕ
next_pc pc None = pc
next_pc pc (Some m) = pc + size_of (decoded m.code.code pc)

-- past each code there is
abbrev pub nowhere : ℕ
nowhere = 65536

abbrev pub pc_of : ℤ → ℕ
pc_of (pos pc) = pc
pc_of (negsuc n) = nowhere

abbrev pub offsets_of : List ℕ → Decoded → List ℤ
offsets_of code (Ok d) = offsets code d.0
offsets_of code (Err fault) = []

abbrev pub target_from : ℕ → Option ℤ → ℕ
target_from pc None = nowhere
target_from pc (Some offset) = pc_of (pos pc +ℤ offset)

abbrev pub target_pc : ℕ → ℕ → Option MethodCode → ℕ
target_pc pc i None = nowhere
target_pc pc i (Some m) = target_from pc (slice_get (offsets_of m.code.code (decoded m.code.code pc)) i)

-- an entry covers the places from its start to before its end (JVMS 4.7.3)
abbrev pub covers : ℕ → ExceptionEntry → Bool
covers pc e = nat_le e.start pc && nat_lt pc e.end

-- a catch type of 0 catches all
abbrev pub catch_of : List PoolEntry → ℕ → Option (List ℕ)
catch_of pool index = if index == 0 then None else Some (unwrap_or (class_at pool index) [])

abbrev pub handler_at : Reference → List PoolEntry → ExceptionEntry → Handler Place
handler_at r pool e = record { catch = catch_of pool e.catch_type; place = place_in r e.handler }

abbrev pub handlers_at : Reference → ℕ → Option MethodCode → List (Handler Place)
handlers_at r pc None = []
handlers_at r pc (Some m) = map (handler_at r m.pool) (filter (covers pc) m.code.entries)

abbrev pub entry_of : Reference → MethodCode → Entry Place
entry_of r m = record { start = place_in r 0; room = m.code.max_stack; locals = m.code.max_locals }

-- the code of class files
abbrev pub class_code : List ClassFile → Code Place
class_code files = record {
  line = λ p. option_and_then (line_at p.pc) (method_code files p.method);
  next = λ p. place_in p.method (next_pc p.pc (method_code files p.method));
  target = λ p i. place_in p.method (target_pc p.pc i (method_code files p.method));
  handlers = λ p. handlers_at p.method p.pc (method_code files p.method);
  method = λ r. option_map (entry_of r) (method_code files r);
}

-- ---- constants of fields

abbrev pub constant_held : List PoolEntry → PoolEntry → Option Held
constant_held pool (entry.Integer n) = Some (Int n)
constant_held pool (entry.Float bits) = Some (Float bits)
constant_held pool (entry.Long n) = Some (Long n)
constant_held pool (entry.Double bits) = Some (Double bits)
constant_held pool (entry.String text) = option_map (λ bytes. Pointer (Literal (units_of bytes))) (text_at pool text)
constant_held pool _ = None

abbrev pub constant_in : List PoolEntry → Attribute → Option Held
constant_in pool a = constant_content a.content where
  constant_content : Content → Option Held
  constant_content (attribute.ConstantValue index) = option_and_then (constant_held pool) (entry_at pool index)
  constant_content _ = None

-- the ConstantValue of a field (JVMS 4.7.2)
abbrev pub constant_declared : NamedType → ClassFile → Option Held
constant_declared type c =
    option_and_then (λ m. first_of (filter_map (constant_in c.pool) m.attributes)) (find (λ m. is_typed type (member_type c.pool m)) c.fields)

abbrev pub field_constant : List ClassFile → Reference → Option Held
field_constant files r = option_and_then (constant_declared r.member) (file_named files r.class)
