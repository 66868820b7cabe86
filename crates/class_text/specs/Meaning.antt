-- What a class file is to the lines that it is made of: by the standard's decoding of its code (JVMS 6.4), and by what the indices of its pool stand for (JVMS 4.4).
use Rattle.std.specs.Prelude.{◌≡◌, ℕ, ◌+◌, ◌≤◌, ◌==◌, nat_le, nat_lt, if◌then◌else◌, List, [], ◌∷◌, length, map, codes, Option, Some, None, Ok}
use Rattle.std.specs.List.{AllByRecursion, AllZip, cons_option}
use Rattle.opcode_table.specs.declared.insn.Insn.{Insn}
use Rattle.opcode_table.specs.Decoding.{table_place, table_low, pair_count, pair_key}
use Rattle.class_file.specs.declared.pool.PoolEntry.{PoolEntry}
use Rattle.class_file.specs.declared.pool.PoolEntry.TheVariants as entry
use Rattle.class_file.specs.declared.types.ClassFile.{ClassFile}
use Rattle.class_file.specs.declared.types.Member.{Member}
use Rattle.class_file.specs.declared.types.Attribute.{Attribute}
use Rattle.class_file.specs.declared.types.Content.TheVariants as content
use Rattle.class_file.specs.declared.types.CodeAttr.{CodeAttr}
use Rattle.class_file.specs.declared.types.ExceptionEntry.{ExceptionEntry}
use Rattle.class_file.specs.Pool.{Reference, entry_at, text_at, class_at, string_at, referred, this_name, super_name}
use Rattle.class_file.specs.Code.{Placed, instructions, numbered, offsets}
use Rattle.class_lines.specs.declared.line.Line.{Line}
use Rattle.class_lines.specs.declared.line.MemberHead.{MemberHead}
use Rattle.class_lines.specs.declared.line.Operation.{Operation}
use Rattle.class_lines.specs.declared.line.Constant.{Constant}
use Rattle.class_lines.specs.declared.line.Case.{Case}
use Rattle.class_lines.specs.Words.{Text}
use Rattle.constant_pool.specs.Meaning.{reference}
use Rattle.class_text.specs.declared.numbered.Numbered.{Numbered}
use Rattle.class_text.specs.Labels.{is_wide_increment, size_at, is_end, place_of, distance}
use Rattle.class_text.specs.Bytes.{argument_slots}

-- ---- instructions

-- 185 calls an interface's method
abbrev pub member_insn : ℕ → ℕ → Text → Insn
member_insn op index descriptor = if op == 185 then Insn.Interface index (argument_slots descriptor) 0 else Insn.Pool op index

-- the instruction of an operation at a place of a method with these lines, with the index of its pool entry
abbrev pub insn_of : List Numbered → ℕ → ℕ → Operation → Insn
insn_of body pc index (Operation.Plain op) = Insn.Plain op
insn_of body pc index (Operation.Bipush value) = Insn.Bipush value
insn_of body pc index (Operation.Sipush value) = Insn.Sipush value
insn_of body pc index (Operation.Local op local) = Insn.Local op local (nat_lt 255 local)
insn_of body pc index (Operation.Iinc local by) = Insn.Iinc local by (is_wide_increment local by)
insn_of body pc index (Operation.Constant op constant) = Insn.Pool op index
insn_of body pc index (Operation.Long n) = Insn.Pool 20 index
insn_of body pc index (Operation.Double bits) = Insn.Pool 20 index
insn_of body pc index (Operation.Member op class name descriptor) = member_insn op index descriptor
insn_of body pc index (Operation.Class op class) = Insn.Pool op index
insn_of body pc index (Operation.NewArray code) = Insn.NewArray code
insn_of body pc index (Operation.Multi class dims) = Insn.Multi index dims
insn_of body pc index (Operation.Branch op to) = Insn.Branch op (distance pc (place_of to 0 body))
insn_of body pc index (Operation.TableSwitch low labels default) = Insn.TableSwitch (table_place pc)
insn_of body pc index (Operation.LookupSwitch cases default) = Insn.LookupSwitch (table_place pc)

-- the labels that an instruction may lead to: of a switch the default first
abbrev pub labels_of : Operation → List Text
labels_of (Operation.Branch op to) = to ∷ []
labels_of (Operation.TableSwitch low labels default) = default ∷ labels
labels_of (Operation.LookupSwitch cases default) = default ∷ map (λ (c : Case). c.label) cases
labels_of _ = []

-- a switch has the lowest key, or the keys, of its operation
abbrev pub HasKeys : List ℕ → ℕ → Operation → Type 0
HasKeys code pc (Operation.TableSwitch low labels default) = table_low code (table_place pc) ≡ low
HasKeys code pc (Operation.LookupSwitch cases default) = numbered (pair_count code (table_place pc)) (pair_key code (table_place pc)) ≡ map (λ (c : Case). c.key) cases
HasKeys code pc operation = Unit {0}

-- ---- what an index names

abbrev pub NamesConstant : List PoolEntry → ℕ → Constant → Type 0
NamesConstant pool index (Constant.Int n) = entry_at pool index ≡ Some (entry.Integer n)
NamesConstant pool index (Constant.Float bits) = entry_at pool index ≡ Some (entry.Float bits)
NamesConstant pool index (Constant.Text text) = string_at pool index ≡ Some text
NamesConstant pool index (Constant.Class class) = class_at pool index ≡ Some class

-- 178 to 181 get and put fields, and 185 calls an interface's method
abbrev pub entry_of : ℕ → ℕ → ℕ → PoolEntry
entry_of op class member = if nat_le op 181 then entry.Fieldref class member else (if op == 185 then entry.InterfaceMethodref class member else entry.Methodref class member)

-- an entry of the opcode's kind that names the member
pub record NamesMember (pool : List PoolEntry) (index op : ℕ) (r : Reference) : Type 0 where
  pub class : ℕ
  pub member : ℕ
  pub at : entry_at pool index ≡ Some (entry_of op class member)
  pub names : referred pool class member ≡ Some r

-- the entry that an instruction names is what its operands say
abbrev pub Names : List PoolEntry → ℕ → Operation → Type 0
Names pool index (Operation.Constant op constant) = NamesConstant pool index constant
Names pool index (Operation.Long n) = entry_at pool index ≡ Some (entry.Long n)
Names pool index (Operation.Double bits) = entry_at pool index ≡ Some (entry.Double bits)
Names pool index (Operation.Member op class name descriptor) = NamesMember pool index op (reference class name descriptor)
Names pool index (Operation.Class op class) = class_at pool index ≡ Some class
Names pool index (Operation.Multi class dims) = class_at pool index ≡ Some class
Names pool index operation = Unit {0}

-- ---- the lines of a method

-- an instruction and its label
pub record Labelled : Type 0 where
  pub label : Option Text
  pub operation : Operation

abbrev pub step_in : Option Line → Option Labelled
step_in (Some (Line.Step label operation)) = Some (record { label = label; operation = operation })
step_in _ = None

-- those of the lines up to the method's end
abbrev pub steps_in : List Numbered → List Labelled
steps_in [] = []
steps_in (line ∷ lines) = if is_end line.line then [] else cons_option (step_in line.line) (steps_in lines)

-- a line of the exception table
pub record Guard : Type 0 where
  pub from : Text
  pub to : Text
  pub handler : Text
  pub class : Option Text

abbrev pub guard_in : Option Line → Option Guard
guard_in (Some (Line.Catch from to handler class)) = Some (record { from = from; to = to; handler = handler; class = class })
guard_in _ = None

abbrev pub guards_in : List Numbered → List Guard
guards_in [] = []
guards_in (line ∷ lines) = if is_end line.line then [] else cons_option (guard_in line.line) (guards_in lines)

-- ---- code

-- the label stands before an instruction, at a place of code
abbrev pub StandsIn : List Numbered → Text → Type 0
StandsIn body name = (place : ℕ) × (place_of name 0 body ≡ Some place) × (place ≤ 65535)

-- What stands at a place is the instruction of the line: it names what the line does, it leads where the line's labels stand, and the line's own label stands at this place.
pub record IsStep (pool : List PoolEntry) (code : List ℕ) (body : List Numbered) (p : Placed) (s : Labelled) : Type 0 where
  pub index : ℕ
  pub insn : p.insn ≡ insn_of body p.pc index s.operation
  pub names : Names pool index s.operation
  pub there : AllByRecursion (StandsIn body) (labels_of s.operation)
  pub leads : offsets code p.insn ≡ map (λ name. distance p.pc (place_of name 0 body)) (labels_of s.operation)
  pub keys : HasKeys code p.pc s.operation
  pub labelled : (name : Text) → s.label ≡ Some name → place_of name 0 body ≡ Some p.pc

-- the class that is caught; 0 is any
abbrev pub IsCaught : List PoolEntry → ℕ → Option Text → Type 0
IsCaught pool index None = index ≡ 0
IsCaught pool index (Some class) = class_at pool index ≡ Some class

-- the entry is that of the line
pub record IsGuard (pool : List PoolEntry) (body : List Numbered) (e : ExceptionEntry) (g : Guard) : Type 0 where
  pub start : place_of g.from 0 body ≡ Some e.start
  pub end : place_of g.to 0 body ≡ Some e.end
  pub handler : place_of g.handler 0 body ≡ Some e.handler
  pub near : (e.start ≤ 65535) × (e.end ≤ 65535) × (e.handler ≤ 65535)
  pub caught : IsCaught pool e.catch_type g.class

-- each instruction stands where the one before ends, the first at this place
abbrev pub AreInRow : ℕ → List Placed → List Labelled → Type 0
AreInRow pc [] steps = Unit {0}
AreInRow pc (p ∷ insns) [] = ⊥
AreInRow pc (p ∷ insns) (s ∷ steps) = (p.pc ≡ pc) × (pc + size_at pc s.operation ≤ 65535) × AreInRow (pc + size_at pc s.operation) insns steps

-- the code is that of the lines: its instructions, one behind the other, are theirs
pub record IsCode (pool : List PoolEntry) (body : List Numbered) (stack locals : ℕ) (c : CodeAttr) : Type 0 where
  pub insns : List Placed
  pub decoded : instructions c.code ≡ Ok insns
  pub steps : AllZip (IsStep pool c.code body) insns (steps_in body)
  pub places : AreInRow 0 insns (steps_in body)
  pub short : length c.code ≤ 65535
  pub entries : AllZip (IsGuard pool body) c.entries (guards_in body)
  pub most_stack : c.max_stack ≡ stack
  pub most_locals : c.max_locals ≡ locals
  pub attributes : c.attributes ≡ []

-- ---- members

-- the lines behind that of a method with code, and what that says of the code
pub record Coded : Type 0 where
  pub stack : ℕ
  pub locals : ℕ
  pub body : List Numbered

pub record MethodLines : Type 0 where
  pub head : MemberHead
  pub code : Option Coded

abbrev pub field_in : Option Line → Option MemberHead
field_in (Some (Line.Field head)) = Some head
field_in _ = None

abbrev pub fields_in : List Numbered → List MemberHead
fields_in [] = []
fields_in (line ∷ lines) = cons_option (field_in line.line) (fields_in lines)

abbrev pub method_in : Option Line → List Numbered → Option MethodLines
method_in (Some (Line.Method head stack locals)) body = Some (record { head = head; code = Some (record { stack = stack; locals = locals; body = body }) })
method_in (Some (Line.Bare head)) body = Some (record { head = head; code = None })
method_in _ body = None

abbrev pub methods_in : List Numbered → List MethodLines
methods_in [] = []
methods_in (line ∷ lines) = cons_option (method_in line.line lines) (methods_in lines)

-- the member has the name, the descriptor and the flags
pub record IsNamed (pool : List PoolEntry) (m : Member) (head : MemberHead) : Type 0 where
  pub name : text_at pool m.name ≡ Some head.name
  pub descriptor : text_at pool m.descriptor ≡ Some head.descriptor
  pub flags : m.flags.0 ≡ head.flags

pub record IsField (pool : List PoolEntry) (m : Member) (head : MemberHead) : Type 0 where
  pub named : IsNamed pool m head
  pub attributes : m.attributes ≡ []

-- one attribute, the code
pub record HasCode (pool : List PoolEntry) (attributes : List Attribute) (lines : Coded) : Type 0 where
  pub name : ℕ
  pub code : CodeAttr
  pub are : attributes ≡ record { name = name; content = content.Code code } ∷ []
  pub named : text_at pool name ≡ Some (codes "Code")
  pub is : IsCode pool lines.body lines.stack lines.locals code

abbrev pub HasBody : List PoolEntry → List Attribute → Option Coded → Type 0
HasBody pool attributes None = attributes ≡ []
HasBody pool attributes (Some lines) = HasCode pool attributes lines

pub record IsMethod (pool : List PoolEntry) (m : Member) (lines : MethodLines) : Type 0 where
  pub named : IsNamed pool m lines.head
  pub body : HasBody pool m.attributes lines.code

-- ---- the class

-- the class of a line and of those behind it
pub record IsClassOf (name super : Text) (version flags : ℕ) (interfaces : List Text) (lines : List Numbered) (c : ClassFile) : Type 0 where
  pub minor : c.minor ≡ 0
  pub major : c.major ≡ version
  pub access : c.flags.0 ≡ flags
  pub this : this_name c ≡ Some name
  pub super_class : super_name c ≡ Some super
  pub implements : AllZip (λ index class. class_at c.pool index ≡ Some class) c.interfaces interfaces
  pub fields : AllZip (IsField c.pool) c.fields (fields_in lines)
  pub methods : AllZip (IsMethod c.pool) c.methods (methods_in lines)
  pub attributes : c.attributes ≡ []

abbrev pub IsOfFirst : Option Line → List Numbered → ClassFile → Type 0
IsOfFirst (Some (Line.Class name super version flags interfaces)) lines c = IsClassOf name super version flags interfaces lines c
IsOfFirst _ lines c = ⊥

-- The class file means what the lines say, of which the first is the class's own.
abbrev pub Means : List Numbered → ClassFile → Type 0
Means [] c = ⊥
Means (line ∷ lines) c = IsOfFirst line.line lines c
