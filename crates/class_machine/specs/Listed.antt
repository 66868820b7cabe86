-- Programs whose code is given as lists of instructions, for worked examples. A place is a number in the list of a method.
use Rattle.std.specs.Prelude.{ℕ, ◌+◌, ◌&&◌, Bool, true, false, List, [], ◌∷◌, map, length, nat_le, nat_lt, slice_get, Option, Some, None, option_and_then}
use Rattle.std.specs.List.{find, filter, flat_map}
use Rattle.std.specs.Option.{option_map, unwrap_or}
use Rattle.event_machine.specs.Observation.{Observation, observed}
use Rattle.class_file.specs.Pool.{NamedType, Reference}
use Rattle.class_file.specs.declared.access.AccessFlags.{AccessFlags}
use Rattle.class_heads.specs.declared.types.FieldHead.{FieldHead}
use Rattle.class_heads.specs.declared.types.MethodHead.{MethodHead}
use Rattle.class_heads.specs.declared.types.ClassHead.{ClassHead}
use Rattle.class_machine.specs.Values.{object_class, Held}
use Rattle.class_machine.specs.Events.{Event, Ending, Answer}
use Rattle.class_machine.specs.Classes.{same_member, Method, Classes}
use Rattle.class_machine.specs.Operations.{Operation}
use Rattle.class_machine.specs.Declarations.{declared_in, run_heads, classes_of, declared_method}
use Rattle.class_machine.specs.Turn.{Entry, Handler, Code}
use Rattle.class_machine.specs.Machine.{step}
use Rattle.class_machine.specs.Start.{EntryArgument, start}

-- an instruction with its targets
pub record Listed : Type 0 where
  pub operation : Operation
  pub to : List ℕ

-- a row of an exception table: from the first place to before the second
pub record Row : Type 0 where
  pub start : ℕ
  pub end : ℕ
  pub handler : ℕ
  pub catch : Option (List ℕ)

pub record ListedMethod : Type 0 where
  pub declared : MethodHead
  -- none without code
  pub code : Option (List Listed)
  pub rows : List Row
  pub room : ℕ
  pub locals : ℕ

pub record ListedClass : Type 0 where
  pub declared : ClassHead
  pub methods : List ListedMethod

-- a method of a class, with its code
pub record Body : Type 0 where
  pub method : Reference
  pub lines : List Listed
  pub rows : List Row
  pub room : ℕ
  pub locals : ℕ

abbrev pub body_of : List ℕ → ListedMethod → List Body
body_of class m = with_lines m.code where
  with_lines : Option (List Listed) → List Body
  with_lines None = []
  with_lines (Some lines) = record { method = declared_in class m.declared.name; lines = lines; rows = m.rows; room = m.room; locals = m.locals } ∷ []

abbrev pub bodies_of : ListedClass → List Body
bodies_of c = flat_map (body_of c.declared.name) c.methods

pub record Spot : Type 0 where
  pub method : Reference
  pub number : ℕ

abbrev pub spot : Reference → ℕ → Spot
spot r n = record { method = r; number = n }

abbrev pub body_named : List Body → Reference → Option Body
body_named bodies r = find (λ b. same_member b.method r) bodies

abbrev pub line_of : ℕ → Body → Option Listed
line_of n b = slice_get b.lines n

abbrev pub listed_at : List Body → Spot → Option Listed
listed_at bodies p = option_and_then (line_of p.number) (body_named bodies p.method)

-- a target that is missing is no place of an instruction
abbrev pub target_of : ℕ → Option Listed → ℕ
target_of i None = 65536
target_of i (Some x) = unwrap_or (slice_get x.to i) 65536

abbrev pub covers : ℕ → Row → Bool
covers n row = nat_le row.start n && nat_lt n row.end

abbrev pub handler_of : Reference → Row → Handler Spot
handler_of r row = record { catch = row.catch; place = spot r row.handler }

abbrev pub handlers_of : Reference → ℕ → Option Body → List (Handler Spot)
handlers_of r n None = []
handlers_of r n (Some b) = map (handler_of r) (filter (covers n) b.rows)

abbrev pub entry_of : Body → Entry Spot
entry_of b = record { start = spot b.method 0; room = b.room; locals = b.locals }

abbrev pub listed_code : List Body → Code Spot
listed_code bodies = record {
  line = λ p. option_map (λ x. x.operation) (listed_at bodies p);
  next = λ p. spot p.method (p.number + 1);
  target = λ p i. spot p.method (target_of i (listed_at bodies p));
  handlers = λ p. handlers_of p.method p.number (body_named bodies p.method);
  method = λ r. option_map entry_of (body_named bodies r);
}

-- ---- programs

abbrev pub program_heads : List ListedClass → List ClassHead
program_heads program = run_heads (map (λ c. c.declared) program)

-- no field has a ConstantValue
abbrev pub no_constant : Reference → Option Held
no_constant r = None

abbrev pub program_classes : List ListedClass → Classes
program_classes program = classes_of (program_heads program) (length program) no_constant

abbrev pub program_code : List ListedClass → Code Spot
program_code program = listed_code (flat_map bodies_of program)

abbrev pub missing : List ℕ → NamedType → Method
missing class member = record { name = record { class = class; member = member }; is_static = true; is_private = false; is_synchronized = false; is_native = false; rule = None }

-- what is observed within n steps of a run of a static method
abbrev pub runs_with : List Answer → List EntryArgument → ℕ → List ListedClass → Reference → Observation Event Ending
runs_with answers words n program r =
    observed (step (program_code program) (program_classes program)) n
    (start (program_code program) (program_classes program) answers (unwrap_or (declared_method (program_heads program) (length program) no_constant r.member r.class) (missing r.class r.member)) words)

-- ---- notation

abbrev pub member : List ℕ → List ℕ → NamedType
member name descriptor = record { name = name; descriptor = descriptor }

abbrev pub flags : ℕ → AccessFlags
flags bits = record { 0 = bits }

abbrev pub declared : ℕ → List ℕ → List ℕ → MethodHead
declared bits name descriptor = record { name = record { name = name; descriptor = descriptor }; flags = flags bits; exceptions = []; is_synthetic = false }

-- a static method (0x0008), and one of an object, with room for 8 slots of operands and 6 locals
abbrev pub static_method : List ℕ → List ℕ → List Listed → List Row → ListedMethod
static_method name descriptor lines rows = record { declared = declared 0x0008 name descriptor; code = Some lines; rows = rows; room = 8; locals = 6 }

abbrev pub object_method : List ℕ → List ℕ → List Listed → List Row → ListedMethod
object_method name descriptor lines rows = record { declared = declared 0 name descriptor; code = Some lines; rows = rows; room = 8; locals = 6 }

abbrev pub abstract_method : List ℕ → List ℕ → ListedMethod
abstract_method name descriptor = record { declared = declared 0x0400 name descriptor; code = None; rows = []; room = 0; locals = 0 }

-- native (0x0100) and static
abbrev pub native_method : List ℕ → List ℕ → ListedMethod
native_method name descriptor = record { declared = declared 0x0108 name descriptor; code = None; rows = []; room = 0; locals = 0 }

-- the same method, synchronized (0x0020)
abbrev pub locked : ListedMethod → ListedMethod
locked m = record m { declared = record (m.declared) { flags = flags 0x0020 } }

-- the same method, private (0x0002)
abbrev pub hidden : ListedMethod → ListedMethod
hidden m = record m { declared = record (m.declared) { flags = flags 0x0002 } }

abbrev pub field_with : ℕ → List ℕ → List ℕ → FieldHead
field_with bits name descriptor = record { name = record { name = name; descriptor = descriptor }; flags = flags bits; is_synthetic = false; has_constant = false }

abbrev pub static_field : List ℕ → List ℕ → FieldHead
static_field name descriptor = field_with 0x0008 name descriptor

abbrev pub object_field : List ℕ → List ℕ → FieldHead
object_field name descriptor = field_with 0 name descriptor

abbrev pub head : ℕ → List ℕ → List ℕ → List (List ℕ) → List FieldHead → List ListedMethod → ClassHead
head bits name super interfaces fields methods = record {
  name = name;
  version = 46;
  flags = flags bits;
  super_class = Some super;
  interfaces = interfaces;
  fields = fields;
  methods = map (λ m. m.declared) methods;
}

-- public (0x0001), with ACC_SUPER (0x0020)
abbrev pub class_below : List ℕ → List ℕ → List (List ℕ) → List FieldHead → List ListedMethod → ListedClass
class_below name super interfaces fields methods = record { declared = head 0x0021 name super interfaces fields methods; methods = methods }

-- a class below Object
abbrev pub class : List ℕ → List FieldHead → List ListedMethod → ListedClass
class name fields methods = class_below name object_class [] fields methods

-- public, an interface (0x0200) and abstract (0x0400)
abbrev pub interface : List ℕ → List ListedMethod → ListedClass
interface name methods = record { declared = head 0x0601 name object_class [] [] methods; methods = methods }
