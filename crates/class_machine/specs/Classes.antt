-- What the machine asks of the classes of a run (JVMS 2.8, 2.9, 2.10, 5.4.3). Classes and array types are named as Class
-- entries name them.
use Rattle.std.specs.Prelude.{ℕ, ◌==◌, ◌&&◌, ◌||◌, Bool, not, if◌then◌else◌, List, [], ◌∷◌, ◌++◌, map, codes, Option, Some}
use Rattle.std.specs.List.{list_any}
use Rattle.std.specs.Str.{bytes_eq}
use Rattle.class_file.specs.Pool.{NamedType, Reference}
use Rattle.class_machine.specs.declared.kinds.Fault.{Fault}
use Rattle.class_machine.specs.Values.{Held}
use Rattle.boot_library.specs.declared.rule.LibraryRule.{LibraryRule}

-- ---- members by their names

abbrev pub reference : List ℕ → List ℕ → List ℕ → Reference
reference class name descriptor = record { class = class; member = record { name = name; descriptor = descriptor } }

abbrev pub same_type : NamedType → NamedType → Bool
same_type a b = bytes_eq a.name b.name && bytes_eq a.descriptor b.descriptor

abbrev pub same_member : Reference → Reference → Bool
same_member a b = same_type a.member b.member && bytes_eq a.class b.class

-- a name with dots for its slashes
abbrev pub dotted : List ℕ → List ℕ
dotted name = map (λ b. if b == 47 then 46 else b) name

-- the dotted name of the class, a dot and the member's name
abbrev pub member_text : Reference → List ℕ
member_text r = dotted r.class ++ 46 ∷ r.member.name

-- a constructor's name (JVMS 3.9)
abbrev pub is_constructor : Reference → Bool
is_constructor r = bytes_eq r.member.name (codes "<init>")

-- ---- what a search finds

-- a field, by the class that declares it
pub record Field : Type 0 where
  pub name : Reference
  pub is_static : Bool

-- a method, by the class that declares it (JVMS 4.6)
pub record Method : Type 0 where
  pub name : Reference
  pub is_static : Bool
  pub is_private : Bool
  pub is_synchronized : Bool
  pub is_native : Bool
  -- of a method of the library that isn't native
  pub rule : Option LibraryRule

pub record Classes : Type 0 where
  -- the class is there; an array type is there where its elements are primitive or their class is there
  pub knows : List ℕ → Bool
  -- a value of the first is one of the second (JVMS 2.6.7)
  pub is_subtype : List ℕ → List ℕ → Bool
  pub is_interface : List ℕ → Bool
  -- a class, not abstract
  pub has_objects : List ℕ → Bool
  -- a class and its superclasses, upward; of an array type itself and Object
  pub superclasses : List ℕ → List (List ℕ)
  -- ACC_SUPER (JVMS 4.1)
  pub is_super : List ℕ → Bool
  -- the searches of JVMS 5.4.3.2 and 5.4.3.3
  pub field : Reference → Option Field
  pub method : Reference → Option Method
  -- from the class upward, the first method of the name and descriptor that is neither static nor private
  pub selected : List ℕ → NamedType → Option Method
  -- the instance fields of an object of the class, those of its superclasses and of the library too
  pub fields : List ℕ → List Reference
  -- what a static field holds from the start: its ConstantValue, or the first value of its type
  pub initial : Reference → Held
  -- the class's initialiser: its static <clinit> with descriptor ()V (JVMS 3.9)
  pub initialiser : List ℕ → Option Method

abbrev pub is_among : List (List ℕ) → List ℕ → Bool
is_among classes class = list_any (bytes_eq class) classes

-- the classes whose initialisation has begun, and these
abbrev pub marked : List (List ℕ) → List (List ℕ) → List (List ℕ)
marked begun [] = begun
marked begun (class ∷ classes) = if is_among begun class then marked begun classes else class ∷ marked begun classes

-- The method that a call runs: the found one itself where it is private, else the one that is selected from the class
-- upward (JVMS 6, invokevirtual and invokeinterface).
abbrev pub select : Classes → List ℕ → Method → Option Method
select cs class m = if m.is_private then Some m else cs.selected class m.name.member

-- `invokespecial` from the code of a class (JVMS 6): a method of a superclass is selected from the direct superclass
-- upward, where the class has ACC_SUPER; constructors and private methods are called themselves.
abbrev pub direct_superclass : List (List ℕ) → List (List ℕ)
direct_superclass [] = []
direct_superclass (class ∷ above) = above

abbrev pub selected_above : Classes → List (List ℕ) → Method → Option Method
selected_above cs [] m = Some m
selected_above cs (class ∷ above) m = if is_among (class ∷ above) m.name.class then cs.selected class m.name.member else Some m

abbrev pub select_special : Classes → List ℕ → Method → Option Method
select_special cs current m =
    if is_constructor m.name || (m.is_private || not (cs.is_super current)) then Some m
    else selected_above cs (direct_superclass (cs.superclasses current)) m

-- ---- the exceptions that the machine makes

abbrev pub fault_class : Fault → List ℕ
fault_class Fault.NullPointer = codes "java/lang/NullPointerException"
fault_class Fault.Arithmetic = codes "java/lang/ArithmeticException"
fault_class Fault.NegativeArraySize = codes "java/lang/NegativeArraySizeException"
fault_class Fault.ArrayIndex = codes "java/lang/ArrayIndexOutOfBoundsException"
fault_class Fault.ArrayStore = codes "java/lang/ArrayStoreException"
fault_class Fault.ClassCast = codes "java/lang/ClassCastException"
fault_class Fault.IllegalMonitorState = codes "java/lang/IllegalMonitorStateException"
fault_class Fault.StringIndex = codes "java/lang/StringIndexOutOfBoundsException"
