-- What the static fields, the heap and the monitors answer to an instruction (JVMS 6). What the instruction names has been
-- found already. Null comes first, then Broken by the class of an object, then every other exception.
use Rattle.std.specs.Prelude.{ℕ, zero, suc, Bool, true, false, if◌then◌else◌, List, [], ◌∷◌, length, Option, Some, None, ℤ, pos, negsuc, int_lt, slice_get, slice_set}
use Rattle.std.specs.List.{list_any}
use Rattle.std.specs.Option.{unwrap_or}
use Rattle.class_file.specs.Pool.{Reference}
use Rattle.class_machine.specs.declared.kinds.Element.{Element}
use Rattle.class_machine.specs.declared.kinds.Fault.{Fault}
use Rattle.class_machine.specs.Values.{Name, ClassObject, class_of, Held, Int, Null, Reference as Pointer, is_held}
use Rattle.class_machine.specs.Numbers.{count_int}
use Rattle.class_machine.specs.Descriptors.{element_of, kind_in, elements_of, held_in, class_in, blank, narrowed}
use Rattle.class_machine.specs.Classes.{Field, Classes}
use Rattle.class_machine.specs.World.{Object, Array, World, object_at, set_object, next_name, with_object, find_field, set_field, read_field, write_field, count_in, enter_monitor, leave_monitor}
use Rattle.class_machine.specs.Effect.{Request, GetStatic, PutStatic, GetField, PutField, MakeArray, ArrayLoad, ArrayStore, ArrayLength, Cast, IsInstance, LoadClass, EnterMonitor, LeaveMonitor}

pub data Reply : Type 0 where
  -- a value for the operands
  Gives : (v : Held) (w : World) → Reply
  Done : (w : World) → Reply
  Faults : (fault : Fault) → Reply
  -- the run is Broken
  Refuses : Reply

abbrev pub unless_null : Option Name → (Name → Reply) → Reply
unless_null None go = Faults Fault.NullPointer
unless_null (Some a) go = go a

-- ---- fields

-- the field by the class that declares it
abbrev pub declared_name : Reference → Option Field → Reference
declared_name r None = r
declared_name r (Some field) = field.name

abbrev pub declared : Classes → Reference → Reference
declared cs r = declared_name r (cs.field r)

-- A constant of another kind than the field's is Broken.
abbrev pub of_type : List ℕ → Held → World → Reply
of_type type v w = if is_held (kind_in type) v then Gives v w else Refuses

abbrev pub get_static : Classes → World → Reference → Reply
get_static cs w r = of_type r.member.descriptor (unwrap_or (find_field w.statics r) (cs.initial r)) w

abbrev pub put_static : World → Reference → Held → Reply
put_static w r v = Done (record w { statics = set_field w.statics r (narrowed (element_of r.member.descriptor) v) })

-- an object that is an instance of the class
abbrev pub if_instance : Classes → Name → List ℕ → Reply → Reply
if_instance cs a class go = if cs.is_subtype (class_of a) class then go else Refuses

abbrev pub get_field : Classes → World → Reference → Name → Reply
get_field cs w r a = if_instance cs a r.class (Gives (read_field w a r) w)

abbrev pub put_field : Classes → World → Reference → Name → Held → Reply
put_field cs w r a v = if_instance cs a r.class (Done (write_field w a r (narrowed (element_of r.member.descriptor) v)))

-- ---- arrays

-- `baload` and `bastore` serve arrays of bytes and of booleans
abbrev pub serves : Element → Element → Bool
serves Element.Boolean Element.Boolean = true
serves Element.Byte Element.Byte = true
serves Element.Byte Element.Boolean = true
serves Element.Char Element.Char = true
serves Element.Short Element.Short = true
serves Element.Int Element.Int = true
serves Element.Long Element.Long = true
serves Element.Float Element.Float = true
serves Element.Double Element.Double = true
serves Element.Reference Element.Reference = true
serves _ _ = false

abbrev pub elements_in : Option Object → (List Held → Reply) → Reply
elements_in (Some (Array elements)) go = go elements
elements_in _ go = Refuses

-- an array that the instruction serves
abbrev pub array_at : World → Element → Name → (List Held → Reply) → Reply
array_at w e a go = elements_in (object_at w a) (λ elements. if serves e (held_in (class_of a)) then go elements else Refuses)

abbrev pub element_or_fault : Option Held → (Held → Reply) → Reply
element_or_fault None go = Faults Fault.ArrayIndex
element_or_fault (Some v) go = go v

-- a bad index is below 0 or not below the number of elements
abbrev pub at_index : ℤ → List Held → (ℕ → Held → Reply) → Reply
at_index (pos i) elements go = element_or_fault (slice_get elements i) (go i)
at_index (negsuc i) elements go = Faults Fault.ArrayIndex

abbrev pub array_load : World → Element → Name → ℤ → Reply
array_load w e a i = array_at w e a (λ elements. at_index i elements (λ k v. Gives v w))

abbrev pub is_below : Classes → List ℕ → Option (List ℕ) → Bool
is_below cs class None = false
is_below cs class (Some high) = cs.is_subtype class high

-- an array of this type may hold the value
abbrev pub may_hold : Classes → List ℕ → Held → Bool
may_hold cs type (Pointer b) = is_below cs (class_of b) (class_in (elements_of type))
may_hold cs type v = true

abbrev pub array_store : Classes → World → Element → Name → ℤ → Held → Reply
array_store cs w e a i v =
    array_at w e a (λ elements. at_index i elements (λ k old.
    if may_hold cs (class_of a) v then Done (set_object w a (Array (slice_set elements k (narrowed (held_in (class_of a)) v)))) else Faults Fault.ArrayStore))

-- the low 32 bits of the number of elements
abbrev pub array_length : World → Name → Reply
array_length w a = elements_in (object_at w a) (λ elements. Gives (Int (count_int (length elements))) w)

-- ---- new arrays

abbrev pub size_of : ℤ → ℕ
size_of (pos n) = n
size_of (negsuc n) = 0

-- Arrays of a type that are made one after the other, and the world with them. An array stands before those in it.
abbrev pub in_turn : (World → Held × World) → ℕ → World → List Held × World
in_turn one zero w = ([], w)
in_turn one (suc n) w = let first = one w in let others = in_turn one n first.1 in (first.0 ∷ others.0, others.1)

abbrev pub with_elements : Name → List Held × World → Held × World
with_elements a made = (Pointer a, set_object made.1 a (Array made.0))

-- An array of the first size, and in it arrays of the other sizes; what no size is said of holds null, 0 or false.
abbrev pub make_arrays : List ℕ → List ℤ → World → Held × World
make_arrays type [] w = (blank (element_of type), w)
make_arrays type (size ∷ sizes) w =
    with_elements (next_name w type) (in_turn (make_arrays (elements_of type) sizes) (size_of size) (with_object w (next_name w type) (Array [])))

abbrev pub is_negative : ℤ → Bool
is_negative n = int_lt n (pos 0)

-- all sizes are judged first
abbrev pub new_arrays : World → List ℕ → List ℤ → Reply
new_arrays w type sizes = if list_any is_negative sizes then Faults Fault.NegativeArraySize else given (make_arrays type sizes w) where
  given : Held × World → Reply
  given made = Gives made.0 made.1

-- ---- types

abbrev pub cast : Classes → World → List ℕ → Option Name → Reply
cast cs w class None = Gives Null w
cast cs w class (Some a) = if cs.is_subtype (class_of a) class then Gives (Pointer a) w else Faults Fault.ClassCast

abbrev pub truth : Bool → Held
truth true = Int (pos 1)
truth false = Int (pos 0)

abbrev pub is_instance : Classes → World → List ℕ → Option Name → Reply
is_instance cs w class None = Gives (truth false) w
is_instance cs w class (Some a) = Gives (truth (cs.is_subtype (class_of a) class)) w

-- ---- monitors

abbrev pub left : World → Name → ℕ → Reply
left w a zero = Faults Fault.IllegalMonitorState
left w a (suc count) = Done (leave_monitor w a)

-- ---- all requests

abbrev pub answer : Classes → World → Request → Reply
answer cs w (GetStatic r) = get_static cs w (declared cs r)
answer cs w (PutStatic r v) = put_static w (declared cs r) v
answer cs w (GetField r a) = unless_null a (λ x. get_field cs w (declared cs r) x)
answer cs w (PutField r a v) = unless_null a (λ x. put_field cs w (declared cs r) x v)
answer cs w (MakeArray named type sizes) = new_arrays w type sizes
answer cs w (ArrayLoad e a i) = unless_null a (λ x. array_load w e x i)
answer cs w (ArrayStore e a i v) = unless_null a (λ x. array_store cs w e x i v)
answer cs w (ArrayLength a) = unless_null a (λ x. array_length w x)
answer cs w (Cast class a) = cast cs w class a
answer cs w (IsInstance class a) = is_instance cs w class a
answer cs w (LoadClass class) = Gives (Pointer (ClassObject class)) w
answer cs w (EnterMonitor a) = unless_null a (λ x. Done (enter_monitor w x))
answer cs w (LeaveMonitor a) = unless_null a (λ x. left w x (count_in w.monitors x))
