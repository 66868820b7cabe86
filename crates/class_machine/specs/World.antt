-- What all frames share: the heap, the static fields, the classes whose initialisation has begun, the monitors and the
-- answers that are left (JVMS 3.5).
use Rattle.std.specs.Prelude.{ℕ, suc, ◌-◌, ◌||◌, Bool, if◌then◌else◌, List, [], ◌∷◌, map, codes, Option, Some, None}
use Rattle.std.specs.Option.{unwrap_or}
use Rattle.std.specs.Str.{bytes_eq}
use Rattle.class_file.specs.Pool.{Reference}
use Rattle.boot_library.specs.declared.rule.Primitive.{Primitive}
use Rattle.boot_library.specs.declared.rule.Primitive.TheVariants as boxed
use Rattle.class_heads.specs.Hierarchy.{is_array}
use Rattle.class_machine.specs.Values.{Name, Made, Literal, ClassObject, class_of, same_name, string_class, throwable_class, Held, Int, Long, Float, Double, Null, Reference as Pointer}
use Rattle.class_machine.specs.Descriptors.{element, primitive, blank, element_of}
use Rattle.class_machine.specs.Classes.{reference, same_member, Classes, marked}
use Rattle.class_machine.specs.Events.{Answer, Shown}
use Rattle.class_machine.specs.Events as events

-- ---- the heap

-- an object, without its name
pub data Object : Type 0 where
  -- the instance fields, by the class that declares each
  Instance : (fields : List (Reference × Held)) → Object
  Array : (elements : List Held) → Object
  -- a String, or what a StringBuffer or StringBuilder holds, in UTF-16 units
  Text : (units : List ℕ) → Object

pub record World : Type 0 where
  -- the objects that were made, by their names, the newest first
  pub heap : List (Name × Object)
  -- the static fields that were stored to
  pub statics : List (Reference × Held)
  -- the classes whose initialisation has begun
  pub begun : List (List ℕ)
  -- how often each monitor was entered and not left; 0 where the object isn't listed
  pub monitors : List (Name × ℕ)
  -- what the script still has
  pub answers : List Answer

abbrev pub find_made : List (Name × Object) → Name → Option Object
find_made [] a = None
find_made (o ∷ heap) a = if same_name o.0 a then Some o.1 else find_made heap a

-- The String of a literal, and the object that stands for a class, are there without being made.
abbrev pub object_at : World → Name → Option Object
object_at w (Made class k) = find_made w.heap (Made class k)
object_at w (Literal text) = Some (Text text)
object_at w (ClassObject class) = Some (Instance [])

abbrev pub with_changed : List (Name × Object) → Name → Object → List (Name × Object)
with_changed [] a object = []
with_changed (o ∷ heap) a object = if same_name o.0 a then (a, object) ∷ heap else o ∷ with_changed heap a object

abbrev pub set_object : World → Name → Object → World
set_object w a object = record w { heap = with_changed w.heap a object }

-- how many objects of the class were made
abbrev pub made : List (Name × Object) → List ℕ → ℕ
made [] class = 0
made (o ∷ heap) class = if bytes_eq (class_of o.0) class then suc (made heap class) else made heap class

-- the name of the next object of the class
abbrev pub next_name : World → List ℕ → Name
next_name w class = Made class (suc (made w.heap class))

abbrev pub with_object : World → Name → Object → World
with_object w a object = record w { heap = (a, object) ∷ w.heap }

-- a new object in a world, and the world with it
abbrev pub add : World → List ℕ → Object → Name × World
add w class object = (next_name w class, with_object w (next_name w class) object)

-- a new String
abbrev pub add_text : World → List ℕ → Name × World
add_text w units = add w string_class (Text units)

-- ---- fields

abbrev pub find_field : List (Reference × Held) → Reference → Option Held
find_field [] r = None
find_field (f ∷ fields) r = if same_member f.0 r then Some f.1 else find_field fields r

-- the static fields where that one holds the value, whether or not it was stored to
abbrev pub set_field : List (Reference × Held) → Reference → Held → List (Reference × Held)
set_field [] r v = (r, v) ∷ []
set_field (f ∷ fields) r v = if same_member f.0 r then (r, v) ∷ fields else f ∷ set_field fields r v

-- a field of a library object that no code can name: the message and the cause of a Throwable, what a box holds
abbrev pub message_field : Reference
message_field = reference throwable_class (codes "message") (codes "Ljava/lang/String;")

abbrev pub cause_field : Reference
cause_field = reference throwable_class (codes "cause") (codes "Ljava/lang/Throwable;")

-- the class of a primitive type's boxes
abbrev pub box_class : Primitive → List ℕ
box_class boxed.Boolean = codes "java/lang/Boolean"
box_class boxed.Byte = codes "java/lang/Byte"
box_class boxed.Char = codes "java/lang/Character"
box_class boxed.Short = codes "java/lang/Short"
box_class boxed.Int = codes "java/lang/Integer"
box_class boxed.Long = codes "java/lang/Long"
box_class boxed.Float = codes "java/lang/Float"
box_class boxed.Double = codes "java/lang/Double"

abbrev pub value_field : Primitive → Reference
value_field type = reference (box_class type) (codes "value") (primitive (element type))

-- what is in an object's field; null of what has no such field
abbrev pub field_of : Option Object → Reference → Held
field_of (Some (Instance fields)) r = unwrap_or (find_field fields r) Null
field_of _ r = Null

abbrev pub read_field : World → Name → Reference → Held
read_field w a r = field_of (object_at w a) r

-- the fields of an object with the value in that one; where it isn't among them nothing changes
abbrev pub with_field : List (Reference × Held) → Reference → Held → List (Reference × Held)
with_field [] r v = []
with_field (f ∷ fields) r v = if same_member f.0 r then (r, v) ∷ fields else f ∷ with_field fields r v

abbrev pub stored : Object → Reference → Held → Object
stored (Instance fields) r v = Instance (with_field fields r v)
stored object r v = object

abbrev pub written : World → Name → Reference → Held → Option Object → World
written w a r v None = w
written w a r v (Some object) = set_object w a (stored object r v)

abbrev pub write_field : World → Name → Reference → Held → World
write_field w a r v = written w a r v (object_at w a)

-- ---- new objects

abbrev pub is_text_class : List ℕ → Bool
is_text_class class = bytes_eq class string_class || (bytes_eq class (codes "java/lang/StringBuffer") || bytes_eq class (codes "java/lang/StringBuilder"))

-- the fields of a new object (JVMS 2.5.1)
abbrev pub blank_fields : List Reference → List (Reference × Held)
blank_fields fields = map (λ r. (r, blank (element_of r.member.descriptor))) fields

abbrev pub new_object : Classes → List ℕ → Object
new_object cs class = if is_text_class class then Text [] else Instance (blank_fields (cs.fields class))

abbrev pub make : Classes → World → List ℕ → Name × World
make cs w class = add w class (new_object cs class)

-- ---- texts

abbrev pub text_in : Option Object → Option (List ℕ)
text_in (Some (Text units)) = Some units
text_in _ = None

-- the units of a String or buffer
abbrev pub units_at : World → Name → Option (List ℕ)
units_at w a = text_in (object_at w a)

abbrev pub text_of : World → Held → Option (List ℕ)
text_of w (Pointer a) = units_at w a
text_of w _ = None

-- what the message field of an exception holds
abbrev pub message_of : World → Name → Option (List ℕ)
message_of w x = text_of w (read_field w x message_field)

-- ---- values as events and endings show them

abbrev pub shown_object : World → Name → Shown
shown_object w (Literal text) = events.Text text
shown_object w (ClassObject class) = events.ClassObject class
shown_object w (Made class k) =
    if is_array class then events.Array class k
    else (if bytes_eq class string_class then events.Text (unwrap_or (units_at w (Made class k)) []) else events.Object class k)

abbrev pub shown : World → Held → Shown
shown w (Int n) = events.Int n
shown w (Long n) = events.Long n
shown w (Float bits) = events.Float bits
shown w (Double bits) = events.Double bits
shown w Null = events.Null
shown w (Pointer a) = shown_object w a

-- ---- initialisation

-- the class and its superclasses are marked as begun
abbrev pub begin : Classes → World → List ℕ → World
begin cs w class = record w { begun = marked w.begun (cs.superclasses class) }

-- ---- monitors

abbrev pub count_in : List (Name × ℕ) → Name → ℕ
count_in [] a = 0
count_in (m ∷ monitors) a = if same_name m.0 a then m.1 else count_in monitors a

abbrev pub with_count : List (Name × ℕ) → Name → ℕ → List (Name × ℕ)
with_count [] a n = (a, n) ∷ []
with_count (m ∷ monitors) a n = if same_name m.0 a then (a, n) ∷ monitors else m ∷ with_count monitors a n

abbrev pub enter_monitor : World → Name → World
enter_monitor w a = record w { monitors = with_count w.monitors a (suc (count_in w.monitors a)) }

-- where the count is 0, leaving does nothing
abbrev pub leave_monitor : World → Name → World
leave_monitor w a = record w { monitors = with_count w.monitors a (count_in w.monitors a - 1) }
