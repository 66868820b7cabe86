-- What code computes with (JVMS 3.3, 3.4, 3.6, 3.11.1). Fields, elements, arguments and results hold plain
-- values. Operands and locals hold tokens of objects that aren't made yet and return addresses too.
use Rattle.std.specs.Prelude.{max, ℕ, ◌+◌, ◌==◌, ◌&&◌, Bool, true, false, if◌then◌else◌, List, [], ◌∷◌, codes, Option, Some, None, ℤ, nat_le}
use Rattle.std.specs.Str.{bytes_eq}
use Rattle.class_machine.specs.declared.kinds.Kind.{Kind}

-- ---- names of classes that the machine itself speaks of, as class files have them

abbrev pub object_class : List ℕ
object_class = codes "java/lang/Object"

abbrev pub class_class : List ℕ
class_class = codes "java/lang/Class"

abbrev pub string_class : List ℕ
string_class = codes "java/lang/String"

abbrev pub throwable_class : List ℕ
throwable_class = codes "java/lang/Throwable"

abbrev pub system_class : List ℕ
system_class = codes "java/lang/System"

abbrev pub print_stream_class : List ℕ
print_stream_class = codes "java/io/PrintStream"

-- ---- objects

-- An object or array, by its name. A class is named as Class entries name it: an array type by its
-- descriptor (JVMS 4.4.1).
pub data Name : Type 0 where
  -- the k-th object that was made of the class, from 1 on
  Made : (class : List ℕ) (k : ℕ) → Name
  -- the String of a literal: one for each text of UTF-16 units
  Literal : (text : List ℕ) → Name
  -- the object of java.lang.Class that stands for a class or an array type
  ClassObject : (class : List ℕ) → Name

-- the class of an object
abbrev pub class_of : Name → List ℕ
class_of (Made class k) = class
class_of (Literal text) = string_class
class_of (ClassObject class) = class_class

-- the number that tells an object from the others of its class, and 0 where nothing is counted
abbrev pub number_of : Name → ℕ
number_of (Made class k) = k
number_of (Literal text) = 0
number_of (ClassObject class) = 0

abbrev pub same_name : Name → Name → Bool
same_name (Made c k) (Made d j) = (k == j) && bytes_eq c d
same_name (Literal s) (Literal t) = bytes_eq s t
same_name (ClassObject c) (ClassObject d) = bytes_eq c d
same_name _ _ = false

-- the same object, or null both times
abbrev pub same_object : Option Name → Option Name → Bool
same_object None None = true
same_object (Some a) (Some b) = same_name a b
same_object _ _ = false

abbrev pub is_null : Option Name → Bool
is_null None = true
is_null (Some a) = false

-- ---- plain values

-- what a field, an element, an argument or a result holds; floats and doubles by their bits
pub data Held : Type 0 where
  Int : (n : ℤ) → Held
  Long : (n : ℤ) → Held
  Float : (bits : ℕ) → Held
  Double : (bits : ℕ) → Held
  Null : Held
  Reference : (a : Name) → Held

-- a reference that may be null
abbrev pub held_reference : Option Name → Held
held_reference None = Null
held_reference (Some a) = Reference a

abbrev pub kind_of : Held → Kind
kind_of (Int n) = Kind.Int
kind_of (Long n) = Kind.Long
kind_of (Float bits) = Kind.Float
kind_of (Double bits) = Kind.Double
kind_of Null = Kind.Reference
kind_of (Reference a) = Kind.Reference

abbrev pub same_kind : Kind → Kind → Bool
same_kind Kind.Int Kind.Int = true
same_kind Kind.Long Kind.Long = true
same_kind Kind.Float Kind.Float = true
same_kind Kind.Double Kind.Double = true
same_kind Kind.Reference Kind.Reference = true
same_kind _ _ = false

abbrev pub is_held : Kind → Held → Bool
is_held k h = same_kind k (kind_of h)

-- a long or a double, which takes two slots of the operands and two locals (JVMS 3.6.1, 3.6.2)
abbrev pub is_wide_kind : Kind → Bool
is_wide_kind Kind.Int = false
is_wide_kind Kind.Long = true
is_wide_kind Kind.Float = false
is_wide_kind Kind.Double = true
is_wide_kind Kind.Reference = false

abbrev pub slots_of : Bool → ℕ
slots_of true = 2
slots_of false = 1

abbrev pub kind_width : Kind → ℕ
kind_width k = slots_of (is_wide_kind k)

abbrev pub is_wide_held : Held → Bool
is_wide_held h = is_wide_kind (kind_of h)

abbrev pub held_width : Held → ℕ
held_width h = slots_of (is_wide_held h)

-- the slots of arguments
abbrev pub arguments_width : List Held → ℕ
arguments_width [] = 0
arguments_width (h ∷ hs) = held_width h + arguments_width hs

-- ---- operands and locals

-- What an operand or a local holds. P is the type of places in code, which return addresses name.
pub data Value (P : Type 0) : Type 0 where
  Plain : (held : Held) → Value P
  -- an object of the class that `new` has announced and no constructor was called on: tokens are numbered in
  -- their frame
  Token : (class : List ℕ) (number : ℕ) → Value P
  -- where a subroutine returns to (JVMS 3.3.3)
  ReturnAddress : (place : P) → Value P

pub data Local (P : Type 0) : Type 0 where
  -- nothing was stored yet
  Unset : Local P
  Holds : (value : Value P) → Local P
  -- the second half of the long or double before it
  Second : Local P

-- the operands, the last pushed first, and the locals of a frame
pub record Content (P : Type 0) : Type 0 where
  pub operands : List (Value P)
  pub locals : List (Local P)

abbrev pub content : {P : Type 0} → List (Value P) → List (Local P) → Content P
content operands locals = record { operands = operands; locals = locals }

abbrev pub pushed_on : {P : Type 0} → Value P → Content P → Content P
pushed_on v c = content (v ∷ c.operands) c.locals

abbrev pub is_wide : {P : Type 0} → Value P → Bool
is_wide (Plain h) = is_wide_held h
is_wide (Token class number) = false
is_wide (ReturnAddress place) = false

abbrev pub width : {P : Type 0} → Value P → ℕ
width v = slots_of (is_wide v)

-- the slots that operands take
abbrev pub weight : {P : Type 0} → List (Value P) → ℕ
weight [] = 0
weight (v ∷ vs) = width v + weight vs

-- the operands have room for so many slots more
abbrev pub has_room : {P : Type 0} → ℕ → ℕ → List (Value P) → Bool
has_room room slots operands = nat_le (slots + weight operands) room

abbrev pub is_reference_kind : Kind → Bool
is_reference_kind k = same_kind k Kind.Reference

-- what a load takes from a local: a token counts as a reference
abbrev pub loads : {P : Type 0} → Kind → Value P → Bool
loads k (Plain h) = is_held k h
loads k (Token class number) = is_reference_kind k
loads k (ReturnAddress place) = false

-- what a store takes: `astore` takes a return address too
abbrev pub stores : {P : Type 0} → Kind → Value P → Bool
stores k (Plain h) = is_held k h
stores k (Token class number) = is_reference_kind k
stores k (ReturnAddress place) = is_reference_kind k

-- the locals of a call: its arguments, a long or double in two, and the others unset (JVMS 3.6.1)
abbrev pub argument_locals : {P : Type 0} → List Held → List (Local P)
argument_locals [] = []
argument_locals (h ∷ hs) = if is_wide_held h then Holds (Plain h) ∷ Second ∷ argument_locals hs else Holds (Plain h) ∷ argument_locals hs

-- ---- tokens

abbrev pub token_number : {P : Type 0} → Value P → ℕ
token_number (Plain h) = 0
token_number (Token class number) = number
token_number (ReturnAddress place) = 0

abbrev pub highest : {P : Type 0} → List (Value P) → ℕ
highest [] = 0
highest (v ∷ vs) = max (token_number v) (highest vs)

abbrev pub local_number : {P : Type 0} → Local P → ℕ
local_number Unset = 0
local_number (Holds v) = token_number v
local_number Second = 0

abbrev pub highest_local : {P : Type 0} → List (Local P) → ℕ
highest_local [] = 0
highest_local (l ∷ ls) = max (local_number l) (highest_local ls)

-- a number that no token of the frame has
abbrev pub fresh : {P : Type 0} → List (Value P) → List (Local P) → ℕ
fresh operands locals = 1 + max (highest operands) (highest_local locals)

-- a value once the object of the token of this number is made: each copy of the token is the object
abbrev pub filled_in : {P : Type 0} → ℕ → Held → Value P → Value P
filled_in number object (Plain h) = Plain h
filled_in number object (Token class n) = if n == number then Plain object else Token class n
filled_in number object (ReturnAddress place) = ReturnAddress place

abbrev pub filled_local : {P : Type 0} → ℕ → Held → Local P → Local P
filled_local number object Unset = Unset
filled_local number object (Holds v) = Holds (filled_in number object v)
filled_local number object Second = Second
