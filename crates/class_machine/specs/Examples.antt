pub mod Frames
pub mod Calls
pub mod Initialisers
pub mod Natives
pub mod LibraryRuns
pub mod Endings
pub mod Files
pub mod Bank
-- Worked examples: small programs, whose runs the definition computes. Here is their notation.
use Rattle.std.specs.Prelude.{ℕ, List, [], ◌∷◌, ◌++◌, codes, Some, None, ℤ, pos}
use Rattle.event_machine.specs.Observation.{Observation}
use Rattle.class_file.specs.Pool.{Reference}
use Rattle.class_machine.specs.declared.kinds.Kind.{Kind}
use Rattle.class_machine.specs.declared.kinds.Binary.TheVariants.{Add}
use Rattle.class_machine.specs.declared.kinds.Slots.TheVariants.{Zero, One}
use Rattle.class_machine.specs.declared.kinds.Mode.{Mode}
use Rattle.class_machine.specs.declared.kinds.Access.{Access}
use Rattle.class_machine.specs.declared.kinds.Constant.TheVariants as constant
use Rattle.class_machine.specs.declared.meaning.Basic.{Basic}
use Rattle.class_machine.specs.Events.{Event, Ending}
use Rattle.class_machine.specs.Events as events
use Rattle.class_machine.specs.Classes.{reference}
use Rattle.class_machine.specs.Values.{Literal, print_stream_class}
use Rattle.class_machine.specs.Declarations.{output_field}
use Rattle.class_machine.specs.Operations.{Operation, Do, Refer, FieldAccess, Invoke, New}
use Rattle.class_machine.specs.Listed.{Listed, Row, ListedMethod, ListedClass, class, static_method, object_method, runs_with}

-- ---- notation

abbrev pub plain : Operation → Listed
plain operation = record { operation = operation; to = [] }

abbrev pub basic : Basic → Listed
basic b = plain (Do b)

abbrev pub to : Basic → ℕ → Listed
to b n = record { operation = Do b; to = n ∷ [] }

abbrev pub int : ℤ → Listed
int n = basic (Basic.Constant (constant.Int n))

abbrev pub long : ℤ → Listed
long n = basic (Basic.Constant (constant.Long n))

abbrev pub load : ℕ → Listed
load n = basic (Basic.Load Kind.Int n)

abbrev pub store : ℕ → Listed
store n = basic (Basic.Store Kind.Int n)

abbrev pub add : Listed
add = basic (Basic.IntBinary Add)

abbrev pub int_return : Listed
int_return = basic (Basic.Return (Some Kind.Int))

abbrev pub void_return : Listed
void_return = basic (Basic.Return None)

abbrev pub ends : List Event → Ending → Observation Event Ending
ends said ending = record { events = said; ending = Some ending }

abbrev pub gives : ℤ → Observation Event Ending
gives n = ends [] (events.Returned (Some (events.Int n)))

-- class C with a static method main ()I of this code
abbrev pub main_class : List Listed → List Row → ListedClass
main_class lines rows = class (codes "C") [] (static_method (codes "main") (codes "()I") lines rows ∷ [])

abbrev pub main : Reference
main = reference (codes "C") (codes "main") (codes "()I")

abbrev pub runs : ℕ → List ListedClass → Observation Event Ending
runs n program = runs_with [] [] n program main

-- ---- notation for calls, texts and fields

abbrev pub method_of : List ℕ → List ℕ → List ℕ → Reference
method_of = reference

abbrev pub invoke : Mode → Reference → Listed
invoke mode r = plain (Invoke mode r)

abbrev pub get_static : Reference → Listed
get_static r = plain (FieldAccess Access.GetStatic r)

abbrev pub put_static : Reference → Listed
put_static r = plain (FieldAccess Access.PutStatic r)

abbrev pub text : List ℕ → Listed
text units = plain (Refer (Literal units))

abbrev pub null : Listed
null = basic (Basic.Constant constant.Null)

abbrev pub print_line : List ℕ → Listed
print_line descriptor = invoke Mode.Virtual (reference print_stream_class (codes "println") descriptor)

-- System.out.println of a literal
abbrev pub say : List ℕ → List Listed
say units = get_static output_field ∷ text units ∷ print_line (codes "(Ljava/lang/String;)V") ∷ []

abbrev pub said : List ℕ → Event
said units = events.Print (units ++ 10 ∷ [])

-- a method of no parameters without result
abbrev pub action : List ℕ → List ℕ → Reference
action class name = reference class name (codes "()V")

-- a constructor without parameters that calls that of the superclass
abbrev pub constructor_below : List ℕ → ListedMethod
constructor_below super =
    object_method (codes "<init>") (codes "()V") (basic (Basic.Load Kind.Reference 0) ∷ invoke Mode.Special (action super (codes "<init>")) ∷ void_return ∷ []) []

-- a new object, by the constructor without parameters
abbrev pub make : List ℕ → List Listed
make class = plain (New class) ∷ basic (Basic.Duplicate One Zero) ∷ invoke Mode.Special (action class (codes "<init>")) ∷ []

-- a static <clinit> of this code
abbrev pub initialiser : List Listed → ListedMethod
initialiser lines = static_method (codes "<clinit>") (codes "()V") lines []

-- class C with a static method main ()V of this code
abbrev pub main_action : List Listed → List Row → ListedClass
main_action lines rows = class (codes "C") [] (static_method (codes "main") (codes "()V") lines rows ∷ [])

abbrev pub acts : ℕ → List ListedClass → Observation Event Ending
acts n program = runs_with [] [] n program (action (codes "C") (codes "main"))

abbrev pub returns : List Event → Observation Event Ending
returns said = ends said (events.Returned None)
