-- How a run starts at an entry method (JVMS 2.17.1): as an invokestatic of it does, but without a step. The first state has
-- the entry's frame and above it those of the initialisers that are pending.
use Rattle.std.specs.Prelude.{◌&&◌, ◌||◌, Bool, true, false, ℕ, if◌then◌else◌, nat_le, List, [], ◌∷◌, ◌++◌, Option, Some, None, ℤ}
use Rattle.std.specs.List.{find}
use Rattle.std.specs.Str.{bytes_eq}
use Rattle.class_machine.specs.Values.{Name, Made, print_stream_class, string_class, object_class, Held, Reference as Pointer, arguments_width}
use Rattle.class_machine.specs.Values as values
use Rattle.class_machine.specs.Descriptors.{array_of, descriptor_of, element_of, class_in, parameters_in}
use Rattle.class_machine.specs.Natives.{is_int_of, is_long, is_reference, takes_text}
use Rattle.class_machine.specs.Events.{Answer, Ending, Unresolved, Broken}
use Rattle.class_machine.specs.Classes.{member_text, Method, Classes}
use Rattle.class_machine.specs.World.{Instance, Array, World, next_name, with_object, set_object, add_text, begin}
use Rattle.class_machine.specs.Turn.{Entry, Code, Ordinary, Frame, pending, lock_of, entering, entered}
use Rattle.class_machine.specs.Machine.{Due, Nothing, NativeEntry, Finally, State}

-- an argument as the words of the command line have it
pub data EntryArgument : Type 0 where
  Int : (n : ℤ) → EntryArgument
  Long : (n : ℤ) → EntryArgument
  Null : EntryArgument
  Text : (units : List ℕ) → EntryArgument
  Texts : (texts : List (List ℕ)) → EntryArgument

-- the object of System.out is there from the start, and no other
abbrev pub output : Name
output = Made print_stream_class 1

abbrev pub first_world : List Answer → World
first_world answers = record { heap = (output, Instance []) ∷ []; statics = []; begun = []; monitors = []; answers = answers }

-- ---- arguments, made in the order of the words: an array before its elements

abbrev pub texts_from : List (List ℕ) → World → List Held × World
texts_from [] w = ([], w)
texts_from (units ∷ texts) w =
    let first = add_text w units in let others = texts_from texts first.1 in (Pointer first.0 ∷ others.0, others.1)

abbrev pub with_elements : Name → List Held × World → Held × World
with_elements a made = (Pointer a, set_object made.1 a (Array made.0))

-- a list of texts is an array of String
abbrev pub texts_array : List (List ℕ) → World → Name → Held × World
texts_array texts w a = with_elements a (texts_from texts (with_object w a (Array [])))

abbrev pub a_text : Name × World → Held × World
a_text made = (Pointer made.0, made.1)

abbrev pub argument : EntryArgument → World → Held × World
argument (Int n) w = (values.Int n, w)
argument (Long n) w = (values.Long n, w)
argument Null w = (values.Null, w)
argument (Text units) w = a_text (add_text w units)
argument (Texts texts) w = texts_array texts w (next_name w (array_of string_class))

abbrev pub arguments : List EntryArgument → World → List Held × World
arguments [] w = ([], w)
arguments (x ∷ xs) w = let first = argument x w in let others = arguments xs first.1 in (first.0 ∷ others.0, others.1)

-- ---- which method is the entry

-- a value for a parameter of the type
abbrev pub takes : Classes → List ℕ → EntryArgument → Bool
takes cs type (Int n) = is_int_of (element_of type) n
takes cs type (Long n) = is_long (element_of type)
takes cs type Null = is_reference (element_of type)
takes cs type (Text units) = takes_text cs (class_in type)
takes cs type (Texts texts) = bytes_eq type (array_of string_class) || (bytes_eq type (array_of object_class) || bytes_eq type (descriptor_of object_class))

abbrev pub takes_all : Classes → List (List ℕ) → List EntryArgument → Bool
takes_all cs [] [] = true
takes_all cs (type ∷ types) (x ∷ xs) = takes cs type x && takes_all cs types xs
takes_all cs _ _ = false

-- the static method, of that name, takes the arguments
abbrev pub is_entry : Classes → List ℕ → List EntryArgument → Method → Bool
is_entry cs name words m = m.is_static && (bytes_eq m.name.member.name name && takes_all cs (parameters_in m.name.member.descriptor) words)

-- of the methods of a class in their order, the first one that takes the arguments
abbrev pub entry_among : Classes → List ℕ → List EntryArgument → List Method → Option Method
entry_among cs name words methods = find (is_entry cs name words) methods

-- ---- the first state

module _ {P : Type 0} (code : Code P) (cs : Classes) where
  abbrev pub state : List (Frame P) → World → Due → State P
  state frames w due = record { frames = frames; world = w; due = due }

  -- the run ends at its first step
  abbrev pub over : World → Ending → State P
  over w ending = state [] w (Finally ending)

  abbrev pub above : World → Method → List (Frame P) → Due → State P
  above w m frames due = state (pending code cs w m.name.class ++ frames) (begin cs w m.name.class) due

  abbrev pub at_entry : Method → List Held → World → Option (Entry P) → State P
  at_entry m given w None = over w (Unresolved (member_text m.name))
  at_entry m given w (Some e) =
      if nat_le (arguments_width given) e.locals
      then above (entering (lock_of m None) w) m (entered Ordinary m None given e ∷ []) Nothing else over w Broken

  abbrev pub with_arguments : Method → List Held × World → State P
  with_arguments m made = if m.is_native then above made.1 m [] (NativeEntry m.name made.0) else at_entry m made.0 made.1 (code.method m.name)

  -- the first state of a run of a static method, with a script
  abbrev pub start : List Answer → Method → List EntryArgument → State P
  start answers m words = with_arguments m (arguments words (first_world answers))
