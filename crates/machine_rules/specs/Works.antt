-- What the work of a library call stands for, with what there is after it.
use Rattle.std.specs.Prelude.{◌≡◌, ℕ, ◌<◌, true, List, take, length, Option, Some, None}
use Rattle.std.specs.Option.{option_map}
use Rattle.aj_names.specs.declared.types.FieldType.{FieldType}
use Rattle.class_file.specs.Pool.{Reference}
use Rattle.class_heads.specs.Numbers.{number_of, method_counts}
use Rattle.class_heads.specs.Searches.{MemberPlace}
use Rattle.class_world.specs.Tables.{Known}
use Rattle.class_machine.specs.Classes.{Method}
use Rattle.class_machine.specs.ClassFiles.{field_constant}
use Rattle.class_machine.specs.Declarations.{classes_of, method_at}
use Rattle.class_machine.specs.Values as machine
use Rattle.class_machine.specs.LibraryCalls as calls
use Rattle.class_machine.specs.World as worlds
use Rattle.class_machine.specs.World.{World}
use Rattle.machine_code.specs.Programs.{IsFirst}
use Rattle.machine_values.specs.declared.frames.Wait.{Wait}
use Rattle.machine_values.specs.declared.names.Name.{Name}
use Rattle.machine_values.specs.declared.observed.Event.{Event}
use Rattle.machine_values.specs.declared.values.Ref.{Ref}
use Rattle.machine_values.specs.declared.values.Value.{Value}
use Rattle.machine_values.specs.Observed.{machine_event}
use Rattle.machine_values.specs.Standing.{name_of, held}
use Rattle.machine_values.specs.States.{machine_wait, is_known_object, is_known_destination, IsStaticWithin}
use Rattle.machine_values.specs.Things.{Things}
use Rattle.machine_values.specs.Types.{type_name}
use Rattle.machine_requests.specs.Objects.{AreFilled}
use Rattle.machine_requests.specs.Shares.{Setting, Others, Shares}
use Rattle.machine_requests.specs.Telling.{AreDistinct, is_class_type}
use Rattle.machine_rules.specs.declared.work.Work.{Work}
use Rattle.machine_rules.specs.declared.work.Work.TheVariants.{Results, Throws, Faults, Calls, Loads, Exits, Misuses}

-- ---- the classes of a run

-- the setting of a world, with names for the fields' numbers
abbrev pub setting_of : Known → (ℕ → Reference) → Setting
setting_of k names = record { heads = k.heads; classes = classes_of k.heads (length k.files) (field_constant k.files); field_names = names }

pub record IsSettingOf (k : Known) (s : Setting) : Type 0 where
  pub heads : s.heads ≡ k.heads
  pub classes : s.classes ≡ classes_of k.heads (length k.files) (field_constant k.files)
  pub distinct : AreDistinct k.heads

-- the heap and the others stand for the world
pub record Holds (s : Setting) (things : Things) (others : Others) (w : World) : Type 0 where
  pub shares : Shares s things others w

-- ---- work

-- the method of that number, as the machine sees it: a search has found it, and it has no rule
pub record IsCalled (k : Known) (number : ℕ) (m : Method) : Type 0 where
  pub place : MemberPlace
  pub first : IsFirst k.heads place
  pub numbered : number ≡ number_of (method_counts k.heads) place
  pub found : method_at k.heads (length k.files) (field_constant k.files) place ≡ Some m
  pub bare : m.rule ≡ None

-- a wait that refers to none but the first so many objects
pub record IsKnownWait (count : ℕ) (wait : Wait) : Type 0 where
  pub exception : is_known_object count wait.describes ≡ true
  pub destination : is_known_destination count wait.destination ≡ true

-- a wait, by the names of its objects
abbrev pub Waits : Setting → List Name → Wait → calls.Wait → Type 0
Waits s names wait other = (methods : ℕ → Reference) → machine_wait s.heads methods names wait ≡ other

pub record IsResult (s : Setting) (things : Things) (others : Others) (said : Option Event) (v : Option Value) (other : calls.Work) : Type 0 where
  pub world : World
  pub same : other ≡ calls.Results (option_map machine_event said) (option_map (held s.heads things.names) v) world
  pub settled : IsStaticWithin (length things.names) v
  pub holds : Holds s things others world

pub record IsThrow (s : Setting) (things : Things) (others : Others) (x : Ref) (other : calls.Work) : Type 0 where
  pub world : World
  pub same : other ≡ calls.Throws (name_of s.heads things.names x) world
  pub within : x.0 < length things.names
  pub holds : Holds s things others world

pub record IsCall (k : Known) (s : Setting) (things : Things) (others : Others) (number : ℕ) (object : Ref) (wait : Wait) (other : calls.Work) : Type 0 where
  pub world : World
  pub method : Method
  pub waits : calls.Wait
  pub same : other ≡ calls.Calls method (name_of s.heads things.names object) waits world
  pub called : IsCalled k number method
  pub within : object.0 < length things.names
  pub waiting : Waits s things.names wait waits
  pub known : IsKnownWait (length things.names) wait
  pub holds : Holds s things others world

pub record IsLoad (s : Setting) (things : Things) (others : Others) (before : World) (type : FieldType) (other : calls.Work) : Type 0 where
  pub same : other ≡ calls.Loads (type_name type)
  pub class : is_class_type type ≡ true
  pub holds : Holds s things others before

pub record IsNoWork (s : Setting) (things : Things) (others : Others) (before : World) (expected other : calls.Work) : Type 0 where
  pub same : other ≡ expected
  pub holds : Holds s things others before

-- The work stands for the machine's, and the heap and the others for the world that the machine goes on with: where its work
-- has none, the one before.
abbrev pub Works : Known → Setting → Things → Others → World → Work → calls.Work → Type 0
Works k s things others before (Results said v) other = IsResult s things others said v other
Works k s things others before (Throws x) other = IsThrow s things others x other
Works k s things others before (Faults fault) other = IsNoWork s things others before (calls.Faults fault) other
Works k s things others before (Calls method object wait) other = IsCall k s things others method.0 object wait other
Works k s things others before (Loads type) other = IsLoad s things others before type other
Works k s things others before (Exits status) other = IsNoWork s things others before (calls.Exits status) other
Works k s things others before Misuses other = IsNoWork s things others before calls.Misuses other

-- what is to be done, where the classes and the objects have these names
abbrev pub Asked : Type 0
Asked = Setting → List Name → World → calls.Work

-- Whatever world the heap and the others stood for, the work, and the heap and the others then, stand for the machine's.
abbrev pub Does : Known → Things → Asked → Things → Work → Type 0
Does k before asked after work =
    (names : ℕ → Reference) (others : Others) (w : World) → AreDistinct k.heads → Holds (setting_of k names) before others w
    → Works k (setting_of k names) after others w work (asked (setting_of k names) before.names w)

-- the same, in any setting of the world
abbrev pub DoesAnywhere : Known → Things → Asked → Things → Work → Type 0
DoesAnywhere k before asked after work =
    (s : Setting) (others : Others) (w : World) → IsSettingOf k s → Shares s before others w → Works k s after others w work (asked s before.names w)

-- where each object has a value for each field of its class
abbrev pub DoesWhole : Known → Things → Asked → Things → Work → Type 0
DoesWhole k before asked after work =
    (s : Setting) (others : Others) (w : World) → IsSettingOf k s → Shares s before others w → AreFilled before s → Works k s after others w work (asked s before.names w)

-- objects were added
pub record Grows (before after : Things) : Type 0 where
  pub names : take (length before.names) after.names ≡ before.names
  pub contents : take (length before.contents) after.contents ≡ before.contents

-- What the work made of the heap: with a result it may have changed objects, with an exception it added some, and else it
-- left the heap as it was.
abbrev pub ChangesBy : Things → Things → Work → Type 0
ChangesBy before after (Results said v) = Unit {0}
ChangesBy before after (Throws x) = Grows before after
ChangesBy before after work = after ≡ before

-- ---- new objects

-- the object has the name, and they stand for the world
pub record IsAdded (s : Setting) (things : Things) (others : Others) (at : Ref) (a : machine.Name) (w : World) : Type 0 where
  pub name : name_of s.heads things.names at ≡ a
  pub within : at.0 < length things.names
  pub holds : Holds s things others w

-- the new String of these units
abbrev pub AddsText : Known → Things → List ℕ → Things → Ref → Type 0
AddsText k before units after at =
    (names : ℕ → Reference) (others : Others) (w : World) → AreDistinct k.heads → Holds (setting_of k names) before others w
    → IsAdded (setting_of k names) after others at (worlds.add_text w units).0 (worlds.add_text w units).1
