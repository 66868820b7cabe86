-- The initialisers that a trigger of a class gives frames (JVMS 2.17.4), and the classes that it marks.
use Rattle.std.specs.Prelude.{◌≡◌, ℕ, ◌<◌, Bool, true, false, if◌then◌else◌, List, [], ◌∷◌, ◌++◌, map, reverse, length, slice_index_or, Option, Some, None}
use Rattle.std.specs.List.{AllByRecursion}
use Rattle.aj_names.specs.declared.ids.MethodId.{MethodId}
use Rattle.class_file.specs.Pool.{Reference}
use Rattle.class_heads.specs.Hierarchy.{name_at, superclasses}
use Rattle.class_world.specs.Tables.{Known}
use Rattle.class_machine.specs.Classes.{Method, is_among}
use Rattle.class_machine.specs.ClassFiles.{Place, entry_of, class_code}
use Rattle.class_machine.specs.World.{begin}
use Rattle.class_machine.specs.Turn as turns
use Rattle.class_machine.specs.Turn.{own_initialiser, initialisers, pending}
use Rattle.class_machine.specs.Machine.{State}
use Rattle.machine_code.specs.declared.method_code.MethodCode as lent
use Rattle.machine_code.specs.Views.{code_seen}
use Rattle.machine_values.specs.declared.frames.Frame.{Frame}
use Rattle.machine_values.specs.declared.names.Name.{Name}
use Rattle.machine_values.specs.declared.script.Answer.{Answer}
use Rattle.machine_values.specs.declared.state.MachineState.{MachineState}
use Rattle.machine_values.specs.States.{machine_frame, IsFrameWithin}
use Rattle.machine_steps.specs.Programs.{Machine, IsMachine}
use Rattle.machine_steps.specs.Runs.{IsMethod, Runs}
use Rattle.machine_invocations.specs.Methods.{classes_in, Sees}
use Rattle.machine_invocations.specs.Standards.{machine_of}

-- ---- frames of initialisers

-- frames that refer to no object, of methods of the world
pub record AreBare (k : Known) (frames : List Frame) : Type 0 where
  pub methods : AllByRecursion (λ (f : Frame). IsMethod k f.method.0) frames
  pub within : (count : ℕ) → AllByRecursion (IsFrameWithin count) frames

-- the class has this initialiser, with this code
pub record HasInitialiser (k : Known) (class number : ℕ) (found : lent.MethodCode) : Type 0 where
  pub method : Method
  pub sees : Sees k number method
  pub is : (classes_in k).initialiser (name_at k.heads class) ≡ Some method
  pub code : (class_code k.files).method method.name ≡ Some (entry_of method.name (code_seen found))

abbrev pub LacksInitialiser : Known → ℕ → Type 0
LacksInitialiser k class = own_initialiser (class_code k.files) (classes_in k) (name_at k.heads class) ((classes_in k).initialiser (name_at k.heads class)) ≡ []

abbrev pub IsInitialiser : Known → ℕ → Option (MethodId × lent.MethodCode) → Type 0
IsInitialiser k class None = LacksInitialiser k class
IsInitialiser k class (Some found) = HasInitialiser k class found.0.0 found.1

-- the frame of the class's own initialiser, if it has one
pub record AreOwn (k : Known) (class : ℕ) (frames : List Frame) : Type 0 where
  pub same : (fields methods : ℕ → Reference) (names : List Name) → IsMachine k (machine_of k fields methods)
      → map (machine_frame k.heads methods names) frames ≡ own_initialiser (class_code k.files) (classes_in k) (name_at k.heads class) ((classes_in k).initialiser (name_at k.heads class))
  pub bare : AreBare k frames

-- where the class's initialisation has begun, there is none
pub record IsPendingAt (k : Known) (begun : List Bool) (class : ℕ) (frames : List Frame) : Type 0 where
  pub same : (fields methods : ℕ → Reference) (names : List Name) → IsMachine k (machine_of k fields methods)
      → map (machine_frame k.heads methods names) (reverse frames)
      ≡ (if slice_index_or begun class false then [] else own_initialiser (class_code k.files) (classes_in k) (name_at k.heads class) ((classes_in k).initialiser (name_at k.heads class)))
  pub bare : AreBare k frames

pub record AddsPending (k : Known) (begun : List Bool) (class : ℕ) (old new : List Frame) : Type 0 where
  pub own : List Frame
  pub added : new ≡ old ++ own
  pub pending : IsPendingAt k begun class own

-- the machine has the same classes begun
abbrev pub HasBegun : Known → List Bool → List (List ℕ) → Type 0
HasBegun k begun names = (n : ℕ) → n < length k.heads → is_among names (name_at k.heads n) ≡ slice_index_or begun n false

-- the names of the class and its superclasses, upward
abbrev pub names_upward : Known → ℕ → List (List ℕ)
names_upward k class = map (name_at k.heads) (superclasses k.heads class)

-- the frames of the initialisers that are pending at a trigger of the class, the running one last
pub record ArePending (k : Known) (begun : List Bool) (class : ℕ) (frames : List Frame) : Type 0 where
  pub same : (fields methods : ℕ → Reference) (names : List Name) (others : List (List ℕ)) → IsMachine k (machine_of k fields methods) → HasBegun k begun others
      → map (machine_frame k.heads methods names) (reverse frames) ≡ initialisers (class_code k.files) (classes_in k) others (names_upward k class)
  pub bare : AreBare k frames

-- ---- a trigger

-- the state of the machine where the initialisers that were pending have frames
abbrev pub begun_state : Machine → State Place → List ℕ → State Place
begun_state m t class = record t { frames = pending (class_code m.files) m.setting.classes t.world class ++ t.frames; world = begin m.setting.classes t.world class }

abbrev pub has_frame : List (turns.Frame Place) → Bool
has_frame [] = false
has_frame (f ∷ frames) = true

pub record Begins (m : Machine) (new : MachineState) (answers : List Answer) (t : State Place) (class : List ℕ) (some : Bool) : Type 0 where
  pub runs : Runs m new answers (begun_state m t class)
  -- whether any was pending
  pub pushed : has_frame (pending (class_code m.files) m.setting.classes t.world class) ≡ some

-- beside the marks only frames were added, none where none was pending
pub record AddsFrames (old new : MachineState) (some : Bool) : Type 0 where
  pub own : List Frame
  pub frames : new.frames.items ≡ old.frames.items ++ own
  pub none : some ≡ false → own ≡ []
  pub same : new ≡ record old { frames = new.frames; begun = new.begun }
