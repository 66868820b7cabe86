-- Which world of the class machine the heap, the static fields, the classes that have begun and the monitors are.
use Rattle.std.specs.Prelude.{◌≡◌, ℕ, ◌<◌, ◌≤◌, Bool, false, List, map, reverse, length, slice_get, slice_index, slice_index_or, Option, None}
use Rattle.std.specs.List.{AllByRecursion}
use Rattle.std.specs.Option.{option_map}
use Rattle.class_file.specs.Pool.{Reference}
use Rattle.class_heads.specs.declared.types.ClassHead.{ClassHead}
use Rattle.class_heads.specs.Hierarchy.{name_at}
use Rattle.class_machine.specs.Values as machine
use Rattle.class_machine.specs.Classes.{Classes, is_among}
use Rattle.class_machine.specs.ClassFiles.{Place}
use Rattle.class_machine.specs.World.{World, find_field, count_in}
use Rattle.class_machine.specs.Machine.{State}
use Rattle.machine_values.specs.declared.values.Value.{Value}
use Rattle.machine_values.specs.declared.names.Name.{Name}
use Rattle.machine_values.specs.declared.state.MachineState.{MachineState}
use Rattle.machine_values.specs.Things.{Things}
use Rattle.machine_values.specs.Standing.{name_in, held, Stands}
use Rattle.machine_values.specs.States.{IsStaticWithin, machine_frame, machine_due, IsFrameWithin, IsDueWithin, Represents}
use Rattle.machine_requests.specs.Telling.{AreFit}

-- What there is beside the heap: by the number of a field, what was stored in the static field; by the number of a class,
-- whether its initialisation has begun; by the place of an object, how often its monitor was entered and not left.
pub record Others : Type 0 where
  pub statics : List (Option Value)
  pub begun : List Bool
  pub monitors : List ℕ

-- the classes, what the machine asks of them, and the fields by their numbers
pub record Setting : Type 0 where
  pub heads : List ClassHead
  pub classes : Classes
  pub field_names : ℕ → Reference

-- no place has the object
abbrev pub IsNowhere : List ClassHead → List Name → machine.Name → Type 0
IsNowhere heads names a = (place : ℕ) → place < length names → machine.same_name (name_in heads (slice_get names place)) a ≡ false

pub record Shares (s : Setting) (things : Things) (others : Others) (w : World) : Type 0 where
  pub heap : Stands s.heads s.classes.fields things w.heap
  pub fit : AreFit (length s.heads) things.names
  pub statics : (n : ℕ) → n < length others.statics → find_field w.statics (s.field_names n) ≡ option_map (held s.heads things.names) (slice_index_or others.statics n None)
  pub statics_within : AllByRecursion (IsStaticWithin (length things.names)) others.statics
  pub begun : (n : ℕ) → n < length s.heads → is_among w.begun (name_at s.heads n) ≡ slice_index_or others.begun n false
  pub monitors : (n : ℕ) → n < length things.names → count_in w.monitors (name_in s.heads (slice_get things.names n)) ≡ slice_index others.monitors n
  pub monitors_within : length others.monitors ≤ length things.names
  -- no monitor was entered but those of objects
  pub unentered : (a : machine.Name) → IsNowhere s.heads things.names a → count_in w.monitors a ≡ 0

-- ---- the whole state

abbrev pub others_of : MachineState → Others
others_of state = record { statics = state.statics; begun = state.begun; monitors = state.monitors }

-- the frames, and what is due when none is left
pub record HasFrames (heads : List ClassHead) (methods : ℕ → Reference) (state : MachineState) (t : State Place) : Type 0 where
  pub frames : t.frames ≡ map (machine_frame heads methods state.heap.names) (reverse state.frames.items)
  pub due : t.due ≡ machine_due heads methods state.heap.names state.due
  pub frames_within : AllByRecursion (IsFrameWithin (length state.heap.names)) state.frames.items
  pub due_within : IsDueWithin (length state.heap.names) state.due

-- a state is that of the machine by its parts
pub represents : (s : Setting) (methods : ℕ → Reference) (state : MachineState) (t : State Place) → Shares s state.heap (others_of state) t.world → HasFrames s.heads methods state t
    → Represents s.heads s.classes.fields methods s.field_names state t
represents s methods state t shares frames = record {
  heap = shares.heap;
  statics = shares.statics;
  begun = shares.begun;
  monitors = shares.monitors;
  frames = frames.frames;
  due = frames.due;
  statics_within = shares.statics_within;
  frames_within = frames.frames_within;
  due_within = frames.due_within;
}
