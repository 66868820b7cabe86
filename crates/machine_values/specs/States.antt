-- Which state of the class machine a state of this crate is, but for the answers that are left.
use Rattle.std.specs.Prelude.{◌≡◌, ℕ, ◌<◌, Bool, ◌&&◌, true, false, nat_lt, List, map, reverse, length, slice_get, slice_index, slice_index_or, Option, Some, None}
use Rattle.std.specs.List.{AllByRecursion}
use Rattle.std.specs.Option.{option_map}
use Rattle.class_heads.specs.declared.types.ClassHead.{ClassHead}
use Rattle.class_heads.specs.Hierarchy.{name_at}
use Rattle.class_file.specs.Pool.{Reference}
use Rattle.class_machine.specs.Values as machine
use Rattle.class_machine.specs.Classes.{is_among}
use Rattle.class_machine.specs.ClassFiles.{Place, place_in}
use Rattle.class_machine.specs.LibraryCalls as calls
use Rattle.class_machine.specs.World.{find_field, count_in}
use Rattle.class_machine.specs.Turn as turns
use Rattle.class_machine.specs.Machine as machines
use Rattle.class_machine.specs.Machine.{State}
use Rattle.machine_values.specs.declared.values.Ref.{Ref}
use Rattle.machine_values.specs.declared.values.Value.{Value}
use Rattle.machine_values.specs.declared.values.Value.TheVariants.{Reference as Pointer, Token, ReturnAddress}
use Rattle.machine_values.specs.declared.values.Local.{Local}
use Rattle.machine_values.specs.declared.values.Local.TheVariants.{Unset, Holds, Second}
use Rattle.machine_values.specs.declared.names.Name.{Name}
use Rattle.machine_values.specs.declared.frames.Destination.{Destination}
use Rattle.machine_values.specs.declared.frames.Destination.TheVariants.{Prints, Appends, Gives}
use Rattle.machine_values.specs.declared.frames.Wait.{Wait}
use Rattle.machine_values.specs.declared.frames.Purpose.{Purpose}
use Rattle.machine_values.specs.declared.frames.Purpose.TheVariants.{Ordinary, Constructs, Initialises, Within}
use Rattle.machine_values.specs.declared.frames.Frame.{Frame}
use Rattle.machine_values.specs.declared.state.Due.{Due}
use Rattle.machine_values.specs.declared.state.Due.TheVariants as due
use Rattle.machine_values.specs.declared.state.MachineState.{MachineState}
use Rattle.machine_values.specs.Observed.{machine_ending}
use Rattle.machine_values.specs.Standing.{name_of, name_in, held, Settled, Stands}

module _ (heads : List ClassHead) (methods : ℕ → Reference) (names : List Name) where
  abbrev pub object_name : Ref → machine.Name
  object_name at = name_of heads names at

  -- ---- frames

  -- the place of an instruction, by the number of a byte of the method's code
  abbrev pub value_in : ℕ → Value → machine.Value Place
  value_in method (Token class number) = machine.Token (name_at heads class.0) number
  value_in method (ReturnAddress pc) = machine.ReturnAddress (place_in (methods method) pc)
  value_in method v = machine.Plain (held heads names v)

  abbrev pub local_in : ℕ → Local → machine.Local Place
  local_in method Unset = machine.Unset
  local_in method (Holds v) = machine.Holds (value_in method v)
  local_in method Second = machine.Second

  abbrev pub machine_destination : Destination → calls.Wait
  machine_destination (Prints line) = calls.Prints line
  machine_destination (Appends buffer) = calls.Appends (object_name buffer)
  machine_destination Gives = calls.Gives

  abbrev pub described : Option Ref → calls.Wait → calls.Wait
  described None rest = rest
  described (Some x) rest = calls.Describes (object_name x) rest

  abbrev pub machine_wait : Wait → calls.Wait
  machine_wait wait = described wait.describes (machine_destination wait.destination)

  abbrev pub machine_purpose : Purpose → turns.Purpose
  machine_purpose Ordinary = turns.Ordinary
  machine_purpose Constructs = turns.Constructs
  machine_purpose (Initialises class) = turns.Initialises (name_at heads class.0)
  machine_purpose (Within wait) = turns.Within (machine_wait wait)

  abbrev pub machine_content : ℕ → Frame → machine.Content Place
  machine_content method f = machine.content (map (value_in method) f.operands.values) (map (local_in method) f.locals)

  abbrev pub machine_frame : Frame → turns.Frame Place
  machine_frame f = record {
    method = methods f.method.0;
    place = place_in (methods f.method.0) f.pc;
    content = machine_content f.method.0 f;
    room = f.operands.room;
    monitor = option_map object_name f.monitor;
    constructed = f.constructed;
    purpose = machine_purpose f.purpose;
  }

  -- ---- what is due

  abbrev pub machine_due : Due → machines.Due
  machine_due due.Nothing = machines.Nothing
  machine_due (due.NativeEntry method given) = machines.NativeEntry (methods method.0) (map (held heads names) given)
  machine_due (due.Finally ending) = machines.Finally (machine_ending ending)

-- ---- values that name objects there are

abbrev pub is_known : ℕ → Value → Bool
is_known count (Pointer at) = nat_lt at.0 count
is_known count v = true

abbrev pub is_known_local : ℕ → Local → Bool
is_known_local count (Holds v) = is_known count v
is_known_local count _ = true

abbrev pub is_known_object : ℕ → Option Ref → Bool
is_known_object count None = true
is_known_object count (Some at) = nat_lt at.0 count

abbrev pub is_known_destination : ℕ → Destination → Bool
is_known_destination count (Appends buffer) = nat_lt buffer.0 count
is_known_destination count _ = true

abbrev pub is_known_purpose : ℕ → Purpose → Bool
is_known_purpose count (Within wait) = is_known_object count wait.describes && is_known_destination count wait.destination
is_known_purpose count _ = true

-- the frame refers to none but the first so many objects
pub record IsFrameWithin (count : ℕ) (f : Frame) : Type 0 where
  pub operands : AllByRecursion (λ v. is_known count v ≡ true) f.operands.values
  pub locals : AllByRecursion (λ l. is_known_local count l ≡ true) f.locals
  pub monitor : is_known_object count f.monitor ≡ true
  pub purpose : is_known_purpose count f.purpose ≡ true

-- what is due refers to none but the first so many objects
abbrev pub IsDueWithin : ℕ → Due → Type 0
IsDueWithin count (due.NativeEntry method given) = AllByRecursion (Settled count) given
IsDueWithin count _ = Unit {0}

abbrev pub IsStaticWithin : ℕ → Option Value → Type 0
IsStaticWithin count None = Unit {0}
IsStaticWithin count (Some v) = Settled count v

-- ---- the state

-- The static fields have their references by their numbers, as the methods have theirs.
pub record Represents (heads : List ClassHead) (fields : List ℕ → List Reference) (methods field_names : ℕ → Reference) (s : MachineState) (t : State Place) : Type 0 where
  pub heap : Stands heads fields s.heap t.world.heap
  pub statics : (n : ℕ) → n < length s.statics → find_field t.world.statics (field_names n) ≡ option_map (held heads s.heap.names) (slice_index_or s.statics n None)
  pub begun : (n : ℕ) → n < length heads → is_among t.world.begun (name_at heads n) ≡ slice_index_or s.begun n false
  pub monitors : (n : ℕ) → n < length s.heap.names → count_in t.world.monitors (name_in heads (slice_get s.heap.names n)) ≡ slice_index s.monitors n
  pub frames : t.frames ≡ map (machine_frame heads methods s.heap.names) (reverse s.frames.items)
  pub due : t.due ≡ machine_due heads methods s.heap.names s.due
  pub statics_within : AllByRecursion (IsStaticWithin (length s.heap.names)) s.statics
  pub frames_within : AllByRecursion (IsFrameWithin (length s.heap.names)) s.frames.items
  pub due_within : IsDueWithin (length s.heap.names) s.due
