-- The arguments of an entry, and the objects that are made for them.
use Rattle.std.specs.Prelude.{◌≡◌, ℕ, List, ◌++◌, map, length}
use Rattle.std.specs.List.{AllByRecursion}
use Rattle.aj_names.specs.declared.types.Base.TheVariants as base
use Rattle.aj_names.specs.declared.types.FieldType.{FieldType}
use Rattle.class_world.specs.Tables.{Known}
use Rattle.class_machine.specs.Start.{EntryArgument, Int, Long, Null, Text, Texts, argument, arguments}
use Rattle.class_machine.specs.Values.{Held}
use Rattle.class_machine.specs.World.{World}
use Rattle.machine_values.specs.declared.content.Content.{Content}
use Rattle.machine_values.specs.declared.script.EntryArg.{EntryArg}
use Rattle.machine_values.specs.declared.script.EntryArg.TheVariants as given
use Rattle.machine_values.specs.declared.values.Value.{Value}
use Rattle.machine_values.specs.Standing.{held, Settled}
use Rattle.machine_values.specs.Things.{Things}
use Rattle.machine_requests.specs.Replies.{IsLonger}
use Rattle.machine_requests.specs.Shares.{Others}
use Rattle.machine_steps.specs.Programs.{Machine, IsMachine}
use Rattle.machine_natives.specs.Throwables.{Holds}

-- as the machine has it
abbrev pub argument_of : EntryArg → EntryArgument
argument_of (given.Int n) = Int n
argument_of (given.Long n) = Long n
argument_of (given.Text units) = Text units
argument_of (given.Texts texts) = Texts texts
argument_of given.Null = Null

-- arrays of the class
abbrev pub array_type : List ℕ → FieldType
array_type class = record { base = base.Class class; dims = 1 }

-- what was there holds what it held
abbrev pub KeepsContents : Things → Things → Type 0
KeepsContents before after = (more : List Content) × (after.contents ≡ before.contents ++ more)

-- ---- one argument

-- in one world of the machine: the value is the machine's, and the heap stands for the world with it
pub record IsValue (m : Machine) (after : Things) (others : Others) (v : Value) (made : Held × World) : Type 0 where
  pub value : held m.setting.heads after.names v ≡ made.0
  pub holds : Holds m after others made.1

-- whatever world of the machine the heap stood for
pub record MakesValue (k : Known) (before : Things) (x : EntryArgument) (after : Things) (v : Value) : Type 0 where
  pub there : (m : Machine) (others : Others) (w : World) → IsMachine k m → Holds m before others w → IsValue m after others v (argument x w)
  pub settled : Settled (length after.names) v
  pub longer : IsLonger before after

-- ---- all of them

pub record AreValues (m : Machine) (after : Things) (others : Others) (vs : List Value) (made : List Held × World) : Type 0 where
  pub values : map (held m.setting.heads after.names) vs ≡ made.0
  pub holds : Holds m after others made.1

pub record MakesValues (k : Known) (before : Things) (xs : List EntryArgument) (after : Things) (vs : List Value) : Type 0 where
  pub there : (m : Machine) (others : Others) (w : World) → IsMachine k m → Holds m before others w → AreValues m after others vs (arguments xs w)
  pub settled : AllByRecursion (Settled (length after.names)) vs
  pub longer : IsLonger before after
