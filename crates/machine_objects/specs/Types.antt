-- Tests of the types of objects.
use Rattle.std.specs.Prelude.{ℕ, Bool, List, Option}
use Rattle.class_world.specs.Tables.{Known}
use Rattle.class_machine.specs.World.{World}
use Rattle.machine_values.specs.declared.values.Ref.{Ref}
use Rattle.machine_values.specs.Things.{Things}
use Rattle.machine_requests.specs.Objects.{IsBelow}
use Rattle.machine_requests.specs.Shares.{Others, Shares}
use Rattle.machine_steps.specs.Programs.{Machine, IsMachine}

-- whatever world of the machine the heap stands for, whether the object is one of the class
abbrev pub TellsType : Known → Things → Option Ref → List ℕ → Bool → Type 0
TellsType k things object class below =
    (m : Machine) (others : Others) (w : World) → IsMachine k m → Shares m.setting things others w → IsBelow things object class below m.setting
