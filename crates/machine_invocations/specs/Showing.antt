-- Values and calls as events and endings show them.
use Rattle.std.specs.Prelude.{◌≡◌, ℕ, List, [], map}
use Rattle.class_world.specs.Tables.{Known}
use Rattle.class_machine.specs.World.{World, shown}
use Rattle.machine_values.specs.declared.content.Content.{Content}
use Rattle.machine_values.specs.declared.content.Content.TheVariants.{Text}
use Rattle.machine_values.specs.declared.observed.Shown.{Shown}
use Rattle.machine_values.specs.declared.values.Value.{Value}
use Rattle.machine_values.specs.Observed.{machine_shown}
use Rattle.machine_values.specs.Standing.{held}
use Rattle.machine_values.specs.Things.{Things}
use Rattle.machine_requests.specs.Shares.{Others, Shares}
use Rattle.machine_steps.specs.Programs.{Machine, IsMachine}

-- whatever world of the machine the heap stands for, the value is shown so
abbrev pub Shows : Known → Things → Value → Shown → Type 0
Shows k things v seen = (m : Machine) (others : Others) (w : World) → IsMachine k m → Shares m.setting things others w → machine_shown seen ≡ shown w (held m.setting.heads things.names v)

abbrev pub AreShown : Known → Things → List Value → List Shown → Type 0
AreShown k things vs seen = (m : Machine) (others : Others) (w : World) → IsMachine k m → Shares m.setting things others w → map machine_shown seen ≡ map (λ v. shown w (held m.setting.heads things.names v)) vs

-- the units of a text, and none of what is none
abbrev pub units_in : Content → List ℕ
units_in (Text units) = units
units_in content = []
