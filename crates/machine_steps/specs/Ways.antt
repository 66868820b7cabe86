-- Which way an exception goes out of its frames.
use Rattle.std.specs.Prelude.{ℕ, List}
use Rattle.std.specs.List.{AllByRecursion}
use Rattle.class_world.specs.Tables.{Known}
use Rattle.machine_values.specs.declared.frames.Frame.{Frame}
use Rattle.machine_steps.specs.declared.unwinding.Way.{Way}
use Rattle.machine_steps.specs.declared.unwinding.Way.TheVariants.{Caught, Fails, Leaves}
use Rattle.machine_steps.specs.Unwinding.{Passes, Catches, FailsFor}

-- of an exception of the class
abbrev pub IsWay : Known → ℕ → List Frame → Way → Type 0
IsWay k class frames (Caught index pc) = Catches k class frames index pc
IsWay k class frames (Fails failed) = FailsFor k class frames failed.0
IsWay k class frames Leaves = AllByRecursion (Passes k class) frames
