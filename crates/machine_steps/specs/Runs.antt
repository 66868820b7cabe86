-- Which state of the class machine a state in memory is, and which step of it a step.
use Rattle.std.specs.Prelude.{◌≡◌, ℕ, List, map, drop, length}
use Rattle.std.specs.List.{AllByRecursion, sum}
use Rattle.class_heads.specs.Numbers.{number_of, field_counts, method_counts}
use Rattle.class_heads.specs.Searches.{MemberPlace}
use Rattle.class_world.specs.Tables.{Known}
use Rattle.class_machine.specs.ClassFiles.{Place}
use Rattle.class_machine.specs.Machine as machines
use Rattle.class_machine.specs.Machine.{State}
use Rattle.event_machine.specs.Outcome as outcomes
use Rattle.machine_code.specs.Programs.{IsFirst}
use Rattle.machine_values.specs.declared.frames.Frame.{Frame}
use Rattle.machine_values.specs.declared.script.Answer.{Answer}
use Rattle.machine_values.specs.declared.script.Script.{Script}
use Rattle.machine_values.specs.declared.state.Due.{Due}
use Rattle.machine_values.specs.declared.state.Due.TheVariants.{NativeEntry}
use Rattle.machine_values.specs.declared.state.MachineState.{MachineState}
use Rattle.machine_values.specs.Observed.{machine_answer, machine_event, machine_ending}
use Rattle.machine_requests.specs.Shares.{Shares, HasFrames, others_of}
use Rattle.machine_requests.specs.Objects.{AreFilled}
use Rattle.machine_steps.specs.declared.step.Step.{Step}
use Rattle.machine_steps.specs.declared.step.Step.TheVariants.{Went, Said, Ended}
use Rattle.machine_steps.specs.Programs.{Machine}

-- ---- what holds of a state by itself

-- the method is the first of its name and descriptor in its class
pub record IsMethod (k : Known) (number : ℕ) : Type 0 where
  pub place : MemberPlace
  pub first : IsFirst k.heads place
  pub numbered : number ≡ number_of (method_counts k.heads) place

abbrev pub IsDueFormed : Known → Due → Type 0
IsDueFormed k (NativeEntry method given) = IsMethod k method.0
IsDueFormed k _ = Unit {0}

-- the tables are as long as the world's, and the methods are the world's
pub record IsFormed (k : Known) (state : MachineState) : Type 0 where
  pub statics : length state.statics ≡ sum (field_counts k.heads)
  pub begun : length state.begun ≡ length k.heads
  pub frames : AllByRecursion (λ (f : Frame). IsMethod k f.method.0) state.frames.items
  pub due : IsDueFormed k state.due

-- ---- the state of the machine

-- the answers that are left
abbrev pub answers_left : Script → List Answer
answers_left script = drop script.next script.answers

pub record Runs (m : Machine) (state : MachineState) (left : List Answer) (t : State Place) : Type 0 where
  pub shares : Shares m.setting state.heap (others_of state) t.world
  pub frames : HasFrames m.setting.heads m.methods state t
  pub answers : t.world.answers ≡ map machine_answer left
  pub filled : AreFilled state.heap m.setting

-- ---- steps

-- The step is the machine's: the same event or ending, and where the run goes on the state stands for the machine's next one.
abbrev pub Stepped : Machine → MachineState → List Answer → Step → machines.Step (State Place) → Type 0
Stepped m state answers Went (outcomes.Went t) = Runs m state answers t
Stepped m state answers (Said event) (outcomes.Said other t) = (machine_event event ≡ other) × Runs m state answers t
Stepped m state answers (Ended ending) (outcomes.Ended other) = machine_ending ending ≡ other
Stepped m state answers step outcome = ⊥

-- whatever state of the machine the old one stood for, the new one stands for it too
abbrev pub StandsStill : MachineState → MachineState → Type 0
StandsStill old new = (m : Machine) (answers : List Answer) (t : State Place) → Runs m old answers t → Runs m new answers t
