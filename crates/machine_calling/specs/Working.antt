-- What becomes of a call of the library that has come to its work.
use Rattle.std.specs.Prelude.{◌≡◌, ℕ, Bool, true, false, List, take, length}
use Rattle.aj_names.specs.declared.types.FieldType.{FieldType}
use Rattle.class_world.specs.Tables.{Known}
use Rattle.class_machine.specs.ClassFiles.{Place, class_code}
use Rattle.class_machine.specs.LibraryCalls as calls
use Rattle.class_machine.specs.Machine.{State}
use Rattle.class_machine.specs.Turn.{Frame, worked}
use Rattle.machine_values.specs.declared.script.Answer.{Answer}
use Rattle.machine_values.specs.declared.state.MachineState.{MachineState}
use Rattle.machine_rules.specs.declared.work.Work.{Work}
use Rattle.machine_rules.specs.declared.work.Work.TheVariants.{Results, Throws, Loads}
use Rattle.machine_steps.specs.declared.step.Step.{Step}
use Rattle.machine_steps.specs.Programs.{Machine}
use Rattle.machine_invocations.specs.Keeping.{Keeps, IsSame}
use Rattle.machine_works.specs.Finishing.{BeginsClass, IsAtWork, Finishes}
use Rattle.machine_invokes.specs.Preparing.{is_own}
use Rattle.machine_calling.specs.declared.ran.Ran.{Ran}
use Rattle.machine_calling.specs.declared.ran.Ran.TheVariants as ran

-- a class is to be loaded
abbrev pub loads_one : Work → Bool
loads_one (Loads class) = true
loads_one work = false

-- ---- done

-- the step is what the machine makes of the work, which doesn't hang on what the frame held before the instruction
pub record FinishesOwn (k : Known) (old new : MachineState) (super : Bool) (work : Work) (step : Step) : Type 0 where
  pub finishes : Finishes k old new step super work
  pub own : (m : Machine) (left : List Answer) (t : State Place) (f : Frame Place) (other : calls.Work) → IsAtWork k m old left t work other → is_own (worked (class_code m.files) m.setting.classes f f.content t.world super other) ≡ true

-- the initialisers of the class come first
pub record BeginsWork (k : Known) (old new : MachineState) (work : Work) : Type 0 where
  pub class : FieldType
  pub is : work ≡ Loads class
  pub begins : BeginsClass k old new class

abbrev pub RanWith : Known → MachineState → MachineState → Bool → Work → Ran → Type 0
RanWith k old new super work (ran.Done step) = FinishesOwn k old new super work step
RanWith k old new super work ran.Begins = BeginsWork k old new work
RanWith k old new super work (ran.Lacks event) = ⊥

-- ---- refused

-- the objects from that place on are forgotten
pub record ForgetsFrom (count : ℕ) (old new : MachineState) : Type 0 where
  pub same : new ≡ record old { heap = new.heap }
  pub names : new.heap.names ≡ take count old.heap.names
  pub contents : new.heap.contents ≡ take count old.heap.contents

-- An exception that the call made is forgotten, and no result is refused.
abbrev pub Undoes : Known → ℕ → MachineState → MachineState → Work → Type 0
Undoes k count old new (Results said v) = ⊥
Undoes k count old new (Throws x) = ForgetsFrom count old new
Undoes k count old new work = Keeps k old new

-- The same; what else is refused leaves the state as it was.
abbrev pub Restores : ℕ → MachineState → MachineState → Work → Type 0
Restores count old new (Results said v) = ⊥
Restores count old new (Throws x) = ForgetsFrom count old new
Restores count old new work = IsSame old new
