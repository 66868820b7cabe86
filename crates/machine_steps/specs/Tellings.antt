-- A step that says an event.
use Rattle.std.specs.Prelude.{◌≡◌, true, false, List, [], map, length, Option, Some, refl}
use Rattle.std.specs.List.{AllByRecursion}
use Rattle.std.proofs.Common.{sym, ap, subst}
use Rattle.class_world.specs.Tables.{Known}
use Rattle.class_machine.specs.ClassFiles.{Place}
use Rattle.class_machine.specs.Events as events
use Rattle.class_machine.specs.World.{World}
use Rattle.class_machine.specs.Machine as machines
use Rattle.class_machine.specs.Machine.{State, telling}
use Rattle.event_machine.specs.Outcome as outcomes
use Rattle.machine_values.specs.declared.observed.Event.{Event}
use Rattle.machine_values.specs.declared.observed.Ending.{Ending}
use Rattle.machine_values.specs.declared.observed.Ending.TheVariants as endings
use Rattle.machine_values.specs.declared.script.Answer.{Answer}
use Rattle.machine_values.specs.declared.state.Due.TheVariants as due
use Rattle.machine_values.specs.declared.state.MachineState.{MachineState}
use Rattle.machine_values.specs.declared.frames.Frame.{Frame}
use Rattle.machine_values.specs.States.{IsFrameWithin}
use Rattle.machine_values.specs.Observed.{machine_answer, machine_event, machine_ending}
use Rattle.machine_requests.specs.Shares.{Shares, others_of}
use Rattle.machine_requests.specs.Objects.{AreFilled}
use Rattle.machine_steps.specs.declared.step.Step.{Step}
use Rattle.machine_steps.specs.declared.step.Step.TheVariants.{Went, Said, Ended}
use Rattle.machine_steps.specs.Programs.{Machine}
use Rattle.machine_steps.specs.Runs.{Runs, Stepped}
use Rattle.machine_steps.specs.Running.{waiting}

-- the heap and the tables are those of the world, where these answers are left
pub record StandsFor (m : Machine) (state : MachineState) (left : List Answer) (w : World) : Type 0 where
  pub shares : Shares m.setting state.heap (others_of state) w
  pub answers : w.answers ≡ map machine_answer left
  pub filled : AreFilled state.heap m.setting

-- Whatever step of the machine the one was, the other one is that step with the event; where that is the end, the state
-- stood for the world.
abbrev pub Tells : MachineState → Event → Step → MachineState → Step → Type 0
Tells old event step new result =
    (m : Machine) (answers : List Answer) (w : World) (outcome : machines.Step (State Place))
    → ((ending : events.Ending) → outcome ≡ outcomes.Ended ending → events.is_broken ending ≡ false → StandsFor m old answers w)
    → Stepped m old answers step outcome → Stepped m new answers result (telling (Some (machine_event event)) w outcome)

-- ---- by the step

pub tell_went : (m : Machine) (state : MachineState) (answers : List Answer) (event : Event) (w : World) (outcome : machines.Step (State Place))
    → Stepped m state answers Went outcome → Stepped m state answers (Said event) (telling (Some (machine_event event)) w outcome)
tell_went m state answers event w (outcomes.Went t) h = (refl, h)
tell_went m state answers event w (outcomes.Said other t) h = absurd h
tell_went m state answers event w (outcomes.Ended ending) h = absurd h

pub tell_said : (m : Machine) (state : MachineState) (answers : List Answer) (event other : Event) (w : World) (outcome : machines.Step (State Place))
    → Stepped m state answers (Said other) outcome → Stepped m state answers (Said other) (telling (Some (machine_event event)) w outcome)
tell_said m state answers event other w (outcomes.Said said t) h = h
tell_said m state answers event other w (outcomes.Went t) h = absurd h
tell_said m state answers event other w (outcomes.Ended ending) h = absurd h

pub tell_broken : (m : Machine) (old new : MachineState) (answers : List Answer) (event : Event) (w : World) (outcome : machines.Step (State Place)) (ending : Ending) → events.is_broken (machine_ending ending) ≡ true
    → Stepped m old answers (Ended ending) outcome → Stepped m new answers (Ended endings.Broken) (telling (Some (machine_event event)) w outcome)
tell_broken m old new answers event w (outcomes.Ended other) endings.Broken broken h = subst (λ (e : events.Ending). Stepped m new answers (Ended endings.Broken) (telling (Some (machine_event event)) w (outcomes.Ended e))) h refl
tell_broken m old new answers event w (outcomes.Ended other) (endings.Returned value) broken h = absurd cc
tell_broken m old new answers event w (outcomes.Ended other) (endings.Uncaught class message) broken h = absurd cc
tell_broken m old new answers event w (outcomes.Ended other) (endings.InitFailed class) broken h = absurd cc
tell_broken m old new answers event w (outcomes.Ended other) (endings.Exit status) broken h = absurd cc
tell_broken m old new answers event w (outcomes.Ended other) (endings.Unmodelled op) broken h = absurd cc
tell_broken m old new answers event w (outcomes.Ended other) (endings.Unresolved name) broken h = absurd cc
tell_broken m old new answers event w (outcomes.Ended other) endings.ScriptEnds broken h = absurd cc
tell_broken m old new answers event w (outcomes.Went t) ending broken h = absurd h
tell_broken m old new answers event w (outcomes.Said said t) ending broken h = absurd h

ended_runs : (m : Machine) (old new : MachineState) (answers : List Answer) (w : World) (ending : Ending) → StandsFor m old answers w → new ≡ record old { frames = new.frames; due = due.Finally ending } → new.frames.items ≡ []
    → Runs m new answers (record { frames = []; world = w; due = machines.Finally (machine_ending ending) })
ended_runs m old new answers w ending stands same none =
    let P : MachineState → Type 0 = λ s. s.frames.items ≡ [] → Runs m s answers (record { frames = []; world = w; due = machines.Finally (machine_ending ending) }) in
    subst P (sym same) (λ empty. record {
      shares = stands.shares;
      frames = record {
        frames = sym (ap (λ (fs : List Frame). waiting m old.heap.names fs) empty);
        due = refl;
        frames_within = subst (AllByRecursion (IsFrameWithin (length old.heap.names))) (sym empty) tt;
        due_within = tt;
      };
      answers = stands.answers;
      filled = stands.filled;
    }) none

-- the ending is one step later
pub tell_ended : (m : Machine) (old new : MachineState) (answers : List Answer) (event : Event) (w : World) (outcome : machines.Step (State Place)) (ending : Ending)
    → new ≡ record old { frames = new.frames; due = due.Finally ending } → new.frames.items ≡ [] → events.is_broken (machine_ending ending) ≡ false
    → ((other : events.Ending) → outcome ≡ outcomes.Ended other → events.is_broken other ≡ false → StandsFor m old answers w)
    → Stepped m old answers (Ended ending) outcome → Stepped m new answers (Said event) (telling (Some (machine_event event)) w outcome)
tell_ended m old new answers event w (outcomes.Went t) ending same none fine stands h = absurd h
tell_ended m old new answers event w (outcomes.Said said t) ending same none fine stands h = absurd h
tell_ended m old new answers event w (outcomes.Ended other) ending same none fine stands h =
    subst (λ (e : events.Ending). Stepped m new answers (Said event) (telling (Some (machine_event event)) w (outcomes.Ended e))) h
    (by ending fine (ended_runs m old new answers w ending (stands other refl (subst (λ (e : events.Ending). events.is_broken e ≡ false) h fine)) same none)) where
      by : (e : Ending) → events.is_broken (machine_ending e) ≡ false → Runs m new answers (record { frames = []; world = w; due = machines.Finally (machine_ending e) })
          → Stepped m new answers (Said event) (telling (Some (machine_event event)) w (outcomes.Ended (machine_ending e)))
      by (endings.Returned value) fine runs = (refl, runs)
      by (endings.Uncaught class message) fine runs = (refl, runs)
      by (endings.InitFailed class) fine runs = (refl, runs)
      by (endings.Exit status) fine runs = (refl, runs)
      by (endings.Unmodelled op) fine runs = (refl, runs)
      by (endings.Unresolved name) fine runs = (refl, runs)
      by endings.ScriptEnds fine runs = (refl, runs)
      by endings.Broken fine runs = absurd cc
