-- The step is that of the part which has it.
use Rattle.std.specs.Prelude.{◌≡◌, Bool, true, false, List, refl}
use Rattle.std.proofs.Common.{sym, subst}
use Rattle.class_world.specs.Tables.{Known}
use Rattle.class_machine.specs.ClassFiles.{Place}
use Rattle.class_machine.specs.Machine as machines
use Rattle.class_machine.specs.Machine.{State}
use Rattle.event_machine.specs.Outcome as outcomes
use Rattle.machine_values.specs.declared.script.Answer.{Answer}
use Rattle.machine_values.specs.declared.state.MachineState.{MachineState}
use Rattle.machine_steps.specs.declared.step.Step.{Step}
use Rattle.machine_steps.specs.declared.step.Step.TheVariants.{NotMine}
use Rattle.machine_steps.specs.Parts.{Part, is_part, part_of, TakesOr, Takes}
use Rattle.machine_steps.specs.Programs.{Machine, IsMachine}
use Rattle.machine_steps.specs.Runs.{Runs, Stepped}
use Rattle.machine_invocations.specs.Invoked.{step_of}
use Rattle.machine_parts.specs.Lines.{StandsForOne}
use Rattle.run_driver.specs.Stepping.{IsThere, Steps}

-- no step of the machine is left to another part
pub never_left : (m : Machine) (new : MachineState) (after : List Answer) (o : machines.Step (State Place)) → Stepped m new after NotMine o → ⊥
never_left m new after (outcomes.Went t) h = h
never_left m new after (outcomes.Said event t) h = h
never_left m new after (outcomes.Ended ending) h = h

-- it stands for some state of a machine of the world
pub stands_for_one : (k : Known) (state : MachineState) (answers : List Answer) → IsThere k state answers → StandsForOne k state
stands_for_one k state answers there = record { machine = there.machine; left = answers; there = there.there; is = there.is; runs = there.runs }

module _ (part : Part) (k : Known) (old new : MachineState) (before after : List Answer) where
  -- a step that the part doesn't leave is the machine's
  pub taken : (step : Step) → (step ≡ NotMine → ⊥) → Takes part k old new before after step → Steps k old new before after step
  taken step mine takes m t is runs = by (is_part (part_of m t) part) (takes m t is runs) where
    by : (b : Bool) → TakesOr b m old new before after step t → Stepped m new after step (step_of m t)
    by true stepped = stepped
    by false left = absurd (mine left.0)

  -- what the part leaves is as it was, and is another's
  pub record Leaves (m : Machine) (t : State Place) : Type 0 where
    pub other : is_part (part_of m t) part ≡ false
    pub state : new ≡ old
    pub answers : after ≡ before

  pub leaves : Takes part k old new before after NotMine → (m : Machine) (t : State Place) → IsMachine k m → Runs m old before t → Leaves m t
  leaves takes m t is runs = by (is_part (part_of m t) part) refl (takes m t is runs) where
    by : (b : Bool) → is_part (part_of m t) part ≡ b → TakesOr b m old new before after NotMine t → Leaves m t
    by true e stepped = absurd (never_left m new after (step_of m t) stepped)
    by false e left = record { other = e; state = left.1; answers = left.2 }

-- the parts are these three
last_part : (p : Part) → is_part p Part.Core ≡ false → is_part p Part.Calls ≡ false → is_part p Part.Library ≡ true
last_part Part.Core core calls = absurd cc
last_part Part.Calls core calls = absurd cc
last_part Part.Library core calls = refl

module _ (k : Known) (old mid : MachineState) (answers : List Answer) (core : (left : List Answer) → Takes Part.Core k old mid left left NotMine) where
  moved_to : (m : Machine) (t : State Place) → IsMachine k m → Runs m old answers t → Runs m mid answers t
  moved_to m t is runs = subst (λ (s : MachineState). Runs m s answers t) (sym (leaves Part.Core k old mid answers answers (core answers) m t is runs).state) runs

  -- the core left it, and the calls took it
  pub taken_by_calls : (new : MachineState) (after : List Answer) (step : Step) → (step ≡ NotMine → ⊥) → Takes Part.Calls k mid new answers after step → Steps k old new answers after step
  taken_by_calls new after step mine takes m t is runs = taken Part.Calls k mid new answers after step mine takes m t is (moved_to m t is runs)

  -- the state is as it was
  pub still : IsThere k old answers → mid ≡ old
  still there = (leaves Part.Core k old mid answers answers (core answers) there.machine there.there there.is there.runs).state

  -- so it stands for what it stood for
  pub there_still_so : IsThere k old answers → IsThere k mid answers
  there_still_so there = subst (λ (s : MachineState). IsThere k s answers) (sym (still there)) there

  module _ (low : MachineState) (fewer : List Answer) (calls : Takes Part.Calls k mid low answers fewer NotMine) where
    -- both left it, so that the library has it
    pub taken_by_library : (new : MachineState) (after : List Answer) (step : Step) → Takes Part.Library k low new fewer after step → Steps k old new answers after step
    taken_by_library new after step takes m t is runs =
        let there = moved_to m t is runs in
        let one = leaves Part.Core k old mid answers answers (core answers) m t is runs in
        let two = leaves Part.Calls k mid low answers fewer calls m t is there in
        let same : Runs m low answers t = subst (λ (s : MachineState). Runs m s answers t) (sym two.state) there in
        let runs' : Runs m low fewer t = subst (λ (left : List Answer). Runs m low left t) (sym two.answers) same in
        subst (λ (b : Bool). TakesOr b m low new fewer after step t) (last_part (part_of m t) one.other two.other) (takes m t is runs')

    pub still_so : IsThere k old answers → low ≡ old
    still_so there =
        let one = leaves Part.Core k old mid answers answers (core answers) there.machine there.there there.is there.runs in
        subst (λ (s : MachineState). low ≡ s) one.state
        (leaves Part.Calls k mid low answers fewer calls there.machine there.there there.is (moved_to there.machine there.there there.is there.runs)).state

    pub answers_so : IsThere k old answers → fewer ≡ answers
    answers_so there = (leaves Part.Calls k mid low answers fewer calls there.machine there.there there.is (moved_to there.machine there.there there.is there.runs)).answers

    pub there_again : IsThere k old answers → IsThere k low fewer
    there_again there =
        subst (λ (left : List Answer). IsThere k low left) (sym (answers_so there))
        (subst (λ (s : MachineState). IsThere k s answers) (sym (still_so there)) there)
