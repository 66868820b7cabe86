-- How far a run has come: what was said so far, and what is observed from here, are what is observed of the whole.
use Rattle.std.specs.Prelude.{◌≡◌, ℕ, suc, ◌+◌, ◌-◌, ◌<◌, List, [], ◌∷◌, ◌++◌, map, Some, None, refl}
use Rattle.std.specs.Option.{option_map}
use Rattle.std.proofs.Common.{sym, ◌∙◌, ap, arith}
use Rattle.std.proofs.lemmas.List.{map-append}
use Rattle.class_world.specs.Tables.{Known}
use Rattle.class_machine.specs.ClassFiles.{Place}
use Rattle.class_machine.specs.Events as events
use Rattle.class_machine.specs.Machine as machines
use Rattle.class_machine.specs.Machine.{State}
use Rattle.event_machine.specs.Observation.{Observation, observed, observed_from, observed_after}
use Rattle.event_machine.specs.Outcome as outcomes
use Rattle.machine_values.specs.declared.observed.Event.{Event}
use Rattle.machine_values.specs.declared.observed.Ending.{Ending}
use Rattle.machine_values.specs.declared.script.Answer.{Answer}
use Rattle.machine_values.specs.declared.state.MachineState.{MachineState}
use Rattle.machine_values.specs.Observed.{machine_event, machine_ending}
use Rattle.machine_steps.specs.declared.step.Step.TheVariants.{Went, Said, Ended}
use Rattle.machine_steps.specs.Programs.{Machine, IsMachine}
use Rattle.machine_steps.specs.Runs.{Runs, Stepped}
use Rattle.machine_invocations.specs.Invoked.{step_of}
use Rattle.run_driver.specs.declared.report.Report.{Report}
use Rattle.run_driver.specs.Stepping.{IsThere, Steps}
use Rattle.run_driver.specs.Reports.{Reports}

-- from the first state the machine came in so many steps to this one, and said that
pub record IsReached (m : Machine) (first : State Place) (taken : ℕ) (said : List Event) (state : MachineState) (left : List Answer) : Type 0 where
  pub there : State Place
  pub runs : Runs m state left there
  pub onward : (n : ℕ) → observed (step_of m) (taken + n) first ≡ observed_from (step_of m) n there (map machine_event said)

-- whatever state of the machine the run began with
pub record Reaches (k : Known) (begun : MachineState) (answers : List Answer) (taken : ℕ) (said : List Event) (state : MachineState) (left : List Answer) : Type 0 where
  pub each : (m : Machine) (first : State Place) → IsMachine k m → Runs m begun answers first → IsReached m first taken said state left

pub reaches_none : (k : Known) (begun : MachineState) (answers : List Answer) → Reaches k begun answers 0 [] begun answers
reaches_none k begun answers = record {
  each = λ m first is runs. record {
    there = first;
    runs = runs;
    onward = λ n. ap (λ (j : ℕ). observed (step_of m) j first) (let e : 0 + n ≡ n = omega arith in e);
  };
}

pub there_still : (k : Known) (begun : MachineState) (answers : List Answer) (taken : ℕ) (said : List Event) (state : MachineState) (left : List Answer)
    → IsThere k begun answers → Reaches k begun answers taken said state left → IsThere k state left
there_still k begun answers taken said state left there reaches =
    let reached = reaches.each there.machine there.there there.is there.runs in
    record { machine = there.machine; is = there.is; there = reached.there; runs = reached.runs }

-- ---- one step

module _ (m : Machine) (first : State Place) (taken : ℕ) (said : List Event) (t : State Place)
    (onward : (n : ℕ) → observed (step_of m) (taken + n) first ≡ observed_from (step_of m) n t (map machine_event said)) where
  next : (n : ℕ) (o : machines.Step (State Place)) → step_of m t ≡ o → observed (step_of m) (taken + 1 + n) first ≡ observed_after o (observed_from (step_of m) n) (map machine_event said)
  next n o e =
      ap (λ (j : ℕ). observed (step_of m) j first) (let same : taken + 1 + n ≡ taken + suc n = omega arith in same)
      ∙ onward (suc n) ∙ ap (λ (x : machines.Step (State Place)). observed_after x (observed_from (step_of m) n) (map machine_event said)) e

  module _ (new : MachineState) (after : List Answer) where
    goes_on : (o : machines.Step (State Place)) → step_of m t ≡ o → Stepped m new after Went o → IsReached m first (taken + 1) said new after
    goes_on (outcomes.Went u) e runs = record { there = u; runs = runs; onward = λ n. next n (outcomes.Went u) e }
    goes_on (outcomes.Said other u) e h = absurd h
    goes_on (outcomes.Ended other) e h = absurd h

    says : (event : Event) (o : machines.Step (State Place)) → step_of m t ≡ o → Stepped m new after (Said event) o → IsReached m first (taken + 1) (said ++ event ∷ []) new after
    says event (outcomes.Went u) e h = absurd h
    says event (outcomes.Said other u) e h = record {
      there = u;
      runs = h.1;
      onward = λ n. next n (outcomes.Said other u) e
          ∙ ap (observed_from (step_of m) n u) (ap (λ (x : events.Event). map machine_event said ++ x ∷ []) (sym h.0) ∙ sym (map-append machine_event said (event ∷ [])));
    }
    says event (outcomes.Ended other) e h = absurd h

    ends : (ending : Ending) (o : machines.Step (State Place)) → step_of m t ≡ o → Stepped m new after (Ended ending) o → (n : ℕ)
        → observed (step_of m) (taken + 1 + n) first ≡ record { events = map machine_event said; ending = Some (machine_ending ending) }
    ends ending (outcomes.Went u) e h n = absurd h
    ends ending (outcomes.Said other u) e h n = absurd h
    ends ending (outcomes.Ended other) e h n =
        next n (outcomes.Ended other) e ∙ ap (λ (x : events.Ending). record { events = map machine_event said; ending = Some x }) (sym h)

-- without an ending so far
unended : (m : Machine) (first : State Place) (taken : ℕ) (said : List Event) (state : MachineState) (left : List Answer) → IsReached m first taken said state left
    → observed (step_of m) taken first ≡ record { events = map machine_event said; ending = None }
unended m first taken said state left reached =
    ap (λ (j : ℕ). observed (step_of m) j first) (let e : taken ≡ taken + 0 = omega arith in e) ∙ reached.onward 0

module _ (k : Known) (begun : MachineState) (answers : List Answer) (taken : ℕ) (said : List Event) (old new : MachineState) (before after : List Answer)
    (reaches : Reaches k begun answers taken said old before) where
  pub reaches_next : Steps k old new before after Went → Reaches k begun answers (taken + 1) said new after
  reaches_next steps = record {
    each = λ m first is runs.
        let reached = reaches.each m first is runs in
        goes_on m first taken said reached.there reached.onward new after (step_of m reached.there) refl (steps m reached.there is reached.runs);
  }

  pub reaches_said : (event : Event) → Steps k old new before after (Said event) → Reaches k begun answers (taken + 1) (said ++ event ∷ []) new after
  reaches_said event steps = record {
    each = λ m first is runs.
        let reached = reaches.each m first is runs in
        says m first taken said reached.there reached.onward new after event (step_of m reached.there) refl (steps m reached.there is reached.runs);
  }

-- ---- reports

abbrev Told : Type 0
Told = Observation events.Event events.Ending

module _ (m : Machine) (first : State Place) (report : Report) (given : ℕ) where
  abbrev whole : ℕ → Told
  whole n = observed (step_of m) n first

  spent : (said : List Event) (state : MachineState) (left : List Answer) → report.events.items ≡ said → report.ending ≡ None → report.steps ≡ given → IsReached m first given said state left → Reports whole given report
  spent said state left events none all reached =
      let is = unended m first given said state left reached in
      record {
        events = ap (map machine_event) events ∙ sym (ap (λ (o : Told). o.events) is);
        ending = ap (option_map machine_ending) none ∙ sym (ap (λ (o : Told). o.ending) is);
        within = omega arith;
        spent = λ e. all;
        first = λ ending e. absurd (some_none ending (sym e ∙ none));
      } where
        some_none : (ending : Ending) → Some ending ≡ None → ⊥
        some_none ending e = cc

  over : (taken : ℕ) (said : List Event) (ending : Ending) → report.events.items ≡ said → report.ending ≡ Some ending → report.steps ≡ taken + 1 → taken < given
      → whole taken ≡ record { events = map machine_event said; ending = None }
      → ((n : ℕ) → whole (taken + 1 + n) ≡ record { events = map machine_event said; ending = Some (machine_ending ending) }) → Reports whole given report
  over taken said ending events some count less before ends =
      let rest : ℕ = given - (taken + 1) in
      let all : given ≡ taken + 1 + rest = omega arith in
      let is : whole given ≡ record { events = map machine_event said; ending = Some (machine_ending ending) } = ap whole all ∙ ends rest in
      let one : whole report.steps ≡ record { events = map machine_event said; ending = Some (machine_ending ending) } = ap whole (let e : report.steps ≡ taken + 1 + 0 = omega arith in e) ∙ ends 0 in
      record {
        events = ap (map machine_event) events ∙ sym (ap (λ (o : Told). o.events) is);
        ending = ap (option_map machine_ending) some ∙ sym (ap (λ (o : Told). o.ending) is);
        within = omega arith;
        spent = λ e. absurd (none_some (sym some ∙ e));
        first = λ other e. record {
          fewer = taken;
          counted = omega arith;
          ended = ap (λ (o : Told). o.ending) one ∙ ap (option_map machine_ending) (sym some ∙ e);
          unended = ap (λ (o : Told). o.ending) before;
        };
      } where
        none_some : Some ending ≡ None → ⊥
        none_some e = cc

pub spent_reports : (k : Known) (begun : MachineState) (answers : List Answer) (said : List Event) (state : MachineState) (left : List Answer) (report : Report) (given : ℕ)
    → report.events.items ≡ said → report.ending ≡ None → report.steps ≡ given → Reaches k begun answers given said state left
    → (m : Machine) (t : State Place) → IsMachine k m → Runs m begun answers t → Reports (λ n. observed (step_of m) n t) given report
spent_reports k begun answers said state left report given events none all reaches m t is runs =
    spent m t report given said state left events none all (reaches.each m t is runs)

pub over_reports : (k : Known) (begun : MachineState) (answers : List Answer) (taken : ℕ) (said : List Event) (old new : MachineState) (before after : List Answer) (ending : Ending) (report : Report) (given : ℕ)
    → report.events.items ≡ said → report.ending ≡ Some ending → report.steps ≡ taken + 1 → taken < given → Reaches k begun answers taken said old before → Steps k old new before after (Ended ending)
    → (m : Machine) (t : State Place) → IsMachine k m → Runs m begun answers t → Reports (λ n. observed (step_of m) n t) given report
over_reports k begun answers taken said old new before after ending report given events some count less reaches steps m t is runs =
    let reached = reaches.each m t is runs in
    over m t report given taken said ending events some count less (unended m t taken said old before reached)
    (ends m t taken said reached.there reached.onward new after ending (step_of m reached.there) refl (steps m reached.there is reached.runs))
