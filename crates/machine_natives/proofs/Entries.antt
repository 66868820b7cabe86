-- A native entry that is called.
use Rattle.std.specs.Prelude.{◌≡◌, ℕ, List, [], map, length, None, refl}
use Rattle.std.specs.List.{AllByRecursion}
use Rattle.aj_names.specs.declared.ids.MethodId.{MethodId}
use Rattle.class_file.specs.Pool.{Reference}
use Rattle.std.proofs.Common.{sym, ap, ◌∙◌, subst}
use Rattle.class_world.specs.Tables.{Known}
use Rattle.class_machine.specs.Classes.{Method}
use Rattle.class_machine.specs.ClassFiles.{Place, class_code, field_constant}
use Rattle.class_machine.specs.Events as events
use Rattle.class_machine.specs.Machine as machines
use Rattle.class_machine.specs.Machine.{State, answered}
use Rattle.class_machine.specs.Natives as natives
use Rattle.class_machine.specs.Natives.{respond, native_event}
use Rattle.class_machine.specs.World.{World}
use Rattle.machine_values.specs.declared.observed.Ending.{Ending}
use Rattle.machine_values.specs.declared.observed.Ending.TheVariants as endings
use Rattle.machine_values.specs.declared.observed.Event.{Event}
use Rattle.machine_values.specs.declared.script.Answer.{Answer}
use Rattle.machine_values.specs.declared.state.Due.{Due}
use Rattle.machine_values.specs.declared.state.Due.TheVariants as due
use Rattle.machine_values.specs.declared.state.MachineState.{MachineState}
use Rattle.machine_values.specs.declared.values.Value.{Value}
use Rattle.machine_values.specs.Observed.{machine_answer, machine_ending, machine_event}
use Rattle.machine_values.specs.Standing.{held, Settled}
use Rattle.machine_values.specs.States.{machine_due, IsDueWithin}
use Rattle.machine_values.specs.Things.{Things}
use Rattle.machine_requests.specs.Replies.{IsLonger}
use Rattle.machine_requests.specs.Shares.{others_of}
use Rattle.machine_steps.specs.declared.step.Step.{Step}
use Rattle.machine_steps.specs.declared.step.Step.TheVariants.{Said, Ended}
use Rattle.machine_steps.specs.Programs.{Machine, IsMachine}
use Rattle.machine_steps.specs.Runs.{IsMethod, Runs, Stepped}
use Rattle.machine_code.specs.CodeLaws.{method_seen}
use Rattle.machine_invocations.specs.Methods.{Sees}
use Rattle.machine_invocations.specs.Invoked.{step_of}
use Rattle.machine_invocations.specs.Standards.{by_machine}
use Rattle.machine_invocations.proofs.Initialised.{called_so}
use Rattle.machine_invocations.proofs.Locked.{seen_there}
use Rattle.machine_natives.specs.Calls.{ShowsCall}
use Rattle.machine_natives.specs.declared.response.Response.{Response}
use Rattle.machine_natives.specs.declared.response.Response.TheVariants.{Returns, Throws, Lacks}
use Rattle.machine_natives.specs.Closing.{EndsWith, Answers, Closes}
use Rattle.machine_natives.specs.Responses.{IsResponse, Responds}
use Rattle.machine_natives.specs.Throwables.{Holds}
use Rattle.machine_natives.proofs.Onward.{with_heap, answered_runs}

-- the ending is still to come
ended_later : (m : Machine) (mid : MachineState) (rest : List Answer) (t : State Place) (ending : Ending) (e : events.Ending) → Runs m mid rest t → t.frames ≡ [] → machine_ending ending ≡ e
    → Runs m (record mid { due = due.Finally ending }) rest (record { frames = []; world = t.world; due = machines.Finally e })
ended_later m mid rest t ending e runs none same = record {
  shares = runs.shares;
  frames = record {
    frames = sym none ∙ runs.frames.frames;
    due = ap machines.Finally (sym same);
    frames_within = runs.frames.frames_within;
    due_within = tt;
  };
  answers = runs.answers;
  filled = runs.filled;
}

module _ (k : Known) (old : MachineState) (heap : Things) (left rest : List Answer) (number : ℕ) (response : Response) (ending : Ending) (event : Event) where
  abbrev after : MachineState
  after = record (with_heap old heap) { due = due.Finally ending }

  pub entry_answers : IsLonger old.heap heap → Responds k old.heap left number heap rest response → EndsWith k (with_heap old heap) response ending → Answers k old after left rest number event (Said event)
  entry_answers longer responds ends m t callee is sees runs none =
      by response ends (respond m.setting.classes t.world callee.name) (responds.there m (others_of old) t.world callee is sees (record { shares = runs.shares; filled = runs.filled }) runs.answers) where
        next : (w : World) → Holds m heap (others_of old) w → w.answers ≡ map machine_answer rest → Runs m (with_heap old heap) rest (record t { world = w })
        next w holds answers = answered_runs m old heap left rest t w longer holds answers runs

        by : (r : Response) → EndsWith k (with_heap old heap) r ending → (other : natives.Response) → IsResponse m heap (others_of old) t.world (map machine_answer rest) r other → Stepped m after rest (Said event) (answered t.world (machine_event event) other)
        by (Returns v) ends other come =
            let there = next come.world come.holds come.kept in
            subst (λ (x : natives.Response). Stepped m after rest (Said event) (answered t.world (machine_event event) x)) (sym come.same) (refl, ended_later m (with_heap old heap) rest (record t { world = come.world }) ending _ there none (ends m rest (record t { world = come.world }) is there))
        by (Throws x) ends other come =
            let there = next come.world come.holds come.kept in
            subst (λ (x : natives.Response). Stepped m after rest (Said event) (answered t.world (machine_event event) x)) (sym come.same) (refl, ended_later m (with_heap old heap) rest (record t { world = come.world }) ending _ there none (ends m rest (record t { world = come.world }) is there))
        by Lacks ends other come =
            let there = next t.world come.holds come.kept in
            subst (λ (x : natives.Response). Stepped m after rest (Said event) (answered t.world (machine_event event) x)) (sym come.same) (refl, ended_later m (with_heap old heap) rest t ending _ there none (ends m rest t is there))

-- ---- the step

called_in : (k : Known) (m : Machine) (number : ℕ) (callee : Method) → IsMachine k m → Sees k number callee → m.methods number ≡ callee.name
called_in k m number callee is sees = by_machine k (λ x. x.methods number ≡ callee.name) m (λ fields methods there. called_so k fields methods number callee there sees) is

closing_is : (m : Machine) (t : State Place) (d : machines.Due) → t.frames ≡ [] → t.due ≡ d → step_of m t ≡ machines.closing m.setting.classes t.world d
closing_is m t d none due = ap (λ fs. machines.stepped (class_code m.files) m.setting.classes t.due t.world fs) none ∙ ap (machines.closing m.setting.classes t.world) due

module _ (k : Known) (old new : MachineState) (before after : List Answer) where
  by_due : (d : Due) (step : Step) → old.due ≡ d → ((m : Machine) (t : State Place) → IsMachine k m → Runs m old before t → Stepped m new after step (machines.closing m.setting.classes t.world (machine_due m.setting.heads m.methods old.heap.names d)))
      → Closes k old new before after step
  by_due d step same there m t is runs none =
      subst (Stepped m new after step) (sym (closing_is m t (machine_due m.setting.heads m.methods old.heap.names d) none (runs.frames.due ∙ ap (machine_due m.setting.heads m.methods old.heap.names) same))) (there m t is runs)

  pub closes_nothing : old.due ≡ due.Nothing → Closes k old new before after (Ended endings.Broken)
  closes_nothing same = by_due due.Nothing (Ended endings.Broken) same (λ m t is runs. refl)

  pub closes_ended : (ending : Ending) → old.due ≡ due.Finally ending → Closes k old new before after (Ended ending)
  closes_ended ending same = by_due (due.Finally ending) (Ended ending) same (λ m t is runs. refl)

  module _ (method : MethodId) (given : List Value) (same : old.due ≡ due.NativeEntry method given) where
    -- its arguments name objects there are
    pub never_unsettled : (AllByRecursion (Settled (length old.heap.names)) given → ⊥) → Closes k old new before after (Ended endings.Broken)
    never_unsettled none m t is runs frames = absurd (none (subst (IsDueWithin (length old.heap.names)) same runs.frames.due_within))

    pub closes_entry : IsMethod k method.0 → (event : Event) (step : Step) → ShowsCall k old.heap method.0 None given event → Answers k old new before after method.0 event step → Closes k old new before after step
    closes_entry there event step shows answers m t is runs none =
        let callee = method_seen k.heads (length k.files) (field_constant k.files) there.place there.first in
        let sees = seen_there k method.0 there in
        let named = called_in k m method.0 callee is sees in
        let values = map (held m.setting.heads old.heap.names) given in
        subst (Stepped m new after step)
        (ap (λ (e : events.Event). answered t.world e (respond m.setting.classes t.world callee.name)) (shows m (others_of old) t.world callee is sees runs.shares)
        ∙ ap (λ (r : Reference). answered t.world (native_event t.world r values) (respond m.setting.classes t.world r)) (sym named)
        ∙ sym (closing_is m t (machines.NativeEntry (m.methods method.0) values) none (runs.frames.due ∙ ap (machine_due m.setting.heads m.methods old.heap.names) same)))
        (answers m t callee is sees runs none)
