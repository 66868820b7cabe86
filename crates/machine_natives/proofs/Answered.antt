-- A native call, by what the script answers to it.
use Rattle.std.specs.Prelude.{◌≡◌, ℕ, Bool, List, map, take, length, Option, Some}
use Rattle.std.specs.Option.{option_map}
use Rattle.std.proofs.Common.{sym, ap, ◌∙◌, subst}
use Rattle.std.proofs.Math.Seq.{take-append_seam}
use Rattle.class_world.specs.Tables.{Known}
use Rattle.class_machine.specs.Classes.{Method}
use Rattle.class_machine.specs.ClassFiles.{Place, class_code}
use Rattle.class_machine.specs.Events as events
use Rattle.class_machine.specs.Machine as machines
use Rattle.class_machine.specs.Machine.{State, moved}
use Rattle.class_machine.specs.Natives as natives
use Rattle.class_machine.specs.Natives.{respond, native_event}
use Rattle.class_machine.specs.Turn as turns
use Rattle.class_machine.specs.Turn.{responded, with_receiver}
use Rattle.machine_values.specs.declared.names.Name.{Name}
use Rattle.machine_values.specs.declared.observed.Event.{Event}
use Rattle.machine_values.specs.declared.script.Answer.{Answer}
use Rattle.machine_values.specs.declared.state.MachineState.{MachineState}
use Rattle.machine_values.specs.declared.values.Ref.{Ref}
use Rattle.machine_values.specs.declared.values.Value.{Value}
use Rattle.machine_values.specs.Observed.{machine_event}
use Rattle.machine_values.specs.Standing.{name_of, held}
use Rattle.machine_values.specs.Things.{Things}
use Rattle.machine_requests.specs.Shares.{others_of}
use Rattle.machine_steps.specs.declared.step.Step.{Step}
use Rattle.machine_steps.specs.Programs.{Machine, IsMachine}
use Rattle.machine_steps.specs.Runs.{Runs, Stepped}
use Rattle.machine_invocations.specs.Methods.{Sees}
use Rattle.machine_natives.specs.declared.response.Response.TheVariants.{Returns, Throws, Lacks}
use Rattle.machine_natives.specs.Calls.{ShowsCall, ComesBack, GoesOut, calls_native, is_lack, TakesAnswer, LacksAnswer}
use Rattle.machine_natives.specs.Responses.{Grows, Responds}
use Rattle.machine_natives.specs.Throwables.{Holds}
use Rattle.machine_natives.proofs.Onward.{with_heap, answered_runs, given_alike}

module _ (k : Known) (old : MachineState) (heap : Things) (left rest : List Answer) (number : ℕ) (receiver : Option Ref) (given : List Value) (super : Bool) (event : Event) (new : MachineState) (shows : ShowsCall k old.heap number receiver given event)
    (callee : Method) (sees : Sees k number callee) where
  module _ (m : Machine) (t : State Place) (is : IsMachine k m) (runs : Runs m old left t) where
    abbrev native : events.Event
    native = native_event t.world callee.name (with_receiver (option_map (name_of m.setting.heads old.heap.names) receiver) (map (held m.setting.heads old.heap.names) given))

    held_before : Holds m old.heap (others_of old) t.world
    held_before = record { shares = runs.shares; filled = runs.filled }

  pub lacks_called : Responds k old.heap left number heap rest Lacks → new ≡ old → rest ≡ left → LacksAnswer k old new left rest (calls_native callee receiver given super old) event
  lacks_called responds same answers = record {
    same = same;
    answers = answers;
    turn = λ m t f is runs.
        ap (responded (class_code m.files) m.setting.classes f f.content super (native m t is runs)) (responds.there m (others_of old) t.world callee is sees (held_before m t is runs) runs.answers).same
        ∙ ap (λ e. turns.Finishes (Some e) events.ScriptEnds) (sym (shows m (others_of old) t.world callee is sees runs.shares));
  }

  module _ (step : Step) where
    module _ (m : Machine) (t : State Place) (f : turns.Frame Place) (below : List (turns.Frame Place)) (is : IsMachine k m) (runs : Runs m old left t) where
      abbrev turned : events.Event → natives.Response → machines.Step (State Place)
      turned e r = moved (class_code m.files) m.setting.classes t.due (responded (class_code m.files) m.setting.classes f f.content super e r) t.world f below

      -- the event and the answer are the machine's
      goal_from : (r : natives.Response) → respond m.setting.classes t.world callee.name ≡ r → Stepped m new rest step (turned (machine_event event) r) → Stepped m new rest step (turned (native m t is runs) (respond m.setting.classes t.world callee.name))
      goal_from r same stepped =
          subst (λ x. Stepped m new rest step (turned (native m t is runs) x)) (sym same)
          (subst (λ e. Stepped m new rest step (turned e r)) (shows m (others_of old) t.world callee is sees runs.shares) stepped)

    abbrev Answered : Type 0
    Answered = TakesAnswer k old new left rest callee (calls_native callee receiver given super old) step

    pub returns_called : (value : Option Value) → Responds k old.heap left number heap rest (Returns value) → ComesBack k (with_heap old heap) new event super value step → Answered
    returns_called value responds comes = record {
      moves = λ m t f below is runs top.
          let come = responds.there m (others_of old) t.world callee is sees (held_before m t is runs) runs.answers in
          let w = come.world in
          let after = record t { world = w } in
          let mid = answered_runs m old heap left rest t w (responds.grows.more, responds.grows.names) come.holds come.kept runs in
          goal_from m t f below is runs (natives.Returns (option_map (held m.setting.heads heap.names) value) w) come.same
          (subst (Stepped m new rest step) (given_alike m t.due f below (machine_event event) w t.world w super (option_map (held m.setting.heads heap.names) value)) (comes m rest after f below is mid top));
      fits = λ m t is runs. ap is_lack (responds.there m (others_of old) t.world callee is sees (held_before m t is runs) runs.answers).same;
    }

    pub throws_called : (x : Ref) → Responds k old.heap left number heap rest (Throws x) → GoesOut k (with_heap old heap) new event x step → Answered
    throws_called x responds goes = record {
      moves = λ m t f below is runs top.
          let come = responds.there m (others_of old) t.world callee is sees (held_before m t is runs) runs.answers in
          let w = come.world in
          let mid = answered_runs m old heap left rest t w (responds.grows.more, responds.grows.names) come.holds come.kept runs in
          goal_from m t f below is runs (natives.Throws (name_of m.setting.heads heap.names x) w) come.same (goes m rest (record t { world = w }) f below is mid top);
      fits = λ m t is runs. ap is_lack (responds.there m (others_of old) t.world callee is sees (held_before m t is runs) runs.answers).same;
    }

-- ---- what was there before

pub undone : (before after now : Things) (count : ℕ) → Grows before after → count ≡ length before.names → count ≡ length before.contents → now.names ≡ take count after.names → now.contents ≡ take count after.contents → now ≡ before
undone before after now count grows names contents same_names same_contents =
    let n : now.names ≡ before.names = same_names ∙ ap (λ i. take i after.names) names ∙ ap (take (length before.names)) grows.names ∙ take-append_seam before.names grows.more in
    let c = same_contents ∙ ap (λ i. take i after.contents) contents ∙ grows.contents in
    ap (λ (l : List Name). record now { names = l }) n ∙ ap (λ l. record before { contents = l }) c
