-- The work of a call, by what it is.
use Rattle.std.specs.Prelude.{◌≡◌, ℕ, true, Bool, is_some, List, codes, Option, Some, None, refl}
use Rattle.std.specs.Option.{option_map}
use Rattle.std.proofs.Common.{sym, ap, ◌∙◌, subst}
use Rattle.aj_names.specs.declared.ids.MethodId.{MethodId}
use Rattle.aj_names.specs.declared.types.FieldType.{FieldType}
use Rattle.boot_library.specs.Heads.{library_heads}
use Rattle.class_heads.specs.declared.types.ClassHead.{ClassHead}
use Rattle.class_heads.specs.Hierarchy.{place_of}
use Rattle.class_world.specs.Tables.{Known}
use Rattle.class_machine.specs.Classes.{Method}
use Rattle.class_machine.specs.ClassFiles.{Place, class_code}
use Rattle.class_machine.specs.LibraryCalls as calls
use Rattle.class_machine.specs.Machine.{State, moved}
use Rattle.class_machine.specs.Turn as turns
use Rattle.class_machine.specs.Turn.{worked, enter_within}
use Rattle.class_machine.specs.Values as machine
use Rattle.class_machine.specs.World.{World}
use Rattle.machine_values.specs.declared.frames.Wait.{Wait}
use Rattle.machine_values.specs.declared.observed.Event.{Event}
use Rattle.machine_values.specs.declared.script.Answer.{Answer}
use Rattle.machine_values.specs.declared.state.MachineState.{MachineState}
use Rattle.machine_values.specs.declared.values.Ref.{Ref}
use Rattle.machine_values.specs.declared.values.Value.{Value}
use Rattle.machine_values.specs.Observed.{machine_event}
use Rattle.machine_values.specs.Standing.{name_of}
use Rattle.machine_values.specs.Types.{type_name}
use Rattle.machine_requests.specs.Shares.{Shares, others_of}
use Rattle.machine_rules.specs.declared.work.Work.{Work}
use Rattle.machine_rules.specs.declared.work.Work.TheVariants.{Results, Throws, Calls, Loads}
use Rattle.machine_steps.specs.declared.step.Step.{Step}
use Rattle.machine_steps.specs.Moves.{Moves, MovesWithLocals, raises}
use Rattle.machine_steps.specs.Programs.{IsRunnable, Machine}
use Rattle.machine_steps.specs.Runs.{Runs, Stepped, IsMethod}
use Rattle.machine_steps.proofs.InLibrary.{library_place}
use Rattle.machine_invocations.specs.Methods.{Sees}
use Rattle.machine_invocations.specs.Returning.{result_held}
use Rattle.machine_works.specs.Finishing.{ends_call, calls_within, MovesToClass, IsSound, IsAtWork, StandsAtWork, Finishes}
use Rattle.machine_works.proofs.Ended.{ending, anywhere, ending_quiet}
use Rattle.machine_works.proofs.Entered.{within_quiet}

-- ---- what is thrown has a class

some_of : (o : Option ℕ) → is_some o ≡ true → (i : ℕ) × (o ≡ Some i)
some_of None e = absurd cc
some_of (Some i) e = (i, refl)

exception_there : (k : Known) → IsRunnable k → is_some (place_of k.heads (codes "java/lang/ClassNotFoundException")) ≡ true
exception_there k runnable =
    let at = some_of (place_of library_heads (codes "java/lang/ClassNotFoundException")) refl in
    ap is_some (library_place k (codes "java/lang/ClassNotFoundException") at.0 runnable at.1)

module _ (k : Known) (old : MachineState) where
  thrown_at : (m : Machine) (left : List Answer) (t : State Place) (x : Ref) (other : calls.Work) → IsRunnable k → IsAtWork k m old left t (Throws x) other
      → is_some (place_of k.heads (machine.class_of (name_of k.heads old.heap.names x))) ≡ true
  thrown_at m left t x other runnable at =
      let r = at.works in
      let sound : IsSound m.setting.classes t.world (calls.Throws (name_of m.setting.heads old.heap.names x) r.world) = subst (IsSound m.setting.classes t.world) r.same at.sound in
      subst (λ (heads : List ClassHead). is_some (place_of k.heads (machine.class_of (name_of heads old.heap.names x))) ≡ true) at.is.heads
      (ap (λ (n : List ℕ). is_some (place_of k.heads n)) sound.1 ∙ exception_there k runnable)

  pub thrown_there : (work : Work) (x : Ref) → work ≡ Throws x → IsRunnable k → StandsAtWork k old work → is_some (place_of k.heads (machine.class_of (name_of k.heads old.heap.names x))) ≡ true
  thrown_there work x same runnable there =
      thrown_at there.machine there.left there.there x there.other runnable (subst (λ (w : Work). IsAtWork k there.machine old there.left there.there w there.other) same there.at)

  pub called_there : (work : Work) (method : MethodId) (object : Ref) (wait : Wait) → work ≡ Calls method object wait → StandsAtWork k old work → IsMethod k method.0
  called_there work method object wait same there =
      let at = subst (λ (w : Work). IsAtWork k there.machine old there.left there.there w there.other) same there.at in
      let called = at.works.called in
      record { place = called.place; first = called.first; numbered = called.numbered }

  -- ---- the state that the work goes on with

  goes_on : (m : Machine) (left : List Answer) (t : State Place) (work : Work) (other : calls.Work) (w : World) → IsAtWork k m old left t work other → w.answers ≡ t.world.answers → Shares m.setting old.heap (others_of old) w
      → Runs m old left (record t { world = w })
  goes_on m left t work other w at same shares = record {
    shares = shares;
    frames = record { frames = at.frames.frames; due = at.frames.due; frames_within = at.frames.frames_within; due_within = at.frames.due_within };
    answers = same ∙ at.answers;
    filled = at.filled;
  }

  module _ (new : MachineState) (step : Step) (super : Bool) where
    abbrev Takes : Machine → List Answer → State Place → turns.Frame Place → List (turns.Frame Place) → calls.Work → Type 0
    Takes m left t f below other = Stepped m new left step (moved (class_code m.files) m.setting.classes t.due (worked (class_code m.files) m.setting.classes f f.content t.world super other) t.world f below)

    pub finishes_results : (said : Option Event) (v : Option Value) → Moves k old new step (ends_call said super v old) → Finishes k old new step super (Results said v)
    finishes_results said v moves m left t f below other at top =
        let r = at.works in
        let h = result_held m old v in
        let sound : IsSound m.setting.classes t.world (calls.Results (option_map machine_event said) h r.world) = subst (IsSound m.setting.classes t.world) r.same at.sound in
        subst (Takes m left t f below) (sym r.same)
        (subst (Stepped m new left step) (anywhere m t f below (ending m t f below (option_map machine_event said) super h r.world) (ending_quiet m t f below (option_map machine_event said) super h r.world) r.world t.world)
        (moves m left (record t { world = r.world }) f below at.is (goes_on m left t (Results said v) other r.world at sound r.holds.shares) top))

    pub finishes_throws : (x : Ref) → MovesWithLocals k old new step (raises (λ m. name_of m.setting.heads old.heap.names x)) → Finishes k old new step super (Throws x)
    finishes_throws x moves m left t f below other at top =
        let r = at.works in
        let sound : IsSound m.setting.classes t.world (calls.Throws (name_of m.setting.heads old.heap.names x) r.world) = subst (IsSound m.setting.classes t.world) r.same at.sound in
        subst (Takes m left t f below) (sym r.same)
        (moves m left (record t { world = r.world }) f below f.content at.is (goes_on m left t (Throws x) other r.world at sound.0 r.holds.shares) top refl)

    pub finishes_calls : (method : MethodId) (object : Ref) (wait : Wait) → ((callee : Method) → Sees k method.0 callee → Moves k old new step (calls_within callee object wait old)) → Finishes k old new step super (Calls method object wait)
    finishes_calls method object wait moves m left t f below other at top =
        let r = at.works in
        let names = old.heap.names in
        let a = name_of m.setting.heads names object in
        let sound : IsSound m.setting.classes t.world (calls.Calls r.method a r.waits r.world) = subst (IsSound m.setting.classes t.world) r.same at.sound in
        let called = r.called in
        let sees : Sees k method.0 r.method = record { place = called.place; first = called.first; numbered = called.numbered; seen = called.found } in
        subst (Takes m left t f below) (sym r.same)
        (subst (Stepped m new left step) (anywhere m t f below (enter_within (class_code m.files) m.setting.classes f.content r.world r.method a r.waits) (within_quiet m t f below r.world r.method a r.waits) r.world t.world)
        (subst (λ (x : calls.Wait). Stepped m new left step (moved (class_code m.files) m.setting.classes t.due (enter_within (class_code m.files) m.setting.classes f.content r.world r.method a x) r.world f below)) (r.waiting m.methods)
        (moves r.method sees m left (record t { world = r.world }) f below at.is (goes_on m left t (Calls method object wait) other r.world at sound r.holds.shares) top)))

    pub finishes_loads : (class : FieldType) → MovesToClass k old new step class → Finishes k old new step super (Loads class)
    finishes_loads class moves m left t f below other at top =
        let r = at.works in
        let sound : IsSound m.setting.classes t.world (calls.Loads (type_name class)) = subst (IsSound m.setting.classes t.world) r.same at.sound in
        subst (Takes m left t f below) (sym r.same) (moves m left t f below at.is (goes_on m left t (Loads class) other t.world at refl r.holds.shares) top sound)
