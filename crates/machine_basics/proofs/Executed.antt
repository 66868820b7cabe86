-- What becomes of the running frame by the effect that an instruction had on it is what executing the instruction makes of it.
use Rattle.std.specs.Prelude.{◌≡◌, ℕ, Bool, true, false, if◌then◌else◌, is_some, List, [], ◌∷◌, ◌++◌, map, reverse, length, Option, None, refl}
use Rattle.std.specs.List.{AllByRecursion}
use Rattle.std.specs.Option.{option_map}
use Rattle.std.proofs.Common.{sym, ◌∙◌, ap, subst, arith}
use Rattle.std.proofs.lemmas.Bool.{false≢true}
use Rattle.class_world.specs.Tables.{Known}
use Rattle.class_machine.specs.declared.meaning.Basic.{Basic}
use Rattle.class_machine.specs.Answers as answers
use Rattle.class_machine.specs.Answers.{answer}
use Rattle.class_machine.specs.Descriptors.{kind_in, result_in}
use Rattle.class_machine.specs.Effect as definition
use Rattle.class_machine.specs.Effect.{basic_effect}
use Rattle.class_machine.specs.Events as events
use Rattle.class_machine.specs.Operations.{Do}
use Rattle.class_machine.specs.Values as machine
use Rattle.class_machine.specs.Values.{held_width, has_room, pushed_on}
use Rattle.class_machine.specs.World.{World}
use Rattle.class_machine.specs.Turn as turns
use Rattle.class_machine.specs.Turn.{resolved}
use Rattle.class_machine.specs.Machine as machines
use Rattle.class_machine.specs.Machine.{State, moved}
use Rattle.class_machine.specs.ClassFiles.{Place, place_in, class_code}
use Rattle.aj_names.specs.declared.ids.MethodId.{MethodId}
use Rattle.machine_values.specs.declared.values.Ref.{Ref}
use Rattle.machine_values.specs.declared.values.Value.{Value}
use Rattle.machine_values.specs.declared.values.Local.{Local}
use Rattle.machine_values.specs.declared.frames.Frame.{Frame}
use Rattle.machine_values.specs.declared.frames.Purpose.{Purpose}
use Rattle.machine_values.specs.declared.observed.Ending.TheVariants as ending
use Rattle.machine_values.specs.declared.script.Answer.{Answer}
use Rattle.machine_values.specs.declared.state.MachineState.{MachineState}
use Rattle.machine_values.specs.Stacks as stacks
use Rattle.machine_values.specs.Stacks.{weight}
use Rattle.machine_values.specs.Standing.{name_of}
use Rattle.machine_values.specs.States.{IsFrameWithin}
use Rattle.machine_values.specs.Things.{Things}
use Rattle.machine_requests.specs.Telling.{AreDistinct}
use Rattle.machine_requests.specs.TellingLaws.{places_tell}
use Rattle.machine_frames.specs.declared.effect.Effect.{Effect}
use Rattle.machine_frames.specs.declared.effect.Effect.TheVariants as effects
use Rattle.machine_frames.specs.declared.effect.Request.{Request}
use Rattle.machine_frames.specs.declared.effect.Request.TheVariants.{MakeArray, ArrayLoad, ArrayStore, ArrayLength, EnterMonitor, LeaveMonitor}
use Rattle.machine_frames.specs.Naming.{Faithful}
use Rattle.machine_frames.specs.Effects.{effect_in, request_in, operands_of, locals_of, setting, Does, Keeps, raises, is_effect_within}
use Rattle.machine_frames.specs.Undoing.{Undoes}
use Rattle.machine_steps.specs.declared.step.Step.{Step}
use Rattle.machine_steps.specs.declared.step.Step.TheVariants.{Ended}
use Rattle.machine_steps.specs.Executing.{executes}
use Rattle.machine_steps.specs.Giving.{naming_of}
use Rattle.machine_steps.specs.Going.{moves_turned}
use Rattle.machine_steps.specs.Moves.{Turning, Moves}
use Rattle.machine_steps.specs.Programs.{Machine, IsMachine}
use Rattle.machine_steps.specs.Running.{seen_by, waiting, all_last, Turned}
use Rattle.machine_steps.specs.Runs.{Runs}
use Rattle.machine_basics.specs.Turns.{takes}
use Rattle.machine_basics.specs.Performed.{is_return, IsPerformed}
use Rattle.machine_basics.proofs.Returnless.{Stays, basic_stays, unconcerned}

-- ---- what is known where the state stands for the machine's

pub faithful : (k : Known) (m : Machine) (old : MachineState) (left : List Answer) (t : State Place) → IsMachine k m → Runs m old left t → Faithful (naming_of m old) (length old.heap.names)
faithful k m old left t is runs = record {
  tells_apart = λ a b h j. places_tell m.setting.heads old.heap.names (subst AreDistinct (sym is.heads) is.distinct) runs.shares.heap.numbered runs.shares.fit a.0 b.0 h j;
}

pub frame_within : (m : Machine) (old : MachineState) (left : List Answer) (t : State Place) (rest : List Frame) (f : Frame) → old.frames.items ≡ rest ++ f ∷ [] → Runs m old left t → IsFrameWithin (length old.heap.names) f
frame_within m old left t rest f top runs = all_last (IsFrameWithin (length old.heap.names)) rest f (subst (AllByRecursion (IsFrameWithin (length old.heap.names))) top runs.frames.frames_within)

-- an effect that refers to an object that there isn't comes of no state that stands for the machine's
pub unknown_breaks : (k : Known) (old mid : MachineState) (basic : Basic) (e : Effect) (turning : Turning) → IsPerformed old mid basic e → is_effect_within (length mid.heap.names) e ≡ false → Moves k old mid (Ended ending.Broken) turning
unknown_breaks k old mid basic e turning performed unknown m left t f below is runs same =
    let heap : mid.heap ≡ old.heap = ap (λ (s : MachineState). s.heap) performed.turned.same in
    let known = performed.known (length old.heap.names) (frame_within m old left t performed.rest performed.before performed.turned.before runs) in
    absurd (false≢true (sym unknown ∙ ap (λ (h : Things). is_effect_within (length h.names) e) heap ∙ known))

no_items : {X : Type 0} (xs : List X) → length xs ≡ 0 → xs ≡ []
no_items [] h = refl
no_items (x ∷ xs) h = absurd (omega arith)

-- without a frame there is none that executes
pub no_frame_breaks : (k : Known) (old new : MachineState) (step : Step) (turning : Turning) → length old.frames.items ≡ 0 → Moves k old new step turning
no_frame_breaks k old new step turning none m left t f below is runs same =
    absurd (let e : [] ≡ f ∷ below = sym (runs.frames.frames ∙ ap (λ (l : List Frame). map (seen_by m old.heap.names) (reverse l)) (no_items old.frames.items none)) ∙ same in cc)

-- ---- the frame that changed

-- the frame with other operands and locals
abbrev changed_to : Frame → List Value → List Local → Frame
changed_to f vs ls = record f { operands = record { room = f.operands.room; values = vs }; locals = ls }

abbrev frame_of : MethodId → ℕ → stacks.Stack → List Local → Option Ref → Bool → Purpose → Frame
frame_of method pc operands locals monitor constructed purpose = record { method = method; pc = pc; operands = operands; locals = locals; monitor = monitor; constructed = constructed; purpose = purpose }

changed_is : (f g : Frame) → Keeps f g → g ≡ changed_to f g.operands.values g.locals
changed_is f g kept =
    ap (λ x. frame_of x g.pc g.operands g.locals g.monitor g.constructed g.purpose) kept.method
    ∙ ap (λ x. frame_of f.method x g.operands g.locals g.monitor g.constructed g.purpose) kept.pc
    ∙ ap (λ (x : ℕ). frame_of f.method f.pc (record { room = x; values = g.operands.values }) g.locals g.monitor g.constructed g.purpose) kept.room
    ∙ ap (λ x. frame_of f.method f.pc (record { room = f.operands.room; values = g.operands.values }) g.locals x g.constructed g.purpose) kept.monitor
    ∙ ap (λ x. frame_of f.method f.pc (record { room = f.operands.room; values = g.operands.values }) g.locals f.monitor x g.purpose) kept.constructed
    ∙ ap (λ x. frame_of f.method f.pc (record { room = f.operands.room; values = g.operands.values }) g.locals f.monitor f.constructed x) kept.purpose

-- ---- the turns

module _ (k : Known) (m : Machine) (old mid : MachineState) (t : State Place) (f : Frame) (vs : List Value) (ls : List Local) (below : List (turns.Frame Place)) where
  abbrev was : turns.Frame Place
  was = seen_by m old.heap.names f

  abbrev is_now : turns.Frame Place
  is_now = seen_by m old.heap.names (changed_to f vs ls)

  abbrev now_operands : List (machine.Value Place)
  now_operands = operands_of (naming_of m old) (changed_to f vs ls)

  abbrev now_locals : List (machine.Local Place)
  now_locals = locals_of (naming_of m old) (changed_to f vs ls)

  -- the state with the changed frame
  abbrev then_state : State Place
  then_state = record t { frames = is_now ∷ below }

  abbrev step_of : turns.Frame Place → turns.Turn Place → machines.Step (State Place)
  step_of g turn = moved (class_code m.files) m.setting.classes t.due turn t.world g below

  stays_same : (b : Bool) (p : Place) (c : machine.Content Place) → step_of is_now (if b then turns.Stays p c t.world else turns.stops events.Broken) ≡ step_of was (if b then turns.Stays p c t.world else turns.stops events.Broken)
  stays_same true p c = refl
  stays_same false p c = refl

  given_same : (b : Bool) (p : Place) (c : machine.Content Place) (w : World) → step_of is_now (if b then turns.Stays p c w else turns.stops events.Broken) ≡ step_of was (if b then turns.Stays p c w else turns.stops events.Broken)
  given_same true p c w = refl
  given_same false p c w = refl

  roomed_same : (room b : Bool) (p : Place) (c : machine.Content Place) (w : World)
      → step_of is_now (if room then (if b then turns.Stays p c w else turns.stops events.Broken) else turns.stops events.Broken) ≡ step_of was (if room then (if b then turns.Stays p c w else turns.stops events.Broken) else turns.stops events.Broken)
  roomed_same true b p c w = given_same b p c w
  roomed_same false b p c w = refl

  replied_same : (r : answers.Reply) → step_of is_now (turns.replied (class_code m.files) m.setting.classes is_now is_now.content t.world r) ≡ step_of was (turns.replied (class_code m.files) m.setting.classes was is_now.content t.world r)
  replied_same (answers.Gives v w) = roomed_same (has_room f.operands.room (held_width v) now_operands) (is_some ((class_code m.files).line ((class_code m.files).next was.place))) ((class_code m.files).next was.place) (pushed_on (machine.Plain v) is_now.content) w
  replied_same (answers.Done w) = given_same (is_some ((class_code m.files).line ((class_code m.files).next was.place))) ((class_code m.files).next was.place) is_now.content w
  replied_same (answers.Faults fault) = refl
  replied_same answers.Refuses = refl

  abbrev resolves : Effect → turns.Turn Place
  resolves e = resolved (class_code m.files) m.setting.classes was t.world (effect_in (naming_of m old) f.method.0 e now_operands now_locals)

  entered_same : (i : ℕ) (b : Bool) → b ≡ true
      → step_of is_now (if b then turns.stays (class_code m.files) m.setting.classes ((class_code m.files).target is_now.place i) (pushed_on (machine.ReturnAddress ((class_code m.files).next is_now.place)) is_now.content) t.world else turns.stops events.Broken)
      ≡ step_of was (resolves (effects.Enter i))
  entered_same i true e = stays_same (is_some ((class_code m.files).line ((class_code m.files).target was.place i))) ((class_code m.files).target was.place i) (pushed_on (machine.ReturnAddress ((class_code m.files).next was.place)) is_now.content)
  entered_same i false e = absurd (false≢true e)

  asked_free : (request : Request) → resolves (effects.Ask request) ≡ turns.replied (class_code m.files) m.setting.classes was is_now.content t.world (answer m.setting.classes t.world (request_in (naming_of m old) request))
  asked_free (MakeArray e size) = refl
  asked_free (ArrayLoad e a i) = refl
  asked_free (ArrayStore e a i v) = refl
  asked_free (ArrayLength a) = refl
  asked_free (EnterMonitor a) = refl
  asked_free (LeaveMonitor a) = refl

  -- what becomes of the frame by an effect, which leaves it where an exception comes of it, is what the machine makes of the frame as it was
  taken_same : (e : Effect) → Stays f.operands.room (effect_in (naming_of m old) f.method.0 e now_operands now_locals) → (raises e ≡ true → changed_to f vs ls ≡ f)
      → step_of is_now (takes (record old { frames = mid.frames }) e m then_state is_now) ≡ step_of was (resolves e)
  taken_same effects.On stays left = stays_same (is_some ((class_code m.files).line ((class_code m.files).next was.place))) ((class_code m.files).next was.place) is_now.content
  taken_same (effects.Jump i) stays left = stays_same (is_some ((class_code m.files).line ((class_code m.files).target was.place i))) ((class_code m.files).target was.place i) is_now.content
  taken_same (effects.Enter i) stays left = entered_same i (has_room f.operands.room 1 now_operands) stays
  taken_same (effects.Back pc) stays left = stays_same (is_some ((class_code m.files).line (place_in was.method pc))) (place_in was.method pc) is_now.content
  taken_same (effects.Ask request) stays left = replied_same (answer m.setting.classes t.world (request_in (naming_of m old) request)) ∙ ap (step_of was) (sym (asked_free request))
  taken_same (effects.Leave result) stays left = absurd stays
  taken_same (effects.Fail fault) stays left =
      ap (λ (g : Frame). step_of (seen_by m old.heap.names g) (turns.fails (class_code m.files) m.setting.classes fault (seen_by m old.heap.names g).content t.world)) (left refl)
  taken_same (effects.Throw a) stays left =
      let x = name_of m.setting.heads old.heap.names a in
      ap (λ (g : Frame). step_of (seen_by m old.heap.names g)
      (if m.setting.classes.is_subtype (machine.class_of x) machine.throwable_class then turns.Raises None x (seen_by m old.heap.names g).content t.world else turns.stops events.Broken)) (left refl)
  taken_same (effects.Unmodelled op) stays left = refl
  taken_same effects.Broken stays left = refl

-- an exception leaves the frame
unchanged : (f g : Frame) (e : Effect) → Keeps f g → Undoes f g e → raises e ≡ true → changed_to f g.operands.values g.locals ≡ f
unchanged f g (effects.Fail fault) kept undone raises = sym (changed_is f g kept) ∙ undone.undoes
unchanged f g (effects.Throw a) kept undone raises = sym (changed_is f g kept) ∙ undone.undoes
unchanged f g effects.On kept undone raises = absurd (false≢true raises)
unchanged f g (effects.Jump i) kept undone raises = absurd (false≢true raises)
unchanged f g (effects.Enter i) kept undone raises = absurd (false≢true raises)
unchanged f g (effects.Back pc) kept undone raises = absurd (false≢true raises)
unchanged f g (effects.Ask request) kept undone raises = absurd (false≢true raises)
unchanged f g (effects.Leave result) kept undone raises = absurd (false≢true raises)
unchanged f g (effects.Unmodelled op) kept undone raises = absurd (false≢true raises)
unchanged f g effects.Broken kept undone raises = absurd (false≢true raises)

pub executed_moves : (k : Known) (old mid new : MachineState) (basic : Basic) (e : Effect) (step : Step) → IsPerformed old mid basic e → is_return basic ≡ false → Moves k mid new step (takes mid e) → Moves k old new step (executes (Do basic))
executed_moves k old mid new basic e step performed returns moves =
    let f = performed.before in
    let vs = performed.after.operands.values in
    let ls = performed.after.locals in
    let changed = changed_is f performed.after performed.kept in
    moves_turned k old mid new step (takes (record old { frames = mid.frames }) e) (executes (Do basic)) performed.rest f (changed_to f vs ls)
    (subst (λ (g : Frame). Turned old mid performed.rest f g) changed performed.turned)
    (λ w. subst (IsFrameWithin (length old.heap.names)) changed (performed.within (length old.heap.names) w))
    (subst (λ (s : MachineState). Moves k mid new step (takes s e)) performed.turned.same moves)
    (λ m left t is runs.
    let below = waiting m old.heap.names performed.rest in
    let n = naming_of m old in
    let was = seen_by m old.heap.names f in
    let kind = option_map kind_in (result_in was.method.member.descriptor) in
    let does = subst (λ (g : Frame). Does n (basic_effect (setting f None) basic) f g e) changed
    (performed.done n (length old.heap.names) (faithful k m old left t is runs) (frame_within m old left t performed.rest f performed.turned.before runs)) in
    taken_same k m old mid t f vs ls below e
    (subst (Stays f.operands.room) (sym does.same) (basic_stays (setting f None) basic was.content.operands was.content.locals returns))
    (unchanged f performed.after e performed.kept performed.undone)
    ∙ ap (λ (x : definition.Effect Place). moved (class_code m.files) m.setting.classes t.due (resolved (class_code m.files) m.setting.classes was t.world x) t.world was below)
    (does.same ∙ unconcerned f.operands.room None kind basic was.content.operands was.content.locals returns))
