-- Texts that come back into the calls that wait for them.
use Rattle.std.specs.Prelude.{◌≡◌, ℕ, ◌<◌, ◌≤◌, ◌-◌, Bool, true, false, List, [], ◌∷◌, ◌++◌, map, reverse, length, slice_get, Option, Some, None, refl}
use Rattle.std.specs.Bool.{MatchBool}
use Rattle.std.specs.Global.{Vec}
use Rattle.std.specs.List.{AllByRecursion}
use Rattle.std.specs.Option.{option_map}
use Rattle.std.proofs.Common.{sym, ap, ◌∙◌, subst, arith, length-append}
use Rattle.std.proofs.lemmas.Bool.{and_parts}
use Rattle.std.proofs.lemmas.List.{length-map, length-reverse}
use Rattle.class_world.specs.Tables.{Known}
use Rattle.class_machine.specs.declared.kinds.Kind.{Kind}
use Rattle.class_machine.specs.declared.meaning.Basic.TheVariants as basic
use Rattle.class_machine.specs.ClassFiles.{Place, class_code}
use Rattle.class_machine.specs.Descriptors.{kind_in, result_in}
use Rattle.class_machine.specs.Effect as definition
use Rattle.class_machine.specs.Events as events
use Rattle.class_machine.specs.LibraryCalls as calls
use Rattle.class_machine.specs.Machine as machines
use Rattle.class_machine.specs.Machine.{State, leaving, moved, back_in, returned}
use Rattle.class_machine.specs.Operations.{Do}
use Rattle.class_machine.specs.Turn as turns
use Rattle.class_machine.specs.Turn.{Leaves, resolved, worked}
use Rattle.class_machine.specs.World.{World}
use Rattle.machine_values.specs.declared.frames.Frame.{Frame}
use Rattle.machine_values.specs.declared.frames.Purpose.{Purpose}
use Rattle.machine_values.specs.declared.frames.Purpose.TheVariants.{Ordinary, Constructs, Initialises, Within}
use Rattle.machine_values.specs.declared.frames.Wait.{Wait}
use Rattle.machine_values.specs.declared.names.Name.{Name}
use Rattle.machine_values.specs.declared.observed.Ending.TheVariants as ending
use Rattle.machine_values.specs.declared.observed.Event.{Event}
use Rattle.machine_values.specs.declared.observed.Shown.{Shown}
use Rattle.machine_values.specs.declared.script.Answer.{Answer}
use Rattle.machine_values.specs.declared.state.MachineState.{MachineState}
use Rattle.machine_values.specs.declared.values.Value.{Value}
use Rattle.machine_values.specs.Observed.{machine_event}
use Rattle.machine_values.specs.Standing.{held}
use Rattle.machine_values.specs.States.{machine_wait, machine_purpose, machine_due, is_known_object, is_known_destination, is_known_purpose, IsStaticWithin, IsFrameWithin}
use Rattle.machine_values.specs.Things.{Things}
use Rattle.machine_frames.specs.Effects.{operands_of}
use Rattle.machine_requests.specs.Growth.{due_stays}
use Rattle.machine_requests.specs.Replies.{IsLonger}
use Rattle.machine_requests.specs.Shares.{Shares, others_of}
use Rattle.machine_rules.specs.declared.work.Work.{Work}
use Rattle.machine_rules.specs.declared.work.Work.TheVariants as work
use Rattle.machine_rules.specs.Fields.{StaysWhole}
use Rattle.machine_rules.specs.Waiting.{wait_of}
use Rattle.machine_rules.specs.WaitingLaws.{wait_waits}
use Rattle.machine_rules.specs.Works.{IsSettingOf, IsKnownWait, Works, DoesAnywhere}
use Rattle.machine_steps.proofs.Dropping.{none_dropped, one_dropped}
use Rattle.machine_steps.specs.declared.step.Step.{Step}
use Rattle.machine_steps.specs.declared.step.Step.TheVariants.{Ended}
use Rattle.machine_steps.specs.Dropped.{formed_dropped}
use Rattle.machine_steps.specs.Executing.{executes}
use Rattle.machine_steps.specs.Giving.{naming_of}
use Rattle.machine_steps.specs.Going.{waiting_stay}
use Rattle.machine_steps.specs.Leaving.{LeavesMonitor, Drops}
use Rattle.machine_steps.specs.Moves.{Moves, moved_by}
use Rattle.machine_steps.specs.Programs.{Machine, IsMachine}
use Rattle.machine_steps.specs.Running.{seen_by, waiting, all_last, frames_are, moves_at}
use Rattle.machine_steps.specs.Runs.{IsFormed, Runs, Stepped}
use Rattle.machine_steps.specs.Within.{frames_more, due_more}
use Rattle.machine_invocations.specs.Returning.{IsSettledResult, result_held}
use Rattle.machine_statics.specs.Returns.{LeavesRunning, Results, BreaksReturn, ShowsResult, TellsKind}
use Rattle.machine_statics.proofs.Returned.{off_runs, same_heap}
use Rattle.machine_statics.proofs.Triggered.{at_last, none_runs}
use Rattle.machine_works.specs.Finishing.{IsSound, ends_call}
use Rattle.machine_works.specs.Sound as sound
use Rattle.machine_parts.specs.Lines.{StandsForOne}
use Rattle.machine_returns.specs.Returns.{MovesWithin, is_within, waits_below}
use Rattle.machine_returns.proofs.Plain.{IsPlain, resumed}
use Rattle.machine_returns.proofs.Same.{same_back}

pub setting_of : (k : Known) (m : Machine) → IsMachine k m → IsSettingOf k m.setting
setting_of k m is = record { heads = is.heads; classes = is.classes; distinct = is.distinct }

-- ---- the frames

last_split : (items : List Frame) → 1 ≤ length items → (rest : List Frame) × (g : Frame) × (items ≡ rest ++ g ∷ [])
last_split [] some = absurd (omega arith)
last_split (x ∷ []) some = ([], x, refl)
last_split (x ∷ y ∷ more) some = let last = last_split (y ∷ more) (omega arith) in (x ∷ last.0, last.1, ap (λ l. x ∷ l) last.2)

nothing_below : (items rest : List Frame) (g : Frame) → items ≡ rest ++ g ∷ [] → length items < 2 → rest ≡ []
nothing_below items [] g split few = refl
nothing_below items (x ∷ xs) g split few = absurd (let n = ap (length {A = Frame}) split in let l = length-append xs (g ∷ []) in omega arith)

some_below : (rest items : List Frame) (g : Frame) → items ≡ rest ++ g ∷ [] → 2 ≤ length items → 1 ≤ length rest
some_below rest items g split many = let n = ap (length {A = Frame}) split in let l = length-append rest (g ∷ []) in let one : length {A = Frame} (g ∷ []) ≡ 1 = refl in omega arith

some_wait : (m : Machine) (names : List Name) (rest : List Frame) → 1 ≤ length rest → waiting m names rest ≡ [] → ⊥
some_wait m names rest many e =
    let n : length {A = turns.Frame Place} (map (seen_by m names) (reverse rest)) ≡ 0 = ap length e in let l = length-map (reverse rest) (seen_by m names) in let r = length-reverse rest in omega (arith, n, l, r)

-- ---- out of the running frame, in the machine

module _ (k : Known) (old new : MachineState) (step : Step) (wait : Wait) (value : Option Value) (rest : List Frame) (g : Frame) (split : old.frames.items ≡ rest ++ g ∷ []) where
  abbrev machine_waits : Machine → calls.Wait
  machine_waits m = machine_wait m.setting.heads m.methods old.heap.names wait

  abbrev left_world : Machine → State Place → World
  left_world m t = leaving (seen_by m old.heap.names g).monitor t.world

  abbrev come : Machine → State Place → List (turns.Frame Place) → machines.Step (State Place)
  come m t below = returned (class_code m.files) m.setting.classes t.due (turns.Within (machine_waits m)) (result_held m old value) (left_world m t) below

  -- by the frames that wait
  pub within_by : ((m : Machine) (left : List Answer) (t : State Place) → IsMachine k m → Runs m old left t → Stepped m new left step (come m t (waiting m old.heap.names rest))) → MovesWithin k old new step wait value
  within_by comes =
      at_last k old (λ m left t f below. f.purpose ≡ turns.Within (machine_waits m) → Stepped m new left step (moved_by (λ x u h. Leaves (result_held x old value) u.world) m t f below)) rest g split
      (λ m left t is runs of.
      subst (λ p. Stepped m new left step (returned (class_code m.files) m.setting.classes t.due p (result_held m old value) (left_world m t) (waiting m old.heap.names rest))) (sym of) (comes m left t is runs))

  -- there is such a frame
  pub within_above : 1 ≤ length rest
      → ((m : Machine) (left : List Answer) (t : State Place) (f : turns.Frame Place) (below : List (turns.Frame Place)) → IsMachine k m → Runs m old left t → waiting m old.heap.names rest ≡ f ∷ below → Stepped m new left step (come m t (f ∷ below)))
      → MovesWithin k old new step wait value
  within_above many comes = within_by (λ m left t is runs. by m left t is runs (waiting m old.heap.names rest) refl) where
    by : (m : Machine) (left : List Answer) (t : State Place) → IsMachine k m → Runs m old left t → (fs : List (turns.Frame Place)) → waiting m old.heap.names rest ≡ fs → Stepped m new left step (come m t (waiting m old.heap.names rest))
    by m left t is runs [] none = absurd (some_wait m old.heap.names rest many none)
    by m left t is runs (f ∷ below) there = subst (λ fs. Stepped m new left step (come m t fs)) (sym there) (comes m left t f below is runs there)

pub none_within : (k : Known) (old new : MachineState) (step : Step) (wait : Wait) (value : Option Value) → old.frames.items ≡ [] → MovesWithin k old new step wait value
none_within k old new step wait value none m left t f below is runs top of = absurd (none_runs m old left t f below none runs top)

-- ---- no text, and a result that ends the run

pub no_text : (k : Known) (old new : MachineState) (wait : Wait) → 2 ≤ length old.frames.items → MovesWithin k old new (Ended ending.Broken) wait None
no_text k old new wait many = let last = last_split old.frames.items (omega arith) in
    within_above k old new (Ended ending.Broken) wait None last.0 last.1 last.2 (some_below last.0 old.frames.items last.1 last.2 many) (λ m left t f below is runs there. refl)

pub result_ends : (k : Known) (old new : MachineState) (wait : Wait) (value : Option Value) (seen : Option Shown) (b : Bool) → MatchBool b (LeavesRunning old new) (old.frames.items ≡ []) → length old.frames.items < 2
    → ShowsResult k old value seen → MovesWithin k old new (Ended (ending.Returned seen)) wait value
result_ends k old new wait value seen false none few shows = none_within k old new (Ended (ending.Returned seen)) wait value none
result_ends k old new wait value seen true leaves few shows =
    let rest = new.frames.items in
    let g = leaves.frame in
    let none = nothing_below old.frames.items rest g leaves.split few in
    within_by k old new (Ended (ending.Returned seen)) wait value rest g leaves.split
    (λ m left t is runs.
    let w = leaving (seen_by m old.heap.names g).monitor t.world in
    let after = off_runs k old new rest g leaves.split leaves.drops m left t is runs in
    subst (λ (frames : List Frame). Stepped m new left (Ended (ending.Returned seen)) (returned (class_code m.files) m.setting.classes t.due (turns.Within (machine_wait m.setting.heads m.methods old.heap.names wait)) (result_held m old value) w (waiting m old.heap.names frames))) (sym none)
    (ap events.Returned (shows m (others_of new) w is (subst (λ (h : Things). Shares m.setting h (others_of new) w) (same_heap k old new rest g leaves.split leaves.drops) after.shares))))

-- ---- a text that the call takes

module _ (k : Known) (old : MachineState) (heap : Things) (frames : Vec Frame) (monitors : List ℕ) (g : Frame) (split : old.frames.items ≡ frames.items ++ g ∷ []) (leaves : LeavesMonitor old.monitors g.monitor monitors) where
  -- without the frame, and with the heap as it was
  abbrev off : MachineState
  off = record old { frames = frames; monitors = monitors }

  abbrev two : MachineState
  two = record old { heap = heap; frames = frames; monitors = monitors }

  drops : Drops old off (length frames.items)
  drops = one_dropped old old off g (none_dropped old) split refl leaves

  pub formed_two : IsFormed k old → IsFormed k two
  formed_two formed = let all = formed_dropped k old off (length frames.items) drops formed in record { statics = all.statics; begun = all.begun; frames = all.frames; due = all.due }

  module _ (wait : Wait) (text : Value) (done : Work) (longer : IsLonger old.heap heap) (does : DoesAnywhere k old.heap (λ s ns w. calls.resume (wait_of s ns wait) (held s.heads ns text) w) heap done) (still : StaysWhole k old.heap heap) where
    module _ (m : Machine) (left : List Answer) (t : State Place) (is : IsMachine k m) (runs : Runs m old left t) where
      abbrev below : List (turns.Frame Place)
      below = waiting m old.heap.names frames.items

      abbrev world : World
      world = leaving (seen_by m old.heap.names g).monitor t.world

      off_run : Runs m off left (record t { frames = below; world = world })
      off_run = off_runs k old off frames.items g split drops m left t is runs

      abbrev waits : calls.Wait
      waits = machine_wait m.setting.heads m.methods old.heap.names wait

      abbrev asked : calls.Work
      asked = calls.resume waits (held m.setting.heads old.heap.names text) world

      worked_so : Works k m.setting heap (others_of off) world done asked
      worked_so =
          subst (λ (x : calls.Wait). Works k m.setting heap (others_of off) world done (calls.resume x (held m.setting.heads old.heap.names text) world)) (sym (wait_waits m.setting old.heap.names wait m.methods))
          (does m.setting (others_of off) world (setting_of k m is) off_run.shares)

      -- the state stands for the machine's, where the frame is left and the call has done its work
      two_run : (u : World) → Shares m.setting heap (others_of off) u → u.answers ≡ world.answers → Runs m two left (record t { frames = below; world = u })
      two_run u shares same =
          let names = old.heap.names in
          let more = longer.0 in
          let many : length names ≤ length heap.names = let e = ap (λ (l : List Name). length l) longer.1 in let n = length-append names more in omega arith in
          let front : AllByRecursion (IsFrameWithin (length names)) frames.items = off_run.frames.frames_within in
          record {
            shares = shares;
            frames = record {
              frames = sym (ap (λ (all : List Name). waiting m all frames.items) longer.1 ∙ waiting_stay m names more frames.items front);
              due = off_run.frames.due ∙ sym (ap (λ (all : List Name). machine_due m.setting.heads m.methods all old.due) longer.1 ∙ due_stays m.setting.heads names more m.methods old.due off_run.frames.due_within);
              frames_within = frames_more (length names) (length heap.names) many frames.items front;
              due_within = due_more (length names) (length heap.names) many old.due off_run.frames.due_within;
            };
            answers = same ∙ off_run.answers;
            filled = still m.setting (others_of off) world (setting_of k m is) off_run.shares off_run.filled;
          }

    -- the call gives a result
    pub text_given : (said : Option Event) (value : Option Value) (new : MachineState) (step : Step) → done ≡ work.Results said value → 2 ≤ length old.frames.items → Moves k two new step (ends_call said false value two) → MovesWithin k old new step wait (Some text)
    text_given said value new step gives many moves =
        within_above k old new step wait (Some text) frames.items g split (some_below frames.items old.frames.items g split many)
        (λ m left t f rest is runs there.
        let w = world m left t is runs in
        let r = subst (λ (x : Work). Works k m.setting heap (others_of off) w x (asked m left t is runs)) gives (worked_so m left t is runs) in
        let v = result_held m two value in
        let event = option_map machine_event said in
        let same : r.world.answers ≡ w.answers = subst (IsSound m.setting.classes w) r.same (sound.resumed m.setting.classes (waits m left t is runs) (held m.setting.heads old.heap.names text) w) in
        let u : State Place = record t { frames = below m left t is runs; world = r.world } in
        subst (λ (x : calls.Work). Stepped m new left step (back_in (class_code m.files) m.setting.classes t.due f (worked (class_code m.files) m.setting.classes f f.content w false x) rest)) (sym r.same)
        (subst (Stepped m new left step) (same_back m t.due r.world f rest event v)
        (moves m left u f rest is (two_run m left t is runs r.world r.holds.shares same) there)))

    breaks : (new : MachineState) (m : Machine) (left : List Answer) (t : State Place) (is : IsMachine k m) (runs : Runs m old left t) (f : turns.Frame Place) (rest : List (turns.Frame Place)) (x : calls.Work)
        → asked m left t is runs ≡ x → x ≡ calls.Misuses → Stepped m new left (Ended ending.Broken) (back_in (class_code m.files) m.setting.classes t.due f (worked (class_code m.files) m.setting.classes f f.content (world m left t is runs) false (asked m left t is runs)) rest)
    breaks new m left t is runs f rest x same misuses =
        subst (λ (y : calls.Work). Stepped m new left (Ended ending.Broken) (back_in (class_code m.files) m.setting.classes t.due f (worked (class_code m.files) m.setting.classes f f.content (world m left t is runs) false y) rest)) (sym (same ∙ misuses)) refl

    plain : (m : Machine) (left : List Answer) (t : State Place) (is : IsMachine k m) (runs : Runs m old left t) (x : calls.Work) → asked m left t is runs ≡ x → IsPlain x
    plain m left t is runs x same = subst IsPlain same (resumed (waits m left t is runs) (held m.setting.heads old.heap.names text) (world m left t is runs))

    -- it gives none
    pub text_refused : (new : MachineState) → ((said : Option Event) (value : Option Value) → done ≡ work.Results said value → ⊥) → 2 ≤ length old.frames.items → MovesWithin k old new (Ended ending.Broken) wait (Some text)
    text_refused new none many =
        within_above k old new (Ended ending.Broken) wait (Some text) frames.items g split (some_below frames.items old.frames.items g split many)
        (λ m left t f rest is runs there. by m left t is runs f rest done refl (worked_so m left t is runs)) where
          by : (m : Machine) (left : List Answer) (t : State Place) (is : IsMachine k m) (runs : Runs m old left t) (f : turns.Frame Place) (rest : List (turns.Frame Place)) (x : Work) → done ≡ x
              → Works k m.setting heap (others_of off) (world m left t is runs) x (asked m left t is runs)
              → Stepped m new left (Ended ending.Broken) (back_in (class_code m.files) m.setting.classes t.due f (worked (class_code m.files) m.setting.classes f f.content (world m left t is runs) false (asked m left t is runs)) rest)
          by m left t is runs f rest (work.Results said value) same r = absurd (none said value same)
          by m left t is runs f rest (work.Throws x) same r = absurd (plain m left t is runs _ r.same)
          by m left t is runs f rest (work.Faults fault) same r = absurd (plain m left t is runs _ r.same)
          by m left t is runs f rest (work.Calls method object waiting) same r = absurd (plain m left t is runs _ r.same)
          by m left t is runs f rest (work.Loads class) same r = absurd (plain m left t is runs _ r.same)
          by m left t is runs f rest (work.Exits status) same r = absurd (plain m left t is runs _ r.same)
          by m left t is runs f rest work.Misuses same r = breaks new m left t is runs f rest calls.Misuses r.same refl

    -- ---- what the call gives is settled

    pub result_settled : StandsForOne k old → (said : Option Event) (value : Option Value) → done ≡ work.Results said value → IsSettledResult (length heap.names) value
    result_settled there said value gives =
        let m = there.machine in
        let r = subst (λ (x : Work). Works k m.setting heap (others_of off) (world m there.left there.there there.is there.runs) x (asked m there.left there.there there.is there.runs)) gives (worked_so m there.left there.there there.is there.runs) in
        settled value r.settled where
          settled : (v : Option Value) → IsStaticWithin (length heap.names) v → IsSettledResult (length heap.names) v
          settled None h = tt
          settled (Some v) h = h

-- ---- the whole return

module _ (k : Known) (old : MachineState) (kind returns : Option Kind) (wait : Wait) (rest : List Frame) (g : Frame) (split : old.frames.items ≡ rest ++ g ∷ []) (of : g.purpose ≡ Within wait) (tells : TellsKind k g.method.0 returns) where
  effect_is : (m : Machine) → IsMachine k m → (e : definition.Effect Place) → definition.leave kind returns (operands_of (naming_of m old) g) ≡ e
      → definition.leave kind (option_map kind_in (result_in (m.methods g.method.0).member.descriptor)) (seen_by m old.heap.names g).content.operands ≡ e
  effect_is m is e same = ap (λ r. definition.leave kind r (seen_by m old.heap.names g).content.operands) (sym (tells m is)) ∙ same

  pub text_returned : (new : MachineState) (step : Step) (value : Option Value) → Results g kind returns value → MovesWithin k old new step wait value → Moves k old new step (executes (Do (basic.Return kind)))
  text_returned new step value results moves =
      moves_at k old new step (executes (Do (basic.Return kind))) rest g split
      (λ m left t is runs.
      let f = seen_by m old.heap.names g in
      let below = waiting m old.heap.names rest in
      subst (λ e. Stepped m new left step (moved (class_code m.files) m.setting.classes t.due (resolved (class_code m.files) m.setting.classes f t.world e) t.world f below)) (sym (effect_is m is _ (results.leaves (naming_of m old))))
      (moves m left t f below is runs (frames_are m old left t rest g runs split) (ap (machine_purpose m.setting.heads m.methods old.heap.names) of)))

  pub return_broken : (new : MachineState) → BreaksReturn g kind returns → Moves k old new (Ended ending.Broken) (executes (Do (basic.Return kind)))
  return_broken new broken =
      moves_at k old new (Ended ending.Broken) (executes (Do (basic.Return kind))) rest g split
      (λ m left t is runs.
      let f = seen_by m old.heap.names g in
      let below = waiting m old.heap.names rest in
      subst (λ e. Stepped m new left (Ended ending.Broken) (moved (class_code m.files) m.setting.classes t.due (resolved (class_code m.files) m.setting.classes f t.world e) t.world f below)) (sym (effect_is m is _ (broken (naming_of m old)))) refl)

-- ---- what is known of the running frame

module _ (k : Known) (old : MachineState) (there : StandsForOne k old) (rest : List Frame) (g : Frame) (split : old.frames.items ≡ rest ++ g ∷ []) where
  pub frame_within : IsFrameWithin (length old.heap.names) g
  frame_within = all_last (IsFrameWithin (length old.heap.names)) rest g (subst (AllByRecursion (IsFrameWithin (length old.heap.names))) split there.runs.frames.frames_within)

  pub wait_known : (wait : Wait) → g.purpose ≡ Within wait → IsKnownWait (length old.heap.names) wait
  wait_known wait of =
      let count = length old.heap.names in
      let both = and_parts (is_known_object count wait.describes) (is_known_destination count wait.destination) (sym (ap (is_known_purpose count) of) ∙ frame_within.purpose) in
      record { exception = both.0; destination = both.1 }

pub brings : (items xs : List Frame) (g : Frame) (wait : Wait) → xs ≡ items → Some g ≡ slice_get xs (length xs - 1) → g.purpose ≡ Within wait → waits_below (slice_get items (length items - 1)) ≡ true
brings items xs g wait same at of = ap (λ (l : List Frame). waits_below (slice_get l (length l - 1))) (sym same) ∙ sym (ap waits_below at) ∙ ap is_within of

other_purpose : (p : Purpose) → ((wait : Wait) → p ≡ Within wait → ⊥) → is_within p ≡ false
other_purpose Ordinary other = refl
other_purpose Constructs other = refl
other_purpose (Initialises class) other = refl
other_purpose (Within wait) other = absurd (other wait refl)

pub brings_other : (items xs : List Frame) (g : Frame) → xs ≡ items → Some g ≡ slice_get xs (length xs - 1) → ((wait : Wait) → g.purpose ≡ Within wait → ⊥) → waits_below (slice_get items (length items - 1)) ≡ false
brings_other items xs g same at other = ap (λ (l : List Frame). waits_below (slice_get l (length l - 1))) (sym same) ∙ sym (ap waits_below at) ∙ other_purpose g.purpose other

pub brings_none : (items xs : List Frame) → xs ≡ items → None ≡ slice_get xs (length xs - 1) → waits_below (slice_get items (length items - 1)) ≡ false
brings_none items xs same at = ap (λ (l : List Frame). waits_below (slice_get l (length l - 1))) (sym same) ∙ sym (ap waits_below at)
