-- Out of the running frame.
use Rattle.std.specs.Prelude.{◌≡◌, ◌<◌, Bool, true, false, if◌then◌else◌, is_some, List, [], ◌∷◌, ◌++◌, map, reverse, take, drop, length, slice_get, ◌-◌, ◌≤◌, Result, Ok, Err, IfOk, Option, Some, None, refl}
use Rattle.std.specs.Bool.{MatchBool}
use Rattle.std.specs.List.{AllByRecursion}
use Rattle.std.specs.Option.{option_map}
use Rattle.std.proofs.Common.{sym, ap, ◌∙◌, subst, arith, length-append}
use Rattle.std.proofs.lemmas.Bool.{false≢true}
use Rattle.std.proofs.lemmas.List.{take_at, drop_at, length-map, length-reverse}
use Rattle.std.proofs.lemmas.Option.{none-some}
use Rattle.event_machine.specs.Outcome as outcomes
use Rattle.aj_names.specs.declared.ids.ClassId.{ClassId}
use Rattle.class_world.specs.Tables.{Known}
use Rattle.class_machine.specs.declared.kinds.Kind.{Kind}
use Rattle.class_machine.specs.declared.meaning.Basic.TheVariants as basic
use Rattle.class_machine.specs.ClassFiles.{Place, class_code}
use Rattle.class_machine.specs.Descriptors.{kind_in, result_in}
use Rattle.class_machine.specs.Effect as definition
use Rattle.class_machine.specs.Events as events
use Rattle.class_machine.specs.Machine as machines
use Rattle.class_machine.specs.Machine.{State, leaving, moved, back_in, returned, taking}
use Rattle.class_machine.specs.Operations.{Do}
use Rattle.class_machine.specs.Turn as turns
use Rattle.class_machine.specs.Turn.{Turn, Stays, Completes, Leaves, stops, stays, completes, resolved}
use Rattle.class_machine.specs.Values.{Held, Plain, Content, has_room, held_width, pushed_on}
use Rattle.class_machine.specs.World.{World, shown}
use Rattle.machine_values.specs.declared.frames.Frame.{Frame}
use Rattle.machine_values.specs.declared.frames.Purpose as kept
use Rattle.machine_values.specs.declared.frames.Purpose.TheVariants as purpose
use Rattle.machine_values.specs.declared.frames.Wait.{Wait}
use Rattle.machine_values.specs.declared.names.Name.{Name}
use Rattle.machine_values.specs.declared.observed.Ending.TheVariants as ending
use Rattle.machine_values.specs.declared.observed.Ending.TheVariants.{Broken}
use Rattle.machine_values.specs.declared.observed.Shown.{Shown}
use Rattle.machine_values.specs.declared.script.Answer.{Answer}
use Rattle.machine_values.specs.declared.state.MachineState.{MachineState}
use Rattle.machine_values.specs.declared.values.Value.{Value}
use Rattle.machine_values.specs.Standing.{held}
use Rattle.machine_values.specs.States.{machine_purpose, IsFrameWithin}
use Rattle.machine_values.specs.Things.{Things}
use Rattle.machine_frames.specs.Effects.{operands_of}
use Rattle.machine_requests.specs.Shares.{Shares, others_of}
use Rattle.machine_steps.specs.declared.step.Step.{Step}
use Rattle.machine_steps.specs.declared.step.Step.TheVariants.{Went, Said, Ended, NotMine}
use Rattle.machine_steps.specs.Dropped.{dropped_runs}
use Rattle.machine_steps.specs.Executing.{executes}
use Rattle.machine_steps.specs.Giving.{naming_of}
use Rattle.machine_steps.specs.Leaving.{left_by, Drops}
use Rattle.machine_steps.specs.Moves.{Moves, moved_by}
use Rattle.machine_steps.specs.Programs.{Machine, IsMachine}
use Rattle.machine_steps.specs.Running.{seen_by, waiting, all_last, frames_are, split_last}
use Rattle.machine_steps.specs.Runs.{Runs, Stepped}
use Rattle.machine_invocations.specs.Returning.{IsSettledResult, MovesOut, result_held, purpose_back, takes_back, is_within}
use Rattle.machine_statics.specs.Returns.{LeavesRunning, Results, BreaksReturn, ShowsResult, MovesFrom, Returns, TellsKind, is_mine}
use Rattle.machine_statics.proofs.Triggered.{at_last, none_runs}

-- ---- what the machine makes of a result

module _ (m : Machine) (due : machines.Due) (u : World) (f : turns.Frame Place) (below : List (turns.Frame Place)) where
  abbrev back : Turn Place → machines.Step (State Place)
  back turn = back_in (class_code m.files) m.setting.classes due f turn below

  abbrev on : Turn Place → machines.Step (State Place)
  on turn = moved (class_code m.files) m.setting.classes due turn u f below

  abbrev next : Place
  next = (class_code m.files).next f.place

  same_stays : (b : Bool) (c : Content Place) → on (if b then Stays next c u else stops events.Broken) ≡ back (if b then Stays next c u else stops events.Broken)
  same_stays true c = refl
  same_stays false c = refl

  same_completes : (b : Bool) (c : Content Place) → on (if b then Completes None true next c u else stops events.Broken) ≡ back (if b then Completes None true next c u else stops events.Broken)
  same_completes true c = refl
  same_completes false c = refl

  same_roomy : (room : Bool) (x : Turn Place) → on x ≡ back x → on (if room then x else stops events.Broken) ≡ back (if room then x else stops events.Broken)
  same_roomy true x e = e
  same_roomy false x e = refl

  -- the frame that waits takes it as the running one
  pub same_back : (super : Bool) (v : Option Held) → on (taking (class_code m.files) m.setting.classes (purpose_back super) v u f) ≡ back (taking (class_code m.files) m.setting.classes (purpose_back super) v u f)
  same_back false None = same_stays (is_some ((class_code m.files).line next)) f.content
  same_back false (Some h) =
      same_roomy (has_room f.room (held_width h) f.content.operands) (stays (class_code m.files) m.setting.classes next (pushed_on (Plain h) f.content) u) (same_stays (is_some ((class_code m.files).line next)) (pushed_on (Plain h) f.content))
  same_back true None = same_completes (is_some ((class_code m.files).line next)) f.content
  same_back true (Some h) =
      same_roomy (has_room f.room (held_width h) f.content.operands) (completes (class_code m.files) m.setting.classes None true next (pushed_on (Plain h) f.content) u) (same_completes (is_some ((class_code m.files).line next)) (pushed_on (Plain h) f.content))

  pub returned_back : (super : Bool) (v : Option Held) → on (taking (class_code m.files) m.setting.classes (purpose_back super) v u f) ≡ returned (class_code m.files) m.setting.classes due (purpose_back super) v u (f ∷ below)
  returned_back false v = same_back false v
  returned_back true v = same_back true v

pub returned_last : (m : Machine) (due : machines.Due) (u : World) (super : Bool) (v : Option Held) → returned (class_code m.files) m.setting.classes due (purpose_back super) v u [] ≡ outcomes.Ended (events.Returned (option_map (shown u) v))
returned_last m due u false v = refl
returned_last m due u true v = refl

-- ---- the running frame is taken off

module _ (k : Known) (old new : MachineState) (rest : List Frame) (g : Frame) (split : old.frames.items ≡ rest ++ g ∷ []) (drops : Drops old new (length rest)) where
  pub same_heap : new.heap ≡ old.heap
  same_heap = ap (λ (s : MachineState). s.heap) drops.rest

  module _ (m : Machine) (left : List Answer) (t : State Place) (is : IsMachine k m) (runs : Runs m old left t) where
    abbrev f : turns.Frame Place
    f = seen_by m old.heap.names g

    abbrev below : List (turns.Frame Place)
    below = waiting m old.heap.names rest

    abbrev world : World
    world = leaving f.monitor t.world

    pub off_runs : Runs m new left (record t { frames = below; world = world })
    off_runs =
        subst (λ (gone : List Frame). Runs m new left (record t { frames = below; world = left_by m.setting old.heap.names (reverse gone) t.world }))
        (ap (drop (length rest)) split ∙ drop_at rest (g ∷ []) (length rest) refl)
        (subst (λ (kept : List Frame). Runs m new left (record t { frames = waiting m old.heap.names kept; world = left_by m.setting old.heap.names (reverse (drop (length rest) old.frames.items)) t.world }))
        (ap (take (length rest)) split ∙ take_at rest (g ∷ []) (length rest) refl)
        (dropped_runs k m old new left t (length rest) is drops runs))

    abbrev outcome : turns.Purpose → Option Held → machines.Step (State Place)
    outcome p v = returned (class_code m.files) m.setting.classes t.due p v world below

  -- an initialiser's result is lost
  pub initialised_out : (value : Option Value) (class : ClassId) → g.purpose ≡ purpose.Initialises class → (m : Machine) (left : List Answer) (t : State Place) → IsMachine k m → Runs m old left t
      → Stepped m new left Went (moved_by (λ x u h. Leaves (result_held x old value) u.world) m t (seen_by m old.heap.names g) (waiting m old.heap.names rest))
  initialised_out value class of m left t is runs =
      subst (λ p. Stepped m new left Went (outcome m left t is runs (machine_purpose m.setting.heads m.methods old.heap.names p) (result_held m old value))) (sym of) (off_runs m left t is runs)

  -- the frame below takes it
  pub taken_out : (end : MachineState) (step : Step) (super : Bool) (value : Option Value) → (rest ≡ [] → ⊥) → Moves k new end step (takes_back super value new) → MovesFrom k old end step (purpose_back super) value
  taken_out end step super value some moves =
      at_last k old (λ m left t f below. f.purpose ≡ purpose_back super → Stepped m end left step (moved_by (λ x u h. Leaves (result_held x old value) u.world) m t f below)) rest g split
      (λ m left t is runs of.
      let v = result_held m old value in
      let w = world m left t is runs in
      subst (λ p. Stepped m end left step (outcome m left t is runs p v)) (sym of)
      (by m left t is runs (waiting m old.heap.names rest) refl)) where
        by : (m : Machine) (left : List Answer) (t : State Place) (is : IsMachine k m) (runs : Runs m old left t) (fs : List (turns.Frame Place)) → waiting m old.heap.names rest ≡ fs
            → Stepped m end left step (outcome m left t is runs (purpose_back super) (result_held m old value))
        by m left t is runs [] none = absurd (some (nothing_waits m rest none)) where
          nothing_waits : (m : Machine) (frames : List Frame) → waiting m old.heap.names frames ≡ [] → frames ≡ []
          nothing_waits m [] e = refl
          nothing_waits m (x ∷ xs) e = absurd (let n : length {A = turns.Frame Place} (map (seen_by m old.heap.names) (reverse (x ∷ xs))) ≡ 0 = ap length e in let l = length-map (reverse (x ∷ xs)) (seen_by m old.heap.names) in let r = length-reverse (x ∷ xs) in omega (arith, n, l, r))
        by m left t is runs (f ∷ below) there =
            let v = result_held m old value in
            let w = world m left t is runs in
            let u : State Place = record t { frames = waiting m old.heap.names rest; world = w } in
            let result : result_held m new value ≡ v = ap (λ (h : Things). option_map (held m.setting.heads h.names) value) same_heap in
            subst (λ fs. Stepped m end left step (returned (class_code m.files) m.setting.classes t.due (purpose_back super) v w fs)) (sym there)
            (subst (Stepped m end left step) (returned_back m t.due w f below super v)
            (subst (λ h. Stepped m end left step (moved (class_code m.files) m.setting.classes t.due (taking (class_code m.files) m.setting.classes (purpose_back super) h w f) w f below)) result
            (moves m left u f below is (off_runs m left t is runs) there)))

  -- it ends the run
  pub ended_out : (super : Bool) (value : Option Value) (seen : Option Shown) → rest ≡ [] → ShowsResult k old value seen → MovesFrom k old new (Ended (ending.Returned seen)) (purpose_back super) value
  ended_out super value seen none shows =
      at_last k old (λ m left t f below. f.purpose ≡ purpose_back super → Stepped m new left (Ended (ending.Returned seen)) (moved_by (λ x u h. Leaves (result_held x old value) u.world) m t f below)) rest g split
      (λ m left t is runs of.
      let v = result_held m old value in
      let w = world m left t is runs in
      let after = off_runs m left t is runs in
      subst (λ p. Stepped m new left (Ended (ending.Returned seen)) (outcome m left t is runs p v)) (sym of)
      (subst (λ (frames : List Frame). Stepped m new left (Ended (ending.Returned seen)) (returned (class_code m.files) m.setting.classes t.due (purpose_back super) v w (waiting m old.heap.names frames))) (sym none)
      (subst (Stepped m new left (Ended (ending.Returned seen))) (sym (returned_last m t.due w super v))
      (ap events.Returned (shows m (others_of new) w is (subst (λ (h : Things). Shares m.setting h (others_of new) w) same_heap after.shares))))))

-- ---- by the purpose of the frame

module _ (k : Known) (old new : MachineState) (step : Step) (value : Option Value) (rest : List Frame) (g : Frame) (split : old.frames.items ≡ rest ++ g ∷ []) where
  abbrev out : Machine → State Place → turns.Frame Place → List (turns.Frame Place) → machines.Step (State Place)
  out m t f below = moved_by (λ x u h. Leaves (result_held x old value) u.world) m t f below

  pub out_of_call : (super : Bool) → ((m : Machine) → machine_purpose m.setting.heads m.methods old.heap.names g.purpose ≡ purpose_back super) → MovesFrom k old new step (purpose_back super) value → MovesOut k old new step value
  out_of_call super of moves m left t f below is runs top free =
      at_last k old (λ x l u h b. MovesFrom k old new step (purpose_back super) value → Stepped x new l step (out x u h b)) rest g split
      (λ x l u is' runs' from. from x l u (seen_by x old.heap.names g) (waiting x old.heap.names rest) is' runs' (frames_are x old l u rest g runs' split) (of x)) m left t f below is runs top moves

  pub out_of_library : ((m : Machine) → is_within (machine_purpose m.setting.heads m.methods old.heap.names g.purpose) ≡ true) → MovesOut k old new step value
  out_of_library of m left t f below is runs top free =
      at_last k old (λ x l u h b. is_within h.purpose ≡ false → Stepped x new l step (out x u h b)) rest g split
      (λ x l u is' runs' none. absurd (false≢true (sym none ∙ of x))) m left t f below is runs top free

pub out_of_initialiser : (k : Known) (old new : MachineState) (value : Option Value) (rest : List Frame) (g : Frame) (split : old.frames.items ≡ rest ++ g ∷ []) → Drops old new (length rest) → (class : ClassId) → g.purpose ≡ purpose.Initialises class → MovesOut k old new Went value
out_of_initialiser k old new value rest g split drops class of m left t f below is runs top free =
    at_last k old (λ x l u h b. Stepped x new l Went (moved_by (λ y v i. Leaves (result_held y old value) v.world) x u h b)) rest g split
    (initialised_out k old new rest g split drops value class of) m left t f below is runs top

pub out_of_none : (k : Known) (old new : MachineState) (step : Step) (value : Option Value) → old.frames.items ≡ [] → MovesOut k old new step value
out_of_none k old new step value none m left t f below is runs top free = absurd (none_runs m old left t f below none runs top)

-- ---- steps that aren't left to others

pub own_moves : (k : Known) (old new : MachineState) (step result : Step) (purpose : turns.Purpose) (value : Option Value) → (is_mine step ≡ true → result ≡ step) → MovesFrom k old new step purpose value → MovesFrom k old new result purpose value
own_moves k old new step result purpose value same moves m left t f below is runs top of = by step same (moves m left t f below is runs top of) where
  none : (o : machines.Step (State Place)) → Stepped m new left NotMine o → ⊥
  none (outcomes.Went u) h = h
  none (outcomes.Said e u) h = h
  none (outcomes.Ended e) h = h

  by : (s : Step) → (is_mine s ≡ true → result ≡ s) → Stepped m new left s (moved_by (λ x u g. Leaves (result_held x old value) u.world) m t f below) → Stepped m new left result (moved_by (λ x u g. Leaves (result_held x old value) u.world) m t f below)
  by Went e h = subst (λ s. Stepped m new left s (moved_by (λ x u g. Leaves (result_held x old value) u.world) m t f below)) (sym (e refl)) h
  by (Said event) e h = subst (λ s. Stepped m new left s (moved_by (λ x u g. Leaves (result_held x old value) u.world) m t f below)) (sym (e refl)) h
  by (Ended end) e h = subst (λ s. Stepped m new left s (moved_by (λ x u g. Leaves (result_held x old value) u.world) m t f below)) (sym (e refl)) h
  by NotMine e h = absurd (none (moved_by (λ x u g. Leaves (result_held x old value) u.world) m t f below) h)

-- ---- the whole return

abbrev pub Steps : Known → MachineState → MachineState → Step → Option Kind → Type 0
Steps k old new step kind =
    (m : Machine) (left : List Answer) (t : State Place) (f : turns.Frame Place) (below : List (turns.Frame Place)) → IsMachine k m → Runs m old left t → t.frames ≡ f ∷ below
    → (is_within f.purpose ≡ false) × Stepped m new left step (moved_by (executes (Do (basic.Return kind))) m t f below)

pub returns_by : (k : Known) (old new : MachineState) (step : Step) (kind : Option Kind) → is_mine step ≡ true → Steps k old new step kind → Returns k old new step kind
returns_by k old new Went kind mine h = h
returns_by k old new (Said event) kind mine h = h
returns_by k old new (Ended end) kind mine h = h
returns_by k old new NotMine kind mine h = absurd (false≢true mine)

module _ (k : Known) (old : MachineState) (kind returns : Option Kind) (rest : List Frame) (g : Frame) (split : old.frames.items ≡ rest ++ g ∷ []) (tells : TellsKind k g.method.0 returns)
    (free : (m : Machine) → is_within (machine_purpose m.setting.heads m.methods old.heap.names g.purpose) ≡ false) where
  -- the effect of the return
  effect_is : (m : Machine) → IsMachine k m → (e : definition.Effect Place) → definition.leave kind returns (operands_of (naming_of m old) g) ≡ e
      → definition.leave kind (option_map kind_in (result_in (m.methods g.method.0).member.descriptor)) (seen_by m old.heap.names g).content.operands ≡ e
  effect_is m is e same = ap (λ r. definition.leave kind r (seen_by m old.heap.names g).content.operands) (sym (tells m is)) ∙ same

  pub result_out : (new : MachineState) (step : Step) (value : Option Value) → Results g kind returns value → MovesOut k old new step value → Steps k old new step kind
  result_out new step value results moves =
      at_last k old (λ m left t f below. (is_within f.purpose ≡ false) × Stepped m new left step (moved_by (executes (Do (basic.Return kind))) m t f below)) rest g split
      (λ m left t is runs.
      let f = seen_by m old.heap.names g in
      let below = waiting m old.heap.names rest in (
        free m,
        subst (λ e. Stepped m new left step (moved (class_code m.files) m.setting.classes t.due (resolved (class_code m.files) m.setting.classes f t.world e) t.world f below)) (sym (effect_is m is _ (results.leaves (naming_of m old))))
            (moves m left t f below is runs (frames_are m old left t rest g runs split) (free m)),
      ))

  pub broken_out : (new : MachineState) → BreaksReturn g kind returns → Steps k old new (Ended Broken) kind
  broken_out new breaks =
      at_last k old (λ m left t f below. (is_within f.purpose ≡ false) × Stepped m new left (Ended Broken) (moved_by (executes (Do (basic.Return kind))) m t f below)) rest g split
      (λ m left t is runs.
      let f = seen_by m old.heap.names g in
      let below = waiting m old.heap.names rest in (
        free m,
        subst (λ e. Stepped m new left (Ended Broken) (moved (class_code m.files) m.setting.classes t.due (resolved (class_code m.files) m.setting.classes f t.world e) t.world f below)) (sym (effect_is m is _ (breaks (naming_of m old)))) refl,
      ))

  pub unsettled_out : (new : MachineState) (value : Option Value) → Results g kind returns value → (IsSettledResult (length old.heap.names) value → ⊥) → Steps k old new (Ended Broken) kind
  unsettled_out new value results out =
      at_last k old (λ m left t f below. (is_within f.purpose ≡ false) × Stepped m new left (Ended Broken) (moved_by (executes (Do (basic.Return kind))) m t f below)) rest g split
      (λ m left t is runs.
      absurd (out (results.known (length old.heap.names) (all_last (IsFrameWithin (length old.heap.names)) rest g (subst (AllByRecursion (IsFrameWithin (length old.heap.names))) split runs.frames.frames_within)))))

pub none_out : (k : Known) (old new : MachineState) (step : Step) (kind : Option Kind) → old.frames.items ≡ [] → Steps k old new step kind
none_out k old new step kind none m left t f below is runs top = absurd (none_runs m old left t f below none runs top)

pub left_to_library : (k : Known) (old new : MachineState) (kind : Option Kind) (rest : List Frame) (g : Frame) → old.frames.items ≡ rest ++ g ∷ [] → new ≡ old → ((m : Machine) → is_within (machine_purpose m.setting.heads m.methods old.heap.names g.purpose) ≡ true)
    → Returns k old new NotMine kind
left_to_library k old new kind rest g split same of = (same, at_last k old (λ m left t f below. is_within f.purpose ≡ true) rest g split (λ m left t is runs. of m))

-- ---- frames that are taken off

pub if_both : {T E : Type 0} (P Q R : T → Type 0) → ((x : T) → P x → Q x → R x) → (r : Result T E) → IfOk r P → IfOk r Q → IfOk r R
if_both P Q R both (Ok x) p q = both x p q
if_both P Q R both (Err e) p q = tt

pub frame_split : (items xs : List Frame) (x : Frame) → xs ≡ items → Some x ≡ slice_get xs (length xs - 1) → items ≡ take (length xs - 1) xs ++ x ∷ []
frame_split items [] x same at = absurd (none-some x (sym at))
frame_split items (y ∷ ys) x same at = sym same ∙ split_last (y ∷ ys) (length (y ∷ ys) - 1) x (omega arith) (sym at)

nothing_below : (items rest : List Frame) (g : Frame) → items ≡ rest ++ g ∷ [] → length items < 2 → rest ≡ []
nothing_below items [] g split few = refl
nothing_below items (x ∷ xs) g split few = absurd (let n = ap (length {A = Frame}) split in let l = length-append xs (g ∷ []) in omega arith)

something_below : (items rest : List Frame) (g : Frame) → items ≡ rest ++ g ∷ [] → 2 ≤ length items → rest ≡ [] → ⊥
something_below items rest g split many none = let n = ap (length {A = Frame}) (split ∙ ap (λ xs. xs ++ g ∷ []) none) in let one : length {A = Frame} ([] ++ g ∷ []) ≡ 1 = refl in omega arith

pub finished : (k : Known) (old new : MachineState) (super : Bool) (value : Option Value) (seen : Option Shown) (b : Bool) → MatchBool b (LeavesRunning old new) (old.frames.items ≡ []) → length old.frames.items < 2
    → ShowsResult k old value seen → MovesFrom k old new (Ended (ending.Returned seen)) (purpose_back super) value
finished k old new super value seen true leaves few shows =
    ended_out k old new new.frames.items leaves.frame leaves.split leaves.drops super value seen (nothing_below old.frames.items new.frames.items leaves.frame leaves.split few) shows
finished k old new super value seen false none few shows = λ m left t f below is runs top of. absurd (none_runs m old left t f below none runs top)

pub back_below : (k : Known) (old mid new : MachineState) (step result : Step) (super : Bool) (value : Option Value) → LeavesRunning old mid → 2 ≤ length old.frames.items → Moves k mid new step (takes_back super value mid)
    → (is_mine step ≡ true → result ≡ step) → MovesFrom k old new result (purpose_back super) value
back_below k old mid new step result super value leaves many moves same =
    own_moves k old new step result (purpose_back super) value same
    (taken_out k old mid mid.frames.items leaves.frame leaves.split leaves.drops new step super value (something_below old.frames.items mid.frames.items leaves.frame leaves.split many) moves)

pub initialiser_left : (k : Known) (old new : MachineState) (value : Option Value) (x : Frame) (class : ClassId) (b : Bool) → MatchBool b (LeavesRunning old new) (old.frames.items ≡ [])
    → ((rest : List Frame) (g : Frame) → old.frames.items ≡ rest ++ g ∷ [] → x ≡ g) → x.purpose ≡ purpose.Initialises class → MovesOut k old new Went value
initialiser_left k old new value x class true leaves last of =
    out_of_initialiser k old new value new.frames.items leaves.frame leaves.split leaves.drops class (ap (λ (g : Frame). g.purpose) (sym (last new.frames.items leaves.frame leaves.split)) ∙ of)
initialiser_left k old new value x class false none last of = out_of_none k old new Went value none

pub not_within : (p : kept.Purpose) → ((w : Wait) → p ≡ purpose.Within w → ⊥) → (m : Machine) (names : List Name) → is_within (machine_purpose m.setting.heads m.methods names p) ≡ false
not_within purpose.Ordinary other m names = refl
not_within purpose.Constructs other m names = refl
not_within (purpose.Initialises class) other m names = refl
not_within (purpose.Within w) other m names = absurd (other w refl)
