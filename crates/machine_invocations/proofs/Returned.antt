-- Results that go to the frame below.
use Rattle.std.specs.Prelude.{◌≡◌, ℕ, suc, zero, ◌+◌, ◌||◌, Bool, true, false, if◌then◌else◌, is_some, List, [], ◌∷◌, ◌++◌, map, reverse, length, slice_get, Option, Some, None, refl}
use Rattle.std.proofs.Common.{sym, ap, ◌∙◌, subst, arith, length-append}
use Rattle.std.specs.Option.{option_map, option_and_then}
use Rattle.class_world.specs.Tables.{Known}
use Rattle.class_machine.specs.ClassFiles.{Place, place_in, line_at, next_pc, method_code, class_code}
use Rattle.class_machine.specs.Events as events
use Rattle.class_machine.specs.Machine as machines
use Rattle.class_machine.specs.Machine.{State, moved, taking}
use Rattle.class_machine.specs.Turn as turns
use Rattle.class_machine.specs.Turn.{Turn, Stays, Completes, stops}
use Rattle.class_machine.specs.Values.{Held, Content, held_width, has_room, pushed_on, Plain}
use Rattle.machine_code.specs.declared.method_code.MethodCode as lent
use Rattle.machine_code.specs.Views.{code_seen}
use Rattle.machine_values.specs.declared.frames.Frame.{Frame}
use Rattle.machine_values.specs.declared.names.Name.{Name}
use Rattle.machine_values.specs.declared.observed.Ending.TheVariants.{Broken}
use Rattle.machine_values.specs.declared.script.Answer.{Answer}
use Rattle.machine_values.specs.declared.state.MachineState.{MachineState}
use Rattle.machine_values.specs.declared.values.Value.{Value}
use Rattle.machine_values.specs.Standing.{held}
use Rattle.machine_steps.specs.declared.step.Step.{Step}
use Rattle.machine_steps.specs.declared.step.Step.TheVariants.{Ended}
use Rattle.machine_steps.specs.Going.{moves_turned}
use Rattle.machine_steps.specs.Moves.{Moves, goes_on_with}
use Rattle.machine_steps.specs.Programs.{Machine, IsMachine}
use Rattle.machine_steps.specs.Running.{seen_by, waiting, first_same, frames_are, moves_at, HasRunningCode, Turned}
use Rattle.machine_steps.specs.Runs.{Runs, Stepped}
use Rattle.machine_invocations.specs.Returning.{result_held, purpose_back, takes_back, goes_with}

-- ---- where the running frame stands

standing : (m : Machine) (names : List Name) (xs : List Frame) (f : turns.Frame Place) (below : List (turns.Frame Place)) → map (seen_by m names) xs ≡ f ∷ below → f.place.method ≡ f.method
standing m names [] f below e = absurd cc
standing m names (x ∷ xs) f below e = subst (λ (y : turns.Frame Place). y.place.method ≡ y.method) (first_same (seen_by m names x) f (map (seen_by m names) xs) below e) refl

last_only : {A : Type 0} (rest : List A) (g x : A) (i : ℕ) → slice_get (rest ++ g ∷ []) i ≡ Some x → i + 1 ≡ length (rest ++ g ∷ []) → x ≡ g
last_only [] g x zero at last = cc
last_only [] g x (suc i) at last = absurd (omega arith)
last_only (y ∷ rest) g x zero at last = let n = length-append rest (g ∷ []) in absurd (omega (arith, n))
last_only (y ∷ rest) g x (suc i) at last = last_only rest g x i at (omega (arith, last))

pub last_is : {A : Type 0} (xs rest : List A) (g x : A) (i : ℕ) → xs ≡ rest ++ g ∷ [] → slice_get xs i ≡ Some x → i + 1 ≡ length xs → x ≡ g
last_is {A = A} xs rest g x i e at last = last_only rest g x i (subst (λ (ys : List A). slice_get ys i ≡ Some x) e at) (last ∙ ap length e)

-- ---- the turns

module _ (m : Machine) (t : State Place) (f : turns.Frame Place) (below : List (turns.Frame Place)) where
  abbrev to_step : Turn Place → machines.Step (State Place)
  to_step turn = moved (class_code m.files) m.setting.classes t.due turn t.world f below

  abbrev next : Place
  next = (class_code m.files).next f.place

  abbrev staying : Bool → Place → Content Place → Turn Place
  staying b place c = if b then Stays place c t.world else stops events.Broken

  abbrev completing : Bool → Place → Content Place → Turn Place
  completing b place c = if b then Completes None true place c t.world else stops events.Broken

  -- where no instruction is behind the call
  module _ (new : MachineState) (left : List Answer) (none : is_some ((class_code m.files).line next) ≡ false) where
    stays_broken : (c : Content Place) → Stepped m new left (Ended Broken) (to_step (staying (is_some ((class_code m.files).line next)) next c))
    stays_broken c = subst (λ (b : Bool). Stepped m new left (Ended Broken) (to_step (staying b next c))) (sym none) refl

    completes_broken : (c : Content Place) → Stepped m new left (Ended Broken) (to_step (completing (is_some ((class_code m.files).line next)) next c))
    completes_broken c = subst (λ (b : Bool). Stepped m new left (Ended Broken) (to_step (completing b next c))) (sym none) refl

    roomy : (room : Bool) (turn : Turn Place) → Stepped m new left (Ended Broken) (to_step turn) → Stepped m new left (Ended Broken) (to_step (if room then turn else stops events.Broken))
    roomy true turn h = h
    roomy false turn h = refl

    pub taking_broken : (super : Bool) (h : Option Held) → Stepped m new left (Ended Broken) (to_step (taking (class_code m.files) m.setting.classes (purpose_back super) h t.world f))
    taking_broken true None = completes_broken f.content
    taking_broken true (Some h) = roomy (has_room f.room (held_width h) f.content.operands) (completing (is_some ((class_code m.files).line next)) next (pushed_on (Plain h) f.content)) (completes_broken (pushed_on (Plain h) f.content))
    taking_broken false None = stays_broken f.content
    taking_broken false (Some h) = roomy (has_room f.room (held_width h) f.content.operands) (staying (is_some ((class_code m.files).line next)) next (pushed_on (Plain h) f.content)) (stays_broken (pushed_on (Plain h) f.content))

pub no_code_breaks : (k : Known) (old new : MachineState) (super : Bool) (value : Option Value) (code : Option lent.MethodCode) → HasRunningCode k old code → code ≡ None → Moves k old new (Ended Broken) (takes_back super value old)
no_code_breaks k old new super value code has none m left t f below is runs top =
    let same = standing m old.heap.names (reverse old.frames.items) f below (sym runs.frames.frames ∙ top) in
    let missing = sym (has m left t f below is runs top) ∙ ap (option_map code_seen) none in
    let line = ap (λ r. is_some (option_and_then (line_at (next_pc f.place.pc (method_code m.files f.place.method))) (method_code m.files r))) same
    ∙ ap (λ o. is_some (option_and_then (line_at (next_pc f.place.pc (method_code m.files f.place.method))) o)) missing in
    taking_broken m t f below new left line super (result_held m old value)

-- ---- behind the call

module _ (k : Known) (old : MachineState) (rest : List Frame) (g : Frame) (code : lent.MethodCode) (pc : ℕ) (split : old.frames.items ≡ rest ++ g ∷ []) (has : HasRunningCode k old (Some code)) (behind : pc ≡ next_pc g.pc (Some (code_seen code))) where
  next_is : (m : Machine) (left : List Answer) (t : State Place) → IsMachine k m → Runs m old left t → place_in (m.methods g.method.0) pc ≡ (class_code m.files).next (seen_by m old.heap.names g).place
  next_is m left t is runs =
      let f = seen_by m old.heap.names g in
      let there = has m left t f (waiting m old.heap.names rest) is runs (frames_are m old left t rest g runs split) in
      ap (place_in (m.methods g.method.0)) (behind ∙ ap (next_pc g.pc) there)

  -- what goes on at the place goes on behind the call
  same_turn : (m : Machine) (t : State Place) (f : turns.Frame Place) (value : Option Value) → place_in f.method pc ≡ (class_code m.files).next f.place
      → goes_with value old pc m t f ≡ taking (class_code m.files) m.setting.classes (purpose_back false) (result_held m old value) t.world f
  same_turn m t f None e = ap (λ p. turns.stays (class_code m.files) m.setting.classes p f.content t.world) e
  same_turn m t f (Some v) e =
      ap (λ p. if has_room f.room (held_width (held m.setting.heads old.heap.names v)) f.content.operands then turns.stays (class_code m.files) m.setting.classes p (pushed_on (Plain (held m.setting.heads old.heap.names v)) f.content) t.world else stops events.Broken) e

  pub back_plain : (new : MachineState) (step : Step) (value : Option Value) → Moves k old new step (goes_with value old pc) → Moves k old new step (takes_back false value old)
  back_plain new step value moves =
      moves_at k old new step (takes_back false value old) rest g split (λ m left t is runs.
      let f = seen_by m old.heap.names g in
      subst (λ turn. Stepped m new left step (moved (class_code m.files) m.setting.classes t.due turn t.world f (waiting m old.heap.names rest))) (same_turn m t f value (next_is m left t is runs))
      (moves m left t f (waiting m old.heap.names rest) is runs (frames_are m old left t rest g runs split)))

  -- ---- of a this or super call

  or_true : (b : Bool) → (b || true) ≡ true
  or_true true = refl
  or_true false = refl

  module _ (m : Machine) (t : State Place) where
    abbrev marked : turns.Frame Place
    marked = record (seen_by m old.heap.names g) { constructed = true }

    abbrev below : List (turns.Frame Place)
    below = waiting m old.heap.names rest

    abbrev step_of : turns.Frame Place → Turn Place → machines.Step (State Place)
    step_of f turn = moved (class_code m.files) m.setting.classes t.due turn t.world f below

    completed_same : (b : Bool) (p : Place) (c : Content Place) → step_of marked (if b then Stays p c t.world else stops events.Broken) ≡ step_of (seen_by m old.heap.names g) (if b then Completes None true p c t.world else stops events.Broken)
    completed_same true p c = ap (λ (b : Bool). machines.went (class_code m.files) m.setting.classes t.due t.world (record (seen_by m old.heap.names g) { place = p; content = c; constructed = b } ∷ below)) (sym (or_true g.constructed))
    completed_same false p c = refl

    roomed_same : (room b : Bool) (p : Place) (c : Content Place) → step_of marked (if room then (if b then Stays p c t.world else stops events.Broken) else stops events.Broken)
        ≡ step_of (seen_by m old.heap.names g) (if room then (if b then Completes None true p c t.world else stops events.Broken) else stops events.Broken)
    roomed_same true b p c = completed_same b p c
    roomed_same false b p c = refl

    super_same : (value : Option Value) → place_in marked.method pc ≡ (class_code m.files).next (seen_by m old.heap.names g).place
        → step_of marked (goes_with value old pc m (record t { frames = marked ∷ below }) marked) ≡ step_of (seen_by m old.heap.names g) (taking (class_code m.files) m.setting.classes (purpose_back true) (result_held m old value) t.world (seen_by m old.heap.names g))
    super_same None e =
        ap (λ p. step_of marked (turns.stays (class_code m.files) m.setting.classes p marked.content t.world)) e
        ∙ completed_same (is_some ((class_code m.files).line ((class_code m.files).next (seen_by m old.heap.names g).place))) ((class_code m.files).next (seen_by m old.heap.names g).place) marked.content
    super_same (Some v) e =
        let h = held m.setting.heads old.heap.names v in
        ap (λ p. step_of marked (if has_room marked.room (held_width h) marked.content.operands then turns.stays (class_code m.files) m.setting.classes p (pushed_on (Plain h) marked.content) t.world else stops events.Broken)) e
        ∙ roomed_same (has_room marked.room (held_width h) marked.content.operands) (is_some ((class_code m.files).line ((class_code m.files).next (seen_by m old.heap.names g).place))) ((class_code m.files).next (seen_by m old.heap.names g).place) (pushed_on (Plain h) marked.content)

  pub back_super : (mid new : MachineState) (step : Step) (value : Option Value) → Turned old mid rest g (record g { constructed = true }) → Moves k mid new step (goes_with value mid pc) → Moves k old new step (takes_back true value old)
  back_super mid new step value turned moves =
      moves_turned k old mid new step (goes_with value old pc) (takes_back true value old) rest g (record g { constructed = true }) turned (λ w. record { operands = w.operands; locals = w.locals; monitor = w.monitor; purpose = w.purpose })
      (same_names value moves)
      (λ m left t is runs. super_same m t value (next_is m left t is runs)) where
        same_names : (v : Option Value) → Moves k mid new step (goes_with v mid pc) → Moves k mid new step (goes_with v old pc)
        same_names None h = h
        same_names (Some v) h = subst (λ (s : MachineState). Moves k mid new step (goes_on_with (λ m t. held m.setting.heads s.heap.names v) pc)) turned.same h
