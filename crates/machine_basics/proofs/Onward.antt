-- On at the targets of an instruction.
use Rattle.std.specs.Prelude.{◌≡◌, ℕ, ◌+◌, ◌<◌, nat_le, Bool, true, false, if◌then◌else◌, is_some, List, [], ◌∷◌, ◌++◌, map, reverse, Some, None, refl}
use Rattle.std.proofs.Common.{sym, ap, ◌∙◌, subst, arith}
use Rattle.std.proofs.lemmas.Bool.{lt-leb}
use Rattle.std.specs.Option.{option_and_then}
use Rattle.class_file.specs.Pool.{Reference}
use Rattle.class_heads.specs.declared.types.ClassHead.{ClassHead}
use Rattle.class_world.specs.Tables.{Known}
use Rattle.class_machine.specs.ClassFiles.{Place, place_in, line_at, next_pc, target_pc, method_code, class_code}
use Rattle.class_machine.specs.Events as events
use Rattle.class_machine.specs.Machine as machines
use Rattle.class_machine.specs.Machine.{State, moved}
use Rattle.class_machine.specs.Turn as turns
use Rattle.class_machine.specs.Values as machine
use Rattle.class_machine.specs.Values.{Content, content, has_room, pushed_on}
use Rattle.machine_code.specs.declared.method_code.MethodCode as lent
use Rattle.machine_code.specs.Views.{code_seen}
use Rattle.machine_values.specs.declared.frames.Frame.{Frame}
use Rattle.machine_values.specs.declared.names.Name.{Name}
use Rattle.machine_values.specs.declared.values.Value.{Value}
use Rattle.machine_values.specs.declared.values.Value.TheVariants.{Int, Long, Float, Double, Null, Reference as Pointer, Token, ReturnAddress}
use Rattle.machine_values.specs.declared.observed.Ending.TheVariants.{Broken}
use Rattle.machine_values.specs.declared.script.Answer.{Answer}
use Rattle.machine_values.specs.declared.state.MachineState.{MachineState}
use Rattle.machine_values.specs.Stacks as stacks
use Rattle.machine_values.specs.Stacks.{weight}
use Rattle.machine_values.specs.States.{value_in}
use Rattle.machine_steps.specs.declared.step.Step.{Step}
use Rattle.machine_steps.specs.declared.step.Step.TheVariants.{Ended}
use Rattle.machine_steps.specs.Giving.{with_values}
use Rattle.machine_steps.specs.Going.{moves_turned}
use Rattle.machine_steps.specs.Moves.{Moves, goes_on}
use Rattle.machine_steps.specs.Programs.{Machine, IsMachine}
use Rattle.machine_steps.specs.Running.{seen_by, waiting, first_same, frames_are, moves_at, HasRunningCode, Turned}
use Rattle.machine_steps.specs.Runs.{Runs, Stepped}
use Rattle.machine_basics.specs.Turns.{jumps, enters}

-- ---- room

module _ (heads : List ClassHead) (methods : ℕ → Reference) (names : List Name) (method : ℕ) where
  width_seen : (v : Value) → machine.width (value_in heads methods names method v) ≡ stacks.width v
  width_seen (Int n) = refl
  width_seen (Long n) = refl
  width_seen (Float bits) = refl
  width_seen (Double bits) = refl
  width_seen Null = refl
  width_seen (Pointer at) = refl
  width_seen (Token class number) = refl
  width_seen (ReturnAddress pc) = refl

  weight_seen : (vs : List Value) → machine.weight (map (value_in heads methods names method) vs) ≡ weight vs
  weight_seen [] = refl
  weight_seen (v ∷ vs) = let a = width_seen v in let b = weight_seen vs in omega arith

-- ---- where the method has no code

standing : (m : Machine) (names : List Name) (xs : List Frame) (f : turns.Frame Place) (below : List (turns.Frame Place)) → map (seen_by m names) xs ≡ f ∷ below → f.place.method ≡ f.method
standing m names [] f below e = absurd cc
standing m names (x ∷ xs) f below e = subst (λ (y : turns.Frame Place). y.place.method ≡ y.method) (first_same (seen_by m names x) f (map (seen_by m names) xs) below e) refl

module _ (k : Known) (old new : MachineState) (has : HasRunningCode k old None) where
  module _ (m : Machine) (left : List Answer) (t : State Place) (f : turns.Frame Place) (below : List (turns.Frame Place)) (is : IsMachine k m) (runs : Runs m old left t) (top : t.frames ≡ f ∷ below) where
    -- no instruction stands in the method of the frame
    nothing_there : (pc : ℕ) → is_some ((class_code m.files).line (place_in f.place.method pc)) ≡ false
    nothing_there pc =
        let same = standing m old.heap.names (reverse old.frames.items) f below (sym runs.frames.frames ∙ top) in
        ap (λ r. is_some (option_and_then (line_at pc) (method_code m.files r))) same
        ∙ ap (λ o. is_some (option_and_then (line_at pc) o)) (sym (has m left t f below is runs top))

    broken_there : (pc : ℕ) (c : Content Place) → Stepped m new left (Ended Broken) (moved (class_code m.files) m.setting.classes t.due (turns.stays (class_code m.files) m.setting.classes (place_in f.place.method pc) c t.world) t.world f below)
    broken_there pc c =
        subst (λ (b : Bool). Stepped m new left (Ended Broken) (moved (class_code m.files) m.setting.classes t.due (if b then turns.Stays (place_in f.place.method pc) c t.world else turns.stops events.Broken) t.world f below))
        (sym (nothing_there pc)) refl

    entering_breaks : (b : Bool) (pc : ℕ) (c : Content Place)
        → Stepped m new left (Ended Broken) (moved (class_code m.files) m.setting.classes t.due (if b then turns.stays (class_code m.files) m.setting.classes (place_in f.place.method pc) c t.world else turns.stops events.Broken) t.world f below)
    entering_breaks true pc c = broken_there pc c
    entering_breaks false pc c = refl

  pub no_code_jumps : (i : ℕ) → Moves k old new (Ended Broken) (jumps i)
  no_code_jumps i m left t f below is runs top = broken_there m left t f below is runs top (target_pc f.place.pc i (method_code m.files f.place.method)) f.content

  pub no_code_enters : (i : ℕ) → Moves k old new (Ended Broken) (enters i)
  no_code_enters i m left t f below is runs top =
      entering_breaks m left t f below is runs top (has_room f.room 1 f.content.operands) (target_pc f.place.pc i (method_code m.files f.place.method))
      (pushed_on (machine.ReturnAddress ((class_code m.files).next f.place)) f.content)

-- ---- where it has code

module _ (k : Known) (old : MachineState) (rest : List Frame) (g : Frame) (code : lent.MethodCode) (split : old.frames.items ≡ rest ++ g ∷ []) (has : HasRunningCode k old (Some code)) where
  code_is : (m : Machine) (left : List Answer) (t : State Place) → IsMachine k m → Runs m old left t → Some (code_seen code) ≡ method_code m.files (m.methods g.method.0)
  code_is m left t is runs = has m left t (seen_by m old.heap.names g) (waiting m old.heap.names rest) is runs (frames_are m old left t rest g runs split)

  target_is : (i pc : ℕ) → pc ≡ target_pc g.pc i (Some (code_seen code)) → (m : Machine) (left : List Answer) (t : State Place) → IsMachine k m → Runs m old left t
      → place_in (m.methods g.method.0) pc ≡ (class_code m.files).target (seen_by m old.heap.names g).place i
  target_is i pc at m left t is runs = ap (place_in (m.methods g.method.0)) (at ∙ ap (target_pc g.pc i) (code_is m left t is runs))

  next_is : (pc : ℕ) → pc ≡ next_pc g.pc (Some (code_seen code)) → (m : Machine) (left : List Answer) (t : State Place) → IsMachine k m → Runs m old left t
      → place_in (m.methods g.method.0) pc ≡ (class_code m.files).next (seen_by m old.heap.names g).place
  next_is pc at m left t is runs = ap (place_in (m.methods g.method.0)) (at ∙ ap (next_pc g.pc) (code_is m left t is runs))

  pub jumps_there : (i pc : ℕ) (new : MachineState) (step : Step) → pc ≡ target_pc g.pc i (Some (code_seen code)) → Moves k old new step (goes_on pc) → Moves k old new step (jumps i)
  jumps_there i pc new step at moves =
      moves_at k old new step (jumps i) rest g split (λ m left t is runs.
      let f = seen_by m old.heap.names g in
      subst (λ (p : Place). Stepped m new left step (moved (class_code m.files) m.setting.classes t.due (turns.stays (class_code m.files) m.setting.classes p f.content t.world) t.world f (waiting m old.heap.names rest)))
      (target_is i pc at m left t is runs) (moves m left t f (waiting m old.heap.names rest) is runs (frames_are m old left t rest g runs split)))

  -- with the return address on top
  module _ (i to next : ℕ) (target : to ≡ target_pc g.pc i (Some (code_seen code))) (behind : next ≡ next_pc g.pc (Some (code_seen code))) where
    abbrev with_address : Frame
    with_address = with_values g (ReturnAddress next ∷ g.operands.values)

    same_frame : (m : Machine) (t : State Place) (b : Bool) (p : Place) (c : Content Place) (below : List (turns.Frame Place))
        → moved (class_code m.files) m.setting.classes t.due (if b then turns.Stays p c t.world else turns.stops events.Broken) t.world (seen_by m old.heap.names with_address) below
        ≡ moved (class_code m.files) m.setting.classes t.due (if b then turns.Stays p c t.world else turns.stops events.Broken) t.world (seen_by m old.heap.names g) below
    same_frame m t true p c below = refl
    same_frame m t false p c below = refl

    pub enters_there : (mid new : MachineState) (step : Step) → Turned old mid rest g with_address → nat_le (1 + weight g.operands.values) g.operands.room ≡ true → Moves k mid new step (goes_on to) → Moves k old new step (enters i)
    enters_there mid new step turned room moves =
        moves_turned k old mid new step (goes_on to) (enters i) rest g with_address turned (λ w. record { operands = (refl, w.operands); locals = w.locals; monitor = w.monitor; purpose = w.purpose }) moves
        (λ m left t is runs.
        let f = seen_by m old.heap.names g in
        let below = waiting m old.heap.names rest in
        let place = (class_code m.files).target f.place i in
        let step_of : Place → Place → machines.Step (State Place) = λ p q. moved (class_code m.files) m.setting.classes t.due (turns.stays (class_code m.files) m.setting.classes p (pushed_on (machine.ReturnAddress q) f.content) t.world) t.world (seen_by m old.heap.names with_address) below in
        ap (λ p. step_of p (place_in (m.methods g.method.0) next)) (target_is i to target m left t is runs)
        ∙ ap (step_of place) (next_is next behind m left t is runs)
        ∙ same_frame m t (is_some ((class_code m.files).line place)) place (pushed_on (machine.ReturnAddress ((class_code m.files).next f.place)) f.content) below
        ∙ sym (ap (λ (b : Bool). moved (class_code m.files) m.setting.classes t.due
        (if b then turns.stays (class_code m.files) m.setting.classes place (pushed_on (machine.ReturnAddress ((class_code m.files).next f.place)) f.content) t.world else turns.stops events.Broken) t.world f below)
        (ap (λ n. nat_le (1 + n) g.operands.room) (weight_seen m.setting.heads m.methods old.heap.names g.method.0 g.operands.values) ∙ room)))

-- ---- where there is no room for the return address

pub no_room_enters : (k : Known) (old new : MachineState) (i : ℕ) (rest : List Frame) (g : Frame) → old.frames.items ≡ rest ++ g ∷ [] → g.operands.room < 1 + weight g.operands.values → Moves k old new (Ended Broken) (enters i)
no_room_enters k old new i rest g split full =
    moves_at k old new (Ended Broken) (enters i) rest g split (λ m left t is runs.
    let f = seen_by m old.heap.names g in
    let none : has_room f.room 1 f.content.operands ≡ false = ap (λ n. nat_le (1 + n) g.operands.room) (weight_seen m.setting.heads m.methods old.heap.names g.method.0 g.operands.values) ∙ lt-leb (1 + weight g.operands.values) g.operands.room full in
    subst (λ (b : Bool). Stepped m new left (Ended Broken) (moved (class_code m.files) m.setting.classes t.due
    (if b then turns.stays (class_code m.files) m.setting.classes ((class_code m.files).target f.place i) (pushed_on (machine.ReturnAddress ((class_code m.files).next f.place)) f.content) t.world else turns.stops events.Broken)
    t.world f (waiting m old.heap.names rest))) (sym none) refl)
