-- A value goes on top of the running frame's operands.
use Rattle.std.specs.Prelude.{◌≡◌, ℕ, Bool, true, false, if◌then◌else◌, List, [], ◌∷◌, ◌++◌, length, Some, None, refl}
use Rattle.std.proofs.Common.{sym, ◌∙◌, ap, subst}
use Rattle.class_world.specs.Tables.{Known}
use Rattle.class_machine.specs.Events as events
use Rattle.class_machine.specs.Values as machine
use Rattle.class_machine.specs.Values.{has_room, held_width}
use Rattle.class_machine.specs.Effect as definition
use Rattle.class_machine.specs.Turn as turns
use Rattle.class_machine.specs.Machine as machines
use Rattle.class_machine.specs.ClassFiles.{Place, place_in, class_code}
use Rattle.machine_values.specs.declared.values.Value.{Value}
use Rattle.machine_values.specs.declared.frames.Frame.{Frame}
use Rattle.machine_values.specs.declared.observed.Ending.TheVariants.{Broken}
use Rattle.machine_values.specs.declared.state.MachineState.{MachineState}
use Rattle.machine_values.specs.Standing.{held}
use Rattle.machine_values.specs.States.{IsFrameWithin}
use Rattle.machine_frames.specs.declared.effect.Effect.{Effect}
use Rattle.machine_frames.specs.declared.effect.Effect.TheVariants as effects
use Rattle.machine_frames.specs.Naming.{Naming}
use Rattle.machine_frames.specs.Naming as naming
use Rattle.machine_frames.specs.Effects.{effect_in, operands_of, locals_of, Does}
use Rattle.machine_steps.specs.declared.step.Step.TheVariants.{Went, Ended}
use Rattle.machine_steps.specs.Programs.{Machine}
use Rattle.machine_steps.specs.Runs.{Runs, Stepped}
use Rattle.machine_steps.specs.Moves.{Moves, goes_on_with}
use Rattle.machine_steps.specs.Running.{seen_by, waiting, TellsPlace, frames_are, moves_at, Turned}
use Rattle.machine_steps.specs.Going.{turned_runs}

-- the frame with these operands
abbrev pub with_values : Frame → List Value → Frame
with_values f vs = record f { operands = record { room = f.operands.room; values = vs } }

pub rest_is : (f p : Frame) → p ≡ record f { operands = p.operands } → p.operands.room ≡ f.operands.room → p ≡ with_values f p.operands.values
rest_is f p rest room = rest ∙ ap (λ (r : ℕ). record f { operands = record { room = r; values = p.operands.values } }) room

-- what the numbers of the machine and the places of objects stand for
abbrev pub naming_of : Machine → MachineState → Naming
naming_of m state = record { heads = m.setting.heads; methods = m.methods; names = state.heap.names }

-- ---- whether there was room

abbrev after_push : Bool → machine.Held → List (machine.Value Place) → List (machine.Local Place) → definition.Effect Place
after_push b h ops ls = definition.given (if b then Some (machine.Plain h ∷ ops) else None) (λ all. definition.on all ls)

pushed_case : (b : Bool) (h : machine.Held) (ops : List (machine.Value Place)) (ls : List (machine.Local Place)) (c : machine.Content Place) → definition.On c ≡ after_push b h ops ls
    → (b ≡ true) × (c ≡ machine.content (machine.Plain h ∷ ops) ls)
pushed_case true h ops ls c e = (refl, cc)
pushed_case false h ops ls c e = absurd cc

not_pushed : (n : Naming) (method : ℕ) (e : Effect) (now : List (machine.Value Place)) (locals : List (machine.Local Place)) (b : Bool) (h : machine.Held) (ops : List (machine.Value Place)) (ls : List (machine.Local Place))
    → effect_in n method e now locals ≡ after_push b h ops ls → (e ≡ effects.On → ⊥) → b ≡ false
not_pushed n method e now locals false h ops ls same other = refl
not_pushed n method effects.On now locals true h ops ls same other = absurd (other refl)
not_pushed n method (effects.Jump i) now locals true h ops ls same other = absurd cc
not_pushed n method (effects.Enter i) now locals true h ops ls same other = absurd cc
not_pushed n method (effects.Back pc) now locals true h ops ls same other = absurd cc
not_pushed n method (effects.Ask request) now locals true h ops ls same other = absurd cc
not_pushed n method (effects.Leave result) now locals true h ops ls same other = absurd cc
not_pushed n method (effects.Fail fault) now locals true h ops ls same other = absurd cc
not_pushed n method (effects.Throw a) now locals true h ops ls same other = absurd cc
not_pushed n method (effects.Unmodelled op) now locals true h ops ls same other = absurd cc
not_pushed n method effects.Broken now locals true h ops ls same other = absurd cc

-- ---- what becomes of the state

abbrev Given : MachineState → Value → Frame → Frame → Effect → Type 0
Given state value f p e = (n : Naming) → Does n (definition.constant f.operands.room (naming.held n value)) f p e

module _ (k : Known) (old new : MachineState) (value : Value) (pc : ℕ) where
  pub gives_there : (rest : List Frame) (f : Frame) (vs : List Value) → Turned old new rest f (record (with_values f vs) { pc = pc })
      → (IsFrameWithin (length old.heap.names) f → IsFrameWithin (length old.heap.names) (with_values f vs))
      → Given old value f (with_values f vs) effects.On → TellsPlace k old pc true → Moves k old new Went (goes_on_with (λ m t. held m.setting.heads old.heap.names value) pc)
  gives_there rest f vs turned within does tells =
      moves_at k old new Went (goes_on_with (λ m t. held m.setting.heads old.heap.names value) pc) rest f turned.before (λ m answers t is runs.
      let seen = seen_by m old.heap.names f in
      let below = waiting m old.heap.names rest in
      let at = place_in seen.method pc in
      let h = held m.setting.heads old.heap.names value in
      let put = machine.pushed_on (machine.Plain h) seen.content in
      let n = naming_of m old in
      let both = pushed_case (has_room seen.room (held_width h) seen.content.operands) h seen.content.operands seen.content.locals
      (machine.content (operands_of n (with_values f vs)) (locals_of n (with_values f vs))) (does n).same in
      subst (λ b. Stepped m new answers Went (machines.moved (class_code m.files) m.setting.classes t.due
      (if b then turns.stays (class_code m.files) m.setting.classes at put t.world else turns.stops events.Broken) t.world seen below)) (sym both.0)
      (subst (λ b. Stepped m new answers Went (machines.moved (class_code m.files) m.setting.classes t.due (if b then turns.Stays at put t.world else turns.stops events.Broken) t.world seen below))
      (sym (tells m answers t seen below is runs (frames_are m old answers t rest f runs turned.before)))
      (subst (λ (c : machine.Content Place). Runs m new answers (record t { frames = turns.frame_at seen at c ∷ below })) both.1
      (turned_runs m old new answers t rest f (record (with_values f vs) { pc = pc }) turned
      (λ w. let v = within w in record { operands = v.operands; locals = v.locals; monitor = v.monitor; purpose = v.purpose }) runs))))

  pub overflow_breaks : (rest : List Frame) (f p : Frame) (e : Effect) → old.frames.items ≡ rest ++ f ∷ [] → Given old value f p e → (e ≡ effects.On → ⊥)
      → Moves k old new (Ended Broken) (goes_on_with (λ m t. held m.setting.heads old.heap.names value) pc)
  overflow_breaks rest f p e top does other =
      moves_at k old new (Ended Broken) (goes_on_with (λ m t. held m.setting.heads old.heap.names value) pc) rest f top (λ m answers t is runs.
      let seen = seen_by m old.heap.names f in
      let h = held m.setting.heads old.heap.names value in
      let n = naming_of m old in
      let none = not_pushed n f.method.0 e (operands_of n p) (locals_of n p) (has_room seen.room (held_width h) seen.content.operands) h seen.content.operands seen.content.locals (does n).same other in
      subst (λ b. Stepped m new answers (Ended Broken) (machines.moved (class_code m.files) m.setting.classes t.due
      (if b then turns.stays (class_code m.files) m.setting.classes (place_in seen.method pc) (machine.pushed_on (machine.Plain h) seen.content) t.world else turns.stops events.Broken)
      t.world seen (waiting m old.heap.names rest))) (sym none) refl)

  pub nowhere_given : TellsPlace k old pc false → Moves k old new (Ended Broken) (goes_on_with (λ m t. held m.setting.heads old.heap.names value) pc)
  nowhere_given tells m answers t f below is runs same =
      by (has_room f.room (held_width (held m.setting.heads old.heap.names value)) f.content.operands) where
        put : machine.Content Place
        put = machine.pushed_on (machine.Plain (held m.setting.heads old.heap.names value)) f.content

        at : Place
        at = place_in f.method pc

        by : (b : Bool) → Stepped m new answers (Ended Broken) (machines.moved (class_code m.files) m.setting.classes t.due
            (if b then turns.stays (class_code m.files) m.setting.classes at put t.world else turns.stops events.Broken) t.world f below)
        by true =
            subst (λ b. Stepped m new answers (Ended Broken) (machines.moved (class_code m.files) m.setting.classes t.due (if b then turns.Stays at put t.world else turns.stops events.Broken) t.world f below))
            (sym (tells m answers t f below is runs same)) refl
        by false = refl
