-- What goes on when the running frame has made its turn, and the others wait.
use Rattle.std.specs.Prelude.{◌≡◌, ℕ, ◌≤◌, true, false, is_some, if◌then◌else◌, List, [], ◌∷◌, ◌++◌, map, reverse, length, Option, Some, None, refl}
use Rattle.std.specs.List.{AllByRecursion}
use Rattle.std.specs.Option.{option_map}
use Rattle.std.proofs.Common.{sym, ◌∙◌, ap, subst, arith, length-append}
use Rattle.std.proofs.lemmas.List.{reverse-append, append-nil}
use Rattle.aj_names.specs.declared.ids.MethodId.{MethodId}
use Rattle.class_world.specs.Tables.{Known}
use Rattle.class_machine.specs.Turn as turns
use Rattle.class_machine.specs.World.{World}
use Rattle.class_machine.specs.Machine as machines
use Rattle.class_machine.specs.Events as events
use Rattle.class_machine.specs.Machine.{State}
use Rattle.class_machine.specs.ClassFiles.{Place, MethodCode, place_in, line_at, class_code}
use Rattle.class_machine.specs.Operations as operations
use Rattle.machine_code.specs.declared.method_code.MethodCode as lent
use Rattle.machine_code.specs.declared.operation.Operation.{Operation}
use Rattle.machine_code.specs.Operations.{seen}
use Rattle.machine_code.specs.Views.{code_seen}
use Rattle.machine_values.specs.declared.names.Name.{Name}
use Rattle.machine_values.specs.declared.frames.Frame.{Frame}
use Rattle.machine_values.specs.declared.observed.Ending.TheVariants.{Broken}
use Rattle.machine_values.specs.declared.script.Answer.{Answer}
use Rattle.machine_values.specs.declared.state.MachineState.{MachineState}
use Rattle.machine_values.specs.Things.{Things}
use Rattle.machine_values.specs.Observed.{machine_answer}
use Rattle.machine_values.specs.States.{machine_due, IsFrameWithin, IsDueWithin}
use Rattle.machine_requests.specs.Shares.{Shares, others_of}
use Rattle.machine_requests.specs.Objects.{AreFilled}
use Rattle.machine_requests.specs.Growth.{frames_stay, due_stays}
use Rattle.machine_steps.specs.declared.step.Step.{Step}
use Rattle.machine_steps.specs.declared.step.Step.TheVariants.{Went, Ended}
use Rattle.machine_steps.specs.Programs.{Machine, IsMachine}
use Rattle.machine_steps.specs.Runs.{IsMethod, IsDueFormed, IsFormed, Runs, Stepped}
use Rattle.machine_steps.specs.Moves.{Turning, moved_by, Moves, goes_on}
use Rattle.machine_steps.specs.Running.{seen_by, waiting, TellsPlace, top_first, all_front, all_last, all_pushed, frames_are, moves_at, GoesOn, Turned}
use Rattle.machine_steps.specs.Within.{frames_more, due_more}

pub all_reversed : {A : Type 0} (P : A → Type 0) (xs : List A) → AllByRecursion P xs → AllByRecursion P (reverse xs)
all_reversed P [] h = tt
all_reversed P (x ∷ xs) h = subst (AllByRecursion P) (sym (reverse-append (x ∷ []) xs)) (all_pushed P (reverse xs) x (all_reversed P xs h.1) h.0)

pub no_longer : (more names : List Name) → names ≡ more ++ [] → names ≡ more
no_longer more names e = e ∙ append-nil more

module _ (m : Machine) (names more : List Name) where
  pub waiting_stay : (rest : List Frame) → AllByRecursion (IsFrameWithin (length names)) rest → waiting m (names ++ more) rest ≡ waiting m names rest
  waiting_stay rest h = frames_stay m.setting.heads names more m.methods (reverse rest) (all_reversed (IsFrameWithin (length names)) rest h)

-- The state stands for the machine's with that frame and the frames that waited.
pub goes_on_runs : (m : Machine) (old new : MachineState) (answers after : List Answer) (t : State Place) (w : World) (rest : List Frame) (f g : Frame)
    → Runs m old answers t → old.frames.items ≡ rest ++ f ∷ [] → GoesOn old new rest g → Shares m.setting new.heap (others_of new) w → w.answers ≡ map machine_answer after → AreFilled new.heap m.setting
    → Runs m new after (record { frames = seen_by m new.heap.names g ∷ waiting m old.heap.names rest; world = w; due = t.due })
goes_on_runs m old new answers after t w rest f g runs top goes shares same filled =
    let names = old.heap.names in
    let more = goes.longer.0 in
    let longer = goes.longer.1 in
    let below : AllByRecursion (IsFrameWithin (length names)) rest = all_front (IsFrameWithin (length names)) rest f (subst (AllByRecursion (IsFrameWithin (length names))) top runs.frames.frames_within) in
    let many : length names ≤ length new.heap.names = let e = ap length longer in let n = length-append names more in omega arith in
    record {
      shares = shares;
      frames = record {
        frames = sym (
            ap (λ fs. map (seen_by m new.heap.names) (reverse fs)) goes.frames ∙ top_first (seen_by m new.heap.names) rest g
            ∙ ap (λ fs. seen_by m new.heap.names g ∷ fs) (ap (λ all. waiting m all rest) longer ∙ waiting_stay m names more rest below)
            );
        due = runs.frames.due ∙ sym (
            ap (machine_due m.setting.heads m.methods new.heap.names) goes.due ∙ ap (λ all. machine_due m.setting.heads m.methods all old.due) longer
            ∙ due_stays m.setting.heads names more m.methods old.due runs.frames.due_within
            );
        frames_within = subst (AllByRecursion (IsFrameWithin (length new.heap.names))) (sym goes.frames)
            (all_pushed (IsFrameWithin (length new.heap.names)) rest g (frames_more (length names) (length new.heap.names) many rest below) goes.within);
        due_within = subst (IsDueWithin (length new.heap.names)) (sym goes.due) (due_more (length names) (length new.heap.names) many old.due runs.frames.due_within);
      };
      answers = same;
      filled = filled;
    }

-- the same, where nothing else changed
pub turned_runs : (m : Machine) (old new : MachineState) (answers : List Answer) (t : State Place) (rest : List Frame) (f g : Frame) → Turned old new rest f g
    → (IsFrameWithin (length old.heap.names) f → IsFrameWithin (length old.heap.names) g) → Runs m old answers t
    → Runs m new answers (record t { frames = seen_by m old.heap.names g ∷ waiting m old.heap.names rest })
turned_runs m old new answers t rest f g turned within runs =
    let names = old.heap.names in
    let P : MachineState → Type 0 = λ s. Shares m.setting s.heap (others_of s) t.world in
    let heap : new.heap ≡ old.heap = ap (λ (s : MachineState). s.heap) turned.same in
    let was : IsFrameWithin (length names) f = all_last (IsFrameWithin (length names)) rest f (subst (AllByRecursion (IsFrameWithin (length names))) turned.before runs.frames.frames_within) in
    let Q : Things → Type 0 = λ h. Runs m new answers (record t { frames = seen_by m h.names g ∷ waiting m names rest }) in
    subst Q heap (
    goes_on_runs m old new answers answers t t.world rest f g runs turned.before
    (record {
      frames = turned.after;
      longer = ([], ap (λ (h : Things). h.names) heap ∙ sym (append-nil names));
      due = ap (λ (s : MachineState). s.due) turned.same;
      within = subst (λ (h : Things). IsFrameWithin (length h.names) g) (sym heap) (within was);
    })
    (subst P (sym turned.same) runs.shares) runs.answers (subst (λ (h : Things). AreFilled h m.setting) (sym heap) runs.filled)
    )

pub formed_turned : (k : Known) (old new : MachineState) (rest : List Frame) (f g : Frame) → Turned old new rest f g → g.method ≡ f.method → IsFormed k old → IsFormed k new
formed_turned k old new rest f g turned method formed =
    let P : List Frame → Type 0 = AllByRecursion (λ (h : Frame). IsMethod k h.method.0) in
    let all : P (rest ++ f ∷ []) = subst P turned.before formed.frames in
    let one : IsMethod k f.method.0 = all_last (λ (h : Frame). IsMethod k h.method.0) rest f all in
    record {
      statics = ap (λ (s : MachineState). length s.statics) turned.same ∙ formed.statics;
      begun = ap (λ (s : MachineState). length s.begun) turned.same ∙ formed.begun;
      frames = subst P (sym turned.after) (all_pushed (λ (h : Frame). IsMethod k h.method.0) rest g (all_front (λ (h : Frame). IsMethod k h.method.0) rest f all) (subst (λ (id : MethodId). IsMethod k id.0) (sym method) one));
      due = subst (IsDueFormed k) (sym (ap (λ (s : MachineState). s.due) turned.same)) formed.due;
    }

-- What the machine makes of the frame as it became, is what it makes of the frame as it was.
pub moves_turned : (k : Known) (old mid new : MachineState) (step : Step) (onward turning : Turning) (rest : List Frame) (f g : Frame) → Turned old mid rest f g
    → (IsFrameWithin (length old.heap.names) f → IsFrameWithin (length old.heap.names) g) → Moves k mid new step onward
    → ((m : Machine) (answers : List Answer) (t : State Place) → IsMachine k m → Runs m old answers t
    → moved_by onward m (record t { frames = seen_by m old.heap.names g ∷ waiting m old.heap.names rest }) (seen_by m old.heap.names g) (waiting m old.heap.names rest)
    ≡ moved_by turning m t (seen_by m old.heap.names f) (waiting m old.heap.names rest))
    → Moves k old new step turning
moves_turned k old mid new step onward turning rest f g turned within moves same =
    moves_at k old new step turning rest f turned.before (λ m answers t is runs.
    let t' = record t { frames = seen_by m old.heap.names g ∷ waiting m old.heap.names rest } in
    subst (Stepped m new answers step) (same m answers t is runs)
    (moves m answers t' (seen_by m old.heap.names g) (waiting m old.heap.names rest) is (turned_runs m old mid answers t rest f g turned within runs) refl))

-- ---- what stands at a place

pub line_stands : (m : MethodCode) (found : lent.MethodCode) (pc : ℕ) (o : Option Operation) → code_seen found ≡ m
    → option_map (seen found.pool.now found.code.now.code) o ≡ option_map Some (line_at pc (code_seen found)) → is_some (line_at pc m) ≡ is_some o
line_stands m found pc None is line = ap (λ x. is_some (line_at pc x)) (sym is) ∙ none (line_at pc (code_seen found)) line where
  none : (x : Option operations.Operation) → None ≡ option_map Some x → is_some x ≡ false
  none None e = refl
  none (Some x) e = absurd cc
line_stands m found pc (Some o) is line = ap (λ x. is_some (line_at pc x)) (sym is) ∙ some (seen found.pool.now found.code.now.code o) (line_at pc (code_seen found)) line where
  some : (s x : Option operations.Operation) → Some s ≡ option_map Some x → is_some x ≡ true
  some s None e = absurd cc
  some s (Some x) e = refl

-- ---- on at a place

pub nowhere_breaks : (k : Known) (old new : MachineState) (pc : ℕ) → TellsPlace k old pc false → Moves k old new (Ended Broken) (goes_on pc)
nowhere_breaks k old new pc tells m answers t f below is runs same =
    let at = place_in f.method pc in
    subst (λ b. Stepped m new answers (Ended Broken) (machines.moved (class_code m.files) m.setting.classes t.due (if b then turns.Stays at f.content t.world else turns.stops events.Broken) t.world f below))
    (sym (tells m answers t f below is runs same)) refl

pub goes_there : (k : Known) (old new : MachineState) (pc : ℕ) (rest : List Frame) (f : Frame) → Turned old new rest f (record f { pc = pc }) → TellsPlace k old pc true → Moves k old new Went (goes_on pc)
goes_there k old new pc rest f turned tells =
    let g : Frame = record f { pc = pc } in
    moves_at k old new Went (goes_on pc) rest f turned.before (λ m answers t is runs.
    let seen = seen_by m old.heap.names f in
    let below = waiting m old.heap.names rest in
    let at = place_in seen.method pc in
    subst (λ b. Stepped m new answers Went (machines.moved (class_code m.files) m.setting.classes t.due (if b then turns.Stays at seen.content t.world else turns.stops events.Broken) t.world seen below))
    (sym (tells m answers t seen below is runs (frames_are m old answers t rest f runs turned.before)))
    (turned_runs m old new answers t rest f g turned (λ w. record { operands = w.operands; locals = w.locals; monitor = w.monitor; purpose = w.purpose }) runs))
