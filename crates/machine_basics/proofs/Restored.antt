-- What was taken from the running frame is put back, where its step is refused.
use Rattle.std.specs.Prelude.{◌≡◌, ℕ, zero, suc, ◌+◌, ◌<◌, false, List, [], ◌∷◌, ◌++◌, length, slice_get, slice_set, Some, Result, Ok, Err, IfOk, OnErr, refl}
use Rattle.std.proofs.Common.{sym, ◌∙◌, ap, subst, arith, length-append}
use Rattle.std.proofs.lemmas.Bool.{false≢true}
use Rattle.class_world.specs.Tables.{Known}
use Rattle.class_machine.specs.declared.meaning.Basic.{Basic}
use Rattle.machine_values.specs.declared.frames.Frame.{Frame}
use Rattle.machine_values.specs.declared.state.MachineState.{MachineState}
use Rattle.machine_frames.specs.declared.effect.Effect.{Effect}
use Rattle.machine_frames.specs.declared.effect.Effect.TheVariants as effects
use Rattle.machine_frames.specs.declared.effect.Request.{Request}
use Rattle.machine_frames.specs.Undoing.{taken_by, IsTaken, Undoes, is_plain}
use Rattle.machine_steps.specs.Runs.{IsFormed}
use Rattle.machine_steps.specs.Going.{formed_turned}
use Rattle.machine_invocations.specs.Keeping.{Keeps}
use Rattle.machine_basics.specs.Performed.{IsPerformed}
use Rattle.machine_basics.proofs.Kept.{formed_keeps}

-- ---- the last of a list

pub last_same : {A : Type 0} (rest : List A) (g x : A) (i : ℕ) → slice_get (rest ++ g ∷ []) i ≡ Some x → i + 1 ≡ length (rest ++ g ∷ []) → x ≡ g
last_same [] g x zero at last = cc
last_same [] g x (suc i) at last = absurd (omega arith)
last_same (y ∷ rest) g x zero at last = let n = length-append rest (g ∷ []) in absurd (omega (arith, n))
last_same (y ∷ rest) g x (suc i) at last = last_same rest g x i at (omega (arith, last))

pub last_set : {A : Type 0} (rest : List A) (g y : A) (i : ℕ) → i + 1 ≡ length (rest ++ g ∷ []) → slice_set (rest ++ g ∷ []) i y ≡ rest ++ y ∷ []
last_set [] g y zero last = refl
last_set [] g y (suc i) last = absurd (omega arith)
last_set (x ∷ rest) g y zero last = let n = length-append rest (g ∷ []) in absurd (omega (arith, n))
last_set (x ∷ rest) g y (suc i) last = ap (λ l. x ∷ l) (last_set rest g y i (omega (arith, last)))

-- ---- the frame

-- the frame that is restored stands where the other one stood
pub set_back : (frames rest : List Frame) (before after x y : Frame) (i : ℕ) (request : Request) → frames ≡ rest ++ after ∷ [] → slice_get frames i ≡ Some x → i + 1 ≡ length frames
    → Undoes before after (effects.Ask request) → ((old : Frame) → IsTaken old (taken_by request) x → y ≡ old) → slice_set frames i y ≡ rest ++ before ∷ []
set_back frames rest before after x y i request top at last undone restored =
    let there = subst (λ (l : List Frame). slice_get l i ≡ Some x) top at in
    let here = last ∙ ap length top in
    let same : x ≡ after = last_same rest after x i there here in
    ap (λ l. slice_set l i y) top ∙ last_set rest after y i here ∙ ap (λ z. rest ++ z ∷ []) (restored before (subst (λ (z : Frame). IsTaken before (taken_by request) z) (sym same) undone.undoes))

-- an exception left the frame
pub left_alone : (frames rest : List Frame) (before after : Frame) (e : Effect) → ((r : Request) → e ≡ effects.Ask r → ⊥) → frames ≡ rest ++ after ∷ [] → Undoes before after e → is_plain e ≡ false → frames ≡ rest ++ before ∷ []
left_alone frames rest before after (effects.Fail fault) other top undone fails = top ∙ ap (λ z. rest ++ z ∷ []) undone.undoes
left_alone frames rest before after (effects.Throw a) other top undone fails = top ∙ ap (λ z. rest ++ z ∷ []) undone.undoes
left_alone frames rest before after (effects.Ask request) other top undone fails = absurd (other request refl)
left_alone frames rest before after effects.On other top undone fails = absurd (false≢true (sym fails))
left_alone frames rest before after (effects.Jump i) other top undone fails = absurd (false≢true (sym fails))
left_alone frames rest before after (effects.Enter i) other top undone fails = absurd (false≢true (sym fails))
left_alone frames rest before after (effects.Back pc) other top undone fails = absurd (false≢true (sym fails))
left_alone frames rest before after (effects.Leave result) other top undone fails = absurd (false≢true (sym fails))
left_alone frames rest before after (effects.Unmodelled op) other top undone fails = absurd (false≢true (sym fails))
left_alone frames rest before after effects.Broken other top undone fails = absurd (false≢true (sym fails))

-- ---- results

pub if_ok : {A E : Type 0} (P Q : A → Type 0) (r : Result A E) → ((x : A) → P x → Q x) → IfOk r P → IfOk r Q
if_ok P Q (Ok x) each h = each x h
if_ok P Q (Err e) each h = tt

pub formed_either : {A E : Type 0} (k : Known) (old new : MachineState) (r : Result A E) → IfOk r (λ x. IsFormed k new) → OnErr r (Keeps k old new) → IsFormed k old → IsFormed k new
formed_either k old new (Ok x) ok err formed = ok
formed_either k old new (Err e) ok err formed = formed_keeps k old new err formed

-- ---- the state with the changed frame

pub formed_performed : (k : Known) (old mid : MachineState) (basic : Basic) (e : Effect) → IsPerformed old mid basic e → IsFormed k old → IsFormed k mid
formed_performed k old mid basic e performed formed = formed_turned k old mid performed.rest performed.before performed.after performed.turned performed.kept.method formed

pub frame_runs : (old mid : MachineState) (basic : Basic) (e : Effect) → IsPerformed old mid basic e → 0 < length mid.frames.items
frame_runs old mid basic e performed = let n = length-append performed.rest (performed.after ∷ []) in let top = ap length performed.turned.after in omega arith
