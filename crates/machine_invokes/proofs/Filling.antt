-- The running frame, where every copy of a token becomes an object.
use Rattle.std.specs.Prelude.{◌≡◌, ℕ, ◌+◌, Bool, List, [], ◌∷◌, ◌++◌, reverse, take, length, slice_get, slice_set, Some, refl}
use Rattle.std.specs.List.{AllByRecursion}
use Rattle.std.proofs.Common.{sym, ap, ◌∙◌, subst, arith, length-append}
use Rattle.aj_names.specs.declared.ids.MethodId.{MethodId}
use Rattle.class_world.specs.Tables.{Known}
use Rattle.machine_values.specs.declared.frames.Frame.{Frame}
use Rattle.machine_values.specs.declared.state.MachineState.{MachineState}
use Rattle.machine_values.specs.declared.values.Local.{Local}
use Rattle.machine_values.specs.declared.values.Ref.{Ref}
use Rattle.machine_values.specs.declared.values.Value.{Value}
use Rattle.machine_steps.specs.Running.{all_front, all_last, all_pushed, split_last, set_last}
use Rattle.machine_steps.specs.Runs.{IsMethod, IsDueFormed, IsFormed}
use Rattle.machine_invokes.specs.Choosing.{LacksRoom}
use Rattle.machine_invokes.specs.Building.{IsFilled, FillsFrame, FillsToken, TellsRoom}
use Rattle.machine_invokes.proofs.Taken.{there_is, same_last, set_middle}

module _ (old new : MachineState) (top : ℕ) (f p : Frame) (last : top + 1 ≡ length old.frames.items) (there : slice_get old.frames.items top ≡ Some f) (set : new.frames.items ≡ slice_set old.frames.items top p) where
  pub fills_frame : (number : ℕ) (at : Ref) (operands : List Value) (locals : List Local) → IsFilled number at f p → f.operands.values ≡ reverse operands → f.locals ≡ locals
      → (rest : List Frame) (before : Frame) → old.frames.items ≡ rest ++ before ∷ [] → FillsFrame number at operands locals new rest before
  fills_frame number at operands locals filled operands_were locals_were rest before items =
      let is : f ≡ before = same_last old.frames.items rest top f before last there items in
      let len : length old.frames.items ≡ length rest + 1 = ap length items ∙ length-append rest (before ∷ []) in
      let place : top ≡ length rest = omega arith in
      record {
        after = p;
        are = set ∙ ap (λ (xs : List Frame). slice_set xs top p) items ∙ ap (λ (n : ℕ). slice_set (rest ++ before ∷ []) n p) place ∙ set_middle rest [] before p;
        filled = subst (λ (g : Frame). IsFilled number at g p) is filled;
        operands_were = subst (λ (g : Frame). g.operands.values ≡ reverse operands) is operands_were;
        locals_were = subst (λ (g : Frame). g.locals ≡ locals) is locals_were;
      }

  pub filled_formed : (k : Known) → p.method ≡ f.method → length new.statics ≡ length old.statics → length new.begun ≡ length old.begun → new.due ≡ old.due → IsFormed k old → IsFormed k new
  filled_formed k method statics begun due formed =
      let P : Frame → Type 0 = λ g. IsMethod k g.method.0 in
      let rest = take top old.frames.items in
      let all : AllByRecursion P (rest ++ f ∷ []) = subst (AllByRecursion P) (split_last old.frames.items top f last there) formed.frames in
      record {
        statics = statics ∙ formed.statics;
        begun = begun ∙ formed.begun;
        frames = subst (AllByRecursion P) (sym (set ∙ set_last old.frames.items top p last)) (all_pushed P rest p (all_front P rest f all) (subst (λ (id : MethodId). IsMethod k id.0) (sym method) (all_last P rest f all)));
        due = subst (IsDueFormed k) (sym due) formed.due;
      }

-- ---- afterwards

pub still_last : (old new : MachineState) (number : ℕ) (at : Ref) (operands : List Value) (locals : List Local) (top : ℕ) → top + 1 ≡ length old.frames.items → FillsToken number old new at operands locals → top + 1 ≡ length new.frames.items
still_last old new number at operands locals top last fills =
    let there = there_is old.frames.items top (omega arith) in
    let rest = take top old.frames.items in
    let items = split_last old.frames.items top there.0 last there.1 in
    let frame = fills.frames rest there.0 items in
    let was = ap length items ∙ length-append rest (there.0 ∷ []) in
    let is = ap length frame.are ∙ length-append rest (frame.after ∷ []) in
    let one : length (there.0 ∷ []) ≡ length (frame.after ∷ []) = refl in
    omega (arith, was, is, one, last)

pub tells_room : (k : Known) (new : MachineState) (top : ℕ) (f : Frame) (method : ℕ) (lacks : Bool) → top + 1 ≡ length new.frames.items → slice_get new.frames.items top ≡ Some f → LacksRoom k f method lacks → TellsRoom k method new lacks
tells_room k new top f method lacks last there room rest g items = subst (λ (h : Frame). LacksRoom k h method lacks) (same_last new.frames.items rest top f g last there items) room
