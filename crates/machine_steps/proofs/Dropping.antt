-- Frames that are left.
use Rattle.std.specs.Prelude.{◌≡◌, List, [], ◌∷◌, ◌++◌, reverse, take, drop, length, refl}
use Rattle.std.specs.List.{AllByRecursion}
use Rattle.std.proofs.Common.{sym, ◌∙◌, ap, subst, arith}
use Rattle.std.proofs.lemmas.List.{reverse-append, append_assoc, take_all, drop_all, take-append-drop}
use Rattle.class_machine.specs.World.{World}
use Rattle.class_machine.specs.Machine.{leaving}
use Rattle.machine_values.specs.declared.names.Name.{Name}
use Rattle.machine_values.specs.declared.frames.Frame.{Frame}
use Rattle.machine_values.specs.declared.state.MachineState.{MachineState}
use Rattle.machine_values.specs.States.{IsFrameWithin}
use Rattle.machine_requests.specs.Monitors.{with_monitors}
use Rattle.machine_requests.specs.Shares.{Setting, Shares, others_of}
use Rattle.machine_requests.specs.Replies.{object}
use Rattle.machine_steps.specs.Leaving.{LeavesMonitor, left_by, Drops}

pub taken : {A : Type 0} (xs ys : List A) → take (length xs) (xs ++ ys) ≡ xs
taken [] ys = refl
taken (x ∷ xs) ys = ap (λ zs. x ∷ zs) (taken xs ys)

pub dropped : {A : Type 0} (xs ys : List A) → drop (length xs) (xs ++ ys) ≡ ys
dropped [] ys = refl
dropped (x ∷ xs) ys = dropped xs ys

pub all_between : {A : Type 0} (P : A → Type 0) (xs ys : List A) (y : A) → AllByRecursion P (xs ++ y ∷ ys) → P y
all_between P [] ys y h = h.0
all_between P (x ∷ xs) ys y h = all_between P xs ys y h.1

left_last : (s : Setting) (names : List Name) (gs : List Frame) (g : Frame) (w : World) → left_by s names (gs ++ g ∷ []) w ≡ leaving (object s names g.monitor) (left_by s names gs w)
left_last s names [] g w = refl
left_last s names (f ∷ gs) g w = left_last s names gs g (leaving (object s names f.monitor) w)

pub none_dropped : (state : MachineState) → Drops state state (length state.frames.items)
none_dropped state = record {
  rest = refl;
  frames = sym (take_all (length state.frames.items) state.frames.items (omega arith));
  shares = λ s w distinct within shares.
      subst (λ gs. Shares s state.heap (others_of state) (left_by s state.heap.names (reverse gs) w)) (sym (drop_all (length state.frames.items) state.frames.items (omega arith))) shares;
}

pub one_dropped : (old mid new : MachineState) (f : Frame) → Drops old mid (length mid.frames.items) → mid.frames.items ≡ new.frames.items ++ f ∷ []
    → new ≡ record mid { frames = new.frames; monitors = new.monitors } → LeavesMonitor mid.monitors f.monitor new.monitors → Drops old new (length new.frames.items)
one_dropped old mid new f drops popped same leaves =
    let count = length mid.frames.items in
    let kept = new.frames.items in
    let gone = drop count old.frames.items in
    let parts : old.frames.items ≡ kept ++ f ∷ gone =
    sym (take-append-drop count old.frames.items) ∙ ap (λ xs. xs ++ gone) (sym drops.frames ∙ popped) ∙ append_assoc kept (f ∷ []) gone in
    record {
      rest = same ∙ ap (λ (m : MachineState). record m { frames = new.frames; monitors = new.monitors }) drops.rest;
      frames = sym (ap (take (length kept)) parts ∙ taken kept (f ∷ gone));
      shares = λ s w distinct within shares.
          let names = old.heap.names in
          let left = left_by s names (reverse gone) w in
          let others : with_monitors (others_of mid) new.monitors ≡ others_of new =
          let e : others_of new ≡ with_monitors (others_of mid) new.monitors = ap (λ (m : MachineState). with_monitors (others_of m) new.monitors) same in sym e in
          let known = (all_between (IsFrameWithin (length names)) kept gone f (subst (AllByRecursion (IsFrameWithin (length names))) parts within)).monitor in
          let order : reverse (drop (length kept) old.frames.items) ≡ reverse gone ++ f ∷ [] = ap reverse (ap (drop (length kept)) parts ∙ dropped kept (f ∷ gone)) ∙ reverse-append (f ∷ []) gone in
          subst (λ gs. Shares s old.heap (others_of new) (left_by s names gs w)) (sym order)
          (subst (Shares s old.heap (others_of new)) (sym (left_last s names (reverse gone) f w))
          (subst (λ o. Shares s old.heap o (leaving (object s names f.monitor) left)) others
          (leaves s old.heap (others_of mid) left refl known distinct (drops.shares s w distinct within shares))));
    }
