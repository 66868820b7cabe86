-- What a refused call leaves of a state, one call after the other.
use Rattle.std.specs.Prelude.{◌≡◌, ℕ, [], ◌++◌, length, take, Result, Ok, Err, OnErr, refl}
use Rattle.std.proofs.Common.{sym, ap, ◌∙◌, subst}
use Rattle.std.proofs.lemmas.List.{append-nil, append_assoc}
use Rattle.class_world.specs.Tables.{Known}
use Rattle.machine_values.specs.declared.names.Name.{Name}
use Rattle.machine_values.specs.declared.state.MachineState.{MachineState}
use Rattle.machine_requests.specs.Replies.{IsLonger}
use Rattle.machine_values.specs.Things.{Things, with_constant}
use Rattle.machine_invocations.specs.Entering.{AddsOnly}
use Rattle.machine_invocations.specs.Keeping.{Keeps, IsSame}
use Rattle.machine_invocations.proofs.Forgotten.{adds_found, forgotten}

pub longer_both : (a b c : Things) → IsLonger a b → IsLonger b c → IsLonger a c
longer_both a b c h g = (h.0 ++ g.0, g.1 ∙ ap (λ ns. ns ++ g.0) h.1 ∙ append_assoc a.names h.0 g.0)

pub keeps_itself : (k : Known) (old : MachineState) → Keeps k old old
keeps_itself k old = record { frames = refl; due = refl; statics = refl; begun = refl; names = ([], sym (append-nil old.heap.names)); shares = λ m w is shares. shares; filled = λ m w is shares filled. filled }

pub keeps_equal : (k : Known) (old new : MachineState) → new ≡ old → Keeps k old new
keeps_equal k old new e = subst (Keeps k old) (sym e) (keeps_itself k old)

pub keeps_both : (k : Known) (a b c : MachineState) → Keeps k a b → Keeps k b c → Keeps k a c
keeps_both k a b c h g = record {
  frames = g.frames ∙ h.frames;
  due = g.due ∙ h.due;
  statics = g.statics ∙ h.statics;
  begun = g.begun ∙ h.begun;
  names = longer_both a.heap b.heap c.heap h.names g.names;
  shares = λ m w is shares. g.shares m w is (h.shares m w is shares);
  filled = λ m w is shares filled. g.filled m w is (h.shares m w is shares) (h.filled m w is shares filled);
}

-- a refused call that leaves the state as it was
pub on_equal : {T E : Type 0} (k : Known) (old new : MachineState) (r : Result T E) → OnErr r (new ≡ old) → OnErr r (Keeps k old new)
on_equal k old new (Ok x) h = tt
on_equal k old new (Err e) h = keeps_equal k old new h

pub on_any : {T E P : Type 0} (r : Result T E) → P → OnErr r P
on_any (Ok x) p = tt
on_any (Err e) p = p

-- ---- the same state

pub same_equal : (old new : MachineState) → new ≡ old → IsSame old new
same_equal old new e = record { rest = e ∙ ap (λ (s : MachineState). record old { frames = s.frames }) (sym e); frames = ap (λ (s : MachineState). s.frames.items) e }

pub on_same : {T E : Type 0} (old new : MachineState) (r : Result T E) → OnErr r (new ≡ old) → OnErr r (IsSame old new)
on_same old new (Ok x) h = tt
on_same old new (Err e) h = same_equal old new h

-- an object that was found or added is forgotten
pub forgets_object : (old mid : MachineState) (heap after : Things) (name : Name) (at count : ℕ) → (at, heap) ≡ with_constant old.heap name → IsSame (record old { heap = heap }) mid → count ≡ length old.heap.names → count ≡ length old.heap.contents
    → after.names ≡ take count mid.heap.names → after.contents ≡ take count mid.heap.contents → IsSame old (record mid { heap = after })
forgets_object old mid heap after name at count added same names contents after_names after_contents =
    let kept : mid.heap ≡ heap = ap (λ (s : MachineState). s.heap) same.rest in
    let adds : AddsOnly old.heap heap = adds_found {E = Unit {0}} (Ok (record { 0 = at })) old.heap heap name added tt in
    let back : after ≡ old.heap = forgotten old.heap heap after count adds names contents (after_names ∙ ap (λ (h : Things). take count h.names) kept) (after_contents ∙ ap (λ (h : Things). take count h.contents) kept) in
    record {
      rest = ap (λ (s : MachineState). record s { heap = after }) same.rest ∙ ap (λ (h : Things). record old { frames = mid.frames; heap = h }) back;
      frames = same.frames;
    }
