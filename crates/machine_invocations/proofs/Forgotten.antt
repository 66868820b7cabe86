-- Objects that were added and are forgotten.
use Rattle.std.specs.Prelude.{◌≡◌, ℕ, List, [], ◌∷◌, ◌++◌, length, take, Option, Some, None, Result, Ok, Err, IfOk, OnErr, refl}
use Rattle.std.proofs.Common.{sym, ap, ◌∙◌, subst}
use Rattle.std.proofs.Math.Seq.{take-length, take-append_seam}
use Rattle.machine_values.specs.declared.content.Content.{Content}
use Rattle.machine_values.specs.declared.content.Content.TheVariants.{Fixed}
use Rattle.machine_values.specs.declared.names.Name.{Name}
use Rattle.machine_values.specs.declared.state.MachineState.{MachineState}
use Rattle.machine_values.specs.declared.values.Ref.{Ref}
use Rattle.machine_values.specs.Things.{Things, Placed, place_of, placed_at, with_constant}
use Rattle.machine_requests.specs.Monitors.{with_monitors}
use Rattle.machine_requests.specs.Shares.{Shares}
use Rattle.class_world.specs.Tables.{Known}
use Rattle.machine_invocations.specs.Entering.{AddsOnly, LocksNothing}
use Rattle.machine_invocations.specs.Keeping.{IsSame}

pub adds_nothing : (heap : Things) → AddsOnly heap heap
adds_nothing heap = record { names = take-length heap.names; contents = take-length heap.contents }

adds_constant : (heap : Things) (name : Name) → AddsOnly heap (with_constant heap name).1
adds_constant heap name = by (place_of heap.names name) where
  by : (o : Option ℕ) → AddsOnly heap (placed_at heap name o).1
  by None = record { names = take-append_seam heap.names (name ∷ []); contents = take-append_seam heap.contents (Fixed ∷ []) }
  by (Some place) = adds_nothing heap

-- an object that was found or added, or nothing was done
pub adds_found : {E : Type 0} (r : Result Ref E) (old new : Things) (name : Name) → IfOk r (λ at. (at.0, new) ≡ with_constant old name) → OnErr r (new ≡ old) → AddsOnly old new
adds_found (Ok at) old new name same err = subst (λ (p : Placed). AddsOnly old p.1) (sym same) (adds_constant old name)
adds_found (Err e) old new name ok same = subst (AddsOnly old) (sym same) (adds_nothing old)

-- what was added is forgotten
pub forgotten : (old mid new : Things) (count : ℕ) → AddsOnly old mid → count ≡ length old.names → count ≡ length old.contents → new.names ≡ take count mid.names → new.contents ≡ take count mid.contents → new ≡ old
forgotten old mid new count adds names contents new_names new_contents =
    let n : new.names ≡ old.names = new_names ∙ ap (λ i. take i mid.names) names ∙ adds.names in
    let c : new.contents ≡ old.contents = new_contents ∙ ap (λ i. take i mid.contents) contents ∙ adds.contents in
    ap (λ (l : List Name). record new { names = l }) n ∙ ap (λ (l : List Content). record old { contents = l }) c

pub locks_nothing : (k : Known) (heap : Things) (monitors : List ℕ) (heap' : Things) (monitors' : List ℕ) → heap' ≡ heap → monitors' ≡ monitors → LocksNothing k heap monitors heap' monitors'
locks_nothing k heap monitors heap' monitors' e d =
    subst (λ (h : Things). LocksNothing k heap monitors h monitors') (sym e)
    (subst (LocksNothing k heap monitors heap) (sym d) (record {
      shares = λ m others w is same shares. subst (λ (ms : List ℕ). Shares m.setting heap (with_monitors others ms) w) same shares;
      filled = λ m others w is shares filled. filled;
    }))

-- only the room for frames may be another
pub is_same : (old new : MachineState) → new ≡ record old { frames = new.frames; heap = new.heap; monitors = new.monitors } → new.frames.items ≡ old.frames.items → new.heap ≡ old.heap → new.monitors ≡ old.monitors → IsSame old new
is_same old new same items e d = record {
  rest = same ∙ ap (λ (h : Things). record old { frames = new.frames; heap = h; monitors = new.monitors }) e ∙ ap (λ (ms : List ℕ). record old { frames = new.frames; monitors = ms }) d;
  frames = items;
}
