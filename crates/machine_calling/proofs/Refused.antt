-- What a refused call leaves.
use Rattle.std.specs.Prelude.{◌≡◌, ℕ, List, take, length, Option, Result, Ok, Err, OnErr, refl}
use Rattle.std.proofs.Common.{sym, ap, ◌∙◌, subst}
use Rattle.class_world.specs.Tables.{Known}
use Rattle.machine_values.specs.declared.content.Content.{Content}
use Rattle.machine_values.specs.declared.names.Name.{Name}
use Rattle.machine_values.specs.declared.observed.Event.{Event}
use Rattle.machine_values.specs.declared.state.MachineState.{MachineState}
use Rattle.machine_values.specs.declared.values.Ref.{Ref}
use Rattle.machine_values.specs.declared.values.Value.{Value}
use Rattle.machine_values.specs.Things.{Things}
use Rattle.machine_rules.specs.declared.work.Work.{Work}
use Rattle.machine_rules.specs.declared.work.Work.TheVariants as work
use Rattle.machine_rules.specs.Works.{ChangesBy}
use Rattle.machine_invocations.specs.Keeping.{Keeps, IsSame}
use Rattle.machine_works.proofs.Kept.{keeps_itself, same_equal}
use Rattle.machine_calling.specs.Working.{ForgetsFrom, Undoes, Restores}

-- ---- by the work

pub work_undone : (k : Known) (count : ℕ) (old new : MachineState) (w : Work) → ((said : Option Event) (v : Option Value) → w ≡ work.Results said v → ⊥) → ((x : Ref) → w ≡ work.Throws x → ⊥) → Keeps k old new → Undoes k count old new w
work_undone k count old new (work.Results said v) result throws keeps = absurd (result said v refl)
work_undone k count old new (work.Throws x) result throws keeps = absurd (throws x refl)
work_undone k count old new (work.Faults fault) result throws keeps = keeps
work_undone k count old new (work.Calls method object wait) result throws keeps = keeps
work_undone k count old new (work.Loads class) result throws keeps = keeps
work_undone k count old new (work.Exits status) result throws keeps = keeps
work_undone k count old new work.Misuses result throws keeps = keeps

pub work_restored : (count : ℕ) (old new : MachineState) (w : Work) → ((said : Option Event) (v : Option Value) → w ≡ work.Results said v → ⊥) → ((x : Ref) → w ≡ work.Throws x → ⊥) → IsSame old new → Restores count old new w
work_restored count old new (work.Results said v) result throws same = absurd (result said v refl)
work_restored count old new (work.Throws x) result throws same = absurd (throws x refl)
work_restored count old new (work.Faults fault) result throws same = same
work_restored count old new (work.Calls method object wait) result throws same = same
work_restored count old new (work.Loads class) result throws same = same
work_restored count old new (work.Exits status) result throws same = same
work_restored count old new work.Misuses result throws same = same

-- ---- the call, from the state before it

forgotten : (old new : MachineState) (heap : Things) (count : ℕ) → count ≡ length old.heap.names → count ≡ length old.heap.contents → take (length old.heap.names) heap.names ≡ old.heap.names → take (length old.heap.contents) heap.contents ≡ old.heap.contents
    → ForgetsFrom count (record old { heap = heap }) new → new ≡ old
forgotten old new heap count names contents same_names same_contents forgets =
    let n : new.heap.names ≡ old.heap.names = forgets.names ∙ ap (λ i. take i heap.names) names ∙ same_names in
    let c : new.heap.contents ≡ old.heap.contents = forgets.contents ∙ ap (λ i. take i heap.contents) contents ∙ same_contents in
    let h : new.heap ≡ old.heap = ap (λ (l : List Name). record new.heap { names = l }) n ∙ ap (λ (l : List Content). record old.heap { contents = l }) c in
    forgets.same ∙ ap (λ (x : Things). record old { heap = x }) h

abbrev Left : Known → MachineState → MachineState → Type 0
Left k old new = Keeps k old new

left_equal : (k : Known) (old new : MachineState) → new ≡ old → Left k old new
left_equal k old new same = subst (Left k old) (sym same) (keeps_itself k old)

module _ (k : Known) (old new : MachineState) (heap : Things) (count : ℕ) (names : count ≡ length old.heap.names) (contents : count ≡ length old.heap.contents) where
  left_with : heap ≡ old.heap → Left k (record old { heap = heap }) new → Left k old new
  left_with same left = subst (λ (h : Things). Left k (record old { heap = h }) new) same left

  pub rule_refused : (w : Work) → ChangesBy old.heap heap w → Undoes k count (record old { heap = heap }) new w → Left k old new
  rule_refused (work.Results said v) changes undoes = absurd undoes
  rule_refused (work.Throws x) changes undoes = left_equal k old new (forgotten old new heap count names contents changes.names changes.contents undoes)
  rule_refused (work.Faults fault) changes undoes = left_with changes undoes
  rule_refused (work.Calls method object wait) changes undoes = left_with changes undoes
  rule_refused (work.Loads class) changes undoes = left_with changes undoes
  rule_refused (work.Exits status) changes undoes = left_with changes undoes
  rule_refused work.Misuses changes undoes = left_with changes undoes

  same_with : heap ≡ old.heap → IsSame (record old { heap = heap }) new → IsSame old new
  same_with same left = subst (λ (h : Things). IsSame (record old { heap = h }) new) same left

  pub rule_restored : (w : Work) → ChangesBy old.heap heap w → Restores count (record old { heap = heap }) new w → IsSame old new
  rule_restored (work.Results said v) changes restores = absurd restores
  rule_restored (work.Throws x) changes restores = same_equal old new (forgotten old new heap count names contents changes.names changes.contents restores)
  rule_restored (work.Faults fault) changes restores = same_with changes restores
  rule_restored (work.Calls method object wait) changes restores = same_with changes restores
  rule_restored (work.Loads class) changes restores = same_with changes restores
  rule_restored (work.Exits status) changes restores = same_with changes restores
  rule_restored work.Misuses changes restores = same_with changes restores

pub on_err_from : {T E P Q : Type 0} (r : Result T E) → (P → Q) → OnErr r P → OnErr r Q
on_err_from (Ok x) f h = tt
on_err_from (Err e) f h = f h
