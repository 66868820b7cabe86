-- Sizes are popped one after the other.
use Rattle.std.proofs.Common.{◌≡◌, ℕ, ◌+◌, ◌-◌, ◌<◌, ◌≤◌, ℤ, List, [], ◌∷◌, length, drop, map, reverse, set, refl, sym, ◌∙◌, ap, subst, arith, add-one}
use Rattle.std.proofs.lemmas.List.{drop-set, drop_all, length-set}
use Rattle.std.proofs.Math.Nat.{le_refl}
use Rattle.class_machine.specs.ClassFiles.{Place}
use Rattle.class_machine.specs.Values as machine
use Rattle.class_machine.specs.Effect as definition
use Rattle.machine_values.specs.declared.values.Value.{Value}
use Rattle.machine_values.specs.declared.values.Value.TheVariants as held
use Rattle.machine_values.specs.Stacks.{Stack}
use Rattle.machine_frames.specs.Naming.{Naming, values}
use Rattle.machine_frames.specs.Operands.{Onward, LacksInt, StaysKnown}
use Rattle.machine_frames.specs.Sizes.{PopsInts, LacksInts}
use Rattle.machine_frames.specs.Undoing.{TakesAll}
use Rattle.machine_frames.proofs.Known.{still_known}
use Rattle.machine_frames.proofs.Undone.{takes_none, takes_more, reverse_first}

abbrev Ops : Type 0
Ops = List (machine.Value Place)

-- the sizes from that one on are taken
pub record Sizing (count : ℕ) (s : Stack) (left : ℕ) (xs : List ℤ) (t : Stack) : Type 0 where
  pub within : left ≤ count
  pub whole : length xs ≡ count
  pub room : t.room ≡ s.room
  pub popped : (n : Naming) (method : ℕ) (go : Onward (List ℤ)) → definition.pop_sizes count [] (values n method s.values) go ≡ definition.pop_sizes left (drop left xs) (values n method t.values) go
  pub stays : StaysKnown s t
  pub taken : TakesAll s (reverse (map held.Int (drop left xs))) t

pub sizing_start : (count : ℕ) (s : Stack) (xs : List ℤ) → length xs ≡ count → Sizing count s count xs s
sizing_start count s xs e = record {
  within = le_refl count;
  whole = e;
  room = refl;
  popped = λ n method go. ap (λ ys. definition.pop_sizes count ys (values n method s.values) go) (sym (drop_all count xs (omega arith)));
  stays = record { stays = λ many all. all };
  taken = subst (λ (ys : List ℤ). TakesAll s (reverse (map held.Int ys)) s) (sym (drop_all count xs (omega arith))) (takes_none s);
}

one_more : (i : ℕ) (taken : List ℤ) (ops : Ops) (go : Onward (List ℤ)) → definition.pop_sizes (i + 1) taken ops go ≡ definition.pop_int ops (λ x rest. definition.pop_sizes i (x ∷ taken) rest go)
one_more i taken ops go = ap (λ k. definition.pop_sizes k taken ops go) (add-one i)

pub sizing_step : (count : ℕ) (s t u : Stack) (xs : List ℤ) (i : ℕ) (x : ℤ) → i < count → Sizing count s (i + 1) xs t → u.room ≡ t.room → t.values ≡ held.Int x ∷ u.values → StaysKnown t u → TakesAll t (held.Int x ∷ []) u
    → Sizing count s i (set xs i x) u
sizing_step count s t u xs i x h p room e stays took = record {
  within = omega arith;
  whole = length-set xs i x ∙ p.whole;
  room = room ∙ p.room;
  popped = λ n method go.
      let behind = drop (i + 1) xs in
      p.popped n method go
      ∙ one_more i behind (values n method t.values) go
      ∙ ap (λ vs. definition.pop_int (values n method vs) (λ y rest. definition.pop_sizes i (y ∷ behind) rest go)) e
      ∙ ap (λ ys. definition.pop_sizes i ys (values n method u.values) go) (sym (drop-set xs i x (let whole = p.whole in omega arith)));
  stays = still_known s t u p.stays stays;
  taken =
      subst (λ (ys : List ℤ). TakesAll s (reverse (map held.Int ys)) u) (sym (drop-set xs i x (let whole = p.whole in omega arith)))
      (subst (λ (vs : List Value). TakesAll s vs u) (sym (reverse_first (held.Int x) (map held.Int (drop (i + 1) xs)))) (takes_more s t u (reverse (map held.Int (drop (i + 1) xs))) (held.Int x ∷ []) p.taken took));
}

pub sizing_lacks : (count : ℕ) (s t : Stack) (xs : List ℤ) (i : ℕ) → Sizing count s (i + 1) xs t → LacksInt t → LacksInts count s
sizing_lacks count s t xs i p q = λ n method go.
    let behind = drop (i + 1) xs in
    p.popped n method go ∙ one_more i behind (values n method t.values) go ∙ q n method (λ y rest. definition.pop_sizes i (y ∷ behind) rest go)

pub sizing_done : (count : ℕ) (s t : Stack) (xs : List ℤ) → Sizing count s 0 xs t → PopsInts count s xs t
sizing_done count s t xs p = λ n method go. p.popped n method go

pub sizing_next : (count : ℕ) (s t u : Stack) (xs : List ℤ) (left : ℕ) (x : ℤ) → 0 < left → Sizing count s left xs t → u.room ≡ t.room → t.values ≡ held.Int x ∷ u.values → StaysKnown t u → TakesAll t (held.Int x ∷ []) u
    → Sizing count s (left - 1) (set xs (left - 1) x) u
sizing_next count s t u xs left x h p room e stays took = sizing_step count s t u xs (left - 1) x (let w = p.within in omega arith) (subst (λ i. Sizing count s i xs t) before p) room e stays took where
  before : left ≡ left - 1 + 1
  before = omega arith

pub sizing_short : (count : ℕ) (s t : Stack) (xs : List ℤ) (left : ℕ) → 0 < left → Sizing count s left xs t → LacksInt t → LacksInts count s
sizing_short count s t xs left h p q = sizing_lacks count s t xs (left - 1) (subst (λ i. Sizing count s i xs t) before p) q where
  before : left ≡ left - 1 + 1
  before = omega arith

pub sizing_whole : (count : ℕ) (s t : Stack) (xs : List ℤ) (left : ℕ) → left ≤ 0 → Sizing count s left xs t → PopsInts count s xs t
sizing_whole count s t xs left h p = sizing_done count s t xs (subst (λ i. Sizing count s i xs t) none p) where
  none : left ≡ 0
  none = omega arith

pub sizing_taken : (count : ℕ) (s t : Stack) (xs : List ℤ) (left : ℕ) → left ≤ 0 → Sizing count s left xs t → TakesAll s (reverse (map held.Int xs)) t
sizing_taken count s t xs left h p = subst (λ i. TakesAll s (reverse (map held.Int (drop i xs))) t) none p.taken where
  none : left ≡ 0
  none = omega arith
