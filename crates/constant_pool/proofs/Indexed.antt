-- The map of a pool's entries, as entries come and go at its end.
use Rattle.std.specs.Prelude.{◌≡◌, ℕ, suc, ◌+◌, ◌<◌, ◌≤◌, Bool, true, false, cond, List, [], ◌∷◌, ◌++◌, length, Option, Some, None, refl, is_some, nat_eq}
use Rattle.std.proofs.Common.{sym, ◌∙◌, ap, subst, inl, inr, arith, length-append}
use Rattle.indexmap.specs.IndexMap.{IndexMap, get}
use Rattle.std.specs.Option.{option_eq}
use Rattle.std.proofs.lemmas.Bool.{eqb-true, eqb-false}
use Rattle.class_file.specs.declared.pool.PoolEntry.{PoolEntry}
use Rattle.constant_pool.specs.Edit.{same_entry, least_index}
use Rattle.constant_pool.specs.Places.{IsIndexed}
use Rattle.constant_pool.specs.Laws.{same_entry-itself, same_entry-cases, or_at, or_at-false, least_index-push, least_index-within}

pub empty_indexed : {S : Type 0} (places : IndexMap PoolEntry ℕ S) → places.entries ≡ [] → IsIndexed [] places
empty_indexed places e = record { fits = omega arith; least = λ q. rw e refl }

length_push : (pool : List PoolEntry) (x : PoolEntry) → length (pool ++ x ∷ []) ≡ suc (length pool)
length_push pool x = omega (arith, length-append pool (x ∷ []))

-- at an entry that is there or is not
hit_stays : (o : Option ℕ) (hit : Bool) (n : ℕ) → is_some o ≡ true → o ≡ or_at o hit n
hit_stays (Some i) hit n h = refl
hit_stays None hit n h = cc

none_at : (o : Option ℕ) (n : ℕ) → is_some o ≡ false → Some n ≡ or_at o true n
none_at (Some i) n h = cc
none_at None n h = refl

-- an entry that is there already comes again
pub pushed_again : {S : Type 0} (pool : List PoolEntry) (places : IndexMap PoolEntry ℕ S) (x : PoolEntry) → IsIndexed pool places → length pool < 65534 → is_some (get same_entry places x) ≡ true → IsIndexed (pool ++ x ∷ []) places
pushed_again pool places x h room there = record {
  fits = omega (arith, length_push pool x);
  least = λ q. elim (same_entry-cases x q) [
    | inl e ↦ let P : PoolEntry → Type 0 = λ e. get same_entry places e ≡ least_index (pool ++ x ∷ []) e in
        subst P e (h.least x ∙ hit_stays (least_index pool x) (same_entry x x) (suc (length pool)) (ap is_some (sym (h.least x)) ∙ there) ∙ sym (least_index-push pool x x))
    | inr apart ↦ h.least q ∙ sym (or_at-false (least_index pool q) (suc (length pool))) ∙ ap (λ b. or_at (least_index pool q) b (suc (length pool))) (sym apart.1) ∙ sym (least_index-push pool x q)
  ];
}

-- a new entry comes
pub pushed_new : {S : Type 0} (pool : List PoolEntry) (places new : IndexMap PoolEntry ℕ S) (x : PoolEntry) (at : ℕ) → IsIndexed pool places → length pool < 65534 → is_some (get same_entry places x) ≡ false → at ≡ length pool + 1
    → ((q : PoolEntry) → get same_entry new q ≡ cond (same_entry x q) (Some at) (get same_entry places q)) → IsIndexed (pool ++ x ∷ []) new
pushed_new pool places new x at h room absent is_at updates =
    let next : at ≡ suc (length pool) = omega arith in
    record {
      fits = omega (arith, length_push pool x);
      least = λ q. elim (same_entry-cases x q) [
        | inl e ↦ let P : PoolEntry → Type 0 = λ e. get same_entry new e ≡ least_index (pool ++ x ∷ []) e in
            subst P e (updates x ∙ ap (λ b. cond b (Some at) (get same_entry places x)) (same_entry-itself x) ∙ ap Some next
            ∙ none_at (least_index pool x) (suc (length pool)) (ap is_some (sym (h.least x)) ∙ absent)
            ∙ ap (λ b. or_at (least_index pool x) b (suc (length pool))) (sym (same_entry-itself x)) ∙ sym (least_index-push pool x x))
        | inr apart ↦ updates q ∙ ap (λ b. cond b (Some at) (get same_entry places q)) apart.0 ∙ h.least q ∙ sym (or_at-false (least_index pool q) (suc (length pool)))
            ∙ ap (λ b. or_at (least_index pool q) b (suc (length pool))) (sym apart.1) ∙ sym (least_index-push pool x q)
      ];
    }

-- the look-up is the last index exactly where no equal entry stands before it
earlier : (o : Option ℕ) (n : ℕ) → (or_at o true n ≡ Some n → ⊥) → or_at o true n ≡ o
earlier (Some i) n h = refl
earlier None n h = absurd (h refl)

not_earlier : (o : Option ℕ) (m n : ℕ) → ((i : ℕ) → o ≡ Some i → i ≤ m) → n ≡ suc m → or_at o true n ≡ Some n → None ≡ o
not_earlier (Some i) m n within e h = let w = within i refl in let same : i ≡ n = grind arith in absurd (omega arith)
not_earlier None m n within e h = refl

-- the last entry goes, and an equal one stands before it
pub popped_again : {S : Type 0} (pool : List PoolEntry) (places : IndexMap PoolEntry ℕ S) (x : PoolEntry) (at : ℕ) → IsIndexed (pool ++ x ∷ []) places → at ≡ length pool + 1 → (get same_entry places x ≡ Some at → ⊥) → IsIndexed pool places
popped_again pool places x at h is_at apart_at =
    let next : at ≡ suc (length pool) = omega arith in
    record {
      fits = let f = h.fits in omega (arith, length_push pool x);
      least = λ q. elim (same_entry-cases x q) [
        | inl e ↦ let P : PoolEntry → Type 0 = λ e. get same_entry places e ≡ least_index pool e in
            let there = h.least x ∙ least_index-push pool x x ∙ ap (λ b. or_at (least_index pool x) b (suc (length pool))) (same_entry-itself x) in
            subst P e (there ∙ earlier (least_index pool x) (suc (length pool)) (λ last. apart_at (there ∙ last ∙ ap Some (sym next))))
        | inr apart ↦ h.least q ∙ least_index-push pool x q ∙ ap (λ b. or_at (least_index pool q) b (suc (length pool))) apart.1 ∙ or_at-false (least_index pool q) (suc (length pool))
      ];
    }

-- the last entry goes, and no other is equal to it
pub popped_last : {S : Type 0} (pool : List PoolEntry) (places new : IndexMap PoolEntry ℕ S) (x : PoolEntry) (at : ℕ) → IsIndexed (pool ++ x ∷ []) places → at ≡ length pool + 1 → get same_entry places x ≡ Some at
    → ((q : PoolEntry) → get same_entry new q ≡ cond (same_entry x q) None (get same_entry places q)) → IsIndexed pool new
popped_last pool places new x at h is_at last updates =
    let next : at ≡ suc (length pool) = omega arith in
    let there = h.least x ∙ least_index-push pool x x ∙ ap (λ b. or_at (least_index pool x) b (suc (length pool))) (same_entry-itself x) in
    record {
      fits = let f = h.fits in omega (arith, length_push pool x);
      least = λ q. elim (same_entry-cases x q) [
        | inl e ↦ let P : PoolEntry → Type 0 = λ e. get same_entry new e ≡ least_index pool e in
            subst P e (updates x ∙ ap (λ b. cond b None (get same_entry places x)) (same_entry-itself x)
            ∙ not_earlier (least_index pool x) (length pool) (suc (length pool)) (least_index-within pool x) refl (sym there ∙ last ∙ ap Some next))
        | inr apart ↦ updates q ∙ ap (λ b. cond b None (get same_entry places q)) apart.0 ∙ h.least q ∙ least_index-push pool x q
            ∙ ap (λ b. or_at (least_index pool q) b (suc (length pool))) apart.1 ∙ or_at-false (least_index pool q) (suc (length pool))
      ];
    }

pub is_place : (o : Option ℕ) (n : ℕ) → option_eq nat_eq o (Some n) ≡ true → o ≡ Some n
is_place (Some i) n h = ap Some (eqb-true i n h)
is_place None n h = cc

pub is_no_place : (o : Option ℕ) (n : ℕ) → option_eq nat_eq o (Some n) ≡ false → o ≡ Some n → ⊥
is_no_place o n h e = let t : option_eq nat_eq (Some n) (Some n) ≡ false = subst (λ o. option_eq nat_eq o (Some n) ≡ false) e h in eqb-false n n t refl
