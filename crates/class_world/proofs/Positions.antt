-- The first place at which a test passes, and the places of classes by their names.
use Rattle.std.specs.Prelude.{◌≡◌, ℕ, zero, suc, ◌+◌, ◌<◌, ◌≤◌, Bool, true, false, cond, List, [], ◌∷◌, length, slice_get, Option, Some, None, refl}
use Rattle.std.proofs.Common.{get_or, sym, ap, ◌∙◌, subst, arith, inl, inr}
use Rattle.std.specs.List.{position_from}
use Rattle.std.specs.Option.{option_map, unwrap_or}
use Rattle.std.specs.declared.cmp.Ordering.{Ordering}
use Rattle.std.specs.declared.cmp.Ordering.TheVariants.{Less, Equal, Greater}
use Rattle.std.specs.Ordering.{nat_cmp, is_eq, ordering_reverse}
use Rattle.std.specs.Str.{bytes_eq}
use Rattle.std.specs.Cmp.Lexicographic.{slice_cmp}
use Rattle.std.proofs.lemmas.Bool.{cases_lt}
use Rattle.std.proofs.lemmas.Cmp.{nat_list_cmp_total}
use Rattle.std.proofs.lemmas.List.{get_or_read}
use Rattle.std.proofs.lemmas.Map.Text.{is_eq-slice_cmp}
use Rattle.std.proofs.lemmas.Option.{slice_get_within}
use Rattle.std.proofs.lemmas.Slice.Eq.{bytes_eq-Decides}
use Rattle.class_heads.specs.declared.types.ClassHead.{ClassHead}
use Rattle.class_heads.specs.Hierarchy.{is_named, name_at, place_of}
use Rattle.class_world.specs.Names.{IsNameOrder}

-- ---- lists

pub has_slot : {X : Type 0} (xs : List X) (i : ℕ) → i < length xs → (x : X) × (slice_get xs i ≡ Some x)
has_slot [] i h = absurd (omega arith)
has_slot (x ∷ xs) zero h = (x, refl)
has_slot (x ∷ xs) (suc i) h = has_slot xs i (omega arith)

-- the first that passes is the first
pub position_from-is : {X : Type 0} (test : X → Bool) (i : ℕ) (xs : List X) (k : ℕ) (x : X) → slice_get xs k ≡ Some x → test x ≡ true → ((j : ℕ) (y : X) → j < k → slice_get xs j ≡ Some y → test y ≡ false) → position_from test i xs ≡ Some (i + k)
position_from-is test i [] k x e passes none = absurd cc
position_from-is test i (y ∷ xs) zero x e passes none =
    let same : y ≡ x = cc in
    let p : test y ≡ true = ap test same ∙ passes in
    let n : i ≡ i + 0 = omega arith in
    rw p (ap Some n)
position_from-is test i (y ∷ xs) (suc k) x e passes none =
    let p : test y ≡ false = none 0 y (omega arith) refl in
    let n : (i + 1) + k ≡ i + suc k = omega arith in
    rw p (position_from-is test (i + 1) xs k x e passes (λ j z h. none (suc j) z (omega arith)) ∙ ap Some n)

pub position_from-none : {X : Type 0} (test : X → Bool) (i : ℕ) (xs : List X) → ((j : ℕ) (y : X) → slice_get xs j ≡ Some y → test y ≡ false) → position_from test i xs ≡ None
position_from-none test i [] none = refl
position_from-none test i (y ∷ xs) none =
    let p : test y ≡ false = none 0 y refl in
    rw p (position_from-none test (i + 1) xs (λ j z. none (suc j) z))

at_first : (b : Bool) (i p n : ℕ) (rest : Option ℕ) → cond b (Some i) rest ≡ Some p → i < n → (rest ≡ Some p → p < n) → p < n
at_first true i p n rest e h k = let s : i ≡ p = cc in omega arith
at_first false i p n rest e h k = k e

pub position_from-within : {X : Type 0} (test : X → Bool) (i : ℕ) (xs : List X) (p : ℕ) → position_from test i xs ≡ Some p → p < i + length xs
position_from-within test i [] p e = absurd cc
position_from-within test i (x ∷ xs) p e =
    at_first (test x) i p (i + length (x ∷ xs)) (position_from test (i + 1) xs) e (omega arith)
    (λ r. let h = position_from-within test (i + 1) xs p r in omega arith)

-- ---- names

-- a place of a class is within the list
pub place_of-within : (heads : List ClassHead) (name : List ℕ) (place : ℕ) → place_of heads name ≡ Some place → place < length heads
place_of-within heads name place e = let h = position_from-within (is_named name) 0 heads place e in omega arith

pub name_at-slot : (heads : List ClassHead) (place : ℕ) (head : ClassHead) → slice_get heads place ≡ Some head → name_at heads place ≡ head.name
name_at-slot heads place head e = ap (λ (o : Option ClassHead). unwrap_or (option_map (λ (c : ClassHead). c.name) o) []) e

abbrev compared : List ℕ → List ℕ → Ordering
compared = slice_cmp nat_cmp

turned : (x y : List ℕ) (o : Ordering) → compared x y ≡ o → compared y x ≡ ordering_reverse o
turned x y o e = nat_list_cmp_total.antisymm y x ∙ ap ordering_reverse e

-- names are equal where they compare as equal
equal_from : (x y : List ℕ) (o : Ordering) → compared x y ≡ o → bytes_eq x y ≡ is_eq o
equal_from x y o e = sym (is_eq-slice_cmp x y) ∙ ap is_eq e

module _ (heads : List ClassHead) (names : List ℕ) (o : IsNameOrder heads names) where
  abbrev name_of : ℕ → List ℕ
  name_of k = name_at heads (get_or names k 0)

  -- what stands before a name that is less is less
  pub less_before : (name : List ℕ) (middle : ℕ) → middle < length names → compared (name_of middle) name ≡ Less → (k : ℕ) → k < middle + 1 → compared (name_of k) name ≡ Less
  less_before name middle within less k h =
      elim (cases_lt k middle) [
        | inl before ↦ nat_list_cmp_total.trans (name_of k) (name_of middle) name (o.rising k middle before within) less
        | inr behind ↦ let same : middle ≡ k = omega arith in subst (λ i. compared (name_of i) name ≡ Less) same less
      ]

  pub greater_behind : (name : List ℕ) (middle : ℕ) → compared (name_of middle) name ≡ Greater → (k : ℕ) → middle ≤ k → k < length names → compared (name_of k) name ≡ Greater
  greater_behind name middle greater k h within =
      elim (cases_lt middle k) [
        | inl before ↦
            turned name (name_of k) Less
            (nat_list_cmp_total.trans name (name_of middle) (name_of k) (turned (name_of middle) name Greater greater) (o.rising middle k before within))
        | inr behind ↦ let same : middle ≡ k = omega arith in subst (λ i. compared (name_of i) name ≡ Greater) same greater
      ]

  -- where the place stands in the order
  pub stands : (place : ℕ) → place < length heads → (k : ℕ) × (k < length names) × (get_or names k 0 ≡ place)
  stands place h =
      let c = o.complete place h in
      (c.0, c.1, sym (get_or_read names c.0 place c.1 (sym c.2) 0))

  -- two places in the order have different names
  differ : (i j : ℕ) → i < length names → j < length names → (i ≡ j → ⊥) → bytes_eq (name_of i) (name_of j) ≡ false
  differ i j h k apart =
      elim (cases_lt i j) [
        | inl before ↦ equal_from (name_of i) (name_of j) Less (o.rising i j before k)
        | inr behind ↦
            let less : j < i = omega arith in
            equal_from (name_of i) (name_of j) Greater (turned (name_of j) (name_of i) Less (o.rising j i less h))
      ]

  pub found_in_order : (name : List ℕ) (k : ℕ) → k < length names → compared (name_of k) name ≡ Equal → Some (get_or names k 0) ≡ place_of heads name
  found_in_order name k within equal =
      let place = get_or names k 0 in
      let slot = has_slot heads place (o.within k 0 within) in
      let same : name_of k ≡ name = (bytes_eq-Decides (name_of k) name).0 (equal_from (name_of k) name Equal equal) in
      let passes : is_named name slot.0 ≡ true = subst (λ n. bytes_eq n name ≡ true) (name_at-slot heads place slot.0 slot.1) (equal_from (name_of k) name Equal equal) in
      let earlier = λ (j : ℕ) (y : ClassHead) (h : j < place) (e : slice_get heads j ≡ Some y).
      let at = stands j (slice_get_within heads j y e) in
      let d : bytes_eq (name_of at.0) (name_of k) ≡ false = differ at.0 k at.1 within (λ i. let s : get_or names at.0 0 ≡ get_or names k 0 = ap (λ n. get_or names n 0) i in omega (arith, s, at.2, h)) in
      let moved : bytes_eq (name_at heads j) name ≡ false = subst (λ n. bytes_eq (name_at heads j) n ≡ false) same (subst (λ p. bytes_eq (name_at heads p) (name_of k) ≡ false) at.2 d) in
      subst (λ n. bytes_eq n name ≡ false) (name_at-slot heads j y e) moved in
      sym (position_from-is (is_named name) 0 heads place slot.0 slot.1 passes earlier ∙ ap Some (let n : 0 + place ≡ place = omega arith in n))

  pub not_in_order : (name : List ℕ) (low high : ℕ) → high ≤ low → ((k : ℕ) → k < low → compared (name_of k) name ≡ Less) → ((k : ℕ) → high ≤ k → k < length names → compared (name_of k) name ≡ Greater) → None ≡ place_of heads name
  not_in_order name low high met below above =
      sym (position_from-none (is_named name) 0 heads
      (λ j y e.
      let at = stands j (slice_get_within heads j y e) in
      let d : bytes_eq (name_of at.0) name ≡ false =
      elim (cases_lt at.0 low) [
        | inl before ↦ equal_from (name_of at.0) name Less (below at.0 before)
        | inr behind ↦ equal_from (name_of at.0) name Greater (above at.0 (omega arith) at.1)
      ] in
      let moved : bytes_eq (name_at heads j) name ≡ false = subst (λ p. bytes_eq (name_at heads p) name ≡ false) at.2 d in
      subst (λ n. bytes_eq n name ≡ false) (name_at-slot heads j y e) moved))
