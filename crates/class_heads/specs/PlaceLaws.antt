-- Laws of the place of a class in a list: it is the first of its name.
use Rattle.std.specs.Prelude.{◌≡◌, ℕ, ◌+◌, ◌<◌, ◌≤◌, Bool, true, false, ◌||◌, cond, ◌⊎◌, List, [], ◌∷◌, map, length, slice_get, Option, Some, None, is_some, unwrap_or, option_and_then, refl, nat_lt, nat_eq}
use Rattle.std.proofs.Common.{sym, ◌∙◌, ap, inl, inr, arith}
use Rattle.std.specs.List.{position_from, position_or_len, filter_map, cons_option, slice_index_or}
use Rattle.std.specs.Str.{bytes_eq}
use Rattle.std.proofs.lemmas.Bool.{cases_Bool, false≢true, eqb-true, ltb-true, ltb-false}
use Rattle.std.proofs.lemmas.List.{length-map}
use Rattle.std.proofs.lemmas.List.Sums.{fails_before_first, passes_at_first, position_or_len_is}
use Rattle.std.proofs.lemmas.List.Folds.{find_at}
use Rattle.std.proofs.lemmas.Iterator.Adapters.{position_from-zero}
use Rattle.std.proofs.lemmas.Option.{slice_get-map, slice_get_past, unwrap_or-slice_get}
use Rattle.std.proofs.lemmas.Slice.Eq.{bytes_eq-Decides}
use Rattle.class_heads.specs.declared.types.ClassHead.{ClassHead}
use Rattle.class_heads.specs.Hierarchy.{is_named, class_names, class_named, place_of, name_at, supers_at, super_names}
use Rattle.class_heads.specs.OnceLaws.{is_among}

-- ---- the first place that passes

position-cases : {X : Type 0} (t : X → Bool) (xs : List X) → ((position_from t 0 xs ≡ Some (position_or_len t xs)) × (position_or_len t xs < length xs)) ⊎ ((position_from t 0 xs ≡ None) × (length xs ≤ position_or_len t xs))
position-cases t xs =
    elim (cases_Bool (nat_lt (position_or_len t xs) (length xs))) [
      | inl within ↦ inl (sym (position_from-zero t xs) ∙ ap (λ (b : Bool). cond b (Some (position_or_len t xs)) None) within, ltb-true (position_or_len t xs) (length xs) within)
      | inr past ↦ inr (sym (position_from-zero t xs) ∙ ap (λ (b : Bool). cond b (Some (position_or_len t xs)) None) past, ltb-false (position_or_len t xs) (length xs) past)
    ]

position-map : {X Y : Type 0} (f : X → Y) (t : Y → Bool) (i : ℕ) (xs : List X) → position_from (λ x. t (f x)) i xs ≡ position_from t i (map f xs)
position-map f t i [] = refl
position-map f t i (x ∷ xs) = ap (λ (o : Option ℕ). cond (t (f x)) (Some i) o) (position-map f t (i + 1) xs)

some_same : (a b : ℕ) → Some a ≡ Some b → a ≡ b
some_same a b same = ap (λ (o : Option ℕ). unwrap_or o a) same

some_none : (a : ℕ) → Some a ≡ None → ⊥
some_none a same = false≢true (sym (ap is_some same))

module _ (heads : List ClassHead) where
  pub name_at-get : (place : ℕ) → name_at heads place ≡ slice_index_or (class_names heads) place []
  name_at-get place =
      ap (λ (o : Option (List ℕ)). unwrap_or o []) (sym (slice_get-map (λ (c : ClassHead). c.name) heads place))
      ∙ unwrap_or-slice_get (class_names heads) place []

  names_length : length (class_names heads) ≡ length heads
  names_length = length-map heads (λ (c : ClassHead). c.name)

  by_names : (name : List ℕ) → place_of heads name ≡ position_from (λ other. bytes_eq other name) 0 (class_names heads)
  by_names name = position-map (λ (c : ClassHead). c.name) (λ other. bytes_eq other name) 0 heads

  found : (name : List ℕ) (place : ℕ) → place_of heads name ≡ Some place → (position_or_len (λ other. bytes_eq other name) (class_names heads) ≡ place) × (place < length heads)
  found name place is = by (position-cases (λ other. bytes_eq other name) (class_names heads)) where
    by : ((position_from (λ other. bytes_eq other name) 0 (class_names heads) ≡ Some (position_or_len (λ other. bytes_eq other name) (class_names heads))) × (position_or_len (λ other. bytes_eq other name) (class_names heads) < length (class_names heads)))
        ⊎ ((position_from (λ other. bytes_eq other name) 0 (class_names heads) ≡ None) × (length (class_names heads) ≤ position_or_len (λ other. bytes_eq other name) (class_names heads)))
        → (position_or_len (λ other. bytes_eq other name) (class_names heads) ≡ place) × (place < length heads)
    by (inl there) =
        let same : position_or_len (λ other. bytes_eq other name) (class_names heads) ≡ place = some_same _ _ (sym there.0 ∙ sym (by_names name) ∙ is) in
        (same, let len = names_length in let below = there.1 in omega arith)
    by (inr none) = absurd (some_none place (sym is ∙ by_names name ∙ none.0))

  pub place-within : (name : List ℕ) (place : ℕ) → place_of heads name ≡ Some place → place < length heads
  place-within name place is = (found name place is).1

  pub place-named : (name : List ℕ) (place : ℕ) → place_of heads name ≡ Some place → name_at heads place ≡ name
  place-named name place is =
      let at = found name place is in
      let len = names_length in
      let below : position_or_len (λ other. bytes_eq other name) (class_names heads) < length (class_names heads) = let same = at.0 in let within = at.1 in omega arith in
      name_at-get place ∙ ap (λ (k : ℕ). slice_index_or (class_names heads) k []) (sym at.0)
      ∙ (bytes_eq-Decides (slice_index_or (class_names heads) (position_or_len (λ other. bytes_eq other name) (class_names heads)) []) name).0
      (passes_at_first (λ other. bytes_eq other name) (class_names heads) [] below)

  -- no class before it has the name
  pub place-first : (name : List ℕ) (place : ℕ) → place_of heads name ≡ Some place → (k : ℕ) → k < place → name_at heads k ≡ name → ⊥
  place-first name place is k before same =
      let at = found name place is in
      let below : k < position_or_len (λ other. bytes_eq other name) (class_names heads) = let here = at.0 in omega arith in
      false≢true
      (sym (fails_before_first (λ other. bytes_eq other name) (class_names heads) k [] below)
      ∙ (bytes_eq-Decides (slice_index_or (class_names heads) k []) name).1 (sym (name_at-get k) ∙ same))

  -- the first class of the name is at its place
  pub place-is : (name : List ℕ) (place : ℕ) → place < length heads → name_at heads place ≡ name → ((k : ℕ) → k < place → name_at heads k ≡ name → ⊥) → place_of heads name ≡ Some place
  place-is name place within named first =
      let len = names_length in
      let at : position_or_len (λ other. bytes_eq other name) (class_names heads) ≡ place =
      position_or_len_is (λ other. bytes_eq other name) (class_names heads) place [] (omega arith)
      (λ k below. differs (slice_index_or (class_names heads) k []) (λ same. first k below (name_at-get k ∙ same)))
      (λ below. (bytes_eq-Decides (slice_index_or (class_names heads) place []) name).1 (sym (name_at-get place) ∙ named)) in
      by at (position-cases (λ other. bytes_eq other name) (class_names heads))
    where
      differs : (other : List ℕ) → (other ≡ name → ⊥) → bytes_eq other name ≡ false
      differs other apart = elim (cases_Bool (bytes_eq other name)) [ inl same ↦ absurd (apart ((bytes_eq-Decides other name).0 same)) | inr different ↦ different ]

      by : position_or_len (λ other. bytes_eq other name) (class_names heads) ≡ place
          → ((position_from (λ other. bytes_eq other name) 0 (class_names heads) ≡ Some (position_or_len (λ other. bytes_eq other name) (class_names heads))) × (position_or_len (λ other. bytes_eq other name) (class_names heads) < length (class_names heads)))
          ⊎ ((position_from (λ other. bytes_eq other name) 0 (class_names heads) ≡ None) × (length (class_names heads) ≤ position_or_len (λ other. bytes_eq other name) (class_names heads)))
          → place_of heads name ≡ Some place
      by at (inl there) = by_names name ∙ there.0 ∙ ap (λ (k : ℕ). Some k) at
      by at (inr none) = let len = names_length in let past = none.1 in absurd (omega arith)

  -- a name that has no place is that of no class
  pub place-none : (name : List ℕ) → place_of heads name ≡ None → (k : ℕ) → k < length heads → name_at heads k ≡ name → ⊥
  place-none name is k within named = by (position-cases (λ other. bytes_eq other name) (class_names heads)) where
    by : ((position_from (λ other. bytes_eq other name) 0 (class_names heads) ≡ Some (position_or_len (λ other. bytes_eq other name) (class_names heads))) × (position_or_len (λ other. bytes_eq other name) (class_names heads) < length (class_names heads)))
        ⊎ ((position_from (λ other. bytes_eq other name) 0 (class_names heads) ≡ None) × (length (class_names heads) ≤ position_or_len (λ other. bytes_eq other name) (class_names heads)))
        → ⊥
    by (inl there) = some_none _ (sym there.0 ∙ sym (by_names name) ∙ is)
    by (inr none) =
        let len = names_length in let past = none.1 in
        let below : k < position_or_len (λ other. bytes_eq other name) (class_names heads) = omega arith in
        false≢true
        (sym (fails_before_first (λ other. bytes_eq other name) (class_names heads) k [] below)
        ∙ (bytes_eq-Decides (slice_index_or (class_names heads) k []) name).1 (sym (name_at-get k) ∙ named))

  -- the class of a name is the one at its place
  pub class_named-place : (name : List ℕ) → class_named heads name ≡ option_and_then (slice_get heads) (place_of heads name)
  class_named-place name = find_at (is_named name) heads ∙ by (position-cases (is_named name) heads) where
    by : ((position_from (is_named name) 0 heads ≡ Some (position_or_len (is_named name) heads)) × (position_or_len (is_named name) heads < length heads))
        ⊎ ((position_from (is_named name) 0 heads ≡ None) × (length heads ≤ position_or_len (is_named name) heads))
        → slice_get heads (position_or_len (is_named name) heads) ≡ option_and_then (slice_get heads) (place_of heads name)
    by (inl there) = sym (ap (option_and_then (slice_get heads)) there.0)
    by (inr none) = slice_get_past heads (position_or_len (is_named name) heads) none.1 ∙ sym (ap (option_and_then (slice_get heads)) none.0)

  -- steps lead to classes of the list
  pub places-within : (names : List (List ℕ)) (place : ℕ) → is_among (filter_map (place_of heads) names) place ≡ true → place < length heads
  places-within [] place is = absurd (false≢true is)
  places-within (name ∷ names) place is = by (places-within names place) (place_of heads name) refl is where
    by : (is_among (filter_map (place_of heads) names) place ≡ true → place < length heads) → (o : Option ℕ) → place_of heads name ≡ o → is_among (cons_option o (filter_map (place_of heads) names)) place ≡ true → place < length heads
    by later None none there = later there
    by later (Some k) at there = elim (cases_Bool (nat_eq place k)) [
      | inl same ↦ let here = place-within name k at in let equal = eqb-true place k same in omega arith
      | inr apart ↦ later (sym (ap (λ (b : Bool). b || is_among (filter_map (place_of heads) names) place) apart) ∙ there)
    ]

  pub supers-within : (low high : ℕ) → is_among (supers_at heads low) high ≡ true → high < length heads
  supers-within low high is = places-within (super_names (slice_get heads low)) high is
