-- Laws of lists of places without repeats, for those who keep or search them.
use Rattle.std.specs.Prelude.{◌≡◌, ℕ, ◌==◌, Bool, true, false, not, ◌&&◌, ◌||◌, cond, ◌⊎◌, List, [], ◌∷◌, ◌++◌, Option, Some, None, refl, nat_eq}
use Rattle.std.proofs.Common.{sym, ◌∙◌, ap, inl, inr, append_assoc, append-nil}
use Rattle.std.specs.List.{filter, list_any, flat_map, fold}
use Rattle.std.specs.Option.{option_map, option_or}
use Rattle.std.proofs.lemmas.Bool.{eqb-true, eq-eqb, cases_Bool, false≢true}
use Rattle.std.proofs.lemmas.List.Elements.{filter-append}
use Rattle.class_heads.specs.Graph.{each_once}
use Rattle.class_heads.specs.Searches.{MemberPlace, in_class, first_found}

-- ---- filters

abbrev pub differs : ℕ → ℕ → Bool
differs place other = not (place == other)

pub filter-same : (p q : ℕ → Bool) → ((x : ℕ) → p x ≡ q x) → (xs : List ℕ) → filter p xs ≡ filter q xs
filter-same p q same [] = refl
filter-same p q same (x ∷ xs) =
    ap (λ (b : Bool). cond b (x ∷ filter p xs) (filter p xs)) (same x)
    ∙ ap (λ (ys : List ℕ). cond (q x) (x ∷ ys) ys) (filter-same p q same xs)

pub filter-filter : (p q : ℕ → Bool) (xs : List ℕ) → filter p (filter q xs) ≡ filter (λ x. q x && p x) xs
filter-filter p q [] = refl
filter-filter p q (x ∷ xs) = by (filter-filter p q xs) (q x) (p x) refl where
  by : filter p (filter q xs) ≡ filter (λ y. q y && p y) xs → (b c : Bool) → p x ≡ c → filter p (cond b (x ∷ filter q xs) (filter q xs)) ≡ cond (b && c) (x ∷ filter (λ y. q y && p y) xs) (filter (λ y. q y && p y) xs)
  by rest false c is = rest
  by rest true true is = ap (λ (d : Bool). cond d (x ∷ filter p (filter q xs)) (filter p (filter q xs))) is ∙ ap (λ (ys : List ℕ). x ∷ ys) rest
  by rest true false is = ap (λ (d : Bool). cond d (x ∷ filter p (filter q xs)) (filter p (filter q xs))) is ∙ rest

both_ways : (a b : Bool) → (a && b) ≡ (b && a)
both_ways true true = refl
both_ways true false = refl
both_ways false true = refl
both_ways false false = refl

pub filter-swap : (p q : ℕ → Bool) (xs : List ℕ) → filter p (filter q xs) ≡ filter q (filter p xs)
filter-swap p q xs =
    filter-filter p q xs ∙ filter-same (λ x. q x && p x) (λ x. p x && q x) (λ x. both_ways (q x) (p x)) xs ∙ sym (filter-filter q p xs)

-- what doesn't pass is no loss
pub filter-without : (p : ℕ → Bool) (x : ℕ) → p x ≡ false → (xs : List ℕ) → filter p (filter (differs x) xs) ≡ filter p xs
filter-without p x fails xs = filter-filter p (differs x) xs ∙ filter-same (λ y. differs x y && p y) p by xs where
  by : (y : ℕ) → (differs x y && p y) ≡ p y
  by y = elim (cases_Bool (x == y)) [
    | inl same ↦ ap (λ (b : Bool). not b && p y) same ∙ sym fails ∙ ap p (eqb-true x y same)
    | inr apart ↦ ap (λ (b : Bool). not b && p y) apart
  ]

-- ---- each once

pub each_once-filter : (p : ℕ → Bool) (xs : List ℕ) → filter p (each_once xs) ≡ each_once (filter p xs)
each_once-filter p [] = refl
each_once-filter p (x ∷ xs) = by (each_once-filter p xs) (p x) refl where
  by : filter p (each_once xs) ≡ each_once (filter p xs) → (b : Bool) → p x ≡ b → cond b (x ∷ filter p (filter (differs x) (each_once xs))) (filter p (filter (differs x) (each_once xs))) ≡ each_once (cond b (x ∷ filter p xs) (filter p xs))
  by rest true passes = ap (λ (ys : List ℕ). x ∷ ys) (filter-swap p (differs x) (each_once xs) ∙ ap (filter (differs x)) rest)
  by rest false fails = filter-without p x fails (each_once xs) ∙ rest

pub each_once-again : (xs : List ℕ) → each_once (each_once xs) ≡ each_once xs
each_once-again [] = refl
each_once-again (x ∷ xs) =
    ap (λ (ys : List ℕ). x ∷ ys)
    (sym (ap (filter (differs x)) (each_once-filter (differs x) (each_once xs)))
    ∙ filter-filter (differs x) (differs x) (each_once (each_once xs))
    ∙ filter-same (λ y. differs x y && differs x y) (differs x) (λ y. twice (differs x y)) (each_once (each_once xs))
    ∙ ap (filter (differs x)) (each_once-again xs))
  where
    twice : (b : Bool) → (b && b) ≡ b
    twice true = refl
    twice false = refl

-- ---- places that are added

abbrev pub is_among : List ℕ → ℕ → Bool
is_among places place = list_any (nat_eq place) places

-- the places, and then those others that aren't among them
abbrev pub added : List ℕ → List ℕ → List ℕ
added places others = places ++ filter (λ other. not (is_among places other)) others

any_skip : (t : ℕ → Bool) (x : ℕ) → t x ≡ false → (xs : List ℕ) → list_any t (filter (differs x) xs) ≡ list_any t xs
any_skip t x fails [] = refl
any_skip t x fails (y ∷ ys) = by (any_skip t x fails ys) (x == y) refl where
  by : list_any t (filter (differs x) ys) ≡ list_any t ys → (b : Bool) → (x == y) ≡ b → list_any t (cond (not b) (y ∷ filter (differs x) ys) (filter (differs x) ys)) ≡ (t y || list_any t ys)
  by rest true same = rest ∙ sym (ap (λ (b : Bool). b || list_any t ys) (sym (ap t (eqb-true x y same)) ∙ fails))
  by rest false apart = ap (λ (b : Bool). t y || b) rest

pub each_once-any : (t : ℕ → Bool) (xs : List ℕ) → list_any t (each_once xs) ≡ list_any t xs
each_once-any t [] = refl
each_once-any t (x ∷ xs) = by (each_once-any t xs) (t x) refl where
  by : list_any t (each_once xs) ≡ list_any t xs → (b : Bool) → t x ≡ b → (b || list_any t (filter (differs x) (each_once xs))) ≡ (b || list_any t xs)
  by rest true passes = refl
  by rest false fails = any_skip t x fails (each_once xs) ∙ rest

-- not among the first and the rest
not_either : (x y : ℕ) (b : Bool) → (not b && differs x y) ≡ not (nat_eq y x || b)
not_either x y b = elim (cases_Bool (x == y)) [
  | inl same ↦ let back : nat_eq y x ≡ true = eq-eqb y x (sym (eqb-true x y same)) in
      ap (λ (d : Bool). not b && not d) same ∙ none b ∙ sym (ap (λ (d : Bool). not (d || b)) back)
  | inr apart ↦ ap (λ (d : Bool). not b && not d) apart ∙ all b ∙ sym (ap (λ (d : Bool). not (d || b)) (away (cases_Bool (nat_eq y x)) apart))
] where
  none : (c : Bool) → (not c && false) ≡ false
  none true = refl
  none false = refl

  all : (c : Bool) → (not c && true) ≡ not c
  all true = refl
  all false = refl

  away : (nat_eq y x ≡ true) ⊎ (nat_eq y x ≡ false) → (x == y) ≡ false → nat_eq y x ≡ false
  away (inl same) apart = absurd (false≢true (sym apart ∙ eq-eqb x y (sym (eqb-true y x same))))
  away (inr other) apart = other

pub each_once-append : (xs ys : List ℕ) → each_once (xs ++ ys) ≡ each_once xs ++ filter (λ y. not (is_among xs y)) (each_once ys)
each_once-append [] ys = sym (all (each_once ys)) where
  all : (zs : List ℕ) → filter (λ y. true) zs ≡ zs
  all [] = refl
  all (z ∷ zs) = ap (λ (rest : List ℕ). z ∷ rest) (all zs)
each_once-append (x ∷ xs) ys =
    ap (λ (zs : List ℕ). x ∷ zs)
    (ap (filter (differs x)) (each_once-append xs ys)
    ∙ filter-append (differs x) (each_once xs) (filter (λ y. not (is_among xs y)) (each_once ys))
    ∙ ap (λ (zs : List ℕ). filter (differs x) (each_once xs) ++ zs)
    (filter-filter (differs x) (λ y. not (is_among xs y)) (each_once ys)
    ∙ filter-same (λ y. not (is_among xs y) && differs x y) (λ y. not (is_among (x ∷ xs) y)) (λ y. not_either x y (is_among xs y)) (each_once ys)))

pub added_once : (xs ys : List ℕ) → each_once (xs ++ ys) ≡ added (each_once xs) (each_once ys)
added_once xs ys =
    each_once-append xs ys
    ∙ ap (λ (zs : List ℕ). each_once xs ++ zs)
    (filter-same (λ y. not (is_among xs y)) (λ y. not (is_among (each_once xs) y)) (λ y. ap not (sym (each_once-any (nat_eq y) xs))) (each_once ys))

-- to drop the repeats of a part first changes nothing
pub once_left : (xs ys : List ℕ) → each_once (each_once xs ++ ys) ≡ each_once (xs ++ ys)
once_left xs ys =
    added_once (each_once xs) ys ∙ ap (λ (zs : List ℕ). added zs (each_once ys)) (each_once-again xs) ∙ sym (added_once xs ys)

pub once_right : (xs ys : List ℕ) → each_once (xs ++ each_once ys) ≡ each_once (xs ++ ys)
once_right xs ys = added_once xs (each_once ys) ∙ ap (added (each_once xs)) (each_once-again ys) ∙ sym (added_once xs ys)

pub once_in_each : (f : ℕ → List ℕ) (xs : List ℕ) → each_once (flat_map (λ x. each_once (f x)) xs) ≡ each_once (flat_map f xs)
once_in_each f [] = refl
once_in_each f (x ∷ xs) =
    once_left (f x) (flat_map (λ y. each_once (f y)) xs)
    ∙ added_once (f x) (flat_map (λ y. each_once (f y)) xs)
    ∙ ap (added (each_once (f x))) (once_in_each f xs) ∙ sym (added_once (f x) (flat_map f xs))

-- ---- searches

first_skip : (search : ℕ → Option ℕ) (x : ℕ) → search x ≡ None → (ys : List ℕ) → first_found search (filter (differs x) ys) ≡ first_found search ys
first_skip search x none [] = refl
first_skip search x none (y ∷ ys) = by (first_skip search x none ys) (x == y) refl where
  by : first_found search (filter (differs x) ys) ≡ first_found search ys → (b : Bool) → (x == y) ≡ b → first_found search (cond (not b) (y ∷ filter (differs x) ys) (filter (differs x) ys)) ≡ option_or (option_map (in_class y) (search y)) (first_found search ys)
  by rest true same =
      rest
      ∙ sym (ap (λ (o : Option ℕ). option_or (option_map (in_class y) o) (first_found search ys)) (sym (ap search (eqb-true x y same)) ∙ none))
  by rest false apart = ap (λ (o : Option MemberPlace). option_or (option_map (in_class y) (search y)) o) rest

-- a search finds the same where each place stands once
pub first_found-once : (search : ℕ → Option ℕ) (xs : List ℕ) → first_found search (each_once xs) ≡ first_found search xs
first_found-once search [] = refl
first_found-once search (x ∷ xs) = by (first_found-once search xs) (search x) refl where
  by : first_found search (each_once xs) ≡ first_found search xs → (o : Option ℕ) → search x ≡ o → option_or (option_map (in_class x) o) (first_found search (filter (differs x) (each_once xs))) ≡ option_or (option_map (in_class x) o) (first_found search xs)
  by rest (Some p) found = refl
  by rest None none = first_skip search x none (each_once xs) ∙ rest

pub first_found-filter-once : (search : ℕ → Option ℕ) (p : ℕ → Bool) (xs : List ℕ) → first_found search (filter p (each_once xs)) ≡ first_found search (filter p xs)
first_found-filter-once search p xs = ap (first_found search) (each_once-filter p xs) ∙ first_found-once search (filter p xs)

pub first_found-append : (search : ℕ → Option ℕ) (xs ys : List ℕ) → first_found search (xs ++ ys) ≡ option_or (first_found search xs) (first_found search ys)
first_found-append search [] ys = refl
first_found-append search (x ∷ xs) ys =
    ap (λ (o : Option MemberPlace). option_or (option_map (in_class x) (search x)) o) (first_found-append search xs ys) ∙ by (option_map (in_class x) (search x))
  where
    by : (o : Option MemberPlace) → option_or o (option_or (first_found search xs) (first_found search ys)) ≡ option_or (option_or o (first_found search xs)) (first_found search ys)
    by (Some m) = refl
    by None = refl

-- ---- a list that is put together

one_added : (b : Bool) (ps : List ℕ) (p : ℕ) → is_among ps p ≡ b → cond b ps (ps ++ p ∷ []) ≡ added ps (p ∷ [])
one_added true ps p is = sym (append-nil ps) ∙ sym (ap (λ (b : Bool). ps ++ cond (not b) (p ∷ []) []) is)
one_added false ps p is = sym (ap (λ (b : Bool). ps ++ cond (not b) (p ∷ []) []) is)

eq_swap : (a b : ℕ) → (a == b) ≡ (b == a)
eq_swap a b = elim (cases_Bool (a == b)) [
  | inl same ↦ same ∙ sym (eq-eqb b a (sym (eqb-true a b same)))
  | inr apart ↦ elim (cases_Bool (b == a)) [
    | inl same ↦ absurd (false≢true (sym apart ∙ eq-eqb a b (sym (eqb-true b a same))))
    | inr other ↦ apart ∙ sym other
  ]
]

among_swap : (ps : List ℕ) (p : ℕ) → list_any (λ other. other == p) ps ≡ is_among ps p
among_swap [] p = refl
among_swap (q ∷ ps) p =
    ap (λ (b : Bool). b || list_any (λ other. other == p) ps) (eq_swap q p) ∙ ap (λ (b : Bool). nat_eq p q || b) (among_swap ps p)

module _ (step : List ℕ → ℕ → List ℕ) (puts : (ps : List ℕ) (p : ℕ) → step ps p ≡ cond (list_any (λ other. other == p) ps) ps (ps ++ p ∷ [])) where
  fold_onto : (xs seen : List ℕ) → fold step (each_once seen) xs ≡ each_once (seen ++ xs)
  fold_onto [] seen = ap each_once (sym (append-nil seen))
  fold_onto (x ∷ xs) seen =
      ap (λ (acc : List ℕ). fold step acc xs)
      (puts (each_once seen) x
      ∙ ap (λ (b : Bool). cond b (each_once seen) (each_once seen ++ x ∷ [])) (among_swap (each_once seen) x)
      ∙ one_added (is_among (each_once seen) x) (each_once seen) x refl ∙ sym (added_once seen (x ∷ [])))
      ∙ fold_onto xs (seen ++ x ∷ []) ∙ ap each_once (append_assoc seen (x ∷ []) xs)

  -- to put each place behind the others unless it stands there gives each once
  pub fold_once : (xs : List ℕ) → fold step [] xs ≡ each_once xs
  fold_once xs = fold_onto xs []
