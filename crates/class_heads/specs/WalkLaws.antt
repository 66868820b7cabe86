-- Laws of walks whose steps lead downward by a rank, as those of a list in which no class is a supertype of
-- itself do.
use Rattle.std.specs.Prelude.{◌≡◌, ℕ, zero, suc, ◌<◌, ◌≤◌, Bool, true, false, ◌||◌, ◌⊎◌, List, [], ◌∷◌, ◌++◌, length, slice_get, refl, nat_eq}
use Rattle.std.proofs.Common.{sym, ◌∙◌, ap, subst, inl, inr, arith}
use Rattle.std.specs.List.{filter, filter_map, flat_map, Contains, slice_index_or}
use Rattle.std.specs.Option.{option_to_list}
use Rattle.std.specs.Prelude.{Option, Some, None}
use Rattle.std.proofs.lemmas.Bool.{eqb-true, eq-eqb, false≢true}
use Rattle.std.proofs.lemmas.List.Elements.{filter_map-append}
use Rattle.std.proofs.lemmas.List.Folds.{list_any-append, Any-from_list_any, list_any-from_Any}
use Rattle.class_heads.specs.declared.types.ClassHead.{ClassHead}
use Rattle.class_heads.specs.Graph.{each_once, PathOf, Path, LiesOnCircle, walk}
use Rattle.class_heads.specs.Hierarchy.{superclass_name, super_names, place_of, superclass_at, supers_at, IsSubclass, superclasses, order, supertypes}
use Rattle.class_heads.specs.OnceLaws.{is_among, each_once-any, once_in_each, differs}

-- ---- elements

pub among-Contains : (xs : List ℕ) (x : ℕ) → is_among xs x ≡ true → Contains xs x
among-Contains xs x is =
    let found = Any-from_list_any (nat_eq x) xs is in
    (found.0, found.2, subst (λ (z : ℕ). slice_index_or xs found.0 z ≡ z) (sym (eqb-true x found.1 found.4)) found.3)

pub Contains-among : (xs : List ℕ) (x : ℕ) → Contains xs x → is_among xs x ≡ true
Contains-among xs x there = list_any-from_Any (nat_eq x) xs (there.0, x, there.1, there.2, eq-eqb x x refl)

or_true : (b : Bool) → (b || true) ≡ true
or_true true = refl
or_true false = refl

pub among-left : (xs ys : List ℕ) (x : ℕ) → is_among xs x ≡ true → is_among (xs ++ ys) x ≡ true
among-left xs ys x is = list_any-append (nat_eq x) xs ys ∙ ap (λ (b : Bool). b || is_among ys x) is

pub among-right : (xs ys : List ℕ) (x : ℕ) → is_among ys x ≡ true → is_among (xs ++ ys) x ≡ true
among-right xs ys x is = list_any-append (nat_eq x) xs ys ∙ ap (λ (b : Bool). is_among xs x || b) is ∙ or_true (is_among xs x)

either_true : (a b : Bool) → (a || b) ≡ true → (a ≡ true) ⊎ (b ≡ true)
either_true true b is = inl refl
either_true false b is = inr is

pub among-parts : (xs ys : List ℕ) (x : ℕ) → is_among (xs ++ ys) x ≡ true → (is_among xs x ≡ true) ⊎ (is_among ys x ≡ true)
among-parts xs ys x is = either_true (is_among xs x) (is_among ys x) (sym (list_any-append (nat_eq x) xs ys) ∙ is)

pub among-each : (f : ℕ → List ℕ) (xs : List ℕ) (y z : ℕ) → is_among xs y ≡ true → is_among (f y) z ≡ true → is_among (flat_map f xs) z ≡ true
among-each f [] y z there is = absurd (false≢true there)
among-each f (x ∷ xs) y z there is = by (among-each f xs y z) (either_true (nat_eq y x) (is_among xs y) there) where
  by : (is_among xs y ≡ true → is_among (f y) z ≡ true → is_among (flat_map f xs) z ≡ true) → (nat_eq y x ≡ true) ⊎ (is_among xs y ≡ true) → is_among (f x ++ flat_map f xs) z ≡ true
  by later (inl same) = among-left (f x) (flat_map f xs) z (subst (λ (w : ℕ). is_among (f w) z ≡ true) (eqb-true y x same) is)
  by later (inr rest) = among-right (f x) (flat_map f xs) z (later rest is)

pub among-some : (f : ℕ → List ℕ) (xs : List ℕ) (z : ℕ) → is_among (flat_map f xs) z ≡ true → (y : ℕ) × (is_among xs y ≡ true) × (is_among (f y) z ≡ true)
among-some f [] z is = absurd (false≢true is)
among-some f (x ∷ xs) z is = by (among-some f xs z) (among-parts (f x) (flat_map f xs) z is) where
  by : (is_among (flat_map f xs) z ≡ true → (y : ℕ) × (is_among xs y ≡ true) × (is_among (f y) z ≡ true)) → (is_among (f x) z ≡ true) ⊎ (is_among (flat_map f xs) z ≡ true) → (y : ℕ) × ((nat_eq y x || is_among xs y) ≡ true) × (is_among (f y) z ≡ true)
  by later (inl here) = (x, ap (λ (b : Bool). b || is_among xs x) (eq-eqb x x refl), here)
  by later (inr there) = let found = later there in (found.0, ap (λ (b : Bool). nat_eq found.0 x || b) found.1 ∙ or_true (nat_eq found.0 x), found.2)

pub each-same : (f g : ℕ → List ℕ) (xs : List ℕ) → ((x : ℕ) → is_among xs x ≡ true → f x ≡ g x) → flat_map f xs ≡ flat_map g xs
each-same f g [] same = refl
each-same f g (x ∷ xs) same =
    ap (λ (ys : List ℕ). ys ++ flat_map f xs) (same x (ap (λ (b : Bool). b || is_among xs x) (eq-eqb x x refl)))
    ∙ ap (λ (ys : List ℕ). g x ++ ys)
    (each-same f g xs (λ y there. same y (ap (λ (b : Bool). nat_eq y x || b) there ∙ or_true (nat_eq y x))))

-- ---- walks

pub walk-path : (steps : ℕ → List ℕ) (most place high : ℕ) → is_among (walk steps most place) high ≡ true → Path steps place high
walk-path steps zero place high is = absurd (false≢true is)
walk-path steps (suc most) place high is = by (walk-path steps most) (either_true (nat_eq high place) (is_among (flat_map (walk steps most) (steps place)) high) is) where
  by : ((p q : ℕ) → is_among (walk steps most p) q ≡ true → Path steps p q) → (nat_eq high place ≡ true) ⊎ (is_among (flat_map (walk steps most) (steps place)) high ≡ true) → Path steps place high
  by later (inl same) = (0, sym (eqb-true high place same))
  by later (inr there) =
      let found = among-some (walk steps most) (steps place) high there in
      let path = later found.0 high found.2 in
      (suc path.0, (found.0, among-Contains (steps place) found.0 found.1, path.1))

pub walk-same : (f g : ℕ → List ℕ) → ((place : ℕ) → f place ≡ g place) → (most place : ℕ) → walk f most place ≡ walk g most place
walk-same f g same zero place = refl
walk-same f g same (suc most) place =
    ap (λ (next : List ℕ). place ∷ flat_map (walk f most) next) (same place)
    ∙ ap (λ (rest : List ℕ). place ∷ rest) (each-same (walk f most) (walk g most) (g place) (λ next there. walk-same f g same most next))

-- what is built as a walk is one
pub is_walk : (steps : ℕ → List ℕ) (built : ℕ → ℕ → List ℕ) → ((place : ℕ) → built zero place ≡ []) → ((most place : ℕ) → built (suc most) place ≡ place ∷ flat_map (built most) (steps place)) → (most place : ℕ) → built most place ≡ walk steps most place
is_walk steps built none some zero place = none place
is_walk steps built none some (suc most) place =
    some most place
    ∙ ap (λ (rest : List ℕ). place ∷ rest) (each-same (built most) (walk steps most) (steps place) (λ next there. is_walk steps built none some most next))

pub path-same : (f g : ℕ → List ℕ) → ((place : ℕ) → f place ≡ g place) → (count low high : ℕ) → PathOf f count low high → PathOf g count low high
path-same f g same zero low high path = path
path-same f g same (suc count) low high path =
    (path.0, subst (λ (next : List ℕ). Contains next path.0) (same low) path.1, path-same f g same count path.0 high path.2)

module _ (steps : ℕ → List ℕ) (rank : ℕ → ℕ) (falls : (place next : ℕ) → Contains (steps place) next → rank next < rank place) where
  pub path-walk : (count most place high : ℕ) → PathOf steps count place high → rank place < most → is_among (walk steps most place) high ≡ true
  path-walk count zero place high path within = absurd (omega arith)
  path-walk zero (suc most) place high path within =
      ap (λ (b : Bool). b || is_among (flat_map (walk steps most) (steps place)) high) (eq-eqb high place (sym path))
  path-walk (suc count) (suc most) place high path within =
      let lower = falls place path.0 path.1 in
      let rest : is_among (walk steps most path.0) high ≡ true = path-walk count most path.0 high path.2 (omega arith) in
      ap (λ (b : Bool). nat_eq high place || b) (among-each (walk steps most) (steps place) path.0 high (Contains-among (steps place) path.0 path.1) rest)
      ∙ or_true (nat_eq high place)

  -- further steps than the rank add nothing
  pub walk-enough : (most more place : ℕ) → rank place < most → rank place < more → walk steps most place ≡ walk steps more place
  walk-enough zero more place within beyond = absurd (omega arith)
  walk-enough (suc most) zero place within beyond = absurd (omega arith)
  walk-enough (suc most) (suc more) place within beyond =
      ap (λ (rest : List ℕ). place ∷ rest)
      (each-same (walk steps most) (walk steps more) (steps place)
      (λ next there. let lower = falls place next (among-Contains (steps place) next there) in walk-enough most more next (omega arith) (omega arith)))

  pub walk-unfolds : (most place : ℕ) → rank place < most → walk steps most place ≡ place ∷ flat_map (walk steps most) (steps place)
  walk-unfolds zero place within = absurd (omega arith)
  walk-unfolds (suc most) place within =
      ap (λ (rest : List ℕ). place ∷ rest)
      (each-same (walk steps most) (walk steps (suc most)) (steps place)
      (λ next there. let lower = falls place next (among-Contains (steps place) next there) in walk-enough most (suc most) next (omega arith) (omega arith)))

  pub path-falls : (count place high : ℕ) → PathOf steps count place high → rank high ≤ rank place
  path-falls zero place high path = let same : rank place ≡ rank high = ap rank path in omega arith
  path-falls (suc count) place high path =
      let lower = falls place path.0 path.1 in
      let rest = path-falls count path.0 high path.2 in
      omega arith

  pub no_circle : (place : ℕ) → LiesOnCircle steps place → ⊥
  no_circle place circle =
      let lower = falls place circle.1.0 circle.1.1 in
      let rest = path-falls circle.0 circle.1.0 place circle.1.2 in
      omega arith

-- ---- classes

-- a superclass is a supertype
pub superclass-super : (heads : List ClassHead) (place next : ℕ) → Contains (superclass_at heads place) next → Contains (supers_at heads place) next
superclass-super heads place next there =
    among-Contains (supers_at heads place) next (by (slice_get heads place) (Contains-among (superclass_at heads place) next there))
  where
    by : (o : Option ClassHead) → is_among (filter_map (place_of heads) (superclass_name o)) next ≡ true → is_among (filter_map (place_of heads) (super_names o)) next ≡ true
    by None is = absurd (false≢true is)
    by (Some c) is =
        ap (λ (ps : List ℕ). is_among ps next) (filter_map-append (place_of heads) c.interfaces (option_to_list c.super_class))
        ∙ among-right (filter_map (place_of heads) c.interfaces) (filter_map (place_of heads) (option_to_list c.super_class)) next is

-- what the supertypes list, a path leads to
pub below-subclass : (heads : List ClassHead) (low high : ℕ) → is_among (supertypes heads low) high ≡ true → IsSubclass heads low high
below-subclass heads low high is = walk-path (supers_at heads) (length heads) low high (sym (each_once-any (nat_eq high) (order heads low)) ∙ is)

module _ (heads : List ClassHead) (rank : ℕ → ℕ) (falls : (place next : ℕ) → Contains (supers_at heads place) next → rank next < rank place)
    (place : ℕ) (within : rank place < length heads) where
  pub order-unfolds : order heads place ≡ place ∷ flat_map (order heads) (supers_at heads place)
  order-unfolds = walk-unfolds (supers_at heads) rank falls (length heads) place within

  pub superclasses-unfolds : superclasses heads place ≡ place ∷ flat_map (superclasses heads) (superclass_at heads place)
  superclasses-unfolds =
      walk-unfolds (superclass_at heads) rank (λ p next there. falls p next (superclass-super heads p next there)) (length heads) place within

  -- the class, and the supertypes of each of its direct ones, each once
  pub supertypes-unfolds : supertypes heads place ≡ each_once (place ∷ flat_map (supertypes heads) (supers_at heads place))
  supertypes-unfolds =
      ap each_once order-unfolds
      ∙ ap (λ (ps : List ℕ). place ∷ ps) (ap (filter (differs place)) (sym (once_in_each (order heads) (supers_at heads place))))

  -- what a path leads to, the supertypes list
  pub subclass-below : (high : ℕ) → IsSubclass heads place high → is_among (supertypes heads place) high ≡ true
  subclass-below high path =
      each_once-any (nat_eq high) (order heads place) ∙ path-walk (supers_at heads) rank falls path.0 (length heads) place high path.1 within
