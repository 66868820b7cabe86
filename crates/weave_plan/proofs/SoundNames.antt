-- Sound classes have different names, and none that are kept for what weaving makes.
use Rattle.std.proofs.Common.{◌≡◌, ◌≢◌, ℕ, zero, suc, ◌+◌, ◌<◌, ◌≤◌, Bool, true, false, cond, List, [], ◌∷◌, ◌++◌, length, map, get_or, Option, refl, ap, ◌∙◌, arith}
use Rattle.std.specs.Prelude.{nat_lt}
use Rattle.std.specs.List.{AllByRecursion, Contains, count_by}
use Rattle.std.specs.Option.{unwrap_or}
use Rattle.std.proofs.lemmas.Bool.{lt-ltb, false_from_ne_true}
use Rattle.std.proofs.lemmas.List.{get_or_default}
use Rattle.std.proofs.lemmas.List.Elements.{recursion_from_All}
use Rattle.std.proofs.lemmas.List.Sums.{sum_by-cons}
use Rattle.std.proofs.lemmas.Slice.Eq.{bytes_eq-Decides}
use Rattle.class_file.specs.declared.types.ClassFile.{ClassFile}
use Rattle.class_file.specs.Pool.{this_name}
use Rattle.class_heads.specs.declared.types.ClassHead.{ClassHead}
use Rattle.class_heads.specs.Heads.{head_of}
use Rattle.class_heads.specs.Hierarchy.{is_named}
use Rattle.class_heads.specs.Reserved.{is_reserved}
use Rattle.class_heads.specs.Faults.{world_heads, IsDuplicate, Never, IsSound}
use Rattle.jp_model.specs.Headline.{AreApart}

-- ---- how many pass a test

counted : {X : Type 0} (p : X → Bool) (x : X) (xs : List X) → count_by p (x ∷ xs) ≡ cond (p x) 1 0 + count_by p xs
counted p x xs = sum_by-cons (λ y. cond (p y) 1 0) x xs

counted_here : {X : Type 0} (p : X → Bool) (x : X) (xs : List X) → p x ≡ true → count_by p (x ∷ xs) ≡ 1 + count_by p xs
counted_here p x xs e = counted p x xs ∙ ap (λ (b : Bool). cond b 1 0 + count_by p xs) e

one_passes : {X : Type 0} (p : X → Bool) (xs : List X) (j : ℕ) (d : X) → j < length xs → p (get_or xs j d) ≡ true → 1 ≤ count_by p xs
one_passes p [] j d lt e = absurd (omega arith)
one_passes p (x ∷ xs) zero d lt e = let c = counted_here p x xs e in omega (arith, c)
one_passes p (x ∷ xs) (suc j) d lt e =
    let c = counted p x xs in
    let more : 1 ≤ count_by p xs = one_passes p xs j d (omega arith) e in
    omega (arith, c)

two_pass : {X : Type 0} (p : X → Bool) (xs : List X) (i j : ℕ) (d e : X) → i < j → j < length xs → p (get_or xs i d) ≡ true → p (get_or xs j e) ≡ true → 2 ≤ count_by p xs
two_pass p [] i j d e l lt g h = absurd (omega arith)
two_pass p (x ∷ xs) zero zero d e l lt g h = absurd (omega arith)
two_pass p (x ∷ xs) zero (suc j) d e l lt g h =
    let c = counted_here p x xs g in
    let more : 1 ≤ count_by p xs = one_passes p xs j e (omega arith) h in
    omega (arith, c)
two_pass p (x ∷ xs) (suc i) zero d e l lt g h = absurd (omega arith)
two_pass p (x ∷ xs) (suc i) (suc j) d e l lt g h =
    let c = counted p x xs in
    let more : 2 ≤ count_by p xs = two_pass p xs i j d e (omega arith) (omega arith) g h in
    omega (arith, c)

counted_first : {A X : Type 0} (p : X → Bool) (f : A → X) (xs : List A) (ys : List X) → count_by (λ a. p (f a)) xs ≤ count_by p (map f xs ++ ys)
counted_first p f [] ys = omega arith
counted_first p f (x ∷ xs) ys =
    let a = counted (λ a. p (f a)) x xs in
    let b = counted p (f x) (map f xs ++ ys) in
    let more = counted_first p f xs ys in
    omega (arith, a, b, more)

-- ---- names

own_name : (c : ClassFile) (name : List ℕ) → (head_of c).name ≡ name → is_named name (head_of c) ≡ true
own_name c name e = (bytes_eq-Decides (head_of c).name name).1 e

module _ (classes : List ClassFile) (library : List ClassHead) (woven : Bool) where
  abbrev name_at : ℕ → ClassFile → List ℕ
  name_at i d = (head_of (get_or classes i d)).name

  -- two given classes of one name
  twins : (i j : ℕ) (d e : ClassFile) → i < j → j < length classes → name_at i d ≡ name_at j e → (name : List ℕ) → name_at j e ≡ name → nat_lt 1 (count_by (is_named name) (world_heads classes library woven)) ≡ true
  twins i j d e l lt same name is =
      let p : ClassFile → Bool = λ c. is_named name (head_of c) in
      let two : 2 ≤ count_by p classes = two_pass p classes i j d e l lt (own_name (get_or classes i d) name (same ∙ is)) (own_name (get_or classes j e) name is) in
      let more = counted_first (is_named name) head_of classes library in
      lt-ltb 1 (count_by (is_named name) (world_heads classes library woven)) (omega (arith, two, more))

  standing : (i : ℕ) (d : ClassFile) → i < length classes → Contains classes (get_or classes i d)
  standing i d lt = (i, lt, get_or_default classes i (get_or classes i d) d lt)

  -- ---- sound classes

  -- the given classes have different names
  apart : Never classes library woven (IsDuplicate classes library woven) → (i j : ℕ) (d : ClassFile) → i < j → j < length classes → name_at i d ≡ name_at j d → ⊥
  apart never i j d l lt e = never (get_or classes j d) (standing j d lt) (twins i j d d l lt e (name_at j d) refl)

  -- none of them takes a name that is kept
  pub sound-unreserved : IsSound classes library woven → woven ≡ false → AllByRecursion (λ c. is_reserved c ≡ false) classes
  sound-unreserved s e =
      recursion_from_All (λ c. is_reserved c ≡ false) classes
      (λ k d lt. false_from_ne_true (is_reserved (get_or classes k d)) (λ r. s.unreserved (get_or classes k d) (standing k d lt) (rw e r)))

-- ---- names by recursion

abbrev AreNamedApart : List ClassFile → Type 0
AreNamedApart cs = (i j : ℕ) (d : ClassFile) → i < j → j < length cs → (head_of (get_or cs i d)).name ≡ (head_of (get_or cs j d)).name → ⊥

differs : (c : ClassFile) (cs : List ClassFile) → ((j : ℕ) → j < length cs → (head_of c).name ≡ (head_of (get_or cs j c)).name → ⊥) → AllByRecursion (λ y. this_name c ≢ y) (map this_name cs)
differs c [] h = tt
differs c (d ∷ cs) h =
    ((λ e. h 0 (omega arith) (ap (λ (o : Option (List ℕ)). unwrap_or o []) e)), differs c cs (λ j lt e. h (suc j) (omega arith) e))

each_apart : (cs : List ClassFile) → AreNamedApart cs → AreApart (map this_name cs)
each_apart [] h = tt
each_apart (c ∷ cs) h =
    (differs c cs (λ j lt e. h 0 (suc j) c (omega arith) (omega arith) e), each_apart cs (λ i j d l lt e. h (suc i) (suc j) d (omega arith) (omega arith) e))

-- the names of sound classes differ
pub sound-apart : (classes : List ClassFile) (library : List ClassHead) (woven : Bool) → IsSound classes library woven → AreApart (map this_name classes)
sound-apart classes library woven s = each_apart classes (apart classes library woven s.different)
