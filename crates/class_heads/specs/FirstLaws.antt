-- The first fault of classes is one alone.
use Rattle.std.specs.Prelude.{◌≡◌, ℕ, zero, suc, ◌+◌, ◌<◌, ◌≤◌, Bool, true, cond, List, [], ◌∷◌, map, length, take, Option, Some, unwrap_or, refl}
use Rattle.std.proofs.Common.{sym, ◌∙◌, ap, subst, inl, inr, arith, get_or}
use Rattle.std.specs.List.{count_by, Contains, slice_index_or}
use Rattle.std.specs.declared.cmp.Ordering.{Ordering}
use Rattle.std.specs.Ordering.{nat_cmp, is_eq, ordering_reverse}
use Rattle.std.specs.declared.cmp.Ordering.TheVariants.{Less, Equal, Greater}
use Rattle.std.specs.Cmp.Lexicographic.{slice_cmp, nat_list_cmp_total}
use Rattle.std.proofs.lemmas.Bool.{cases_lt, lt-ltb}
use Rattle.std.proofs.lemmas.List.{get_or-take, get_or_append_left, length-map, length-append, length-take-le}
use Rattle.std.proofs.lemmas.List.Sums.{count_by_more_yes, get_or-le-sum_by, sum_by-take-le}
use Rattle.std.proofs.lemmas.Map.Text.{is_eq-slice_cmp}
use Rattle.std.proofs.lemmas.Slice.Eq.{bytes_eq-Decides}
use Rattle.class_file.specs.declared.types.ClassFile.{ClassFile}
use Rattle.class_heads.specs.declared.types.ClassHead.{ClassHead}
use Rattle.class_heads.specs.declared.fault.WorldFault.{WorldFault}
use Rattle.class_heads.specs.declared.fault.WorldFault.TheVariants.{Duplicate, Reserved, MissingSuper, FinalSuper, Circle, Memory}
use Rattle.class_heads.specs.Heads.{head_of}
use Rattle.class_heads.specs.Hierarchy.{is_named}
use Rattle.class_heads.specs.Faults.{IsAtMost, missing_super, world_heads, IsDuplicate, Never, IsLeast, IsFirstFault}

-- ---- the order of names

at_most_same : (a b : List ℕ) → IsAtMost a b → IsAtMost b a → a ≡ b
at_most_same a b first second = by (slice_cmp nat_cmp a b) refl where
  by : (o : Ordering) → slice_cmp nat_cmp a b ≡ o → a ≡ b
  by Less less = absurd (second (nat_list_cmp_total.antisymm b a ∙ ap ordering_reverse less))
  by Equal equal = (bytes_eq-Decides a b).0 (sym (is_eq-slice_cmp a b) ∙ ap is_eq equal)
  by Greater greater = absurd (first greater)

-- ---- two of one name

two_count : {X : Type 0} (t : X → Bool) (xs : List X) (i j : ℕ) (d : X) → i < j → j < length xs → t (get_or xs i d) ≡ true → t (get_or xs j d) ≡ true → 1 < count_by t xs
two_count t xs i j d before within first second =
    let len : length (take j xs) ≡ j = length-take-le j xs (omega arith) in
    let one : t (get_or (take j xs) i d) ≡ true = ap t (get_or-take j xs i d before) ∙ first in
    let some : 1 ≤ count_by t (take j xs) = subst (λ (b : Bool). cond b 1 0 ≤ count_by t (take j xs)) one (get_or-le-sum_by (λ x. cond (t x) 1 0) (take j xs) i d (omega arith)) in
    let more : count_by t (take (j + 1) xs) ≡ count_by t (take j xs) + 1 = count_by_more_yes t xs j d within second in
    let all : count_by t (take (j + 1) xs) ≤ count_by t xs = sum_by-take-le (λ x. cond (t x) 1 0) xs (j + 1) in
    omega arith

module _ (classes : List ClassFile) (library : List ClassHead) (woven : Bool) where
  head_at : (k : ℕ) (c : ClassFile) → k < length classes → slice_index_or classes k c ≡ c → (d : ClassHead) → get_or (world_heads classes library woven) k d ≡ head_of c
  head_at k c within is d =
      get_or_append_left (map head_of classes) library d k (let len = length-map classes head_of in omega arith) ∙ mapped classes k within is
    where
      mapped : (cs : List ClassFile) (n : ℕ) → n < length cs → slice_index_or cs n c ≡ c → get_or (map head_of cs) n d ≡ head_of c
      mapped [] n below same = absurd (omega arith)
      mapped (x ∷ xs) zero below same = ap head_of same
      mapped (x ∷ xs) (suc n) below same = mapped xs n (omega arith) same

  world_length : length classes ≤ length (world_heads classes library woven)
  world_length =
      let both = length-append (map head_of classes) library in
      let len = length-map classes head_of in
      omega arith

  -- two given classes of one name are twins
  twins : (a b : ClassFile) (i j : ℕ) → i < j → j < length classes → slice_index_or classes i a ≡ a → slice_index_or classes j b ≡ b → (head_of a).name ≡ (head_of b).name → IsDuplicate classes library woven a
  twins a b i j before within at_a at_b same =
      let len = world_length in
      lt-ltb 1 _ (two_count (is_named (head_of a).name) (world_heads classes library woven) i j (head_of a) before (omega arith)
      (ap (is_named (head_of a).name) (head_at i a (omega arith) at_a (head_of a)) ∙ (bytes_eq-Decides (head_of a).name (head_of a).name).1 refl)
      (ap (is_named (head_of a).name) (head_at j b within at_b (head_of a)) ∙ (bytes_eq-Decides (head_of b).name (head_of a).name).1 (sym same)))

  given_same : Never classes library woven (IsDuplicate classes library woven) → (a b : ClassFile) → Contains classes a → Contains classes b → (head_of a).name ≡ (head_of b).name → a ≡ b
  given_same never a b in_a in_b same = elim (cases_lt in_a.0 in_b.0) [
    | inl before ↦ absurd (never a in_a (twins a b in_a.0 in_b.0 before in_b.1 in_a.2 in_b.2 same))
    | inr other ↦ elim (cases_lt in_b.0 in_a.0) [
      | inl before ↦ absurd (never b in_b (twins b a in_b.0 in_a.0 before in_a.1 in_b.2 in_a.2 (sym same)))
      | inr equal ↦
          let place : in_a.0 ≡ in_b.0 = omega arith in
          sym in_a.2 ∙ at_place classes in_a.0 in_a.1 ∙ ap (λ (k : ℕ). slice_index_or classes k b) place ∙ in_b.2
    ]
  ] where
    at_place : (cs : List ClassFile) (k : ℕ) → k < length cs → slice_index_or cs k a ≡ slice_index_or cs k b
    at_place [] k below = absurd (omega arith)
    at_place (c ∷ cs) zero below = refl
    at_place (c ∷ cs) (suc k) below = at_place cs k (omega arith)

  least_same : (Holds : ClassFile → Type 0) (a b : List ℕ) → IsLeast classes library woven Holds a → IsLeast classes library woven Holds b → a ≡ b
  least_same Holds a b first second =
      at_most_same a b
      (subst (λ (name : List ℕ). IsAtMost a name) second.named (first.least second.class second.given second.holds))
      (subst (λ (name : List ℕ). IsAtMost b name) first.named (second.least first.class first.given first.holds))

  -- the kinds are in order: what isn't there can't be the fault
  pub first_fault_same : (one other : WorldFault) → IsFirstFault classes library woven one → IsFirstFault classes library woven other → one ≡ other
  first_fault_same (Duplicate a) (Duplicate b) f g = ap Duplicate (least_same _ a b f g)
  first_fault_same (Duplicate a) (Reserved b) f g = absurd (g.0 f.class f.given f.holds)
  first_fault_same (Duplicate a) (MissingSuper b n) f g = absurd (g.0 f.class f.given f.holds)
  first_fault_same (Duplicate a) (FinalSuper b) f g = absurd (g.0 f.class f.given f.holds)
  first_fault_same (Duplicate a) (Circle b) f g = absurd (g.0 f.class f.given f.holds)
  first_fault_same (Reserved a) (Duplicate b) f g = absurd (f.0 g.class g.given g.holds)
  first_fault_same (Reserved a) (Reserved b) f g = ap Reserved (least_same _ a b f.1 g.1)
  first_fault_same (Reserved a) (MissingSuper b n) f g = absurd (g.1 f.1.class f.1.given f.1.holds)
  first_fault_same (Reserved a) (FinalSuper b) f g = absurd (g.1 f.1.class f.1.given f.1.holds)
  first_fault_same (Reserved a) (Circle b) f g = absurd (g.1 f.1.class f.1.given f.1.holds)
  first_fault_same (MissingSuper a m) (Duplicate b) f g = absurd (f.0 g.class g.given g.holds)
  first_fault_same (MissingSuper a m) (Reserved b) f g = absurd (f.1 g.1.class g.1.given g.1.holds)
  first_fault_same (MissingSuper a m) (MissingSuper b n) f g =
      let class : a ≡ b = least_same _ a b f.2.0 g.2.0 in
      let same : f.2.0.class ≡ g.2.0.class = given_same f.0 f.2.0.class g.2.0.class f.2.0.given g.2.0.given (f.2.0.named ∙ class ∙ sym g.2.0.named) in
      let name : Some m ≡ Some n = sym f.2.1 ∙ ap (λ (c : ClassFile). missing_super (world_heads classes library woven) (head_of c)) same ∙ g.2.1 in
      ap (λ (x : List ℕ). MissingSuper x m) class ∙ ap (MissingSuper b) (ap (λ (o : Option (List ℕ)). unwrap_or o []) name)
  first_fault_same (MissingSuper a m) (FinalSuper b) f g = absurd (g.2 f.2.0.class f.2.0.given f.2.0.holds)
  first_fault_same (MissingSuper a m) (Circle b) f g = absurd (g.2 f.2.0.class f.2.0.given f.2.0.holds)
  first_fault_same (FinalSuper a) (Duplicate b) f g = absurd (f.0 g.class g.given g.holds)
  first_fault_same (FinalSuper a) (Reserved b) f g = absurd (f.1 g.1.class g.1.given g.1.holds)
  first_fault_same (FinalSuper a) (MissingSuper b n) f g = absurd (f.2 g.2.0.class g.2.0.given g.2.0.holds)
  first_fault_same (FinalSuper a) (FinalSuper b) f g = ap FinalSuper (least_same _ a b f.3 g.3)
  first_fault_same (FinalSuper a) (Circle b) f g = absurd (g.3 f.3.class f.3.given f.3.holds)
  first_fault_same (Circle a) (Duplicate b) f g = absurd (f.0 g.class g.given g.holds)
  first_fault_same (Circle a) (Reserved b) f g = absurd (f.1 g.1.class g.1.given g.1.holds)
  first_fault_same (Circle a) (MissingSuper b n) f g = absurd (f.2 g.2.0.class g.2.0.given g.2.0.holds)
  first_fault_same (Circle a) (FinalSuper b) f g = absurd (f.3 g.3.class g.3.given g.3.holds)
  first_fault_same (Circle a) (Circle b) f g = ap Circle (least_same _ a b f.4 g.4)
  first_fault_same Memory other f g = absurd f
  first_fault_same one Memory f g = absurd g
