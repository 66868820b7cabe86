-- Tests of keys and jumps, as far as a loop has come.
use Rattle.std.proofs.Common.{◌≡◌, ℕ, zero, suc, ◌+◌, ◌-◌, ◌<◌, ◌≤◌, List, [], ◌∷◌, ◌++◌, length, get_or, take, arith, refl, sym, ap, subst, ◌∙◌, ℤ, pos, ◌+ℤ◌}
use Rattle.std.specs.Prelude.{◌<ℤ◌, ◌==◌, true, false}
use Rattle.std.specs.List.{AllZip, AllByRecursion}
use Rattle.std.proofs.lemmas.List.{take_all}
use Rattle.std.proofs.lemmas.Bool.{eqb-true}
use Rattle.class_file.specs.Code.{numbered}
use Rattle.code_layout.specs.Blocks.{Ascend, Count}
use Rattle.code_layout.proofs.Putting.{last_key}

-- ---- keys that count up

take_end : (keys : List ℤ) (i : ℕ) → i < length keys → take (suc i) keys ≡ take i keys ++ get_or keys i (pos 0) ∷ []
take_end [] i lt = absurd (omega arith)
take_end (k ∷ keys) zero lt = refl
take_end (k ∷ keys) (suc i) lt = ap (λ (l : List ℤ). k ∷ l) (take_end keys i (omega arith))

pub count_more : (f : ℕ → ℤ) (keys : List ℤ) (i : ℕ) → i < length keys → take i keys ≡ numbered i f → get_or keys i (pos 0) ≡ f i → take (i + 1) keys ≡ numbered (i + 1) f
count_more f keys i lt is here =
    let next : i + 1 ≡ suc i = omega arith in
    ap (λ (n : ℕ). take n keys) next ∙ take_end keys i lt ∙ ap (λ (l : List ℤ). l ++ get_or keys i (pos 0) ∷ []) is ∙ ap (λ (z : ℤ). numbered i f ++ z ∷ []) here ∙ ap (λ (n : ℕ). numbered n f) (sym next)

pub count_all : (keys : List ℤ) (i : ℕ) → 0 < length keys → i ≡ length keys → take i keys ≡ numbered i (λ j. get_or keys 0 (pos 0) +ℤ pos j) → Count keys
count_all [] i some end is = absurd (omega arith)
count_all (k ∷ keys) i some end is =
    sym (take_all i (k ∷ keys) (omega arith)) ∙ is ∙ ap (λ (n : ℕ). numbered n (λ j. k +ℤ pos j)) end

pub count_at : (keys : List ℤ) (i : ℕ) → Count keys → i < length keys → get_or keys i (pos 0) ≡ get_or keys 0 (pos 0) +ℤ pos i
count_at [] i counts lt = absurd counts
count_at (k ∷ keys) i counts lt = ap (λ (l : List ℤ). get_or l i (pos 0)) counts ∙ last_key (λ n. pos n) (length (k ∷ keys)) (λ j. k +ℤ pos j) i (pos 0) lt

-- ---- keys that ascend

ascend_next : (keys : List ℤ) (i : ℕ) → suc i < length keys → Ascend (take (suc i) keys) → get_or keys i (pos 0) <ℤ get_or keys (suc i) (pos 0) → Ascend (take (suc (suc i)) keys)
ascend_next [] i lt so_far here = absurd (omega arith)
ascend_next (a ∷ []) i lt so_far here = absurd (omega arith)
ascend_next (a ∷ b ∷ keys) zero lt so_far here = (here, tt)
ascend_next (a ∷ b ∷ keys) (suc i) lt so_far here = (so_far.0, ascend_next (b ∷ keys) i (omega arith) so_far.1 here)

pub ascend_more : (keys : List ℤ) (i : ℕ) → 1 ≤ i → i < length keys → Ascend (take i keys) → get_or keys (i - 1) (pos 0) <ℤ get_or keys i (pos 0) → Ascend (take (i + 1) keys)
ascend_more keys zero some lt so_far here = absurd (omega arith)
ascend_more keys (suc i) some lt so_far here =
    let back : suc i - 1 ≡ i = omega arith in let next : suc i + 1 ≡ suc (suc i) = omega arith in
    subst (λ (n : ℕ). Ascend (take n keys)) (sym next) (ascend_next keys i lt so_far (subst (λ (n : ℕ). get_or keys n (pos 0) <ℤ get_or keys (suc i) (pos 0)) back here))

pub ascend_one : (keys : List ℤ) → Ascend (take 1 keys)
ascend_one [] = tt
ascend_one (k ∷ keys) = tt

ascend_step : (keys : List ℤ) (i : ℕ) → Ascend keys → suc i < length keys → get_or keys i (pos 0) <ℤ get_or keys (suc i) (pos 0)
ascend_step [] i all lt = absurd (omega arith)
ascend_step (a ∷ []) i all lt = absurd (omega arith)
ascend_step (a ∷ b ∷ keys) zero all lt = all.0
ascend_step (a ∷ b ∷ keys) (suc i) all lt = ascend_step (b ∷ keys) i all.1 (omega arith)

pub ascend_at : (keys : List ℤ) (i : ℕ) → 1 ≤ i → i < length keys → Ascend keys → get_or keys (i - 1) (pos 0) <ℤ get_or keys i (pos 0)
ascend_at keys zero some lt all = absurd (omega arith)
ascend_at keys (suc i) some lt all = let back : i ≡ suc i - 1 = omega arith in subst (λ (n : ℕ). get_or keys n (pos 0) <ℤ get_or keys (suc i) (pos 0)) back (ascend_step keys i all lt)

pub ascend_all : (keys : List ℤ) (i : ℕ) → length keys ≤ i → Ascend (take i keys) → Ascend keys
ascend_all keys i le so_far = subst Ascend (take_all i keys le) so_far

-- ---- pairs

module _ {A B : Type 0} (R : A → B → Type 0) where
  zip_next : (xs : List A) (ys : List B) (i : ℕ) (x dx : A) (y dy : B) → i < length xs → x ≡ get_or xs i dx → i < length ys → y ≡ get_or ys i dy → AllZip R (take i xs) (take i ys) → R x y → AllZip R (take (suc i) xs) (take (suc i) ys)
  zip_next [] ys i x dx y dy lt is lt' is' so_far here = absurd (omega arith)
  zip_next (a ∷ xs) [] i x dx y dy lt is lt' is' so_far here = absurd (omega arith)
  zip_next (a ∷ xs) (b ∷ ys) zero x dx y dy lt is lt' is' so_far here = (subst (λ (p : A). R p b) is (subst (R x) is' here), tt)
  zip_next (a ∷ xs) (b ∷ ys) (suc i) x dx y dy lt is lt' is' so_far here = (so_far.0, zip_next xs ys i x dx y dy (omega arith) is (omega arith) is' so_far.1 here)

  pub pairs_more : (xs : List A) (ys : List B) (i : ℕ) (x dx : A) (y dy : B) → i < length xs → x ≡ get_or xs i dx → i < length ys → y ≡ get_or ys i dy → AllZip R (take i xs) (take i ys) → R x y → AllZip R (take (i + 1) xs) (take (i + 1) ys)
  pairs_more xs ys i x dx y dy lt is lt' is' so_far here =
      let next : suc i ≡ i + 1 = omega arith in
      subst (λ (n : ℕ). AllZip R (take n xs) (take n ys)) next (zip_next xs ys i x dx y dy lt is lt' is' so_far here)

  pub pairs_whole : (xs : List A) (ys : List B) (i : ℕ) → length xs ≤ i → length ys ≤ i → AllZip R (take i xs) (take i ys) → AllZip R xs ys
  pairs_whole xs ys i le le' so_far = subst (λ (l : List A). AllZip R l ys) (take_all i xs le) (subst (AllZip R (take i xs)) (take_all i ys le') so_far)

  pub pairs_at : (xs : List A) (ys : List B) (i : ℕ) (x dx : A) (y dy : B) → i < length xs → x ≡ get_or xs i dx → i < length ys → y ≡ get_or ys i dy → AllZip R xs ys → R x y
  pairs_at [] ys i x dx y dy lt is lt' is' all = absurd (omega arith)
  pairs_at (a ∷ xs) [] i x dx y dy lt is lt' is' all = absurd (omega arith)
  pairs_at (a ∷ xs) (b ∷ ys) zero x dx y dy lt is lt' is' all = subst (λ (p : A). R p y) (sym is) (subst (R a) (sym is') all.0)
  pairs_at (a ∷ xs) (b ∷ ys) (suc i) x dx y dy lt is lt' is' all = pairs_at xs ys i x dx y dy (omega arith) is (omega arith) is' all.1

  pub pairs_count : (xs : List A) (ys : List B) → AllZip R xs ys → length xs ≡ length ys
  pairs_count [] [] all = refl
  pairs_count [] (y ∷ ys) all = absurd all
  pairs_count (x ∷ xs) [] all = absurd all
  pairs_count (x ∷ xs) (y ∷ ys) all = ap suc (pairs_count xs ys all.1)

-- ---- elements

module _ {A : Type 0} (P : A → Type 0) where
  all_next : (xs : List A) (i : ℕ) (x d : A) → i < length xs → x ≡ get_or xs i d → AllByRecursion P (take i xs) → P x → AllByRecursion P (take (suc i) xs)
  all_next [] i x d lt is so_far here = absurd (omega arith)
  all_next (a ∷ xs) zero x d lt is so_far here = (subst P is here, tt)
  all_next (a ∷ xs) (suc i) x d lt is so_far here = (so_far.0, all_next xs i x d (omega arith) is so_far.1 here)

  pub all_more : (xs : List A) (i : ℕ) (x d : A) → i < length xs → x ≡ get_or xs i d → AllByRecursion P (take i xs) → P x → AllByRecursion P (take (i + 1) xs)
  all_more xs i x d lt is so_far here = let next : suc i ≡ i + 1 = omega arith in subst (λ (n : ℕ). AllByRecursion P (take n xs)) next (all_next xs i x d lt is so_far here)

  pub all_whole : (xs : List A) (i : ℕ) → length xs ≤ i → AllByRecursion P (take i xs) → AllByRecursion P xs
  all_whole xs i le so_far = subst (AllByRecursion P) (take_all i xs le) so_far

  pub all_of : (xs : List A) (i : ℕ) (x d : A) → i < length xs → x ≡ get_or xs i d → AllByRecursion P xs → P x
  all_of [] i x d lt is all = absurd (omega arith)
  all_of (a ∷ xs) zero x d lt is all = subst P (sym is) all.0
  all_of (a ∷ xs) (suc i) x d lt is all = all_of xs i x d (omega arith) is all.1

pub count_some : (keys : List ℤ) → Count keys → true ≡ (length keys == 0) → ⊥
count_some [] counts none = counts
count_some (k ∷ keys) counts none = let e = eqb-true (length (k ∷ keys)) 0 (sym none) in omega arith

pub some_keys : (n : ℕ) → false ≡ (n == 0) → 0 < n
some_keys zero is = absurd cc
some_keys (suc n) is = omega arith
