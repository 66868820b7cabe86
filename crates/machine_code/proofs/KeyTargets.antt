-- Which target a key has.
use Rattle.std.specs.Prelude.{◌≡◌, ℕ, zero, suc, ◌+◌, ◌<◌, true, false, cond, List, [], ◌∷◌, slice_get, Some, refl, ℤ, pos, negsuc, ◌+ℤ◌, ◌-ℤ◌, ◌≤ℤ◌, ◌<ℤ◌, unsigned_abs}
use Rattle.std.proofs.Common.{sym, ap, ◌∙◌, arith, inl, inr}
use Rattle.std.proofs.lemmas.Bool.{eqb-true, eq-eqb, cases_Bool}
use Rattle.std.proofs.lemmas.Option.{slice_get_within}
use Rattle.std.proofs.lemmas.Int.{ints}
use Rattle.class_file.specs.Code.{numbered}
use Rattle.class_machine.specs.Numbers.{same_int}
use Rattle.class_machine.specs.Effect.{key_target}
use Rattle.machine_code.proofs.Numbered.{length-numbered, get_numbered}

pub same_int-true : (a b : ℤ) → same_int a b ≡ true → a ≡ b
same_int-true (pos a) (pos b) e = ap pos (eqb-true a b e)
same_int-true (negsuc a) (negsuc b) e = ap negsuc (eqb-true a b e)
same_int-true (pos a) (negsuc b) e = absurd cc
same_int-true (negsuc a) (pos b) e = absurd cc

pub same_int-same : (a b : ℤ) → a ≡ b → same_int a b ≡ true
same_int-same (pos a) (pos b) e = eq-eqb a b cc
same_int-same (negsuc a) (negsuc b) e = eq-eqb a b cc
same_int-same (pos a) (negsuc b) e = absurd cc
same_int-same (negsuc a) (pos b) e = absurd cc

pub same_int-apart : (a b : ℤ) → (a ≡ b → ⊥) → same_int a b ≡ false
same_int-apart a b apart = elim (cases_Bool (same_int a b)) [ inl same ↦ absurd (apart (same_int-true a b same)) | inr different ↦ different ]

here : (k x : ℤ) (s : ℕ) (rest : ℕ) → same_int k x ≡ true → cond (same_int k x) s rest ≡ s
here k x s rest e = ap (λ b. cond b s rest) e

later : (k x : ℤ) (s : ℕ) (rest : ℕ) → same_int k x ≡ false → cond (same_int k x) s rest ≡ rest
later k x s rest e = ap (λ b. cond b s rest) e

-- the first key that is the one
pub key_target-found : (ks : List ℤ) (x : ℤ) (s i : ℕ) (k : ℤ) → slice_get ks i ≡ Some k → k ≡ x → ((j : ℕ) (l : ℤ) → j < i → slice_get ks j ≡ Some l → l ≡ x → ⊥) → key_target ks x s ≡ s + i
key_target-found [] x s i k at same before = absurd cc
key_target-found (l ∷ ks) x s zero k at same before =
    here l x s (key_target ks x (suc s)) (same_int-same l x cc) ∙ (let e : s ≡ s + 0 = omega arith in e)
key_target-found (l ∷ ks) x s (suc i) k at same before =
    later l x s (key_target ks x (suc s)) (same_int-apart l x (before 0 l (omega arith) refl))
    ∙ key_target-found ks x (suc s) i k at same (λ j m lt is. before (suc j) m (omega arith) is)
    ∙ (let e : suc s + i ≡ s + suc i = omega arith in e)

pub key_target-none : (ks : List ℤ) (x : ℤ) (s : ℕ) → ((j : ℕ) (l : ℤ) → slice_get ks j ≡ Some l → l ≡ x → ⊥) → key_target ks x s ≡ 0
key_target-none [] x s none = refl
key_target-none (l ∷ ks) x s none =
    later l x s (key_target ks x (suc s)) (same_int-apart l x (none 0 l refl))
    ∙ key_target-none ks x (suc s) (λ j m is. none (suc j) m is)

-- the same of keys by their numbers
key_of : (n : ℕ) (f : ℕ → ℤ) (j : ℕ) (l : ℤ) → j < n → slice_get (numbered n f) j ≡ Some l → f j ≡ l
key_of n f j l lt at = let e = get_numbered n f j lt in cc

pub numbered_found : (n : ℕ) (f : ℕ → ℤ) (x : ℤ) (i : ℕ) → i < n → f i ≡ x → ((j : ℕ) → j < i → f j ≡ x → ⊥) → key_target (numbered n f) x 1 ≡ i + 1
numbered_found n f x i lt same before =
    key_target-found (numbered n f) x 1 i (f i) (get_numbered n f i lt) same
    (λ j l below at is. before j below (key_of n f j l (omega arith) at ∙ is))
    ∙ (let e : 1 + i ≡ i + 1 = omega arith in e)

pub numbered_none : (n : ℕ) (f : ℕ → ℤ) (x : ℤ) → ((j : ℕ) → j < n → f j ≡ x → ⊥) → key_target (numbered n f) x 1 ≡ 0
numbered_none n f x none =
    key_target-none (numbered n f) x 1
    (λ j l at is.
    let len = length-numbered n f in
    let within = slice_get_within (numbered n f) j l at in
    let lt : j < n = omega arith in
    none j lt (key_of n f j l lt at ∙ is))

-- ---- every number from low to high

abs_up : (a b : ℤ) → a ≤ℤ b → a +ℤ pos (unsigned_abs (b -ℤ a)) ≡ b
abs_up a b le = by (b -ℤ a) refl where
  by : (d : ℤ) → b -ℤ a ≡ d → a +ℤ pos (unsigned_abs d) ≡ b
  by (pos n) is = omega (arith, ints)
  by (negsuc n) is = absurd (omega (arith, ints))

same_distance : (low : ℤ) (i j : ℕ) → low +ℤ pos i ≡ low +ℤ pos j → i ≡ j
same_distance low i j same = omega (arith, ints)

pub in_range : (low high key : ℤ) (i : ℕ) → low ≤ℤ key → key ≤ℤ high → i ≡ unsigned_abs (key -ℤ low) → key_target (numbered (unsigned_abs (high -ℤ low) + 1) (λ j. low +ℤ pos j)) key 1 ≡ i + 1
in_range low high key i above below is =
    let to_key = abs_up low key above in
    let to_high = abs_up low high (omega (arith, ints)) in
    let here : low +ℤ pos i ≡ key = ap (λ (n : ℕ). low +ℤ pos n) is ∙ to_key in
    let within : i < unsigned_abs (high -ℤ low) + 1 = omega (arith, ints) in
    numbered_found (unsigned_abs (high -ℤ low) + 1) (λ j. low +ℤ pos j) key i within here
    (λ j before same. let e = same_distance low j i (same ∙ sym here) in omega arith)

pub below_range : (low high key : ℤ) → key <ℤ low → key_target (numbered (unsigned_abs (high -ℤ low) + 1) (λ j. low +ℤ pos j)) key 1 ≡ 0
below_range low high key under = numbered_none (unsigned_abs (high -ℤ low) + 1) (λ j. low +ℤ pos j) key (λ j within same. omega (arith, ints))

pub above_range : (low high key : ℤ) → low ≤ℤ high → high <ℤ key → key_target (numbered (unsigned_abs (high -ℤ low) + 1) (λ j. low +ℤ pos j)) key 1 ≡ 0
above_range low high key order over =
    let to_high = abs_up low high order in
    numbered_none (unsigned_abs (high -ℤ low) + 1) (λ j. low +ℤ pos j) key (λ j within same. omega (arith, ints))

pub same_range : (low low' high high' key : ℤ) → low ≡ low' → high ≡ high'
    → key_target (numbered (unsigned_abs (high -ℤ low) + 1) (λ j. low +ℤ pos j)) key 1 ≡ key_target (numbered (unsigned_abs (high' -ℤ low') + 1) (λ j. low' +ℤ pos j)) key 1
same_range low low' high high' key lows highs =
    ap (λ (l : ℤ). key_target (numbered (unsigned_abs (high -ℤ l) + 1) (λ j. l +ℤ pos j)) key 1) lows
    ∙ ap (λ (h : ℤ). key_target (numbered (unsigned_abs (h -ℤ low') + 1) (λ j. low' +ℤ pos j)) key 1) highs
