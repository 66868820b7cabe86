-- A test of each number below another.
use Rattle.std.proofs.Common.{◌≡◌, ℕ, zero, suc, ◌+◌, ◌-◌, ◌<◌, ◌≤◌, Bool, true, false, arith, inl, inr, add-one}
use Rattle.std.proofs.lemmas.Bool.{and_left, and_right, and_from, and_parts, cases_eq}
use Rattle.std.specs.Prelude.{List, ◌<ℤ◌}
use Rattle.std.proofs.lemmas.Int.{ints}
use Rattle.opcode_table.specs.Decoding.{each_below, keys_ascend, pair_count, pair_key, ascends_at}

pub each_more : (test : ℕ → Bool) (n m : ℕ) → m ≡ n + 1 → each_below n test ≡ true → test n ≡ true → each_below m test ≡ true
each_more test n m e below here = rw (e, add-one) (and_from (each_below n test) (test n) below here)

pub each_fails : (test : ℕ → Bool) (n i : ℕ) → i < n → test i ≡ false → each_below n test ≡ false
each_fails test zero i lt here = absurd (omega arith)
each_fails test (suc n) i lt here =
    elim (cases_eq i n) [
      | inl e ↦ and_right (each_below n test) (test n) (rw (← e) here)
      | inr ne ↦ and_left (each_below n test) (test n) (each_fails test n i (omega (arith, ne)) here)
    ]

pub each_fewer : (test : ℕ → Bool) (n m : ℕ) → m ≤ n → each_below n test ≡ true → each_below m test ≡ true
each_fewer test zero m le below = let e : m ≡ zero = omega arith in rw e below
each_fewer test (suc n) m le below =
    let both = and_parts (each_below n test) (test n) below in
    elim (cases_eq m (suc n)) [
      | inl e ↦ rw e below
      | inr ne ↦ each_fewer test n m (omega (arith, ne)) both.0
    ]

pub at_each : (test : ℕ → Bool) (n i : ℕ) → i < n → each_below n test ≡ true → test i ≡ true
at_each test zero i lt below = absurd (omega arith)
at_each test (suc n) i lt below =
    let both = and_parts (each_below n test) (test n) below in
    elim (cases_eq i n) [
      | inl e ↦ rw e both.1
      | inr ne ↦ at_each test n i (omega (arith, ne)) both.0
    ]

-- ---- the keys of a lookupswitch

pub key_next : (code : List ℕ) (table i : ℕ) → keys_ascend code table ≡ true → i + 1 < pair_count code table → pair_key code table i <ℤ pair_key code table (i + 1)
key_next code table i order lt =
    let next : ascends_at code table i ≡ true = at_each (λ k. ascends_at code table k) (pair_count code table - 1) i (omega arith) order in
    grind (arith, ints)
