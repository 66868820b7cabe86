-- A number is that of one member.
use Rattle.std.specs.Prelude.{◌≡◌, ℕ, zero, suc, ◌+◌, ◌-◌, ◌<◌, ◌≤◌, List, length}
use Rattle.std.proofs.Common.{get_or, ap, ◌∙◌, subst, arith, inl, inr}
use Rattle.std.specs.List.{sum}
use Rattle.std.proofs.lemmas.Bool.{cases_lt}
use Rattle.std.proofs.lemmas.List.{take_all}
use Rattle.std.proofs.lemmas.List.Sums.{sum_by_more}
use Rattle.class_heads.specs.Searches.{MemberPlace, in_class}
use Rattle.class_heads.specs.Numbers.{first_number, IsNumbered}

next_number : (counts : List ℕ) (place : ℕ) → place < length counts → first_number counts (place + 1) ≡ first_number counts place + get_or counts place 0
next_number counts place h = sum_by_more (λ x. x) counts place 0 h

last_number : (counts : List ℕ) (place : ℕ) → length counts ≤ place → first_number counts place ≡ sum counts
last_number counts place h = ap sum (take_all place counts h)

step_up : (counts : List ℕ) (place : ℕ) → first_number counts place ≤ first_number counts (place + 1)
step_up counts place =
    elim (cases_lt place (length counts)) [
      | inl h ↦ let e = next_number counts place h in omega arith
      | inr h ↦ let e = last_number counts place h in let f = last_number counts (place + 1) (omega arith) in omega arith
    ]

-- the numbers rise with the places
rises : (counts : List ℕ) (i more : ℕ) → first_number counts i ≤ first_number counts (i + more)
rises counts i zero = let e : i ≡ i + 0 = omega arith in subst (λ j. first_number counts i ≤ first_number counts j) e (omega arith)
rises counts i (suc more) =
    let before = rises counts i more in
    let next = step_up counts (i + more) in
    let e : i + more + 1 ≡ i + suc more = omega arith in
    subst (λ j. first_number counts i ≤ first_number counts j) e (omega (arith, before, next))

-- a member of a class before another has a lesser number
less_before : (counts : List ℕ) (number : ℕ) (m n : MemberPlace) → IsNumbered counts number m → IsNumbered counts number n → m.class < n.class → ⊥
less_before counts number m n one other before =
    let more : ℕ = n.class - (m.class + 1) in
    let up = rises counts (m.class + 1) more in
    let e : m.class + 1 + more ≡ n.class = omega arith in
    let up' : first_number counts (m.class + 1) ≤ first_number counts n.class = subst (λ j. first_number counts (m.class + 1) ≤ first_number counts j) e up in
    let next = next_number counts m.class one.known in
    omega (arith, one.within, one.numbered, other.numbered)

same_place : (a b p q : ℕ) → a ≡ b → p ≡ q → in_class a p ≡ in_class b q
same_place a b p q e f = ap (λ x. in_class x p) e ∙ ap (in_class b) f

pub one_numbered : (counts : List ℕ) (number : ℕ) (m n : MemberPlace) → IsNumbered counts number m → IsNumbered counts number n → m ≡ n
one_numbered counts number m n one other =
    elim (cases_lt m.class n.class) [
      | inl h ↦ absurd (less_before counts number m n one other h)
      | inr h ↦ elim (cases_lt n.class m.class) [
        | inl k ↦ absurd (less_before counts number n m other one k)
        | inr k ↦
            let classes : m.class ≡ n.class = omega arith in
            let firsts : first_number counts m.class ≡ first_number counts n.class = ap (first_number counts) classes in
            let positions : m.position ≡ n.position = omega (arith, one.numbered, other.numbered) in
            same_place m.class n.class m.position n.position classes positions
      ]
    ]
