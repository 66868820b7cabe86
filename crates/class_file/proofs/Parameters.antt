-- The parameters of a method's descriptor one after the other, as a loop reads them.
use Rattle.std.proofs.Common.{◌≡◌, ℕ, suc, ◌-◌, ◌+◌, ◌≤◌, ◌<◌, Bool, false, List, Ok, Err, sym, ◌∙◌, refl, arith}
use Rattle.class_file.specs.Text.{Typed, parameter, parameters}

pub another : (count i slots : ℕ) (bytes : List ℕ) (x : Typed) (total : Bool) → i < count → parameter slots bytes ≡ Ok x → parameters (count - i) slots bytes ≡ total → parameters (count - (i + 1)) x.0 x.1 ≡ total
another count i slots bytes x total lt h so_far =
    let k : count - i ≡ suc (count - (i + 1)) = omega arith in
    let one : parameters (count - i) slots bytes ≡ parameters (count - (i + 1)) x.0 x.1 = rw (k, h) refl in
    sym one ∙ so_far

pub answered : (count i slots : ℕ) (bytes : List ℕ) (answer total : Bool) → i < count → parameter slots bytes ≡ Err answer → parameters (count - i) slots bytes ≡ total → answer ≡ total
answered count i slots bytes answer total lt h so_far =
    let k : count - i ≡ suc (count - (i + 1)) = omega arith in
    let one : parameters (count - i) slots bytes ≡ answer = rw (k, h) refl in
    sym one ∙ so_far

pub none_left : (count i slots : ℕ) (bytes : List ℕ) (total : Bool) → count ≤ i → parameters (count - i) slots bytes ≡ total → false ≡ total
none_left count i slots bytes total le so_far =
    let k : count - i ≡ 0 = omega arith in
    let one : parameters (count - i) slots bytes ≡ false = rw k refl in
    sym one ∙ so_far
