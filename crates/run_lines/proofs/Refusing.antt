-- A form that leads to another one that is refused.
use Rattle.std.proofs.Common.{◌≡◌, ℕ, Bool, true, false, List, [], ◌∷◌, length, refl, sym, ap, ◌∙◌, arith}
use Rattle.std.specs.Prelude.{◌==◌, Result, Ok, Err, Option, Some, None, is_some}
use Rattle.std.proofs.lemmas.Bool.{false≢true, ne_eqb}
use Rattle.run_lines.specs.declared.fault.WordFault.{WordFault}
use Rattle.run_lines.specs.declared.fault.WordFault.TheVariants as faults
use Rattle.run_lines.specs.Reading.{IsOfNothing, Finds, Refuses, Reads}

-- some value is of the form
abbrev pub IsOfSome : {Z : Type 0} → (Z → Type 0) → Type 0
IsOfSome {Z} S = (z : Z) × S z

pub refused : {Y Z : Type 0} (R : Y → Type 0) (S : Z → Type 0) (fault : WordFault) → ((y : Y) → R y → IsOfSome S) → Refuses S fault → Refuses R fault
refused R S faults.Form leads h = λ y r. let z = leads y r in h z.0 z.1
refused R S faults.Memory leads h = tt

-- two parts make a pair
pub pair_is : {A B : Type 0} (a c : A) (b d : B) → c ≡ a → d ≡ b → ◌≡◌ {A = A × B} (c, d) (a, b)
pair_is a c b d p q = λ i. (p i, q i)

-- nothing is left, or something is
pub emptied : (b : List ℕ) (r : Bool) → r ≡ (length b == 0) → r ≡ true → b ≡ []
emptied [] r e t = refl
emptied (x ∷ b) r e t = absurd (false≢true (sym (ne_eqb (length (x ∷ b)) 0 (λ z. omega (arith, z))) ∙ sym e ∙ t))

pub not_emptied : (b : List ℕ) (r : Bool) → r ≡ (length b == 0) → r ≡ false → ¬ ([] ≡ b)
not_emptied b r e f z = false≢true (sym f ∙ e ∙ ap (λ (l : List ℕ). length l == 0) (sym z))

pub left : {A B : Type 0} (a c : A) (b d : B) → ◌≡◌ {A = A × B} (c, d) (a, b) → c ≡ a
left {A} {B} a c b d e = ap (λ (p : A × B). p.0) e

pub right : {A B : Type 0} (a c : A) (b d : B) → ◌≡◌ {A = A × B} (c, d) (a, b) → d ≡ b
right {A} {B} a c b d e = ap (λ (p : A × B). p.1) e

-- what a search that was asked only whether it found anything says
pub found_some : {X Y : Type 0} (view : X → Y) (R : Y → Type 0) (o : Option X) → is_some o ≡ true → Finds view R o → IsOfSome R
found_some view R None e f = absurd (false≢true e)
found_some view R (Some x) e f = (view x, f.0)

pub found_none : {X Y : Type 0} (view : X → Y) (R : Y → Type 0) (o : Option X) → is_some o ≡ false → Finds view R o → IsOfNothing R
found_none view R None e f = f
found_none view R (Some x) e f = absurd (false≢true (sym e))

-- two forms that are one
pub alike : {X Y : Type 0} (view : X → Y) (R S : Y → Type 0) → ((y : Y) → R y → S y) → ((y : Y) → S y → R y) → (r : Result X WordFault) → Reads view R r → Reads view S r
alike view R S to from (Ok x) h = (to (view x) h.0, λ y s. h.1 y (from y s))
alike view R S to from (Err faults.Form) h = λ y s. h y (from y s)
alike view R S to from (Err faults.Memory) h = tt
