-- Frames that an exception passes.
use Rattle.std.specs.Prelude.{◌≡◌, ℕ, zero, suc, ◌-◌, ◌<◌, List, [], ◌∷◌, drop, slice_get, Some}
use Rattle.std.specs.List.{AllByRecursion}
use Rattle.std.proofs.Common.{sym, ap, subst, arith}
use Rattle.class_world.specs.Tables.{Known}
use Rattle.machine_values.specs.declared.frames.Frame.{Frame}
use Rattle.machine_steps.specs.Unwinding.{Passes}

pub drop_one : {A : Type 0} (xs : List A) (i : ℕ) (x : A) → slice_get xs i ≡ Some x → drop i xs ≡ x ∷ drop (suc i) xs
drop_one [] i x at = absurd cc
drop_one (y ∷ xs) zero x at = let e : y ≡ x = cc in ap (λ z. z ∷ xs) e
drop_one (y ∷ xs) (suc i) x at = drop_one xs i x at

pub one_more : (left : ℕ) → 0 < left → suc (left - 1) ≡ left
one_more left h = omega arith

pub behind : (k : Known) (class : ℕ) (frames : List Frame) (left : ℕ) → 0 < left → AllByRecursion (Passes k class) (drop left frames) → AllByRecursion (Passes k class) (drop (suc (left - 1)) frames)
behind k class frames left some passed = subst (λ n. AllByRecursion (Passes k class) (drop n frames)) (sym (one_more left some)) passed

pub passed_more : (k : Known) (class : ℕ) (frames : List Frame) (left : ℕ) (g : Frame) → 0 < left → slice_get frames (left - 1) ≡ Some g → Passes k class g
    → AllByRecursion (Passes k class) (drop left frames) → AllByRecursion (Passes k class) (drop (left - 1) frames)
passed_more k class frames left g some there passes passed =
    subst (AllByRecursion (Passes k class)) (sym (drop_one frames (left - 1) g there)) (passes, behind k class frames left some passed)
