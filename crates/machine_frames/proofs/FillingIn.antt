-- A token becomes an object, as the class machine has it.
use Rattle.std.specs.Prelude.{◌≡◌, ℕ, ◌<◌, ◌==◌, Bool, true, false, if◌then◌else◌, List, [], ◌∷◌, map, refl, nat_lt}
use Rattle.std.specs.List.{AllByRecursion}
use Rattle.std.proofs.Common.{◌∙◌, ap}
use Rattle.std.proofs.lemmas.Bool.{lt-ltb}
use Rattle.class_heads.specs.Hierarchy.{name_at}
use Rattle.aj_names.specs.declared.ids.ClassId.{ClassId}
use Rattle.class_machine.specs.Values as machine
use Rattle.machine_values.specs.declared.values.Ref.{Ref}
use Rattle.machine_values.specs.declared.values.Value.{Value}
use Rattle.machine_values.specs.declared.values.Value.TheVariants.{Int, Long, Float, Double, Null, Reference, Token, ReturnAddress}
use Rattle.machine_values.specs.declared.values.Local.{Local}
use Rattle.machine_values.specs.declared.values.Local.TheVariants.{Unset, Holds, Second}
use Rattle.machine_values.specs.Stacks.{filled_in, filled_local}
use Rattle.machine_values.specs.States.{is_known, is_known_local}
use Rattle.machine_frames.specs.Naming.{Naming, object, value, local, values, locals}
use Rattle.machine_frames.specs.Effects.{AreKnown, AreKnownLocals}

module _ (n : Naming) (method number : ℕ) (a : Ref) where
  chosen : (b : Bool) (class : ClassId) (k : ℕ) → value n method (if b then Reference a else Token class k) ≡ (if b then machine.Plain (machine.Reference (object n a)) else machine.Token (name_at n.heads class.0) k)
  chosen true class k = refl
  chosen false class k = refl

  one : (v : Value) → value n method (filled_in number a v) ≡ machine.filled_in number (machine.Reference (object n a)) (value n method v)
  one (Int k) = refl
  one (Long k) = refl
  one (Float bits) = refl
  one (Double bits) = refl
  one Null = refl
  one (Reference at) = refl
  one (Token class k) = chosen (k == number) class k
  one (ReturnAddress pc) = refl

  one_local : (l : Local) → local n method (filled_local number a l) ≡ machine.filled_local number (machine.Reference (object n a)) (local n method l)
  one_local Unset = refl
  one_local (Holds v) = ap machine.Holds (one v)
  one_local Second = refl

  both_cons : {X : Type 0} (x y : X) (xs ys : List X) → x ≡ y → xs ≡ ys → x ∷ xs ≡ y ∷ ys
  both_cons x y xs ys p q = ap (λ z. z ∷ xs) p ∙ ap (λ zs. y ∷ zs) q

  pub all_filled : (vs : List Value) → values n method (map (filled_in number a) vs) ≡ map (machine.filled_in number (machine.Reference (object n a))) (values n method vs)
  all_filled [] = refl
  all_filled (v ∷ vs) = both_cons _ _ _ _ (one v) (all_filled vs)

  pub all_locals_filled : (ls : List Local) → locals n method (map (filled_local number a) ls) ≡ map (machine.filled_local number (machine.Reference (object n a))) (locals n method ls)
  all_locals_filled [] = refl
  all_locals_filled (l ∷ ls) = both_cons _ _ _ _ (one_local l) (all_locals_filled ls)

module _ (count number : ℕ) (a : Ref) (below : a.0 < count) where
  either_known : (b : Bool) (class : ClassId) (k : ℕ) → is_known count (if b then Reference a else Token class k) ≡ true
  either_known true class k = lt-ltb a.0 count below
  either_known false class k = refl

  one_known : (v : Value) → is_known count v ≡ true → is_known count (filled_in number a v) ≡ true
  one_known (Int k) h = refl
  one_known (Long k) h = refl
  one_known (Float bits) h = refl
  one_known (Double bits) h = refl
  one_known Null h = refl
  one_known (Reference at) h = h
  one_known (Token class k) h = either_known (k == number) class k
  one_known (ReturnAddress pc) h = refl

  one_local_known : (l : Local) → is_known_local count l ≡ true → is_known_local count (filled_local number a l) ≡ true
  one_local_known Unset h = refl
  one_local_known (Holds v) h = one_known v h
  one_local_known Second h = refl

  pub all_known : (vs : List Value) → AreKnown count vs → AreKnown count (map (filled_in number a) vs)
  all_known [] h = tt
  all_known (v ∷ vs) h = (one_known v h.0, all_known vs h.1)

  pub all_locals_known : (ls : List Local) → AreKnownLocals count ls → AreKnownLocals count (map (filled_local number a) ls)
  all_locals_known [] h = tt
  all_locals_known (l ∷ ls) h = (one_local_known l h.0, all_locals_known ls h.1)
