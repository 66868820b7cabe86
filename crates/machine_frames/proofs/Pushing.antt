-- The operands take the slots that what they stand for takes.
use Rattle.std.proofs.Common.{◌≡◌, ℕ, ◌+◌, ◌<◌, Bool, true, false, if◌then◌else◌, List, [], ◌∷◌, Option, Some, None, nat_le, refl, sym, ◌∙◌, ap, arith}
use Rattle.std.proofs.lemmas.Bool.{le-leb, leb-true}
use Rattle.class_machine.specs.Values as machine
use Rattle.class_machine.specs.Values.{has_room, kind_width}
use Rattle.class_machine.specs.ClassFiles.{Place}
use Rattle.machine_values.specs.declared.values.Value.{Value}
use Rattle.machine_values.specs.declared.values.Value.TheVariants.{Int, Long, Float, Double, Null, Reference, Token, ReturnAddress}
use Rattle.machine_values.specs.Stacks as stacks
use Rattle.machine_values.specs.Stacks.{Stack}
use Rattle.machine_frames.specs.Naming.{Naming, value, values}
use Rattle.machine_frames.specs.Operands.{Pushes, Overflows}

pub is_wide-value : (n : Naming) (method : ℕ) (v : Value) → machine.is_wide (value n method v) ≡ stacks.is_wide v
is_wide-value n method (Int k) = refl
is_wide-value n method (Long k) = refl
is_wide-value n method (Float bits) = refl
is_wide-value n method (Double bits) = refl
is_wide-value n method Null = refl
is_wide-value n method (Reference at) = refl
is_wide-value n method (Token class number) = refl
is_wide-value n method (ReturnAddress pc) = refl

pub width-value : (n : Naming) (method : ℕ) (v : Value) → machine.width (value n method v) ≡ stacks.width v
width-value n method (Int k) = refl
width-value n method (Long k) = refl
width-value n method (Float bits) = refl
width-value n method (Double bits) = refl
width-value n method Null = refl
width-value n method (Reference at) = refl
width-value n method (Token class number) = refl
width-value n method (ReturnAddress pc) = refl

pub weight-values : (n : Naming) (method : ℕ) (vs : List Value) → machine.weight (values n method vs) ≡ stacks.weight vs
weight-values n method [] = refl
weight-values n method (v ∷ vs) = let a = width-value n method v in let b = weight-values n method vs in cc

pub rooms : (n : Naming) (method room slots : ℕ) (vs : List Value) → nat_le (slots + stacks.weight vs) room ≡ has_room room slots (values n method vs)
rooms n method room slots vs = ap (λ w. nat_le (slots + w) room) (sym (weight-values n method vs))

has_room-value : (n : Naming) (method room : ℕ) (v : Value) (vs : List Value) → has_room room (machine.width (value n method v)) (values n method vs) ≡ nat_le (stacks.width v + stacks.weight vs) room
has_room-value n method room v vs =
    ap (λ w. nat_le (w + machine.weight (values n method vs)) room) (width-value n method v) ∙ ap (λ w. nat_le (stacks.width v + w) room) (weight-values n method vs)

abbrev chosen : List (machine.Value Place) → Bool → Option (List (machine.Value Place))
chosen all b = if b then Some all else None

pub not_le : (a b : ℕ) → b < a → nat_le a b ≡ false
not_le a b h = of_test (nat_le a b) refl where
  of_test : (t : Bool) → nat_le a b ≡ t → t ≡ false
  of_test false e = refl
  of_test true e = let h' = leb-true a b e in absurd (omega arith)

pub pushes : (s : Stack) (v : Value) (t : Stack) → stacks.Pushes s v t → Pushes s v t
pushes s v t h = λ n method.
    ap (chosen (value n method v ∷ values n method s.values)) (has_room-value n method s.room v s.values ∙ le-leb (stacks.width v + stacks.weight s.values) s.room h.fits)
    ∙ ap (λ vs. Some (values n method vs)) (sym h.pushed)

pub overflows : (s : Stack) (v : Value) (t : Stack) → stacks.Overflows s v t → Overflows s v
overflows s v t h = λ n method.
    ap (chosen (value n method v ∷ values n method s.values)) (has_room-value n method s.room v s.values ∙ not_le (stacks.width v + stacks.weight s.values) s.room h.full)
