-- Operands with the room that they have (JVMS 3.6.2).
use Rattle.std.specs.Prelude.{◌≡◌, ℕ, ◌+◌, ◌<◌, ◌≤◌, ◌==◌, Bool, true, false, if◌then◌else◌, List, [], ◌∷◌}
use Rattle.machine_values.specs.declared.values.Ref.{Ref}
use Rattle.machine_values.specs.declared.values.Value.{Value}
use Rattle.machine_values.specs.declared.values.Value.TheVariants.{Long, Double, Token, Reference}
use Rattle.machine_values.specs.declared.values.Local.{Local}
use Rattle.machine_values.specs.declared.values.Local.TheVariants.{Holds}

-- the values, the last pushed first, and how many slots they may take
pub record Stack : Type 0 where
  pub room : ℕ
  pub values : List Value

abbrev pub is_wide : Value → Bool
is_wide (Long n) = true
is_wide (Double bits) = true
is_wide _ = false

abbrev pub slots_of : Bool → ℕ
slots_of true = 2
slots_of false = 1

abbrev pub width : Value → ℕ
width v = slots_of (is_wide v)

-- the slots that the values take
abbrev pub weight : List Value → ℕ
weight [] = 0
weight (v ∷ vs) = width v + weight vs

-- there is room for the value, and it is on top
pub record Pushes (s : Stack) (v : Value) (t : Stack) : Type 0 where
  pub fits : width v + weight s.values ≤ s.room
  pub pushed : t.values ≡ v ∷ s.values

-- there is no room for the value
pub record Overflows (s : Stack) (v : Value) (t : Stack) : Type 0 where
  pub full : s.room < width v + weight s.values
  pub kept : t.values ≡ s.values

-- ---- tokens

-- the value once the object of the token of this number is made
abbrev pub filled_in : ℕ → Ref → Value → Value
filled_in number object (Token class n) = if n == number then Reference object else Token class n
filled_in number object v = v

abbrev pub filled_local : ℕ → Ref → Local → Local
filled_local number object (Holds v) = Holds (filled_in number object v)
filled_local number object l = l
