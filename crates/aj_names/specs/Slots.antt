-- How many slots the parameters of a described method take.
use Rattle.std.specs.Prelude.{◌≡◌, ℕ, ◌≤◌, List, Bool, false}
use Rattle.aj_names.specs.declared.types.MethodType.{MethodType}
use Rattle.aj_names.specs.Descriptors.{method_spelling, method_slots, IsMethodType}

-- the text is the descriptor of a method whose parameters, with a receiver where there is one, take n slots
pub record HasSlots (text : List ℕ) (receiver : Bool) (n : ℕ) : Type 0 where
  pub value : MethodType
  pub formed : IsMethodType value
  pub few : method_slots value false ≤ 255
  pub spelled : text ≡ method_spelling value
  pub count : n ≡ method_slots value receiver
