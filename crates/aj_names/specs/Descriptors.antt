-- Descriptors of fields and methods (JVMS 4.3.2, 4.3.3): the spelling of a type, and which types
-- have one.
use Rattle.std.specs.Prelude.{◌≡◌, ℕ, ◌+◌, ◌<◌, ◌≤◌, ◌⊎◌, List, [], ◌∷◌, ◌++◌, Bool, false, Option, Some, None, IfSome, replicate, if◌then◌else◌, nat_lt}
use Rattle.std.specs.List.{AllByRecursion, flat_map, sum_by}
use Rattle.aj_names.specs.declared.types.Base.{Base}
use Rattle.aj_names.specs.declared.types.Base.TheVariants.{Boolean, Byte, Char, Short, Int, Long, Float, Double, Class}
use Rattle.aj_names.specs.declared.types.FieldType.{FieldType}
use Rattle.aj_names.specs.declared.types.MethodType.{MethodType}
use Rattle.aj_names.specs.Names.{IsClassName}

abbrev pub base_spelling : Base → List ℕ
base_spelling Boolean = 90 ∷ []
base_spelling Byte = 66 ∷ []
base_spelling Char = 67 ∷ []
base_spelling Short = 83 ∷ []
base_spelling Int = 73 ∷ []
base_spelling Long = 74 ∷ []
base_spelling Float = 70 ∷ []
base_spelling Double = 68 ∷ []
base_spelling (Class name) = 76 ∷ name ++ 59 ∷ []

-- a [ for each dimension, then the base
abbrev pub field_spelling : FieldType → List ℕ
field_spelling t = replicate t.dims 91 ++ base_spelling t.base

-- V where there is no result
abbrev pub result_spelling : Option FieldType → List ℕ
result_spelling None = 86 ∷ []
result_spelling (Some t) = field_spelling t

-- ( parameters ) result
abbrev pub method_spelling : MethodType → List ℕ
method_spelling m = 40 ∷ flat_map field_spelling m.params ++ 41 ∷ result_spelling m.result

abbrev pub IsBase : Base → Type 0
IsBase Boolean = Unit {0}
IsBase Byte = Unit {0}
IsBase Char = Unit {0}
IsBase Short = Unit {0}
IsBase Int = Unit {0}
IsBase Long = Unit {0}
IsBase Float = Unit {0}
IsBase Double = Unit {0}
IsBase (Class name) = IsClassName name

-- its class name, if any, is one, and it has at most 255 dimensions
pub record IsFieldType (t : FieldType) : Type 0 where
  pub base : IsBase t.base
  pub dims : t.dims < 256

-- a value of the type takes two slots where it is a long or a double, and else one
abbrev pub base_slots : Base → ℕ
base_slots Boolean = 1
base_slots Byte = 1
base_slots Char = 1
base_slots Short = 1
base_slots Int = 1
base_slots Long = 2
base_slots Float = 1
base_slots Double = 2
base_slots (Class name) = 1

abbrev pub field_slots : FieldType → ℕ
field_slots t = if nat_lt 0 t.dims then 1 else base_slots t.base

abbrev pub params_slots : List FieldType → ℕ
params_slots ts = sum_by field_slots ts

-- of the parameters, and one of the receiver where there is one
abbrev pub method_slots : MethodType → Bool → ℕ
method_slots m receiver = (if receiver then 1 else 0) + params_slots m.params

-- its parameters and its result are types that have a spelling
pub record IsMethodType (m : MethodType) : Type 0 where
  pub params : AllByRecursion IsFieldType m.params
  pub result : IfSome m.result IsFieldType

-- the text is the descriptor of a field
pub record IsFieldDescriptor (text : List ℕ) : Type 0 where
  pub value : FieldType
  pub formed : IsFieldType value
  pub spelled : text ≡ field_spelling value

-- the text is the descriptor of a method, whose parameters take at most 255 slots
pub record IsMethodDescriptor (text : List ℕ) : Type 0 where
  pub value : MethodType
  pub formed : IsMethodType value
  pub few : method_slots value false ≤ 255
  pub spelled : text ≡ method_spelling value

-- the text is the descriptor of a field that is an array
pub record IsArrayDescriptor (text : List ℕ) : Type 0 where
  pub value : FieldType
  pub formed : IsFieldType value
  pub array : 0 < value.dims
  pub spelled : text ≡ field_spelling value

-- what a Class entry may hold (JVMS 4.4.1): the name of a class, or an array descriptor
abbrev pub IsInternalName : List ℕ → Type 0
IsInternalName text = IsClassName text ⊎ IsArrayDescriptor text
