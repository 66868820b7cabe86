-- Arrays of a heap.
use Rattle.std.specs.Prelude.{◌≡◌, ℕ, Bool, if◌then◌else◌, nat_lt, slice_get, Option, Some, None, ℤ, pos, negsuc}
use Rattle.aj_names.specs.declared.types.Base.{Base}
use Rattle.aj_names.specs.declared.types.Base.TheVariants as base
use Rattle.aj_names.specs.declared.types.FieldType.{FieldType}
use Rattle.class_machine.specs.declared.kinds.Element.{Element}
use Rattle.class_machine.specs.Descriptors.{low_bits}
use Rattle.machine_values.specs.declared.values.Value.{Value}
use Rattle.machine_values.specs.declared.values.Value.TheVariants.{Int}
use Rattle.machine_values.specs.declared.names.Maker.TheVariants.{Array}
use Rattle.machine_values.specs.declared.names.Name.{Name}
use Rattle.machine_values.specs.declared.names.Name.TheVariants.{Made}
use Rattle.machine_values.specs.declared.content.Content.{Content}
use Rattle.machine_values.specs.declared.content.Content.TheVariants.{Values}
use Rattle.machine_values.specs.Things.{Things}
use Rattle.machine_values.specs.declared.values.Ref.{Ref}
use Rattle.machine_values.specs.Standing.{held}
use Rattle.machine_values.specs.Types.{type_name}
use Rattle.class_machine.specs.Answers.{may_hold}
use Rattle.machine_requests.specs.Shares.{Setting}

-- the type of an array, by its name and what it holds
abbrev pub type_of_array : Option Name → Option Content → Option FieldType
type_of_array (Some (Made (Array type) k)) (Some (Values values)) = Some type
type_of_array name content = None

-- the type of the array at a place, where there is an array
abbrev pub array_type : Things → ℕ → Option FieldType
array_type things at = type_of_array (slice_get things.names at) (slice_get things.contents at)

abbrev pub base_element : Base → Element
base_element base.Boolean = Element.Boolean
base_element base.Byte = Element.Byte
base_element base.Char = Element.Char
base_element base.Short = Element.Short
base_element base.Int = Element.Int
base_element base.Long = Element.Long
base_element base.Float = Element.Float
base_element base.Double = Element.Double
base_element (base.Class name) = Element.Reference

-- what a field of the type, or an array of such elements, holds
abbrev pub type_element : FieldType → Element
type_element type = if nat_lt 0 type.dims then Element.Reference else base_element type.base

-- what an array of the type holds
abbrev pub array_element : FieldType → Element
array_element array = if nat_lt 1 array.dims then Element.Reference else base_element array.base

-- the value that a field or an element keeps
abbrev pub kept_value : Element → Value → Value
kept_value e (Int n) = Int (low_bits e n)
kept_value e v = v

-- the number of the element at an index, of so many elements
abbrev pub index_in : ℤ → ℕ → Option ℕ
index_in (pos i) count = if nat_lt i count then Some i else None
index_in (negsuc i) count = None

-- whether an array, by its type, may hold the value
pub record Holds (things : Things) (array : Option Ref) (v : Value) (fits : Bool) (s : Setting) : Type 0 where
  pub may : (at : Ref) (type : FieldType) → array ≡ Some at → array_type things at.0 ≡ Some type → may_hold s.classes (type_name type) (held s.heads things.names v) ≡ fits
