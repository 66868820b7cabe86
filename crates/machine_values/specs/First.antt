-- What fields and elements hold at first (JVMS 2.5.1, 2.15).
use Rattle.std.specs.Prelude.{ℕ, pos, if◌then◌else◌, nat_lt}
use Rattle.aj_names.specs.declared.types.Base.{Base}
use Rattle.aj_names.specs.declared.types.Base.TheVariants as base
use Rattle.aj_names.specs.declared.types.FieldType.{FieldType}
use Rattle.machine_values.specs.declared.values.Value.{Value}
use Rattle.machine_values.specs.declared.values.Value.TheVariants.{Int, Long, Float, Double, Null}

abbrev pub first_of_base : Base → Value
first_of_base base.Long = Long (pos 0)
first_of_base base.Float = Float 0
first_of_base base.Double = Double 0
first_of_base (base.Class name) = Null
first_of_base _ = Int (pos 0)

-- with at least so many dimensions it is an array, which is null at first
abbrev pub first_within : FieldType → ℕ → Value
first_within type dims = if nat_lt dims type.dims then Null else first_of_base type.base

abbrev pub first_value : FieldType → Value
first_value type = first_within type 0

-- of the elements of an array of the type
abbrev pub first_element : FieldType → Value
first_element array = first_within array 1
