-- Types as they are compared.
use Rattle.std.specs.Prelude.{ℕ, zero, suc, ◌-◌, Bool, false, if◌then◌else◌, nat_lt, Option, Some, None}
use Rattle.aj_names.specs.declared.types.Base.{Base}
use Rattle.aj_names.specs.declared.types.Base.TheVariants as base
use Rattle.aj_names.specs.declared.types.FieldType.{FieldType}
use Rattle.aj_names.specs.Descriptors.{base_spelling}
use Rattle.class_heads.specs.Hierarchy.{TypeName}
use Rattle.class_heads.specs.Hierarchy as hierarchy
use Rattle.machine_fields.specs.declared.types.BaseView.{BaseView}
use Rattle.machine_fields.specs.declared.types.BaseView.TheVariants.{Class, Primitive}
use Rattle.machine_fields.specs.declared.types.TypeView.{TypeView}

abbrev pub base_type : BaseView → TypeName
base_type (Class name) = TypeName.Class name.now
base_type (Primitive descriptor) = TypeName.Primitive descriptor.now

-- arrays of arrays of the type, so many times
abbrev pub arrays : ℕ → TypeName → TypeName
arrays zero type = type
arrays (suc n) type = TypeName.Array (arrays n type)

abbrev pub type_seen : TypeView → TypeName
type_seen view = arrays view.dims (base_type view.base)

abbrev pub base_named : Base → TypeName
base_named (base.Class name) = TypeName.Class name
base_named b = TypeName.Primitive (base_spelling b)

-- whether arrays are values of the type, which is no array type
abbrev pub takes_arrays : BaseView → Bool
takes_arrays (Class name) = hierarchy.is_array_supertype name.now
takes_arrays (Primitive descriptor) = false

-- of the elements of an array of the type
abbrev pub element_type : FieldType → TypeName
element_type array = arrays (array.dims - 1) (base_named array.base)

-- the class of the number, if there are so many
abbrev pub if_known : ℕ → ℕ → Option ℕ
if_known count class = if nat_lt class count then Some class else None
