-- The names of types, as Class entries have them.
use Rattle.std.specs.Prelude.{ℕ, if◌then◌else◌, nat_lt, List}
use Rattle.aj_names.specs.declared.types.Base.{Base}
use Rattle.aj_names.specs.declared.types.Base.TheVariants as base
use Rattle.aj_names.specs.declared.types.FieldType.{FieldType}
use Rattle.aj_names.specs.Descriptors.{base_spelling, field_spelling}
use Rattle.machine_values.specs.declared.names.Maker.TheVariants.{Class}

abbrev pub base_name : Base → List ℕ
base_name (base.Class name) = name
base_name b = base_spelling b

-- as Class entries name it: a class by its name, an array type by its descriptor (JVMS 4.4.1)
abbrev pub type_name : FieldType → List ℕ
type_name type = if nat_lt 0 type.dims then field_spelling type else base_name type.base
