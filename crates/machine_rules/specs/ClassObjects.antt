-- The classes and array types that objects stand for.
use Rattle.std.specs.Prelude.{ℕ, List, if◌then◌else◌, length, Option, Some, None}
use Rattle.aj_names.specs.declared.types.Base.TheVariants as base
use Rattle.aj_names.specs.declared.types.FieldType.{FieldType}
use Rattle.class_world.specs.Tables.{Known}
use Rattle.class_machine.specs.ClassFiles.{field_constant}
use Rattle.class_machine.specs.Declarations.{knows}
use Rattle.class_machine.specs.Texts.{class_of_text, is_unfit}

-- a class, as a type
abbrev pub class_named : List ℕ → FieldType
class_named name = record { base = base.Class name; dims = 0 }

abbrev pub if_known : Known → List ℕ → Option (List ℕ)
if_known k class = if knows k.heads (length k.files) (field_constant k.files) class then Some class else None

-- the class or array type of the dotted name, where it is there and a program may find it
abbrev pub found_by : Known → List ℕ → Option (List ℕ)
found_by k units = if is_unfit units then None else if_known k (class_of_text units)
