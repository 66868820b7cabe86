-- What the machine asks of the classes of a world, and the names of fields by their numbers.
use Rattle.std.specs.Prelude.{ℕ, suc, ◌==◌, Bool, false, if◌then◌else◌, List, [], ◌∷◌, length, replicate, slice_get, Option, Some, None}
use Rattle.std.specs.List.{flat_map}
use Rattle.class_file.specs.Pool.{Reference}
use Rattle.class_heads.specs.declared.types.FieldHead.{FieldHead}
use Rattle.class_heads.specs.declared.types.ClassHead.{ClassHead}
use Rattle.class_heads.specs.Searches.{field_position}
use Rattle.class_machine.specs.Classes.{reference}
use Rattle.class_machine.specs.ClassFiles.{field_constant}
use Rattle.class_machine.specs.Declarations.{declared_in, classes_of}
use Rattle.class_world.specs.Tables.{Known}
use Rattle.machine_requests.specs.Shares.{Setting}

-- ---- names of fields

abbrev pub is_at : Option ℕ → ℕ → Bool
is_at None position = false
is_at (Some first) position = first == position

-- the name of a field that is the first of its name and descriptor in its class (JVMS 4.5), which each search finds
abbrev pub first_name : ClassHead → ℕ → FieldHead → Option Reference
first_name c position field = if is_at (field_position field.name c) position then Some (declared_in c.name field.name) else None

-- of a class's fields, from a position on
abbrev pub names_from : ClassHead → ℕ → List FieldHead → List (Option Reference)
names_from c position [] = []
names_from c position (field ∷ fields) = first_name c position field ∷ names_from c (suc position) fields

-- of all fields, in the order of their numbers: by class, then by position in it
abbrev pub field_names : List ClassHead → List (Option Reference)
field_names heads = flat_map (λ c. names_from c 0 c.fields) heads

-- a name that no field has, since no class has the name [
abbrev pub no_field : ℕ → Reference
no_field n = reference (91 ∷ []) (replicate n 0) []

abbrev pub name_or_none : Option (Option Reference) → ℕ → Reference
name_or_none (Some (Some r)) n = r
name_or_none o n = no_field n

abbrev pub field_name : List ClassHead → ℕ → Reference
field_name heads n = name_or_none (slice_get (field_names heads) n) n

-- ---- the setting of a run over a world, in which the classes of the files come first

abbrev pub world_setting : Known → Setting
world_setting k = record { heads = k.heads; classes = classes_of k.heads (length k.files) (field_constant k.files); field_names = field_name k.heads }
