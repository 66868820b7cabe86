-- Where the fields of an object stand: those of its class, then those of its superclass, and so on upward; what the library
-- keeps of its own stands behind the fields of the class that it belongs to.
use Rattle.std.specs.Prelude.{◌≡◌, ℕ, ◌≤◌, ◌^◌, List, [], ◌++◌, slice_get, Option, Some, None}
use Rattle.std.specs.List.{find}
use Rattle.std.specs.Str.{bytes_eq}
use Rattle.boot_library.specs.declared.rule.Primitive.{Primitive}
use Rattle.class_file.specs.Pool.{Reference}
use Rattle.class_heads.specs.declared.types.ClassHead.{ClassHead}
use Rattle.class_heads.specs.Hierarchy.{name_at}
use Rattle.class_machine.specs.Declarations.{own_fields, box_types, hidden_fields}
use Rattle.class_machine.specs.World.{box_class}
use Rattle.class_world.specs.Tables.{Known}
use Rattle.machine_requests.specs.Objects.{field_place}
use Rattle.machine_fields.specs.Settings.{world_setting}

-- what a class adds to its objects
abbrev pub in_head : ClassHead → List Reference
in_head c = own_fields c ++ hidden_fields c.name

abbrev pub in_some : Option ClassHead → List Reference
in_some None = []
in_some (Some c) = in_head c

abbrev pub in_place : List ClassHead → ℕ → List Reference
in_place heads place = in_some (slice_get heads place)

-- the primitive type whose boxes are of the class
abbrev pub boxed_in : List ℕ → Option Primitive
boxed_in class = find (λ type. bytes_eq (box_class type) class) box_types

-- the field's place among those; none where it has none below 2^32
abbrev pub IsPlace : List Reference → Reference → Option ℕ → Type 0
IsPlace fields r None = (p : ℕ) → field_place fields r ≡ Some p → 2 ^ 32 ≤ p
IsPlace fields r (Some p) = field_place fields r ≡ Some p

-- the fields of an object of the class, as the machine has them
abbrev pub fields_of_class : Known → ℕ → List Reference
fields_of_class k class = (world_setting k).classes.fields (name_at k.heads class)
