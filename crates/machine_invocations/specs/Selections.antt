-- Names of members by their parts, and types of arrays by their bases.
use Rattle.std.specs.Prelude.{ℕ, ◌&&◌, Bool, true, List, is_some}
use Rattle.aj_names.specs.declared.types.Base.{Base}
use Rattle.aj_names.specs.declared.types.Base.TheVariants as base
use Rattle.aj_names.specs.declared.types.MemberName.{MemberName}
use Rattle.class_file.specs.Pool.{NamedType}
use Rattle.class_file.specs.Text.{is_class_name}
use Rattle.class_heads.specs.declared.types.ClassHead.{ClassHead}
use Rattle.class_heads.specs.Hierarchy.{place_of}

abbrev pub member_named : List ℕ → List ℕ → MemberName
member_named name descriptor = record { name = name; descriptor = descriptor }

abbrev pub type_named : List ℕ → List ℕ → NamedType
type_named name descriptor = record { name = name; descriptor = descriptor }

-- primitive, or a class that is there
abbrev pub is_base_known : List ClassHead → Base → Bool
is_base_known heads (base.Class name) = is_class_name name && is_some (place_of heads name)
is_base_known heads b = true
