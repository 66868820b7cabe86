-- What the names of objects must be, so that no two objects have the same name.
use Rattle.std.specs.Prelude.{◌≡◌, ℕ, ◌<◌, ◌==◌, Bool, true, false, not, ◌&&◌, ◌||◌, List, length, nat_lt, Some}
use Rattle.std.specs.List.{AllByRecursion, list_all}
use Rattle.aj_names.specs.declared.types.Base.{Base}
use Rattle.aj_names.specs.declared.types.Base.TheVariants as base
use Rattle.aj_names.specs.declared.types.FieldType.{FieldType}
use Rattle.class_heads.specs.declared.types.ClassHead.{ClassHead}
use Rattle.class_heads.specs.Hierarchy.{name_at, place_of}
use Rattle.machine_values.specs.declared.names.Maker.{Maker}
use Rattle.machine_values.specs.declared.names.Maker.TheVariants.{Class, Array}
use Rattle.machine_values.specs.declared.names.Name.{Name}
use Rattle.machine_values.specs.declared.names.Name.TheVariants.{Made, Literal, ClassObject}

-- ---- classes

-- neither of these is in a class's name (JVMS 4.2): a ; and a [
abbrev pub is_letter : ℕ → Bool
is_letter b = not (b == 59 || b == 91)

abbrev pub is_plain : List ℕ → Bool
is_plain name = list_all is_letter name

-- each class has a class's name, and one of its own
pub record AreDistinct (heads : List ClassHead) : Type 0 where
  pub plain : (place : ℕ) → place < length heads → is_plain (name_at heads place) ≡ true
  pub different : (place : ℕ) → place < length heads → place_of heads (name_at heads place) ≡ Some place

-- ---- types

abbrev pub is_plain_base : Base → Bool
is_plain_base (base.Class name) = is_plain name
is_plain_base _ = true

abbrev pub is_class : Base → Bool
is_class (base.Class name) = true
is_class _ = false

-- a class or an array type, as a Class entry may name it (JVMS 4.4.1)
abbrev pub is_class_type : FieldType → Bool
is_class_type type = is_plain_base type.base && (nat_lt 0 type.dims || is_class type.base)

abbrev pub is_array_type : FieldType → Bool
is_array_type type = is_plain_base type.base && nat_lt 0 type.dims

-- ---- objects

-- of so many classes
abbrev pub is_fit_maker : ℕ → Maker → Bool
is_fit_maker count (Class class) = nat_lt class.0 count
is_fit_maker count (Array type) = is_array_type type

abbrev pub is_fit : ℕ → Name → Bool
is_fit count (Made maker k) = is_fit_maker count maker
is_fit count (Literal units) = true
is_fit count (ClassObject type) = is_class_type type

abbrev pub AreFit : ℕ → List Name → Type 0
AreFit count names = AllByRecursion (λ name. is_fit count name ≡ true) names
