-- Classes and their supertypes (JVMS 2.6.7, 2.8, 4.1). A class is known by its place in the list; of
-- several classes of one name the first counts. Of a list in which no class is a supertype of itself, no
-- way upward is longer than the list.
use Rattle.std.specs.Prelude.{ℕ, ◌==◌, Bool, true, false, ◌||◌, if◌then◌else◌, List, [], ◌∷◌, ◌++◌, map, codes, nat_eq, length, slice_get, Option, Some, None, is_some}
use Rattle.std.specs.List.{find, filter_map, list_any, position_from}
use Rattle.std.specs.Option.{option_map, option_to_list, unwrap_or}
use Rattle.std.specs.Str.{bytes_eq}
use Rattle.class_heads.specs.declared.types.ClassHead.{ClassHead}
use Rattle.class_heads.specs.Heads.{has_flag}
use Rattle.class_heads.specs.Graph.{each_once, Path, walk}

abbrev pub object_name : List ℕ
object_name = codes "java/lang/Object"

abbrev pub is_named : List ℕ → ClassHead → Bool
is_named name c = bytes_eq c.name name

abbrev pub is_interface : ClassHead → Bool
is_interface c = has_flag 0x0200 c.flags.0

abbrev pub is_final : ClassHead → Bool
is_final c = has_flag 0x0010 c.flags.0

-- the names of its superclass, and those of its direct superinterfaces and its superclass in the order
-- in which fields are searched
abbrev pub superclass_name : Option ClassHead → List (List ℕ)
superclass_name None = []
superclass_name (Some c) = option_to_list c.super_class

abbrev pub super_names : Option ClassHead → List (List ℕ)
super_names None = []
super_names (Some c) = c.interfaces ++ option_to_list c.super_class

-- ---- types

-- a type by its name: a class, a primitive type by its descriptor, or an array of such elements
pub data TypeName : Type 0 where
  Class : (name : List ℕ) → TypeName
  Primitive : (descriptor : List ℕ) → TypeName
  Array : (element : TypeName) → TypeName

abbrev pub before_semicolon : List ℕ → List ℕ
before_semicolon [] = []
before_semicolon (b ∷ bytes) = if b == 59 then [] else b ∷ before_semicolon bytes

-- the type of a descriptor (JVMS 4.3.2)
abbrev pub type_of_descriptor : List ℕ → TypeName
type_of_descriptor [] = TypeName.Primitive []
type_of_descriptor (b ∷ bytes) =
    if b == 91 then TypeName.Array (type_of_descriptor bytes)
    else (if b == 76 then TypeName.Class (before_semicolon bytes) else TypeName.Primitive (b ∷ bytes))

abbrev pub is_array : List ℕ → Bool
is_array [] = false
is_array (b ∷ bytes) = b == 91

-- the type that a Class entry names: a class by its name, or an array type by its descriptor (JVMS 4.4.1)
abbrev pub type_named : List ℕ → TypeName
type_named name = if is_array name then type_of_descriptor name else TypeName.Class name

-- the supertypes of every array type beside array types
abbrev pub is_array_supertype : List ℕ → Bool
is_array_supertype name =
    bytes_eq name object_name || (bytes_eq name (codes "java/lang/Cloneable") || bytes_eq name (codes "java/io/Serializable"))

module _ (heads : List ClassHead) where
  abbrev pub place_of : List ℕ → Option ℕ
  place_of name = position_from (is_named name) 0 heads

  abbrev pub class_named : List ℕ → Option ClassHead
  class_named name = find (is_named name) heads

  abbrev pub class_names : List (List ℕ)
  class_names = map (λ c. c.name) heads

  -- ---- steps, by places

  abbrev pub superclass_at : ℕ → List ℕ
  superclass_at place = filter_map place_of (superclass_name (slice_get heads place))

  abbrev pub supers_at : ℕ → List ℕ
  supers_at place = filter_map place_of (super_names (slice_get heads place))

  -- a path of superclasses and superinterfaces leads from the one class to the other
  abbrev pub IsSubclass : ℕ → ℕ → Type 0
  IsSubclass low high = Path supers_at low high

  -- the class and its superclasses, upward
  abbrev pub superclasses : ℕ → List ℕ
  superclasses place = walk superclass_at (length heads) place

  -- the class, then its direct superinterfaces in order, each with its own, then the superclass with its own
  abbrev pub order : ℕ → List ℕ
  order place = walk supers_at (length heads) place

  -- each once
  abbrev pub supertypes : ℕ → List ℕ
  supertypes place = each_once (order place)

  -- ---- types, by names

  abbrev pub is_among_supertypes : Option ℕ → Option ℕ → Bool
  is_among_supertypes (Some low) (Some high) = list_any (nat_eq high) (supertypes low)
  is_among_supertypes _ _ = false

  abbrev pub is_class_below : List ℕ → List ℕ → Bool
  is_class_below low high = bytes_eq low high || is_among_supertypes (place_of low) (place_of high)

  abbrev pub is_type_below : TypeName → TypeName → Bool
  is_type_below (TypeName.Class low) (TypeName.Class high) = is_class_below low high
  is_type_below (TypeName.Array low) (TypeName.Array high) = is_type_below low high
  is_type_below (TypeName.Array low) (TypeName.Class high) = is_array_supertype high
  is_type_below (TypeName.Primitive low) (TypeName.Primitive high) = bytes_eq low high
  is_type_below _ _ = false

  -- a value of the type of the first name is one of the type of the second
  abbrev pub is_subtype : List ℕ → List ℕ → Bool
  is_subtype low high = is_type_below (type_named low) (type_named high)

  abbrev pub name_at : ℕ → List ℕ
  name_at place = unwrap_or (option_map (λ c. c.name) (slice_get heads place)) []

  abbrev pub supertypes_of : Option ℕ → List (List ℕ)
  supertypes_of None = []
  supertypes_of (Some place) = map name_at (supertypes place)

  -- the names of a class and its supertypes, each once; none of an unknown class or of an array type
  abbrev pub supertype_names : List ℕ → List (List ℕ)
  supertype_names name = if is_array name then [] else supertypes_of (place_of name)

  -- ---- the members of types

  abbrev pub is_known : TypeName → Bool
  is_known (TypeName.Class name) = is_some (place_of name)
  is_known (TypeName.Primitive descriptor) = true
  is_known (TypeName.Array element) = is_known element

  -- the class whose members the type has: those of an array type are Object's, where its element type is known
  abbrev pub class_of_members : TypeName → Option ℕ
  class_of_members (TypeName.Class name) = place_of name
  class_of_members (TypeName.Primitive descriptor) = None
  class_of_members (TypeName.Array element) = if is_known element then place_of object_name else None
