-- How members are searched and methods selected (JVMS 5.4.3, and 6 at invokevirtual and invokeinterface).
use Rattle.std.specs.Prelude.{ℕ, Bool, false, not, ◌&&◌, ◌||◌, if◌then◌else◌, List, [], ◌∷◌, ◌++◌, slice_get, Option, Some, None, option_and_then}
use Rattle.std.specs.List.{filter, position_from}
use Rattle.std.specs.Option.{option_map, option_or}
use Rattle.std.specs.Str.{bytes_eq}
use Rattle.aj_names.specs.declared.types.MemberName.{MemberName}
use Rattle.class_heads.specs.declared.types.MethodHead.{MethodHead}
use Rattle.class_heads.specs.declared.types.ClassHead.{ClassHead}
use Rattle.class_heads.specs.Heads.{has_flag}
use Rattle.class_heads.specs.Hierarchy.{is_interface, superclasses, order}

-- a member by the place of the class that declares it, and its position among the class's fields or methods
pub record MemberPlace : Type 0 where
  pub class : ℕ
  pub position : ℕ

abbrev pub same_name : MemberName → MemberName → Bool
same_name a b = bytes_eq a.name b.name && bytes_eq a.descriptor b.descriptor

-- the first of the name and descriptor
abbrev pub field_position : MemberName → ClassHead → Option ℕ
field_position member c = position_from (λ field. same_name field.name member) 0 c.fields

abbrev pub method_position : MemberName → ClassHead → Option ℕ
method_position member c = position_from (λ method. same_name method.name member) 0 c.methods

abbrev pub in_class : ℕ → ℕ → MemberPlace
in_class class position = record { class = class; position = position }

-- in the first class in which the search finds one
abbrev pub first_found : (ℕ → Option ℕ) → List ℕ → Option MemberPlace
first_found search [] = None
first_found search (class ∷ classes) = option_or (option_map (in_class class) (search class)) (first_found search classes)

abbrev pub is_private : MethodHead → Bool
is_private m = has_flag 0x0002 m.flags.0

abbrev pub is_static : MethodHead → Bool
is_static m = has_flag 0x0008 m.flags.0

abbrev pub is_selectable : MethodHead → Bool
is_selectable m = not (is_static m || is_private m)

module _ (heads : List ClassHead) where
  -- ---- in the class at a place

  abbrev pub field_in : MemberName → ℕ → Option ℕ
  field_in member place = option_and_then (field_position member) (slice_get heads place)

  abbrev pub method_in : MemberName → ℕ → Option ℕ
  method_in member place = option_and_then (method_position member) (slice_get heads place)

  abbrev pub method_at : MemberPlace → Option MethodHead
  method_at m = option_and_then (λ c. slice_get c.methods m.position) (slice_get heads m.class)

  abbrev pub is_interface_at : ℕ → Bool
  is_interface_at place = of_class (slice_get heads place) where
    of_class : Option ClassHead → Bool
    of_class None = false
    of_class (Some c) = is_interface c

  -- ---- searches

  -- in the class, then in its direct superinterfaces in order and theirs, then in the superclass
  abbrev pub find_field : ℕ → MemberName → Option MemberPlace
  find_field place member = first_found (field_in member) (order heads place)

  -- in the class and its superclasses, then in all superinterfaces, depth first in order
  abbrev pub find_method : ℕ → MemberName → Option MemberPlace
  find_method place member =
      first_found (method_in member) (superclasses heads place ++ filter is_interface_at (order heads place))

  -- ---- selection

  abbrev pub if_selectable : ClassHead → ℕ → Option ℕ
  if_selectable c position = of_method (slice_get c.methods position) where
    of_method : Option MethodHead → Option ℕ
    of_method None = None
    of_method (Some m) = if is_selectable m then Some position else None

  -- its first method of the name and descriptor, where that one is neither static nor private
  abbrev pub selectable_of : MemberName → ClassHead → Option ℕ
  selectable_of member c = option_and_then (if_selectable c) (method_position member c)

  abbrev pub selectable_in : MemberName → ℕ → Option ℕ
  selectable_in member place = option_and_then (selectable_of member) (slice_get heads place)

  -- a private method is selected itself; else the first class from the runtime class upward gives it
  abbrev pub selected : ℕ → MemberPlace → Option MethodHead → Option MemberPlace
  selected runtime found None = None
  selected runtime found (Some m) =
      if is_private m then Some found else first_found (selectable_in m.name) (superclasses heads runtime)

  -- the method that runs on an object of the runtime class where this one was found
  abbrev pub select : ℕ → MemberPlace → Option MemberPlace
  select runtime found = selected runtime found (method_at found)
