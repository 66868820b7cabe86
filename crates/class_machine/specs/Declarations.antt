-- The classes of a run: the given ones and behind them the library's, by their heads, and what the machine asks of them
-- (JVMS 2.8, 2.9, 2.10, 5.4.3). Heads don't say what a field with a ConstantValue holds: that is a parameter.
use Rattle.std.specs.Prelude.{ℕ, ◌&&◌, ◌||◌, Bool, true, not, if◌then◌else◌, List, [], ◌∷◌, ◌++◌, map, codes, nat_lt, slice_get, Option, Some, None, option_and_then}
use Rattle.std.specs.List.{filter, flat_map}
use Rattle.std.specs.Option.{option_map, unwrap_or}
use Rattle.std.specs.Str.{bytes_eq}
use Rattle.aj_names.specs.declared.types.MemberName.{MemberName}
use Rattle.class_file.specs.Pool.{NamedType, Reference}
use Rattle.class_file.specs.Text.{is_field_descriptor}
use Rattle.class_heads.specs.declared.types.FieldHead.{FieldHead}
use Rattle.class_heads.specs.declared.types.MethodHead.{MethodHead}
use Rattle.class_heads.specs.declared.types.ClassHead.{ClassHead}
use Rattle.class_heads.specs.Heads.{has_flag}
use Rattle.class_heads.specs.Hierarchy.{object_name, is_interface, is_array, type_named, place_of, class_named, superclasses, is_subtype, name_at, is_known, class_of_members}
use Rattle.class_heads.specs.Faults.{is_class_that}
use Rattle.class_heads.specs.Searches.{MemberPlace, in_class, is_private, is_static, method_in, first_found, find_field, find_method, selectable_in}
use Rattle.boot_library.specs.declared.rule.Primitive.{Primitive}
use Rattle.boot_library.specs.declared.rule.Primitive.TheVariants as boxed
use Rattle.boot_library.specs.declared.rule.LibraryRule.{LibraryRule}
use Rattle.boot_library.specs.Heads.{library_heads}
use Rattle.boot_library.specs.Rules.{is_native, rule_of}
use Rattle.class_machine.specs.Values.{throwable_class, system_class, Held, Reference as Pointer}
use Rattle.class_machine.specs.Descriptors.{blank, element_of}
use Rattle.class_machine.specs.Classes.{reference, same_member, Field, Method, Classes}
use Rattle.class_machine.specs.World.{message_field, cause_field, value_field, box_class}
use Rattle.class_machine.specs.Start.{output}

-- ---- members

abbrev pub member_name : NamedType → MemberName
member_name type = record { name = type.name; descriptor = type.descriptor }

abbrev pub declared_in : List ℕ → MemberName → Reference
declared_in class member = reference class member.name member.descriptor

abbrev pub is_static_field : FieldHead → Bool
is_static_field field = has_flag 0x0008 field.flags.0

abbrev pub field_found : ClassHead → FieldHead → Field
field_found c field = record { name = declared_in c.name field.name; is_static = is_static_field field }

abbrev pub method_found : Option LibraryRule → ClassHead → MethodHead → Method
method_found rule c m = record {
  name = declared_in c.name m.name;
  is_static = is_static m;
  is_private = is_private m;
  is_synchronized = has_flag 0x0020 m.flags.0;
  is_native = is_native m;
  rule = rule;
}

-- ---- classes

abbrev pub is_abstract : ClassHead → Bool
is_abstract c = has_flag 0x0400 c.flags.0

-- ACC_SUPER
abbrev pub is_super : ClassHead → Bool
is_super c = has_flag 0x0020 c.flags.0

abbrev pub has_objects : ClassHead → Bool
has_objects c = not (is_interface c || is_abstract c)

-- ---- fields

abbrev pub box_types : List Primitive
box_types = boxed.Boolean ∷ boxed.Byte ∷ boxed.Char ∷ boxed.Short ∷ boxed.Int ∷ boxed.Long ∷ boxed.Float ∷ boxed.Double ∷ []

-- what the library keeps in objects of its own: no code can name it
abbrev pub hidden_fields : List ℕ → List Reference
hidden_fields class =
    if bytes_eq class throwable_class then message_field ∷ cause_field ∷ []
    else map value_field (filter (λ type. bytes_eq (box_class type) class) box_types)

abbrev pub own_fields : ClassHead → List Reference
own_fields c = map (λ field. declared_in c.name field.name) (filter (λ field. not (is_static_field field)) c.fields)

abbrev pub fields_of : Option ClassHead → List Reference
fields_of None = []
fields_of (Some c) = own_fields c

abbrev pub output_field : Reference
output_field = reference system_class (codes "out") (codes "Ljava/io/PrintStream;")

-- what a static field of the library holds
abbrev pub library_constant : Reference → Option Held
library_constant r = if same_member r output_field then Some (Pointer output) else None

-- ---- all that the machine asks

-- an array type is named by its descriptor (JVMS 4.4.1)
abbrev pub is_type_name : List ℕ → Bool
is_type_name class = if is_array class then is_field_descriptor class else true

-- the given classes, and behind them the library's
abbrev pub run_heads : List ClassHead → List ClassHead
run_heads given = given ++ library_heads

-- of the classes of a run so many first ones are given
module _ (heads : List ClassHead) (given : ℕ) (constant : Reference → Option Held) where
  -- ---- what stands at a place

  abbrev pub rule_at : ℕ → ClassHead → MethodHead → Option LibraryRule
  rule_at place c m = if nat_lt place given then None else rule_of c.name m.name

  abbrev pub field_at : MemberPlace → Option Field
  field_at p = option_and_then (λ c. option_map (field_found c) (slice_get c.fields p.position)) (slice_get heads p.class)

  abbrev pub method_at : MemberPlace → Option Method
  method_at p = option_and_then (λ c. option_map (λ m. method_found (rule_at p.class c m) c m) (slice_get c.methods p.position)) (slice_get heads p.class)

  -- ---- searches, by names

  abbrev pub knows : List ℕ → Bool
  knows class = is_type_name class && is_known heads (type_named class)

  -- the class whose members the type has
  abbrev pub members_at : List ℕ → Option ℕ
  members_at class = if is_type_name class then class_of_members heads (type_named class) else None

  abbrev pub superclasses_of : Option ℕ → List (List ℕ)
  superclasses_of None = []
  superclasses_of (Some place) = map (name_at heads) (superclasses heads place)

  abbrev pub superclass_names : List ℕ → List (List ℕ)
  superclass_names class = if is_array class then class ∷ object_name ∷ [] else superclasses_of (place_of heads class)

  abbrev pub find_selectable : MemberName → ℕ → Option MemberPlace
  find_selectable member place = first_found (selectable_in heads member) (superclasses heads place)

  -- the method that a class declares itself
  abbrev pub declared_method : NamedType → List ℕ → Option Method
  declared_method member class =
      option_and_then (λ place. option_and_then (λ position. method_at (in_class place position)) (method_in heads (member_name member) place)) (place_of heads class)

  -- ---- fields

  abbrev pub in_superclass : List ℕ → List Reference
  in_superclass class = fields_of (class_named heads class) ++ hidden_fields class

  abbrev pub initial_at : Reference → ℕ → Option Held
  initial_at r place = if nat_lt place given then constant r else library_constant r

  -- ---- initialisers

  abbrev pub clinit : NamedType
  clinit = record { name = codes "<clinit>"; descriptor = codes "()V" }

  abbrev pub if_static : Method → Option Method
  if_static m = if m.is_static then Some m else None

  abbrev pub classes_of : Classes
  classes_of = record {
    knows = knows;
    is_subtype = is_subtype heads;
    is_interface = λ class. is_class_that is_interface (class_named heads class);
    has_objects = λ class. is_class_that has_objects (class_named heads class);
    superclasses = superclass_names;
    is_super = λ class. is_class_that is_super (class_named heads class);
    field = λ r. option_and_then field_at (option_and_then (λ place. find_field heads place (member_name r.member)) (members_at r.class));
    method = λ r. option_and_then method_at (option_and_then (λ place. find_method heads place (member_name r.member)) (members_at r.class));
    selected = λ class member. option_and_then method_at (option_and_then (find_selectable (member_name member)) (members_at class));
    fields = λ class. flat_map in_superclass (superclass_names class);
    initial = λ r. unwrap_or (option_and_then (initial_at r) (place_of heads r.class)) (blank (element_of r.member.descriptor));
    initialiser = λ class. option_and_then if_static (declared_method clinit class);
  }
