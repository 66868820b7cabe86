-- Worked examples: a few classes each, whose supertypes and members the definitions compute.
use Rattle.std.specs.Prelude.{◌≡◌, refl, ℕ, true, false, List, [], ◌∷◌, codes, Option, Some, None}
use Rattle.aj_names.specs.declared.types.MemberName.{MemberName}
use Rattle.class_file.specs.declared.access.AccessFlags.{AccessFlags}
use Rattle.class_heads.specs.declared.types.FieldHead.{FieldHead}
use Rattle.class_heads.specs.declared.types.MethodHead.{MethodHead}
use Rattle.class_heads.specs.declared.types.ClassHead.{ClassHead}
use Rattle.class_heads.specs.Hierarchy.{object_name, supers_at, superclasses, order, supertypes, supertype_names, is_subtype, type_named, class_of_members}
use Rattle.class_heads.specs.Searches.{in_class, find_field, find_method, select}
use Rattle.class_heads.specs.Numbers.{number_of, method_counts}
use Rattle.class_heads.specs.Reserved.{has_mark}
use Rattle.class_heads.specs.Faults.{has_twin, missing_super, has_wrong_super}

-- ---- notation

abbrev pub flags : ℕ → AccessFlags
flags bits = record { 0 = bits }

abbrev pub value : MemberName
value = record { name = codes "value"; descriptor = codes "I" }

abbrev pub run : MemberName
run = record { name = codes "run"; descriptor = codes "()V" }

abbrev pub field : MemberName → FieldHead
field name = record { name = name; flags = flags 9; is_synthetic = false; has_constant = false }

abbrev pub method : MemberName → ℕ → MethodHead
method name bits = record { name = name; flags = flags bits; exceptions = []; is_synthetic = false }

abbrev pub class : List ℕ → ℕ → Option (List ℕ) → List (List ℕ) → List FieldHead → List MethodHead → ClassHead
class name bits super_class interfaces fields methods = record {
  name = name;
  version = 48;
  flags = flags bits;
  super_class = super_class;
  interfaces = interfaces;
  fields = fields;
  methods = methods;
}

abbrev pub object : ClassHead
object = class object_name 1 None [] [] []

abbrev pub interface : List ℕ → List (List ℕ) → List FieldHead → ClassHead
interface name interfaces fields = class name 0x0601 (Some object_name) interfaces fields []

-- ---- a diamond of interfaces

abbrev pub diamond : List ClassHead
diamond =
    object ∷ interface (codes "A") [] [] ∷ interface (codes "B") (codes "A" ∷ []) []
    ∷ interface (codes "C") (codes "A" ∷ []) [] ∷ class (codes "D") 1 (Some object_name) (codes "B" ∷ codes "C" ∷ []) [] [] ∷ []

pub diamond_order : order diamond 4 ≡ 4 ∷ 2 ∷ 1 ∷ 0 ∷ 0 ∷ 3 ∷ 1 ∷ 0 ∷ 0 ∷ 0 ∷ []
diamond_order = refl

pub diamond_supertypes : supertypes diamond 4 ≡ 4 ∷ 2 ∷ 1 ∷ 0 ∷ 3 ∷ []
diamond_supertypes = refl

pub diamond_superclasses : superclasses diamond 4 ≡ 4 ∷ 0 ∷ []
diamond_superclasses = refl

pub diamond_names : supertype_names diamond (codes "C") ≡ codes "C" ∷ codes "A" ∷ object_name ∷ []
diamond_names = refl

pub above : is_subtype diamond (codes "D") (codes "A") ≡ true
above = refl

pub not_above : is_subtype diamond (codes "A") (codes "D") ≡ false
not_above = refl

-- ---- array types

pub array_of_classes : is_subtype diamond (codes "[LD;") (codes "[LA;") ≡ true
array_of_classes = refl

pub array_of_arrays : is_subtype diamond (codes "[[I") (codes "[Ljava/lang/Object;") ≡ true
array_of_arrays = refl

pub arrays_are_cloneable : is_subtype diamond (codes "[I") (codes "java/lang/Cloneable") ≡ true
arrays_are_cloneable = refl

pub no_array_of_objects : is_subtype diamond (codes "[I") (codes "[Ljava/lang/Object;") ≡ false
no_array_of_objects = refl

pub no_wider_array : is_subtype diamond (codes "[I") (codes "[J") ≡ false
no_wider_array = refl

pub members_of_an_array : class_of_members diamond (type_named (codes "[LD;")) ≡ Some 0
members_of_an_array = refl

pub no_members_of_unknown : class_of_members diamond (type_named (codes "[LE;")) ≡ None
no_members_of_unknown = refl

-- ---- a field of an interface before one of the superclass

abbrev pub fields : List ClassHead
fields =
    object ∷ class (codes "Base") 1 (Some object_name) [] (field value ∷ []) [] ∷ interface (codes "Face") [] (field run ∷ field value ∷ [])
    ∷ class (codes "Low") 1 (Some (codes "Base")) (codes "Face" ∷ []) [] [] ∷ []

pub interface_first : find_field fields 3 value ≡ Some (in_class 2 1)
interface_first = refl

pub from_superclass : find_field fields 1 value ≡ Some (in_class 1 0)
from_superclass = refl

pub no_field : find_field fields 0 value ≡ None
no_field = refl

-- ---- a method of the superclass before one of an interface

abbrev pub methods : List ClassHead
methods =
    object ∷ class (codes "Base") 1 (Some object_name) [] [] (method run 1 ∷ [])
    ∷ class (codes "Face") 0x0601 (Some object_name) [] [] (method run 0x0401 ∷ [])
    ∷ class (codes "Low") 1 (Some (codes "Base")) (codes "Face" ∷ []) [] [] ∷ class (codes "Bare") 0x0401 (Some object_name) (codes "Face" ∷ []) [] [] ∷ []

pub superclass_first : find_method methods 3 run ≡ Some (in_class 1 0)
superclass_first = refl

pub from_interface : find_method methods 4 run ≡ Some (in_class 2 0)
from_interface = refl

pub numbered : number_of (method_counts methods) (in_class 2 0) ≡ 1
numbered = refl

-- ---- a private method in the way of selection

abbrev pub hidden : List ClassHead
hidden =
    object ∷ class (codes "Base") 1 (Some object_name) [] [] (method run 1 ∷ [])
    ∷ class (codes "Low") 1 (Some (codes "Base")) [] [] (method run 2 ∷ []) ∷ []

pub private_passed : select hidden 2 (in_class 1 0) ≡ Some (in_class 1 0)
private_passed = refl

pub private_itself : select hidden 2 (in_class 2 0) ≡ Some (in_class 2 0)
private_itself = refl

-- ---- faults

-- A and B are each other's superclass, and C leads to them
abbrev pub circle : List ClassHead
circle =
    class (codes "A") 1 (Some (codes "B")) [] [] [] ∷ class (codes "B") 1 (Some (codes "A")) [] [] [] ∷ class (codes "C") 1 (Some (codes "A")) [] [] [] ∷ []

pub first_step : supers_at circle 0 ≡ 1 ∷ []
first_step = refl

pub step_back : supers_at circle 1 ≡ 0 ∷ []
step_back = refl

pub step_onto : supers_at circle 2 ≡ 0 ∷ []
step_onto = refl

pub twins : has_twin (object ∷ object ∷ []) object ≡ true
twins = refl

pub missing_superclass_first : missing_super (object ∷ []) (class (codes "A") 1 (Some (codes "B")) (codes "C" ∷ []) [] []) ≡ Some (codes "B")
missing_superclass_first = refl

pub interface_as_superclass : has_wrong_super diamond (class (codes "E") 1 (Some (codes "A")) [] [] []) ≡ true
interface_as_superclass = refl

pub class_as_interface : has_wrong_super diamond (class (codes "E") 1 (Some object_name) (codes "D" ∷ []) [] []) ≡ true
class_as_interface = refl

-- ---- reserved names

pub marked : has_mark (codes "a/ajc$b") ≡ true
marked = refl

pub unmarked : has_mark (codes "ajc") ≡ false
unmarked = refl
