-- What the code has for the kinds of attributes.
use Rattle.std.specs.Prelude.{◌≡◌, ℕ, Bool, true, List, codes}
use Rattle.std.specs.List.{list_any}
use Rattle.std.specs.Str.{bytes_eq}
use Rattle.class_file.specs.WellFormed.{Kind, kind_in_class, kind_in_field, kind_in_method, CodeKind}
use Rattle.class_format.specs.declared.kinds.Place.{Place}
use Rattle.class_format.specs.declared.kinds.Held.{Held}
use Rattle.class_format.specs.declared.kinds.HeldInCode.{HeldInCode}
use Rattle.class_format.specs.declared.kinds.Seen.{Seen}

abbrev pub kind_of : Held → Kind
kind_of Held.Code = Kind.Code
kind_of Held.ConstantValue = Kind.ConstantValue
kind_of Held.Exceptions = Kind.Exceptions
kind_of Held.InnerClasses = Kind.InnerClasses
kind_of Held.Synthetic = Kind.Synthetic
kind_of Held.Other = Kind.Other

abbrev pub code_kind_of : HeldInCode → CodeKind
code_kind_of HeldInCode.Lines = CodeKind.Lines
code_kind_of HeldInCode.Variables = CodeKind.Variables
code_kind_of HeldInCode.VariableTypes = CodeKind.VariableTypes
code_kind_of HeldInCode.Other = CodeKind.Bytes

abbrev pub kinds_in : Place → List ℕ → Kind
kinds_in Place.Class name = kind_in_class name
kinds_in Place.Field name = kind_in_field name
kinds_in (Place.Method position) name = kind_in_method name

-- the position of the method in which an attribute stands, if it does
abbrev pub position_in : Place → ℕ
position_in Place.Class = 0
position_in Place.Field = 0
position_in (Place.Method position) = position

abbrev pub is_among : List (List ℕ) → List ℕ → Bool
is_among earlier name = list_any (bytes_eq name) earlier

-- what was seen are the names of these attributes
abbrev pub Marks : Seen → List (List ℕ) → Type 0
Marks seen earlier =
    (seen.code ≡ is_among earlier (codes "Code")) × (seen.constant_value ≡ is_among earlier (codes "ConstantValue"))
    × (seen.exceptions ≡ is_among earlier (codes "Exceptions")) × (seen.inner_classes ≡ is_among earlier (codes "InnerClasses"))
    × (seen.synthetic ≡ is_among earlier (codes "Synthetic"))

-- an attribute that holds this was seen
abbrev pub was_seen : Seen → Held → Bool
was_seen seen Held.Code = seen.code
was_seen seen Held.ConstantValue = seen.constant_value
was_seen seen Held.Exceptions = seen.exceptions
was_seen seen Held.InnerClasses = seen.inner_classes
was_seen seen Held.Synthetic = seen.synthetic
was_seen seen Held.Other = true
