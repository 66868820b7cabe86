-- The method that the words of an entry name: of the methods of a class that was given as a file, in their order, the first static
-- one of the name whose parameters take the arguments. A method that isn't the first of its name and descriptor in its class,
-- which no search finds, is passed over.
use Rattle.std.specs.Prelude.{ℕ, suc, Bool, ◌||◌, if◌then◌else◌, nat_lt, List, [], ◌∷◌, length, slice_get, Option, None, option_and_then}
use Rattle.std.specs.List.{position_from}
use Rattle.std.specs.Str.{bytes_eq}
use Rattle.aj_names.specs.declared.types.MemberName.{MemberName}
use Rattle.class_heads.specs.declared.types.MethodHead.{MethodHead}
use Rattle.class_heads.specs.declared.types.ClassHead.{ClassHead}
use Rattle.class_heads.specs.Hierarchy.{place_of}
use Rattle.class_heads.specs.Searches.{same_name, method_position}
use Rattle.class_world.specs.Tables.{Known}
use Rattle.class_machine.specs.Classes.{Method}
use Rattle.class_machine.specs.Descriptors.{array_of, descriptor_of}
use Rattle.class_machine.specs.Start.{EntryArgument, entry_among}
use Rattle.class_machine.specs.Values.{string_class, object_class}
use Rattle.machine_fields.specs.Settings.{is_at}
use Rattle.machine_invocations.specs.Methods.{classes_in, declared_as}

-- an array of Strings is a value of these types
abbrev pub takes_texts : List ℕ → Bool
takes_texts type = bytes_eq type (array_of string_class) || (bytes_eq type (array_of object_class) || bytes_eq type (descriptor_of object_class))

-- the position of the first method of the name and descriptor
abbrev pub first_position : MemberName → List MethodHead → Option ℕ
first_position name methods = position_from (λ (m : MethodHead). same_name m.name name) 0 methods

-- of a class's methods, from a position on, those that searches find
abbrev pub methods_from : Known → ℕ → ClassHead → ℕ → List MethodHead → List Method
methods_from k place c position [] = []
methods_from k place c position (m ∷ methods) =
    if is_at (method_position m.name c) position then declared_as k place c m ∷ methods_from k place c (suc position) methods
    else methods_from k place c (suc position) methods

abbrev pub entry_in : Known → List ℕ → List EntryArgument → ℕ → ClassHead → Option Method
entry_in k name words place c = entry_among (classes_in k) name words (methods_from k place c 0 c.methods)

-- of the class at a place, where that was given as a file
abbrev pub entry_at : Known → List ℕ → List EntryArgument → ℕ → Option Method
entry_at k name words place = if nat_lt place (length k.files) then option_and_then (entry_in k name words place) (slice_get k.heads place) else None

abbrev pub entry_of : Known → List ℕ → List ℕ → List EntryArgument → Option Method
entry_of k class name words = option_and_then (entry_at k name words) (place_of k.heads class)
