-- What a method of the library means: found by the class's name, and in it by the method's name and descriptor.
use Rattle.std.specs.Prelude.{ℕ, Bool, false, not, ◌&&◌, List, Option, Some, None}
use Rattle.std.specs.List.{find}
use Rattle.std.specs.Option.{option_map, option_and_then}
use Rattle.std.specs.Str.{bytes_eq}
use Rattle.aj_names.specs.declared.types.MemberName.{MemberName}
use Rattle.class_heads.specs.declared.types.MethodHead.{MethodHead}
use Rattle.class_heads.specs.declared.types.ClassHead.{ClassHead}
use Rattle.class_heads.specs.Heads.{has_flag}
use Rattle.class_heads.specs.Hierarchy.{class_named}
use Rattle.boot_library.specs.declared.rule.LibraryRule.{LibraryRule}
use Rattle.boot_library.specs.Library.{LibraryMethod, LibraryClass, library}

abbrev pub is_class : List ℕ → LibraryClass → Bool
is_class name c = bytes_eq c.name name

abbrev pub is_method : MemberName → LibraryMethod → Bool
is_method method m = bytes_eq m.name method.name && bytes_eq m.descriptor method.descriptor

-- the methods that the class of that name declares
abbrev pub methods_in : List LibraryClass → List ℕ → Option (List LibraryMethod)
methods_in classes class = option_map (λ c. c.methods) (find (is_class class) classes)

abbrev pub rule_among : List LibraryMethod → MemberName → Option LibraryRule
rule_among methods method = option_and_then (λ m. m.rule) (find (is_method method) methods)

-- the rule of a method of a class, and none where the library has no such method, or a native one
abbrev pub rule_of : List ℕ → MemberName → Option LibraryRule
rule_of class method = option_and_then (λ methods. rule_among methods method) (methods_in library class)

-- ---- the same of heads

abbrev pub is_method_head : MemberName → MethodHead → Bool
is_method_head method m = bytes_eq m.name.name method.name && bytes_eq m.name.descriptor method.descriptor

abbrev pub is_native : MethodHead → Bool
is_native m = has_flag 0x0100 m.flags.0

-- it is there, and not native
abbrev pub is_meant : Option MethodHead → Bool
is_meant None = false
is_meant (Some m) = not (is_native m)

-- the class of that name among the heads declares the method itself, and it isn't native
abbrev pub has_rule : List ClassHead → List ℕ → MemberName → Bool
has_rule heads class method = is_meant (option_and_then (λ c. find (is_method_head method) c.methods) (class_named heads class))
