-- Code by places of methods, and where it is the code that goes by names: in a program, at a method that is the first of
-- its name and descriptor in its class. Each search of a method finds such a one.
use Rattle.std.specs.Prelude.{◌≡◌, ℕ, ◌<◌, IsTrue, List, [], ◌++◌, map, length, slice_get, Option, Some, option_and_then}
use Rattle.std.specs.List.{AllByRecursion}
use Rattle.std.specs.Option.{option_map, unwrap_or}
use Rattle.class_file.specs.declared.types.ClassFile.{ClassFile}
use Rattle.class_file.specs.Pool.{Reference}
use Rattle.class_file.specs.WellFormed.{is_well_formed}
use Rattle.class_heads.specs.declared.types.MethodHead.{MethodHead}
use Rattle.class_heads.specs.declared.types.ClassHead.{ClassHead}
use Rattle.class_heads.specs.Heads.{head_of}
use Rattle.class_heads.specs.Hierarchy.{place_of, name_at}
use Rattle.class_heads.specs.Searches.{MemberPlace, method_position}
use Rattle.class_machine.specs.Classes.{reference}
use Rattle.class_machine.specs.Declarations.{declared_in}
use Rattle.class_machine.specs.ClassFiles.{MethodCode, code_of, with_pool}

-- the code of the method at a place, where that is in a file
abbrev pub code_at : ℕ → ClassFile → Option MethodCode
code_at position c = option_map (with_pool c) (option_and_then code_of (slice_get c.methods position))

abbrev pub placed_code : List ClassFile → MemberPlace → Option MethodCode
placed_code files m = option_and_then (code_at m.position) (slice_get files m.class)

-- the name of the method at a place, by the class that declares it
abbrev pub name_in_class : ℕ → ClassHead → Option Reference
name_in_class position c = option_map (λ (m : MethodHead). declared_in c.name m.name) (slice_get c.methods position)

abbrev pub method_name : List ClassHead → MemberPlace → Reference
method_name heads m = unwrap_or (option_and_then (name_in_class m.position) (slice_get heads m.class)) (reference [] [] [])

-- the method at the place is the first of its name and descriptor in its class
pub record IsFirst (heads : List ClassHead) (m : MemberPlace) : Type 0 where
  pub head : ClassHead
  pub method : MethodHead
  pub class : slice_get heads m.class ≡ Some head
  pub stands : slice_get head.methods m.position ≡ Some method
  pub first : method_position method.name head ≡ Some m.position

-- well-formed class files, and the heads of their classes, of which each has a name of its own
pub record IsProgram (files : List ClassFile) (heads : List ClassHead) : Type 0 where
  pub library : List ClassHead
  pub given : heads ≡ map head_of files ++ library
  pub different : (place : ℕ) → place < length heads → place_of heads (name_at heads place) ≡ Some place
  pub formed : AllByRecursion (λ c. IsTrue (is_well_formed c)) files
