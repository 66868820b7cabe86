-- The method that runs on an object of a class, as the machine selects it.
use Rattle.std.specs.Prelude.{◌≡◌, ℕ, false, List, length, slice_get, Option, Some, None, option_and_then}
use Rattle.class_file.specs.Pool.{NamedType}
use Rattle.aj_names.specs.declared.types.MemberName.{MemberName}
use Rattle.boot_library.specs.declared.rule.LibraryRule.{LibraryRule}
use Rattle.boot_library.specs.Rules.{rule_of}
use Rattle.class_heads.specs.declared.types.MethodHead.{MethodHead}
use Rattle.class_heads.specs.declared.types.ClassHead.{ClassHead}
use Rattle.class_heads.specs.Searches.{is_private, method_in}
use Rattle.class_world.specs.Tables.{Known}
use Rattle.class_machine.specs.Classes.{Method}
use Rattle.class_machine.specs.ClassFiles.{field_constant}
use Rattle.class_machine.specs.Declarations.{classes_of}
use Rattle.machine_rules.specs.declared.selecting.Selected.{Selected}
use Rattle.machine_rules.specs.declared.selecting.Selected.TheVariants.{Ruled, Bare}
use Rattle.machine_rules.specs.Works.{IsCalled}

abbrev pub named_type : List ℕ → List ℕ → NamedType
named_type name descriptor = record { name = name; descriptor = descriptor }

-- the class at the place declares such a method, which isn't private
pub record Declares (heads : List ClassHead) (place : ℕ) (member : MemberName) : Type 0 where
  pub head : ClassHead
  pub position : ℕ
  pub method : MethodHead
  pub class : slice_get heads place ≡ Some head
  pub stands : slice_get head.methods position ≡ Some method
  pub declared : method_in heads member place ≡ Some position
  pub open_to_all : is_private method ≡ false
  pub named : method.name ≡ member

-- what runs on an object of the class
abbrev pub selected_of : Known → List ℕ → NamedType → Option Method
selected_of k class member = (classes_of k.heads (length k.files) (field_constant k.files)).selected class member

-- a method of the library, by its rule
pub record IsRuled (k : Known) (class : List ℕ) (member : NamedType) (rule : LibraryRule) : Type 0 where
  pub method : Method
  pub selected : selected_of k class member ≡ Some method
  pub ruled : method.rule ≡ Some rule

-- another method, by its number
pub record IsBare (k : Known) (class : List ℕ) (member : NamedType) (number : ℕ) : Type 0 where
  pub method : Method
  pub selected : selected_of k class member ≡ Some method
  pub called : IsCalled k number method

abbrev pub IsSelected : Known → List ℕ → NamedType → Option Selected → Type 0
IsSelected k class member None = selected_of k class member ≡ None
IsSelected k class member (Some (Ruled rule)) = IsRuled k class member rule
IsSelected k class member (Some (Bare method)) = IsBare k class member method.0

-- what the method at a position means, where its class is one of the library
abbrev pub rule_in : ClassHead → ℕ → Option LibraryRule
rule_in c position = option_and_then (λ (m : MethodHead). rule_of c.name m.name) (slice_get c.methods position)
