-- The methods of a world as the class machine sees them, and what its searches find.
use Rattle.std.specs.Prelude.{◌≡◌, ℕ, List, length, slice_get, Option, Some, None}
use Rattle.aj_names.specs.declared.ids.MethodId.{MethodId}
use Rattle.class_heads.specs.declared.types.MethodHead.{MethodHead}
use Rattle.class_heads.specs.declared.types.ClassHead.{ClassHead}
use Rattle.class_heads.specs.Numbers.{number_of, method_counts, IsNumbered}
use Rattle.class_heads.specs.Searches.{MemberPlace, in_class}
use Rattle.class_world.specs.Tables.{Known}
use Rattle.class_machine.specs.Classes.{Method, Classes}
use Rattle.class_machine.specs.Declarations as run
use Rattle.class_machine.specs.ClassFiles.{field_constant}
use Rattle.machine_code.specs.Programs.{IsFirst}

-- what the machine asks of the classes of the world
abbrev pub classes_in : Known → Classes
classes_in k = run.classes_of k.heads (length k.files) (field_constant k.files)

-- the class whose members a class or array type has
abbrev pub members_in : Known → List ℕ → Option ℕ
members_in k class = run.members_at k.heads (length k.files) (field_constant k.files) class

-- the method at a place
abbrev pub method_in : Known → MemberPlace → Option Method
method_in k place = run.method_at k.heads (length k.files) (field_constant k.files) place

-- the method that a class at a place declares so
abbrev pub declared_as : Known → ℕ → ClassHead → MethodHead → Method
declared_as k place class method = run.method_found (run.rule_at k.heads (length k.files) (field_constant k.files) place class method) class method

-- the method of that number, as the machine sees it
pub record Sees (k : Known) (number : ℕ) (m : Method) : Type 0 where
  pub place : MemberPlace
  pub first : IsFirst k.heads place
  pub numbered : number ≡ number_of (method_counts k.heads) place
  pub seen : method_in k place ≡ Some m

-- the method of that number stands in the class at that place
pub record StandsIn (k : Known) (number : ℕ) (place : ℕ) (class : ClassHead) (method : MethodHead) : Type 0 where
  pub position : ℕ
  pub at : slice_get k.heads place ≡ Some class
  pub stands : slice_get class.methods position ≡ Some method
  pub numbered : IsNumbered (method_counts k.heads) number (in_class place position)

-- a search of the machine finds the method of that number
pub record IsFound (k : Known) (number : ℕ) (found : Option Method) : Type 0 where
  pub method : Method
  pub sees : Sees k number method
  pub is : found ≡ Some method

-- the same, where there may be none
abbrev pub Finds : Known → Option MethodId → Option Method → Type 0
Finds k None found = found ≡ None
Finds k (Some method) found = IsFound k method.0 found
