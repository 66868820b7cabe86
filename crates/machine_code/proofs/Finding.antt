-- The code of a method, found by its number.
use Rattle.std.specs.Prelude.{◌≡◌, ℕ, List, slice_get, Option, Some, None, option_and_then}
use Rattle.std.proofs.Common.{sym, ap, ◌∙◌, subst}
use Rattle.std.specs.Option.{option_map}
use Rattle.class_file.specs.declared.types.ClassFile.{ClassFile}
use Rattle.class_file.specs.declared.types.Member.{Member}
use Rattle.class_file.specs.declared.types.CodeAttr.{CodeAttr}
use Rattle.class_heads.specs.declared.types.ClassHead.{ClassHead}
use Rattle.class_heads.specs.Searches.{MemberPlace, in_class}
use Rattle.class_heads.specs.Numbers.{number_of, IsNumbered, method_counts}
use Rattle.class_machine.specs.ClassFiles.{MethodCode, code_of, with_pool, method_code}
use Rattle.machine_code.specs.Programs.{code_at, placed_code, method_name, IsFirst, IsProgram}
use Rattle.machine_code.specs.FirstLaws.{first_is_numbered}
use Rattle.machine_code.specs.NumberLaws.{one_numbered}
use Rattle.machine_code.proofs.ByNames.{by_name}

module _ (files : List ClassFile) (class position : ℕ) where
  pub no_file : slice_get files class ≡ None → None ≡ placed_code files (in_class class position)
  no_file none = sym (ap (option_and_then (code_at position)) none)

  module _ (c : ClassFile) (there : slice_get files class ≡ Some c) where
    in_file : (m : Option Member) → slice_get c.methods position ≡ m → placed_code files (in_class class position) ≡ option_map (with_pool c) (option_and_then code_of m)
    in_file m at = ap (option_and_then (code_at position)) there ∙ ap (λ (o : Option Member). option_map (with_pool c) (option_and_then code_of o)) at

    pub no_member : slice_get c.methods position ≡ None → None ≡ placed_code files (in_class class position)
    no_member none = sym (in_file None none)

    pub no_code : (m : Member) → slice_get c.methods position ≡ Some m → code_of m ≡ None → None ≡ placed_code files (in_class class position)
    no_code m at none = sym (in_file (Some m) at ∙ ap (option_map (with_pool c)) none)

    pub some_code : (m : Member) (code : CodeAttr) → slice_get c.methods position ≡ Some m → code_of m ≡ Some code → Some (with_pool c code) ≡ placed_code files (in_class class position)
    some_code m code at found = sym (in_file (Some m) at ∙ ap (option_map (with_pool c)) found)

module _ (files : List ClassFile) (heads : List ClassHead) (method class position : ℕ) (numbered : IsNumbered (method_counts heads) method (in_class class position)) (found : Option MethodCode) (is : found ≡ placed_code files (in_class class position)) where
  pub by_number : (place : MemberPlace) → IsNumbered (method_counts heads) method place → found ≡ placed_code files place
  by_number place n = is ∙ ap (placed_code files) (one_numbered (method_counts heads) method (in_class class position) place numbered n)

  pub by_names : (place : MemberPlace) → IsProgram files heads → IsFirst heads place → method ≡ number_of (method_counts heads) place → found ≡ method_code files (method_name heads place)
  by_names place program first same =
      by_number place (subst (λ (n : ℕ). IsNumbered (method_counts heads) n place) (sym same) (first_is_numbered heads place first))
      ∙ sym (by_name files heads program place first)
