-- What searches find, by numbers of methods.
use Rattle.std.specs.Prelude.{◌≡◌, ℕ, List, length, Option, Some, None, refl}
use Rattle.std.proofs.Common.{sym, ap, subst}
use Rattle.std.specs.Option.{option_map, option_and_then}
use Rattle.std.proofs.lemmas.Option.{same_Some, none-some}
use Rattle.aj_names.specs.declared.ids.MethodId.{MethodId}
use Rattle.class_file.specs.Pool.{NamedType, Reference}
use Rattle.class_heads.specs.Hierarchy.{superclasses}
use Rattle.class_heads.specs.Numbers.{number_of, method_counts}
use Rattle.class_heads.specs.Searches.{MemberPlace, first_found, find_method, selectable_in}
use Rattle.class_world.specs.Tables.{Known}
use Rattle.class_machine.specs.Declarations.{member_name}
use Rattle.machine_code.specs.FirstLaws.{found_is_first, selectable_found_is_first}
use Rattle.machine_code.specs.CodeLaws.{method_seen, method_is}
use Rattle.machine_code.specs.Programs.{IsFirst}
use Rattle.class_machine.specs.ClassFiles.{field_constant}
use Rattle.machine_invocations.specs.Methods.{classes_in, members_in, method_in, Finds}

module _ (k : Known) where
  pub finds : (id : Option MethodId) (found : Option MemberPlace) → ((place : MemberPlace) → found ≡ Some place → IsFirst k.heads place)
      → option_map (λ (m : MethodId). m.0) id ≡ option_map (number_of (method_counts k.heads)) found → Finds k id (option_and_then (method_in k) found)
  finds None None first same = refl
  finds None (Some place) first same = absurd (none-some (number_of (method_counts k.heads) place) same)
  finds (Some id) None first same = absurd (none-some id.0 (sym same))
  finds (Some id) (Some place) first same =
      let is = first place refl in
      let m = method_seen k.heads (length k.files) (field_constant k.files) place is in
      let seen = method_is k.heads (length k.files) (field_constant k.files) place is in
      record { method = m; sees = record { place = place; first = is; numbered = same_Some id.0 (number_of (method_counts k.heads) place) same; seen = seen }; is = seen }

  -- the search from a type
  pub method_found : (r : Reference) (class : ℕ) (id : Option MethodId) → members_in k r.class ≡ Some class
      → option_map (λ (m : MethodId). m.0) id ≡ option_map (number_of (method_counts k.heads)) (find_method k.heads class (member_name r.member)) → Finds k id ((classes_in k).method r)
  method_found r class id at same =
      subst (λ o. Finds k id (option_and_then (method_in k) (option_and_then (λ place. find_method k.heads place (member_name r.member)) o))) (sym at)
      (finds id (find_method k.heads class (member_name r.member)) (λ place h. found_is_first k.heads class (member_name r.member) place h) same)

  pub method_missing : (r : Reference) → members_in k r.class ≡ None → Finds k None ((classes_in k).method r)
  method_missing r at = ap (λ (o : Option ℕ). option_and_then (method_in k) (option_and_then (λ place. find_method k.heads place (member_name r.member)) o)) at

  pub selected_found : (type : List ℕ) (member : NamedType) (class : ℕ) (id : Option MethodId) → members_in k type ≡ Some class
      → option_map (λ (m : MethodId). m.0) id ≡ option_map (number_of (method_counts k.heads)) (first_found (selectable_in k.heads (member_name member)) (superclasses k.heads class))
      → Finds k id ((classes_in k).selected type member)
  selected_found type member class id at same =
      subst (λ o. Finds k id (option_and_then (method_in k) (option_and_then (λ place. first_found (selectable_in k.heads (member_name member)) (superclasses k.heads place)) o))) (sym at)
      (finds id (first_found (selectable_in k.heads (member_name member)) (superclasses k.heads class))
      (λ place h. selectable_found_is_first k.heads (member_name member) (superclasses k.heads class) place h) same)

  pub selected_missing : (type : List ℕ) (member : NamedType) → members_in k type ≡ None → Finds k None ((classes_in k).selected type member)
  selected_missing type member at = ap (λ (o : Option ℕ). option_and_then (method_in k) (option_and_then (λ place. first_found (selectable_in k.heads (member_name member)) (superclasses k.heads place)) o)) at
