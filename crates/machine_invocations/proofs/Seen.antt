-- What is known of a method by its number.
use Rattle.std.specs.Prelude.{◌≡◌, ℕ, ◌<◌, ◌||◌, not, Bool, true, false, if◌then◌else◌, nat_lt, List, [], length, slice_get, Option, Some, None, unwrap_or, refl}
use Rattle.std.proofs.Common.{get_or, sym, ap, ◌∙◌, subst, inl, inr, arith}
use Rattle.std.specs.List.{sum}
use Rattle.std.specs.Option.{option_map, option_and_then}
use Rattle.std.proofs.lemmas.List.Sums.{sum_by_more_le}
use Rattle.std.proofs.lemmas.Option.{none-some, same_Some, slice_get-map, get_or_from_slice_get, slice_get_read, slice_get_within, slice_get_cases}
use Rattle.std.proofs.lemmas.Bool.{lt-ltb, ltb-true}
use Rattle.boot_library.specs.declared.rule.LibraryRule.{LibraryRule}
use Rattle.boot_library.specs.Rules.{rule_of}
use Rattle.class_file.specs.declared.types.ClassFile.{ClassFile}
use Rattle.class_heads.specs.Hierarchy.{name_at}
use Rattle.class_heads.specs.declared.types.MethodHead.{MethodHead}
use Rattle.class_heads.specs.declared.types.ClassHead.{ClassHead}
use Rattle.class_heads.specs.Numbers.{IsNumbered, method_counts}
use Rattle.class_heads.specs.Searches.{MemberPlace, in_class}
use Rattle.class_world.specs.Tables.{Known}
use Rattle.class_file.specs.Pool.{NamedType}
use Rattle.class_machine.specs.Classes.{Method, is_constructor, direct_superclass, selected_above, select, select_special}
use Rattle.machine_code.specs.FirstLaws.{first_is_numbered}
use Rattle.machine_code.specs.NumberLaws.{one_numbered}
use Rattle.machine_steps.specs.Runs.{IsMethod}
use Rattle.machine_invocations.specs.Methods.{classes_in, method_in, declared_as, Sees, StandsIn}
use Rattle.machine_invocations.specs.Selections.{type_named}

number_less : (counts : List ℕ) (number : ℕ) (m : MemberPlace) → IsNumbered counts number m → number < sum counts
number_less counts number m is = let e = sum_by_more_le (λ x. x) counts m.class 0 is.known in omega arith

module _ (k : Known) where
  method_numbered : (number : ℕ) (is : IsMethod k number) → IsNumbered (method_counts k.heads) number is.place
  method_numbered number is = subst (λ n. IsNumbered (method_counts k.heads) n is.place) (sym is.numbered) (first_is_numbered k.heads is.place is.first)

  pub method_within : (number : ℕ) → IsMethod k number → number < sum (method_counts k.heads)
  method_within number is = number_less (method_counts k.heads) number is.place (method_numbered number is)

  pub seen_method : (number : ℕ) (m : Method) → Sees k number m → IsMethod k number
  seen_method number m sees = record { place = sees.place; first = sees.first; numbered = sees.numbered }

  pub position_within : (number place position : ℕ) (class : ClassHead) → IsNumbered (method_counts k.heads) number (in_class place position) → slice_get k.heads place ≡ Some class → position < length class.methods
  position_within number place position class is at =
      let count : get_or (method_counts k.heads) place 0 ≡ length class.methods =
      get_or_from_slice_get (method_counts k.heads) place (length class.methods) 0 (slice_get-map (λ (c : ClassHead). length c.methods) k.heads place ∙ ap (option_map (λ (c : ClassHead). length c.methods)) at) in
      let within = is.within in omega arith

  -- where a method is that the machine sees
  same_place : (number place position : ℕ) (m : Method) → IsNumbered (method_counts k.heads) number (in_class place position) → (sees : Sees k number m) → sees.place ≡ in_class place position
  same_place number place position m at sees =
      one_numbered (method_counts k.heads) number sees.place (in_class place position)
      (subst (λ n. IsNumbered (method_counts k.heads) n sees.place) (sym sees.numbered) (first_is_numbered k.heads sees.place sees.first)) at

  pub seen_as : (number place : ℕ) (class : ClassHead) (method : MethodHead) (m : Method) → StandsIn k number place class method → Sees k number m → m ≡ declared_as k place class method
  seen_as number place class method m stands sees =
      same_Some m (declared_as k place class method)
      (sym (subst (λ p. method_in k p ≡ Some m) (same_place number place stands.position m stands.numbered sees) sees.seen)
      ∙ ap (option_and_then (λ (c : ClassHead). option_map (declared_as k place c) (slice_get c.methods stands.position))) stands.at
      ∙ ap (option_map (declared_as k place class)) stands.stands)

  pub stands_in : (number place position : ℕ) (class : ClassHead) (method : MethodHead) (items : List MethodHead) → IsNumbered (method_counts k.heads) number (in_class place position) → slice_get k.heads place ≡ Some class
      → items ≡ class.methods → method ≡ get_or items position method → StandsIn k number place class method
  stands_in number place position class method items numbered at same is = record {
    position = position;
    at = at;
    stands = slice_get_read class.methods (length class.methods) position method refl (position_within number place position class numbered at) (subst (λ xs. method ≡ get_or xs position method) same is);
    numbered = numbered;
  }

  pub class_named : (number place : ℕ) (class : ClassHead) (method : MethodHead) (m : Method) → StandsIn k number place class method → m ≡ declared_as k place class method → name_at k.heads place ≡ m.name.class
  class_named number place class method m stands seen = ap (λ (o : Option ClassHead). unwrap_or (option_map (λ (c : ClassHead). c.name) o) []) stands.at ∙ sym (ap (λ (x : Method). x.name.class) seen)

  pub given_rule : (number place : ℕ) (class : ClassHead) (method : MethodHead) (m : Method) (file : ClassFile) → m ≡ declared_as k place class method → slice_get k.files place ≡ Some file → None ≡ m.rule
  given_rule number place class method m file seen at =
      sym (ap (λ (x : Method). x.rule) seen
      ∙ ap (λ (b : Bool). if b then None else rule_of class.name method.name) (lt-ltb place (length k.files) (slice_get_within k.files place file at)))

  past : {X : Type 0} (xs : List X) (i : ℕ) → slice_get xs i ≡ None → nat_lt i (length xs) ≡ false
  past xs i none = by (nat_lt i (length xs)) refl where
    by : (b : Bool) → nat_lt i (length xs) ≡ b → b ≡ false
    by false e = refl
    by true e = elim (slice_get_cases xs i).1 [
      | inl there ↦ absurd (none-some there.0 (sym none ∙ there.2))
      | inr gone ↦ absurd (let lt = ltb-true i (length xs) e in let ge = gone.0 in omega arith)
    ]

  pub library_rule : (number place : ℕ) (class : ClassHead) (method : MethodHead) (m : Method) (rule : Option LibraryRule) → m ≡ declared_as k place class method → slice_get k.files place ≡ None → rule ≡ rule_of class.name method.name → rule ≡ m.rule
  library_rule number place class method m rule seen at is =
      is ∙ sym (ap (λ (x : Method). x.rule) seen ∙ ap (λ (b : Bool). if b then None else rule_of class.name method.name) (past k.files place at))

  pub member_is : (place : ℕ) (class : ClassHead) (method : MethodHead) (m : Method) (name descriptor : List ℕ) → m ≡ declared_as k place class method → name ≡ method.name.name → descriptor ≡ method.name.descriptor → m.name.member ≡ type_named name descriptor
  member_is place class method m name descriptor seen n d =
      ap (λ (x : Method). x.name.member) seen ∙ ap (λ (x : List ℕ). type_named x method.name.descriptor) (sym n) ∙ ap (type_named name) (sym d)

  -- ---- selection

  pub select_goes : (type : List ℕ) (m : Method) (member : NamedType) → m.is_private ≡ false → m.name.member ≡ member → select (classes_in k) type m ≡ (classes_in k).selected type member
  select_goes type m member public same =
      ap (λ (b : Bool). if b then Some m else (classes_in k).selected type m.name.member) public ∙ ap ((classes_in k).selected type) same

  abbrev is_itself : Method → List ℕ → Bool
  is_itself m current = is_constructor m.name || (m.is_private || not ((classes_in k).is_super current))

  pub itself : (current : List ℕ) (m : Method) → is_itself m current ≡ true → select_special (classes_in k) current m ≡ Some m
  itself current m e = ap (λ (b : Bool). if b then Some m else selected_above (classes_in k) (direct_superclass ((classes_in k).superclasses current)) m) e

  pub not_itself : (current : List ℕ) (m : Method) (classes direct : List (List ℕ)) → is_itself m current ≡ false → (classes_in k).superclasses current ≡ classes → direct_superclass classes ≡ direct
      → select_special (classes_in k) current m ≡ selected_above (classes_in k) direct m
  not_itself current m classes direct e up above =
      ap (λ (b : Bool). if b then Some m else selected_above (classes_in k) (direct_superclass ((classes_in k).superclasses current)) m) e
      ∙ ap (λ x. selected_above (classes_in k) (direct_superclass x) m) up ∙ ap (λ x. selected_above (classes_in k) x m) above
