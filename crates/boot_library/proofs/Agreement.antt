-- A method of the library has a rule exactly where the heads declare it and it isn't native.
use Rattle.std.specs.Prelude.{◌≡◌, ℕ, Bool, true, false, not, List, [], ◌∷◌, map, cond, if◌then◌else◌, Option, Some, None, is_none, is_some, IsSome, IsTrue, ◌↔◌}
use Rattle.std.specs.List.{find}
use Rattle.std.specs.Option.{option_map, option_and_then}
use Rattle.std.proofs.Common.{refl, ap, ◌∙◌, sym}
use Rattle.aj_names.specs.declared.types.MemberName.{MemberName}
use Rattle.class_heads.specs.declared.types.MethodHead.{MethodHead}
use Rattle.class_heads.specs.declared.types.ClassHead.{ClassHead}
use Rattle.class_heads.specs.Heads.{has_flag}
use Rattle.class_heads.specs.Hierarchy.{is_named}
use Rattle.boot_library.specs.declared.rule.LibraryRule.{LibraryRule}
use Rattle.boot_library.specs.Library.{LibraryMethod, LibraryClass, library}
use Rattle.boot_library.specs.Heads.{flags, method_head, class_head, library_heads}
use Rattle.boot_library.specs.Rules.{is_class, is_method, methods_in, rule_among, rule_of, is_method_head, is_meant, has_rule}

over_cond : {A B : Type 0} (f : A → B) (b : Bool) (x : A) (rest : Option B) (o : Option A) → rest ≡ option_map f o → cond b (Some (f x)) rest ≡ option_map f (cond b (Some x) o)
over_cond f true x rest o e = refl
over_cond f false x rest o e = e

find-map : {A B : Type 0} (f : A → B) (p : B → Bool) (xs : List A) → find p (map f xs) ≡ option_map f (find (λ x. p (f x)) xs)
find-map f p [] = refl
find-map f p (x ∷ xs) = over_cond f (p (f x)) x (find p (map f xs)) (find (λ y. p (f y)) xs) (find-map f p xs)

-- ---- one method

-- the flag 0x0100 of a method that has that rule
abbrev native_flag : Option LibraryRule → Bool → Bool
native_flag rule is_static = has_flag 0x0100 (if is_none rule then flags 0x0109 else (if is_static then flags 0x0009 else flags 0x0001)).0

native_without_rule : (rule : Option LibraryRule) (is_static : Bool) → not (native_flag rule is_static) ≡ is_some rule
native_without_rule None is_static = refl
native_without_rule (Some r) true = refl
native_without_rule (Some r) false = refl

meant : (o : Option LibraryMethod) → is_meant (option_map method_head o) ≡ is_some (option_and_then (λ m. m.rule) o)
meant None = refl
meant (Some m) = native_without_rule m.rule m.is_static

-- ---- one class

abbrev found_in : MemberName → Option ClassHead → Option MethodHead
found_in method o = option_and_then (λ c. find (is_method_head method) c.methods) o

in_class : (method : MemberName) (o : Option LibraryClass) → is_meant (found_in method (option_map class_head o)) ≡ is_some (option_and_then (λ methods. rule_among methods method) (option_map (λ c. c.methods) o))
in_class method None = refl
in_class method (Some c) = ap is_meant (find-map method_head (is_method_head method) c.methods) ∙ meant (find (is_method method) c.methods)

in_classes : (classes : List LibraryClass) (class : List ℕ) (method : MemberName) → has_rule (map class_head classes) class method ≡ is_some (option_and_then (λ methods. rule_among methods method) (methods_in classes class))
in_classes classes class method = ap (λ (o : Option ClassHead). is_meant (found_in method o)) (find-map class_head (is_named class) classes) ∙ in_class method (find (is_class class) classes)

agree : (class : List ℕ) (method : MemberName) → has_rule library_heads class method ≡ is_some (rule_of class method)
agree class method = in_classes library class method

same_test : (a b : Bool) → a ≡ b → IsTrue b ↔ IsTrue a
same_test a b e = (λ h. e ∙ h, λ h. sym e ∙ h)

pub rule_where_declared : (class : List ℕ) (method : MemberName) (result : Option LibraryRule) → result ≡ rule_of class method → IsSome result ↔ IsTrue (has_rule library_heads class method)
rule_where_declared class method result e = same_test (has_rule library_heads class method) (is_some result) (agree class method ∙ ap is_some (sym e))
