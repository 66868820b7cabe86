-- Look-ups of classes in lists of classes.
use Rattle.std.specs.Prelude.{◌≡◌, ℕ, List, ◌++◌, Option, Some, None}
use Rattle.std.specs.List.{find}
use Rattle.std.specs.Option.{option_map, option_or, option_and_then}
use Rattle.std.proofs.Common.{refl, ap, ◌∙◌, sym}
use Rattle.std.proofs.lemmas.List.Folds.{find-append}
use Rattle.aj_names.specs.declared.types.MemberName.{MemberName}
use Rattle.boot_library.specs.declared.rule.LibraryRule.{LibraryRule}
use Rattle.boot_library.specs.Library.{LibraryMethod, LibraryClass, library}
use Rattle.boot_library.specs.Rules.{is_class, methods_in, rule_among, rule_of}

option_map-or : {A B : Type 0} (f : A → B) (a b : Option A) → option_map f (option_or a b) ≡ option_or (option_map f a) (option_map f b)
option_map-or f None b = refl
option_map-or f (Some x) b = refl

pub methods_in-append : (xs ys : List LibraryClass) (class : List ℕ) → methods_in (xs ++ ys) class ≡ option_or (methods_in xs class) (methods_in ys class)
methods_in-append xs ys class =
    ap (λ (o : Option LibraryClass). option_map (λ c. c.methods) o) (find-append (is_class class) xs ys) ∙ option_map-or (λ c. c.methods) (find (is_class class) xs) (find (is_class class) ys)

-- found in the first of two lists
pub found_first : (xs ys front : List LibraryClass) (class : List ℕ) (found : List LibraryMethod) → front ≡ xs → Some found ≡ methods_in front class → Some found ≡ methods_in (xs ++ ys) class
found_first xs ys front class found same is =
    let first : methods_in xs class ≡ Some found = ap (λ (cs : List LibraryClass). methods_in cs class) (sym same) ∙ sym is in
    sym (methods_in-append xs ys class ∙ ap (λ (o : Option (List LibraryMethod)). option_or o (methods_in ys class)) first)

-- not found in the first, and what is found in the second
pub found_second : (xs ys front back : List LibraryClass) (class : List ℕ) (found : Option (List LibraryMethod)) → front ≡ xs → back ≡ ys → None ≡ methods_in front class → found ≡ methods_in back class → found ≡ methods_in (xs ++ ys) class
found_second xs ys front back class found same same_back missing is =
    let first : methods_in xs class ≡ None = ap (λ (cs : List LibraryClass). methods_in cs class) (sym same) ∙ sym missing in
    let second : methods_in ys class ≡ found = ap (λ (cs : List LibraryClass). methods_in cs class) (sym same_back) ∙ sym is in
    sym (methods_in-append xs ys class ∙ ap (λ (o : Option (List LibraryMethod)). option_or o (methods_in ys class)) first ∙ second)

-- ---- the rule of a method, from the methods of its class

pub rule_from : {R : Type 0} (view : R → List LibraryMethod) (found : Option R) (rows : R) (name class : List ℕ) (method : MemberName) (result : Option LibraryRule) → name ≡ class → option_map view found ≡ methods_in library name → found ≡ Some rows → result ≡ rule_among (view rows) method → result ≡ rule_of class method
rule_from view found rows name class method result same is some meaning =
    meaning ∙ ap (λ (o : Option (List LibraryMethod)). option_and_then (λ methods. rule_among methods method) o) (ap (option_map view) (sym some) ∙ is) ∙ ap (λ (n : List ℕ). rule_of n method) same

pub no_rule_from : {R : Type 0} (view : R → List LibraryMethod) (found : Option R) (name class : List ℕ) (method : MemberName) (result : Option LibraryRule) → name ≡ class → option_map view found ≡ methods_in library name → found ≡ None → result ≡ None → result ≡ rule_of class method
no_rule_from view found name class method result same is none meaning =
    meaning ∙ ap (λ (o : Option (List LibraryMethod)). option_and_then (λ methods. rule_among methods method) o) (ap (option_map view) (sym none) ∙ is) ∙ ap (λ (n : List ℕ). rule_of n method) same
