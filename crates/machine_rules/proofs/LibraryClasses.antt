-- Which classes of the library are there, and what they extend.
use Rattle.std.specs.Prelude.{◌≡◌, ℕ, zero, suc, ◌+◌, ◌≤◌, true, List, [], ◌∷◌, map, length, codes, slice_get, Option, Some, None, is_some, refl}
use Rattle.std.specs.List.{filter_map, cons_option}
use Rattle.std.proofs.Common.{◌∙◌, ap, arith}
use Rattle.std.proofs.lemmas.Bool.{false≢true}
use Rattle.std.proofs.lemmas.Option.{slice_get_within}
use Rattle.boot_library.specs.declared.rule.Primitive.{Primitive}
use Rattle.boot_library.specs.declared.rule.Primitive.TheVariants as boxed
use Rattle.boot_library.specs.Library as library
use Rattle.boot_library.specs.Heads.{class_head, library_heads}
use Rattle.class_heads.specs.declared.types.ClassHead.{ClassHead}
use Rattle.class_heads.specs.Heads.{head_of}
use Rattle.class_heads.specs.Hierarchy.{place_of, superclass_name, superclass_at}
use Rattle.class_world.specs.Tables.{Known}
use Rattle.class_machine.specs.World.{box_class}
use Rattle.machine_requests.specs.Telling.{AreDistinct}
use Rattle.machine_rules.specs.Library.{HasLibrary}
use Rattle.machine_rules.proofs.Declared.{get_behind, class_behind}
use Rattle.machine_rules.proofs.Library.{library_knows}

pub known_place : (o : Option ℕ) → is_some o ≡ true → (p : ℕ) × (o ≡ Some p)
known_place None is = absurd (false≢true is)
known_place (Some p) is = (p, refl)

pub three_more : (n : ℕ) → 3 ≤ n → (m : ℕ) × (n ≡ suc (suc (suc m)))
three_more zero few = absurd (omega arith)
three_more (suc zero) few = absurd (omega arith)
three_more (suc (suc zero)) few = absurd (omega arith)
three_more (suc (suc (suc m))) few = (m, refl)

pub many_heads : (k : Known) → HasLibrary k → 3 ≤ length k.heads
unfolding HasLibrary
many_heads k has =
    let given = map head_of k.files in
    let third : slice_get k.heads (length given + 2) ≡ Some (class_head library.throwable) = ap (λ (heads : List ClassHead). slice_get heads (length given + 2)) has ∙ get_behind given library_heads 2 in
    let within = slice_get_within k.heads (length given + 2) (class_head library.throwable) third in
    omega arith

module _ (k : Known) (has : HasLibrary k) (distinct : AreDistinct k.heads) where
  -- the class that a class of the library extends
  pub extends : (i : ℕ) (head : ClassHead) (name super : List ℕ) (place up : ℕ) → slice_get library_heads i ≡ Some head → head.name ≡ name → superclass_name (Some head) ≡ super ∷ [] → place_of k.heads name ≡ Some place → place_of k.heads super ≡ Some up
      → superclass_at k.heads place ≡ up ∷ []
  extends i head name super place up there named extended found above =
      ap (λ (o : Option ClassHead). filter_map (place_of k.heads) (superclass_name o)) (class_behind k name i head place has distinct there named found)
      ∙ ap (filter_map (place_of k.heads)) extended ∙ ap (λ (o : Option ℕ). cons_option o []) above

boxes_there : (type : Primitive) → (k : Known) → HasLibrary k → is_some (place_of k.heads (box_class type)) ≡ true
boxes_there boxed.Boolean k has = library_knows k (box_class boxed.Boolean) has (λ j. refl)
boxes_there boxed.Byte k has = library_knows k (box_class boxed.Byte) has (λ j. refl)
boxes_there boxed.Char k has = library_knows k (box_class boxed.Char) has (λ j. refl)
boxes_there boxed.Short k has = library_knows k (box_class boxed.Short) has (λ j. refl)
boxes_there boxed.Int k has = library_knows k (box_class boxed.Int) has (λ j. refl)
boxes_there boxed.Long k has = library_knows k (box_class boxed.Long) has (λ j. refl)
boxes_there boxed.Float k has = library_knows k (box_class boxed.Float) has (λ j. refl)
boxes_there boxed.Double k has = library_knows k (box_class boxed.Double) has (λ j. refl)

pub knows_boxes : (k : Known) (type : Primitive) → HasLibrary k → is_some (place_of k.heads (box_class type)) ≡ true
knows_boxes k type has = boxes_there type k has

pub knows_missing : (k : Known) → HasLibrary k → is_some (place_of k.heads (codes "java/lang/ClassNotFoundException")) ≡ true
knows_missing k has = library_knows k (codes "java/lang/ClassNotFoundException") has (λ j. refl)
