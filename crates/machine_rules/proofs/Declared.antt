-- The methods of the library that texts of objects come from are declared in a world that has the library.
use Rattle.std.specs.Prelude.{◌≡◌, ℕ, suc, ◌+◌, false, List, [], ◌∷◌, ◌++◌, map, length, codes, slice_get, Option, Some, option_and_then, refl}
use Rattle.std.specs.Option.{option_map, unwrap_or}
use Rattle.std.proofs.Common.{sym, ◌∙◌, ap, subst, arith}
use Rattle.std.proofs.lemmas.Option.{same_Some, slice_get_within}
use Rattle.aj_names.specs.declared.types.MemberName.{MemberName}
use Rattle.boot_library.specs.declared.rule.LibraryRule.TheVariants as rule
use Rattle.boot_library.specs.Library as library
use Rattle.boot_library.specs.Heads.{class_head, method_head, library_heads}
use Rattle.class_heads.specs.declared.types.MethodHead.{MethodHead}
use Rattle.class_heads.specs.declared.types.ClassHead.{ClassHead}
use Rattle.class_heads.specs.Heads.{head_of}
use Rattle.class_heads.specs.Hierarchy.{place_of, name_at}
use Rattle.class_heads.specs.Searches.{is_private, method_position}
use Rattle.class_world.specs.Tables.{Known}
use Rattle.class_world.specs.Found.{member_named}
use Rattle.machine_requests.specs.Telling.{AreDistinct}
use Rattle.machine_rules.specs.Library.{HasLibrary}
use Rattle.machine_rules.specs.Selecting.{Declares}

pub get_behind : {X : Type 0} (xs ys : List X) (i : ℕ) → slice_get (xs ++ ys) (length xs + i) ≡ slice_get ys i
get_behind [] ys i = let e : 0 + i ≡ i = omega arith in ap (slice_get ys) e
get_behind (x ∷ xs) ys i = let e : length (x ∷ xs) + i ≡ suc (length xs + i) = omega arith in ap (slice_get (x ∷ xs ++ ys)) e ∙ get_behind xs ys i

-- a class of the library is at its place in a world
pub class_behind : (k : Known) (name : List ℕ) (i : ℕ) (head : ClassHead) (place : ℕ) → HasLibrary k → AreDistinct k.heads → slice_get library_heads i ≡ Some head → head.name ≡ name → place_of k.heads name ≡ Some place
    → slice_get k.heads place ≡ Some head
unfolding HasLibrary
class_behind k name i head place has distinct there named found =
    let given = map head_of k.files in
    let at = length given + i in
    let here : slice_get k.heads at ≡ Some head = ap (λ (heads : List ClassHead). slice_get heads at) has ∙ get_behind given library_heads i ∙ there in
    let within = slice_get_within k.heads at head here in
    let called : name_at k.heads at ≡ name = ap (λ (o : Option ClassHead). unwrap_or (option_map (λ c. c.name) o) []) here ∙ named in
    let same : at ≡ place = same_Some at place (sym (distinct.different at within) ∙ ap (place_of k.heads) called ∙ found) in
    subst (λ p. slice_get k.heads p ≡ Some head) same here

pub library_declares : (k : Known) (name : List ℕ) (i : ℕ) (head : ClassHead) (member : MemberName) (position : ℕ) (method : MethodHead) (place : ℕ) → HasLibrary k → AreDistinct k.heads
    → slice_get library_heads i ≡ Some head → head.name ≡ name → slice_get head.methods position ≡ Some method → method_position member head ≡ Some position → is_private method ≡ false → method.name ≡ member
    → place_of k.heads name ≡ Some place → Declares k.heads place member
library_declares k name i head member position method place has distinct there named stands declared visible same found =
    let class = class_behind k name i head place has distinct there named found in
    record {
      head = head;
      position = position;
      method = method;
      class = class;
      stands = stands;
      declared = ap (option_and_then (method_position member)) class ∙ declared;
      open_to_all = visible;
      named = same;
    }

abbrev text_method : MethodHead
text_method = method_head (library.to_string_by rule.Describe)

pub object_declares : (k : Known) (place : ℕ) → HasLibrary k → AreDistinct k.heads → place_of k.heads (codes "java/lang/Object") ≡ Some place
    → Declares k.heads place (member_named (codes "toString") (codes "()Ljava/lang/String;"))
object_declares k place has distinct found =
    library_declares k (codes "java/lang/Object") 0 (class_head library.object) (member_named (codes "toString") (codes "()Ljava/lang/String;")) 3 text_method place has distinct refl refl refl refl refl refl found

abbrev message_method : MethodHead
message_method = method_head (library.instance (codes "getMessage") (codes "()Ljava/lang/String;") rule.Message)

pub throwable_declares : (k : Known) (place : ℕ) → HasLibrary k → AreDistinct k.heads → place_of k.heads (codes "java/lang/Throwable") ≡ Some place
    → Declares k.heads place (member_named (codes "getMessage") (codes "()Ljava/lang/String;"))
throwable_declares k place has distinct found =
    library_declares k (codes "java/lang/Throwable") 2 (class_head library.throwable) (member_named (codes "getMessage") (codes "()Ljava/lang/String;")) 3 message_method place has distinct refl refl refl refl refl refl found
