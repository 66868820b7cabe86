-- What is asked of a world, by its tables.
use Rattle.std.specs.Prelude.{◌≡◌, ℕ, ◌+◌, ◌<◌, List, [], length, Option, Some, None}
use Rattle.std.proofs.Common.{get_or, sym, ap, ◌∙◌, arith}
use Rattle.std.specs.Option.{option_map}
use Rattle.std.proofs.lemmas.List.{get_or_read}
use Rattle.aj_names.specs.declared.types.MemberName.{MemberName}
use Rattle.class_heads.specs.declared.types.ClassHead.{ClassHead}
use Rattle.class_heads.specs.Hierarchy.{supertypes}
use Rattle.class_heads.specs.Searches.{MemberPlace, find_field, find_method, select}
use Rattle.class_heads.specs.Numbers.{number_of, IsNumbered, field_counts, method_counts}
use Rattle.class_world.specs.declared.lookups.members.Found.{Found}
use Rattle.class_world.specs.Found.{member_place}
use Rattle.class_world.specs.Tables.{IsSupers, IsFirsts}
use Rattle.class_world.proofs.Numbered.{HasNumber, has_number, find_field-stands, find_method-stands, select-stands}

-- the table that was read is the class's
pub read_table : (heads : List ClassHead) (supers : List (List ℕ)) (class : ℕ) (table : List ℕ) → IsSupers heads supers → class < length heads → table ≡ get_or supers class table → table ≡ supertypes heads class
read_table heads supers class table s h e = get_or_read supers class table (omega (arith, s.len)) e [] ∙ s.each class h

-- a search that found nothing
pub numbered_none : (counts : List ℕ) (found : Option Found) (wanted : Option MemberPlace) → option_map member_place found ≡ wanted → found ≡ None → None ≡ option_map (number_of counts) wanted
numbered_none counts found wanted e none = ap (λ (f : Option Found). option_map (number_of counts) (option_map member_place f)) (sym none) ∙ ap (option_map (number_of counts)) e

-- a search that found a member of this number
pub numbered_some : (counts firsts : List ℕ) (number : ℕ) (found : Option Found) (f : Found) (wanted : Option MemberPlace) → option_map member_place found ≡ wanted → found ≡ Some f → HasNumber counts firsts f → number ≡ get_or firsts f.class 0 + f.position → Some number ≡ option_map (number_of counts) wanted
numbered_some counts firsts number found f wanted e some h n =
    ap Some (n ∙ h.is) ∙ ap (λ (g : Option Found). option_map (number_of counts) (option_map member_place g)) (sym some) ∙ ap (option_map (number_of counts)) e

place_found : (found : Option Found) (f : Found) (wanted : Option MemberPlace) → option_map member_place found ≡ wanted → found ≡ Some f → wanted ≡ Some (member_place f)
place_found found f wanted e some = sym e ∙ ap (option_map member_place) some

pub field_number : (heads : List ClassHead) (firsts : List ℕ) (class : ℕ) (member : MemberName) (found : Option Found) (f : Found) → IsFirsts (field_counts heads) firsts → option_map member_place found ≡ find_field heads class member → found ≡ Some f → HasNumber (field_counts heads) firsts f
field_number heads firsts class member found f firsts_are e some =
    has_number (field_counts heads) firsts f firsts_are
    (find_field-stands heads class member (member_place f) (place_found found f (find_field heads class member) e some))

pub method_number : (heads : List ClassHead) (firsts : List ℕ) (class : ℕ) (member : MemberName) (found : Option Found) (f : Found) → IsFirsts (method_counts heads) firsts → option_map member_place found ≡ find_method heads class member → found ≡ Some f → HasNumber (method_counts heads) firsts f
method_number heads firsts class member found f firsts_are e some =
    has_number (method_counts heads) firsts f firsts_are
    (find_method-stands heads class member (member_place f) (place_found found f (find_method heads class member) e some))

pub selected_number : (heads : List ClassHead) (firsts : List ℕ) (runtime number : ℕ) (from : MemberPlace) (found : Option Found) (f : Found) → IsFirsts (method_counts heads) firsts → IsNumbered (method_counts heads) number from → option_map member_place found ≡ select heads runtime from → found ≡ Some f → HasNumber (method_counts heads) firsts f
selected_number heads firsts runtime number from found f firsts_are n e some =
    has_number (method_counts heads) firsts f firsts_are
    (select-stands heads runtime from (member_place f) (n.known, n.within) (place_found found f (select heads runtime from) e some))
