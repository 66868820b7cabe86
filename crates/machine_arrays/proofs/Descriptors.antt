-- Descriptors of array types, and what they name.
use Rattle.std.specs.Prelude.{◌≡◌, ℕ, zero, suc, ◌+◌, ◌-◌, ◌<◌, ◌≤◌, ◌==◌, ◌&&◌, ◌||◌, Bool, true, false, not, if◌then◌else◌, nat_lt, nat_le, is_some, List, [], ◌∷◌, ◌++◌, replicate, length, take, drop, slice_get, position, Option, Some, None, refl}
use Rattle.std.specs.List.{list_all, prefix_len}
use Rattle.std.proofs.Common.{sym, ◌∙◌, ap, subst, arith, get_or, length-drop}
use Rattle.std.proofs.lemmas.Bool.{and_parts, and_from, false≢true, eqb-true, lt-ltb, ltb-true, leb-true}
use Rattle.std.proofs.lemmas.List.{length-replicate, drop_at}
use Rattle.std.proofs.lemmas.List.Quantifiers.{position-Some}
use Rattle.std.proofs.lemmas.Option.{slice_get-get_or}
use Rattle.std.specs.Option.{option_map}
use Rattle.aj_names.specs.declared.ids.ClassId.{ClassId}
use Rattle.aj_names.specs.declared.types.Base.{Base}
use Rattle.aj_names.specs.declared.types.Base.TheVariants as base
use Rattle.aj_names.specs.declared.types.FieldType.{FieldType}
use Rattle.aj_names.specs.Descriptors.{base_spelling, field_spelling}
use Rattle.class_file.specs.Code.{has_dimensions}
use Rattle.class_file.specs.Text.{is_class_name, class_type, up_to, is_wide_letter, is_narrow_letter, base_type, as_array, with_dimensions, dimensions, is_ended, is_field_descriptor}
use Rattle.class_heads.specs.declared.types.ClassHead.{ClassHead}
use Rattle.class_heads.specs.Hierarchy.{TypeName, is_array, before_semicolon, type_of_descriptor, is_known, place_of}
use Rattle.class_world.specs.Tables.{Known}
use Rattle.machine_values.specs.Types.{type_name}
use Rattle.machine_requests.specs.Telling.{is_letter, is_plain, is_plain_base, is_array_type}
use Rattle.machine_requests.specs.TellingLaws.{array_name, class_name_plain}
use Rattle.machine_steps.specs.Running.{split_last}
use Rattle.machine_arrays.specs.Named.{knows}
use Rattle.machine_arrays.proofs.Lists.{first_and_others}

-- ---- brackets

dims_more : (bytes : List ℕ) → dimensions (91 ∷ bytes) ≡ suc (dimensions bytes)
dims_more bytes = let p = prefix_len (λ x. x == 91) bytes in ap (λ n. length (take n (91 ∷ bytes))) (let n : 1 + p ≡ suc p = omega arith in n)

dims_none : (bytes : List ℕ) → is_array bytes ≡ false → dimensions bytes ≡ 0
dims_none [] h = refl
dims_none (b ∷ bytes) h = rw h refl

pub dims_behind : (n : ℕ) (bytes : List ℕ) → is_array bytes ≡ false → dimensions (replicate n 91 ++ bytes) ≡ n
dims_behind zero bytes h = dims_none bytes h
dims_behind (suc n) bytes h = dims_more (replicate n 91 ++ bytes) ∙ ap suc (dims_behind n bytes h)

known_behind : (heads : List ClassHead) (n : ℕ) (bytes : List ℕ) → is_known heads (type_of_descriptor (replicate n 91 ++ bytes)) ≡ is_known heads (type_of_descriptor bytes)
known_behind heads zero bytes = refl
known_behind heads (suc n) bytes = known_behind heads n bytes

ended_array : (o : Option (ℕ × List ℕ)) → is_ended (as_array o) ≡ is_ended o
ended_array None = refl
ended_array (Some (slots, [])) = refl
ended_array (Some (slots, b ∷ bytes)) = refl

-- what a descriptor is, by its brackets
pub record Parts (n : ℕ) (bytes : List ℕ) : Type 0 where
  pub few : n < 256
  pub ended : is_ended (base_type bytes) ≡ true

if_few : (b : Bool) (o : Option (ℕ × List ℕ)) → is_ended (if b then as_array o else None) ≡ true → (b ≡ true) × (is_ended o ≡ true)
if_few true o h = (refl, sym (ended_array o) ∙ h)
if_few false o h = absurd (false≢true h)

parts_with : (n : ℕ) (bytes : List ℕ) → is_ended (with_dimensions n (replicate n 91 ++ bytes)) ≡ true → Parts n bytes
parts_with zero bytes h = record { few = omega arith; ended = h }
parts_with (suc n) bytes h =
    let both = if_few (nat_lt n 255) (base_type (drop (suc n) (replicate (suc n) 91 ++ bytes))) h in
    record {
      few = (let small = ltb-true n 255 both.0 in omega arith);
      ended = subst (λ (l : List ℕ). is_ended (base_type l) ≡ true) (drop_at (replicate (suc n) 91) bytes (suc n) (length-replicate (suc n) 91)) both.1;
    }

pub parts : (descriptor : List ℕ) (n : ℕ) (bytes : List ℕ) → descriptor ≡ replicate n 91 ++ bytes → is_array bytes ≡ false → is_field_descriptor descriptor ≡ true → Parts n bytes
parts descriptor n bytes is last h =
    parts_with n bytes (subst (λ (d : ℕ). is_ended (with_dimensions d (replicate n 91 ++ bytes)) ≡ true) (dims_behind n bytes last) (subst (λ (l : List ℕ). is_field_descriptor l ≡ true) is h))

-- at least one array is made, and no more in one another than the type has dimensions
pub dims_some : (dims : ℕ) (name : List ℕ) → has_dimensions dims name ≡ true → 0 < dims
dims_some dims name h = ltb-true 0 dims (and_parts (nat_lt 0 dims) (nat_le dims (dimensions name)) h).0

pub dims_few : (dims : ℕ) (name : List ℕ) → has_dimensions dims name ≡ true → dims ≤ dimensions name
dims_few dims name h = leb-true dims (dimensions name) (and_parts (nat_lt 0 dims) (nat_le dims (dimensions name)) h).1

-- ---- what stands behind the brackets

-- behind an L: a class's name and a semicolon
pub record Named (bytes : List ℕ) : Type 0 where
  pub some : 0 < length bytes
  pub spelled : bytes ≡ take (length bytes - 1) bytes ++ 59 ∷ []
  pub named : is_class_name (take (length bytes - 1) bytes) ≡ true

nothing_left : {X : Type 0} (n : ℕ) (xs : List X) → drop n xs ≡ [] → length xs ≤ n
nothing_left n xs h = let e = ap length h in let d = length-drop n xs in omega arith

named_if : (b : Bool) (rest : List ℕ) → is_ended (if b then Some (1, rest) else None) ≡ true → (b ≡ true) × (rest ≡ [])
named_if true [] h = (refl, refl)
named_if true (b ∷ rest) h = absurd (false≢true h)
named_if false rest h = absurd (false≢true h)

pub class_named : (bytes : List ℕ) → is_ended (class_type bytes) ≡ true → Named bytes
class_named bytes h = by (position (λ b. b == 59) bytes) refl h where
  by : (o : Option ℕ) → position (λ b. b == 59) bytes ≡ o → is_ended (up_to bytes o) ≡ true → Named bytes
  by None e k = absurd (false≢true k)
  by (Some end) e k =
      let found = position-Some (λ b. b == 59) bytes end 0 e in
      let both = named_if (is_class_name (take end bytes)) (drop (end + 1) bytes) k in
      let most = nothing_left (end + 1) bytes both.1 in
      let last : end ≡ length bytes - 1 = omega (arith, found.0) in
      let there : slice_get bytes end ≡ Some 59 = slice_get-get_or bytes end 0 found.0 ∙ ap Some (eqb-true (get_or bytes end 0) 59 found.1) in
      record {
        some = omega (arith, found.0);
        spelled = subst (λ (n : ℕ). bytes ≡ take n bytes ++ 59 ∷ []) last (split_last bytes end 59 (omega (arith, found.0)) there);
        named = subst (λ (n : ℕ). is_class_name (take n bytes) ≡ true) last both.0;
      }

abbrev pub behind_first : List ℕ → List ℕ
behind_first text = take (length text - 1) (drop 1 text)

pub class_spelled : (text name : List ℕ) → 0 < length text → get_or text 0 0 ≡ 76 → is_ended (base_type text) ≡ true → name ≡ take (length (behind_first text) - 1) (behind_first text) → (76 ∷ (name ++ 59 ∷ []) ≡ text) × (is_plain name ≡ true)
class_spelled text name some first h is =
    let class = behind_first text in
    let parted : text ≡ 76 ∷ behind_first text = first_and_others text 0 some ∙ ap (λ (b : ℕ). b ∷ behind_first text) first in
    let named : Named class = class_named class (subst (λ (l : List ℕ). is_ended (base_type l) ≡ true) parted h) in (
      ap (λ (l : List ℕ). 76 ∷ (l ++ 59 ∷ [])) is ∙ ap (λ (l : List ℕ). 76 ∷ l) (sym named.spelled) ∙ sym parted,
      ap is_plain is ∙ class_name_plain (take (length class - 1) class) named.named,
    )

-- any other letter stands alone
pub record Lettered (b : ℕ) (bytes : List ℕ) : Type 0 where
  pub letter : (is_wide_letter b || is_narrow_letter b) ≡ true
  pub alone : bytes ≡ []

pub lettered : (b : ℕ) (bytes : List ℕ) → (b == 76) ≡ false → is_ended (base_type (b ∷ bytes)) ≡ true → Lettered b bytes
lettered b bytes other h = by (is_wide_letter b) (is_narrow_letter b) refl refl (subst (λ (x : Bool). is_ended (if x then class_type bytes else (if is_wide_letter b then Some (2, bytes) else (if is_narrow_letter b then Some (1, bytes) else None))) ≡ true) other h) where
  only : (slots : ℕ) (rest : List ℕ) → is_ended (Some (slots, rest)) ≡ true → rest ≡ []
  only slots [] k = refl
  only slots (c ∷ rest) k = absurd (false≢true k)

  by : (x y : Bool) → is_wide_letter b ≡ x → is_narrow_letter b ≡ y → is_ended (if x then Some (2, bytes) else (if y then Some (1, bytes) else None)) ≡ true → Lettered b bytes
  by true y e f k = record { letter = ap (λ z. z || is_narrow_letter b) e; alone = only 2 bytes k }
  by false true e f k = record { letter = ap (λ z. z || is_narrow_letter b) e ∙ f; alone = only 1 bytes k }
  by false false e f k = absurd (false≢true k)

-- ---- names

no_semicolon : (b : ℕ) → is_letter b ≡ true → (b == 59) ≡ false
no_semicolon b h = by (b == 59) (b == 91) h where
  by : (x y : Bool) → not (x || y) ≡ true → x ≡ false
  by true y e = absurd (false≢true e)
  by false y e = refl

before_end : (name : List ℕ) → is_plain name ≡ true → before_semicolon (name ++ 59 ∷ []) ≡ name
before_end [] h = refl
before_end (b ∷ name) h =
    let both = and_parts (is_letter b) (list_all is_letter name) h in
    rw (no_semicolon b both.0) (ap (λ rest. b ∷ rest) (before_end name both.1))

pub class_known : (heads : List ClassHead) (name : List ℕ) → is_plain name ≡ true → is_known heads (type_of_descriptor (base_spelling (base.Class name))) ≡ is_some (place_of heads name)
class_known heads name plain = ap (λ (n : List ℕ). is_some (place_of heads n)) (before_end name plain)

some_mapped : (o : Option ClassId) → is_some o ≡ is_some (option_map (λ (class : ClassId). class.0) o)
some_mapped None = refl
some_mapped (Some class) = refl

pub base_known : (heads : List ClassHead) (b : Base) (name : List ℕ) (o : Option ClassId) (found : Bool) → b ≡ base.Class name → is_plain_base b ≡ true → option_map (λ (class : ClassId). class.0) o ≡ place_of heads name → found ≡ is_some o
    → found ≡ is_known heads (type_of_descriptor (base_spelling b))
base_known heads b name o found is plain place there =
    there ∙ some_mapped o ∙ ap is_some place ∙ sym (class_known heads name (sym (ap is_plain_base is) ∙ plain)) ∙ ap (λ (x : Base). is_known heads (type_of_descriptor (base_spelling x))) (sym is)

-- ---- array types

array_behind : (n : ℕ) (bytes : List ℕ) → is_array (replicate n 91 ++ bytes) ≡ true → is_array bytes ≡ false → nat_lt 0 n ≡ true
array_behind zero bytes h k = absurd (false≢true (sym k ∙ h))
array_behind (suc n) bytes h k = lt-ltb 0 (suc n) (omega arith)

base_no_array : (b : Base) → is_array (base_spelling b) ≡ false
base_no_array base.Boolean = refl
base_no_array base.Byte = refl
base_no_array base.Char = refl
base_no_array base.Short = refl
base_no_array base.Int = refl
base_no_array base.Long = refl
base_no_array base.Float = refl
base_no_array base.Double = refl
base_no_array (base.Class name) = refl

module _ (k : Known) (descriptor : List ℕ) (array : is_array descriptor ≡ true) where
  knows_parts : knows k descriptor ≡ (is_field_descriptor descriptor && is_known k.heads (type_of_descriptor descriptor))
  knows_parts = ap (λ (b : Bool). (if b then is_field_descriptor descriptor else true) && is_known k.heads (if b then type_of_descriptor descriptor else TypeName.Class descriptor)) array

  pub unknown_text : is_field_descriptor descriptor ≡ false → false ≡ knows k descriptor
  unknown_text none = sym (knows_parts ∙ ap (λ (b : Bool). b && is_known k.heads (type_of_descriptor descriptor)) none)

  module _ (type : FieldType) (text : is_field_descriptor descriptor ≡ true) (spelled : field_spelling type ≡ descriptor) where
    pub known_base : is_known k.heads (type_of_descriptor (base_spelling type.base)) ≡ knows k descriptor
    known_base = sym (
        knows_parts ∙ ap (λ (b : Bool). b && is_known k.heads (type_of_descriptor descriptor)) text
        ∙ ap (λ (l : List ℕ). is_known k.heads (type_of_descriptor l)) (sym spelled) ∙ known_behind k.heads type.dims (base_spelling type.base)
        )

    some_dims : nat_lt 0 type.dims ≡ true
    some_dims = array_behind type.dims (base_spelling type.base) (ap is_array spelled ∙ array) (base_no_array type.base)

    pub named_so : type_name type ≡ descriptor
    named_so = array_name type some_dims ∙ spelled

    pub is_array_so : is_plain_base type.base ≡ true → is_array_type type ≡ true
    is_array_so plain = and_from (is_plain_base type.base) (nat_lt 0 type.dims) plain some_dims
