-- The class whose members an array has, by its type.
use Rattle.std.specs.Prelude.{◌≡◌, ℕ, zero, suc, ◌+◌, ◌<◌, ◌^◌, ◌==◌, ◌&&◌, ◌||◌, Bool, true, false, not, if◌then◌else◌, nat_lt, List, [], ◌∷◌, ◌++◌, replicate, length, take, drop, Option, Some, None, is_some, refl}
use Rattle.std.proofs.Common.{sym, ap, ◌∙◌, arith}
use Rattle.std.specs.List.{list_all, position_from, prefix_len}
use Rattle.std.proofs.lemmas.Bool.{and_parts, lt-ltb, false≢true}
use Rattle.std.proofs.lemmas.List.{length-replicate, take_at, drop_at}
use Rattle.std.proofs.lemmas.Iterator.Adapters.{position_from-zero}
use Rattle.aj_names.specs.declared.types.Base.{Base}
use Rattle.aj_names.specs.declared.types.Base.TheVariants as base
use Rattle.aj_names.specs.declared.types.FieldType.{FieldType}
use Rattle.aj_names.specs.Descriptors.{base_spelling}
use Rattle.class_file.specs.Text.{is_class_name, up_to, base_type, as_array, with_dimensions, dimensions, is_ended, is_field_descriptor}
use Rattle.class_heads.specs.declared.types.ClassHead.{ClassHead}
use Rattle.class_heads.specs.Hierarchy.{before_semicolon, type_of_descriptor, is_known, object_name, place_of}
use Rattle.class_world.specs.Tables.{Known}
use Rattle.machine_values.specs.Types.{base_name, type_name}
use Rattle.machine_requests.specs.Telling.{is_letter, is_plain, is_plain_base, is_array_type}
use Rattle.machine_invocations.specs.Methods.{members_in}
use Rattle.machine_invocations.specs.Selections.{is_base_known}

-- ---- brackets

dims_of : (d b : ℕ) (bs : List ℕ) → (b == 91) ≡ false → dimensions (replicate d 91 ++ b ∷ bs) ≡ d
dims_of zero b bs e = rw e refl
dims_of (suc d) b bs e =
    let rest = replicate d 91 ++ b ∷ bs in
    let p = prefix_len (λ x. x == 91) rest in
    ap (λ n. length (take n (91 ∷ rest))) (let n : 1 + p ≡ suc p = omega arith in n) ∙ ap suc (dims_of d b bs e)

known_behind : (heads : List ClassHead) (d : ℕ) (bs : List ℕ) → is_known heads (type_of_descriptor (replicate d 91 ++ bs)) ≡ is_known heads (type_of_descriptor bs)
known_behind heads zero bs = refl
known_behind heads (suc d) bs = known_behind heads d bs

-- ---- names without a semicolon

no_semicolon : (b : ℕ) → is_letter b ≡ true → (b == 59) ≡ false
no_semicolon b h = by (b == 59) (b == 91) h where
  by : (x y : Bool) → not (x || y) ≡ true → x ≡ false
  by true y e = absurd (false≢true e)
  by false y e = refl

before_end : (name : List ℕ) → is_plain name ≡ true → before_semicolon (name ++ 59 ∷ []) ≡ name
before_end [] h = refl
before_end (b ∷ name) h =
    let parts = and_parts (is_letter b) (list_all is_letter name) h in
    rw (no_semicolon b parts.0) (ap (λ rest. b ∷ rest) (before_end name parts.1))

ends_at : (i : ℕ) (name : List ℕ) → is_plain name ≡ true → position_from (λ b. b == 59) i (name ++ 59 ∷ []) ≡ Some (i + length name)
ends_at i [] h = ap Some (let e : i ≡ i + 0 = omega arith in e)
ends_at i (b ∷ name) h =
    let parts = and_parts (is_letter b) (list_all is_letter name) h in
    rw (no_semicolon b parts.0) (ends_at (i + 1) name parts.1 ∙ ap Some (let e : i + 1 + length name ≡ i + suc (length name) = omega arith in e))

drop_last : (name : List ℕ) → drop (length name + 1) (name ++ 59 ∷ []) ≡ []
drop_last [] = refl
drop_last (b ∷ name) = ap (λ n. drop n (b ∷ name ++ 59 ∷ [])) (let n : suc (length name) + 1 ≡ suc (length name + 1) = omega arith in n) ∙ drop_last name

ended_class : (name : List ℕ) → is_plain name ≡ true → is_ended (as_array (base_type (base_spelling (base.Class name)))) ≡ is_class_name name
ended_class name plain =
    ap (λ o. is_ended (as_array (up_to (name ++ 59 ∷ []) o))) (position_from-zero (λ b. b == 59) (name ++ 59 ∷ []) ∙ ends_at 0 name plain ∙ ap Some (let e : 0 + length name ≡ length name = omega arith in e))
    ∙ ap (λ front. is_ended (as_array (if is_class_name front then Some (1, drop (length name + 1) (name ++ 59 ∷ [])) else None))) (take_at name (59 ∷ []) (length name) refl)
    ∙ ap (λ rest. is_ended (as_array (if is_class_name name then Some (1, rest) else None))) (drop_last name)
    ∙ by (is_class_name name) where
      by : (b : Bool) → is_ended (as_array (if b then Some (1, []) else None)) ≡ b
      by true = refl
      by false = refl

-- ---- the type of an array

first_letter : (b : Base) → (l : ℕ) × (rest : List ℕ) × (base_spelling b ≡ l ∷ rest) × ((l == 91) ≡ false)
first_letter base.Boolean = (90, [], refl, refl)
first_letter base.Byte = (66, [], refl, refl)
first_letter base.Char = (67, [], refl, refl)
first_letter base.Short = (83, [], refl, refl)
first_letter base.Int = (73, [], refl, refl)
first_letter base.Long = (74, [], refl, refl)
first_letter base.Float = (70, [], refl, refl)
first_letter base.Double = (68, [], refl, refl)
first_letter (base.Class name) = (76, name ++ 59 ∷ [], refl, refl)

ended : (n : ℕ) (b : Base) → n < 255 → is_field_descriptor (replicate (suc n) 91 ++ base_spelling b) ≡ is_ended (as_array (base_type (base_spelling b)))
ended n b few =
    let first = first_letter b in
    let count : dimensions (replicate (suc n) 91 ++ base_spelling b) ≡ suc n = ap (λ bs. dimensions (replicate (suc n) 91 ++ bs)) first.2 ∙ dims_of (suc n) first.0 first.1 first.3 in
    ap (λ d. is_ended (with_dimensions d (replicate (suc n) 91 ++ base_spelling b))) count
    ∙ ap (λ (x : Bool). is_ended (if x then as_array (base_type (drop (suc n) (replicate (suc n) 91 ++ base_spelling b))) else None)) (lt-ltb n 255 few)
    ∙ ap (λ bs. is_ended (as_array (base_type bs))) (drop_at (replicate (suc n) 91) (base_spelling b) (suc n) (length-replicate (suc n) 91))

both_tests : (a b : Bool) (o : Option ℕ) → (if a then (if b then o else None) else None) ≡ (if (a && b) then o else None)
both_tests true b o = refl
both_tests false b o = refl

base_tests : (heads : List ClassHead) (b : Base) → is_plain_base b ≡ true → (is_ended (as_array (base_type (base_spelling b))) && is_known heads (type_of_descriptor (base_spelling b))) ≡ is_base_known heads b
base_tests heads base.Boolean plain = refl
base_tests heads base.Byte plain = refl
base_tests heads base.Char plain = refl
base_tests heads base.Short plain = refl
base_tests heads base.Int plain = refl
base_tests heads base.Long plain = refl
base_tests heads base.Float plain = refl
base_tests heads base.Double plain = refl
base_tests heads (base.Class name) plain =
    ap (λ x. x && is_known heads (type_of_descriptor (base_spelling (base.Class name)))) (ended_class name plain)
    ∙ ap (λ n. is_class_name name && is_some (place_of heads n)) (before_end name plain)

module _ (k : Known) where
  counted : (n : ℕ) (b : Base) → n < 255 → is_plain_base b ≡ true → members_in k (replicate (suc n) 91 ++ base_spelling b) ≡ (if is_base_known k.heads b then place_of k.heads object_name else None)
  counted n b few plain =
      ap (λ (x : Bool). if x then (if is_known k.heads (type_of_descriptor (replicate n 91 ++ base_spelling b)) then place_of k.heads object_name else None) else None) (ended n b few)
      ∙ ap (λ (x : Bool). if is_ended (as_array (base_type (base_spelling b))) then (if x then place_of k.heads object_name else None) else None) (known_behind k.heads n (base_spelling b))
      ∙ both_tests (is_ended (as_array (base_type (base_spelling b)))) (is_known k.heads (type_of_descriptor (base_spelling b))) (place_of k.heads object_name)
      ∙ ap (λ (x : Bool). if x then place_of k.heads object_name else None) (base_tests k.heads b plain)

  pub array_members : (type : FieldType) → type.dims < 2 ^ 8 → is_array_type type ≡ true → members_in k (type_name type) ≡ (if is_base_known k.heads type.base then place_of k.heads object_name else None)
  array_members type few array = by type.dims few (and_parts (is_plain_base type.base) (nat_lt 0 type.dims) array).1 where
    plain : is_plain_base type.base ≡ true
    plain = (and_parts (is_plain_base type.base) (nat_lt 0 type.dims) array).0

    by : (d : ℕ) → d < 2 ^ 8 → nat_lt 0 d ≡ true → members_in k (if nat_lt 0 d then replicate d 91 ++ base_spelling type.base else base_name type.base) ≡ (if is_base_known k.heads type.base then place_of k.heads object_name else None)
    by zero small h = absurd (false≢true h)
    by (suc n) small h =
        ap (λ (x : Bool). members_in k (if x then replicate (suc n) 91 ++ base_spelling type.base else base_name type.base)) h
        ∙ counted n type.base (omega arith) plain

pub not_array : {P : Type 0} (type : FieldType) → type.dims ≡ 0 → is_array_type type ≡ true → P
not_array type none array = absurd (false≢true (sym (ap (nat_lt 0) none) ∙ (and_parts (is_plain_base type.base) (nat_lt 0 type.dims) array).1))
