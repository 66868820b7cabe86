-- Names and descriptors are modified UTF-8 (JVMS 4.4.7).
use Rattle.std.proofs.Common.{◌≡◌, ℕ, zero, suc, ◌+◌, ◌<◌, ◌≤◌, Bool, true, false, ◌&&◌, ◌||◌, cond, List, [], ◌∷◌, ◌++◌, length, take, drop, get_or, Option, Some, None, Ok, Err, refl, sym, ap, subst, ◌∙◌, arith, ⊎_elim}
use Rattle.std.specs.Prelude.{if◌then◌else◌, ◌==◌, nat_lt, nat_le}
use Rattle.std.specs.List.{list_all, position, take_while}
use Rattle.std.proofs.lemmas.Bool.{and_parts, and_from, or_cases, eqb-true, ltb-true, lt-ltb, false≢true}
use Rattle.std.proofs.lemmas.List.{take-append-drop}
use Rattle.std.proofs.lemmas.List.Sums.{take_while-cons}
use Rattle.std.proofs.lemmas.List.Quantifiers.{position-Some}
use Rattle.std.proofs.Math.Seq.{drop-cons}
use Rattle.class_file.specs.Range.{is_u1, are_bytes}
use Rattle.class_file.specs.Text.{within, begun, utf8_from, is_utf8, is_paired, is_name_byte, is_name_text, has_parts, is_class_name, is_member_name, is_not_slash, Typed, up_to, class_type, is_wide_letter, is_narrow_letter, base_type, as_array, with_dimensions, dimensions, field_type, is_ended, is_field_descriptor, is_array_descriptor, is_result, further, go_on, parameters, is_method_descriptor_with, is_internal_name}

-- ---- texts

-- A state of reading is named by a byte that leads to it: 97 to a whole unit, 194 to its last byte, 192 to that of U+0000, 224 and 225 to its second byte, and 0 to none.
record Six (P : ℕ → Type 0) : Type 0 where
  whole : P 97
  last : P 194
  null : P 192
  second : P 224
  two : P 225
  none : P 0

pick : {X : Type 0} (P : X → Type 0) (t : Bool) (x y : X) → (t ≡ true → P x) → (t ≡ false → P y) → P (if t then x else y)
pick P true x y f g = f refl
pick P false x y f g = g refl

nothing_fails : (bytes : List ℕ) → utf8_from (begun 0) bytes ≡ false
nothing_fails [] = refl
nothing_fails (b ∷ bytes) = nothing_fails bytes

module _ (ys : List ℕ) (whole : is_utf8 ys ≡ true) where
  abbrev Goes : List ℕ → ℕ → Type 0
  Goes xs r = utf8_from (begun r) xs ≡ true → utf8_from (begun r) (xs ++ ys) ≡ true

  begun_goes : (xs : List ℕ) (b : ℕ) → Six (Goes xs) → Goes xs b
  begun_goes xs b six =
      pick (λ e. utf8_from e xs ≡ true → utf8_from e (xs ++ ys) ≡ true) (within 1 0x80 b) (begun 97) _ (λ _. six.whole) (λ _.
      pick (λ e. utf8_from e xs ≡ true → utf8_from e (xs ++ ys) ≡ true) (b == 0xC0) (begun 192) _ (λ _. six.null) (λ _.
      pick (λ e. utf8_from e xs ≡ true → utf8_from e (xs ++ ys) ≡ true) (within 0xC2 0xE0 b) (begun 194) _ (λ _. six.last) (λ _.
      pick (λ e. utf8_from e xs ≡ true → utf8_from e (xs ++ ys) ≡ true) (b == 0xE0) (begun 224) _ (λ _. six.second) (λ _.
      pick (λ e. utf8_from e xs ≡ true → utf8_from e (xs ++ ys) ≡ true) (within 0xE1 0xF0 b) (begun 225) (begun 0) (λ _. six.two) (λ _. six.none)))))

  all_go : (xs : List ℕ) → Six (Goes xs)
  all_go [] = record { whole = λ _. whole; last = λ h. absurd cc; null = λ h. absurd cc; second = λ h. absurd cc; two = λ h. absurd cc; none = λ h. absurd cc }
  all_go (b ∷ xs) =
      let six = all_go xs in
      record {
        whole = begun_goes xs b six;
        last = pick (λ e. utf8_from e xs ≡ true → utf8_from e (xs ++ ys) ≡ true) (within 0x80 0xC0 b) (begun 97) (begun 0) (λ _. six.whole) (λ _. six.none);
        null = pick (λ e. utf8_from e xs ≡ true → utf8_from e (xs ++ ys) ≡ true) (b == 0x80) (begun 97) (begun 0) (λ _. six.whole) (λ _. six.none);
        second = pick (λ e. utf8_from e xs ≡ true → utf8_from e (xs ++ ys) ≡ true) (within 0xA0 0xC0 b) (begun 194) (begun 0) (λ _. six.last) (λ _. six.none);
        two = pick (λ e. utf8_from e xs ≡ true → utf8_from e (xs ++ ys) ≡ true) (within 0x80 0xC0 b) (begun 194) (begun 0) (λ _. six.last) (λ _. six.none);
        none = six.none;
      }

utf8_append : (xs ys : List ℕ) → is_utf8 xs ≡ true → is_utf8 ys ≡ true → is_utf8 (xs ++ ys) ≡ true
utf8_append xs ys h k = (all_go ys k xs).whole h

pub class_utf8 : (name : List ℕ) → is_class_name name ≡ true → is_utf8 name ≡ true
class_utf8 name h =
    let p = and_parts (is_name_text name) (has_parts true name) h in
    (and_parts (is_utf8 name) (is_paired name && list_all is_name_byte name) p.0).0

pub member_utf8 : (name : List ℕ) → is_member_name name ≡ true → is_utf8 name ≡ true
member_utf8 name h = class_utf8 name (and_parts (is_class_name name) (list_all is_not_slash name) h).0

-- ---- bytes below 128

ascii_first : (b : ℕ) (rest : List ℕ) → within 1 128 b ≡ true → is_utf8 rest ≡ true → is_utf8 (b ∷ rest) ≡ true
ascii_first b rest h k = rw h k

wide_ascii : (b : ℕ) → is_wide_letter b ≡ true → within 1 128 b ≡ true
wide_ascii b h = ⊎_elim (λ e. ap (within 1 128) (eqb-true b 74 e)) (λ e. ap (within 1 128) (eqb-true b 68 e)) (or_cases (b == 74) (b == 68) h)

narrow_ascii : (b : ℕ) → is_narrow_letter b ≡ true → within 1 128 b ≡ true
narrow_ascii b h =
    ⊎_elim (λ e. ap (within 1 128) (eqb-true b 66 e)) (λ h.
    ⊎_elim (λ e. ap (within 1 128) (eqb-true b 67 e)) (λ h.
    ⊎_elim (λ e. ap (within 1 128) (eqb-true b 70 e)) (λ h.
    ⊎_elim (λ e. ap (within 1 128) (eqb-true b 73 e)) (λ h.
    ⊎_elim (λ e. ap (within 1 128) (eqb-true b 83 e)) (λ e. ap (within 1 128) (eqb-true b 90 e))
    (or_cases (b == 83) (b == 90) h))
    (or_cases (b == 73) (b == 83 || b == 90) h))
    (or_cases (b == 70) (b == 73 || (b == 83 || b == 90)) h))
    (or_cases (b == 67) (b == 70 || (b == 73 || (b == 83 || b == 90))) h))
    (or_cases (b == 66) (b == 67 || (b == 70 || (b == 73 || (b == 83 || b == 90)))) h)

-- ---- types

-- what stands at the front of a text is modified UTF-8 if a type does
abbrev Front : List ℕ → Option Typed → Type 0
Front bytes None = Unit {0}
Front bytes (Some type) = is_utf8 type.1 ≡ true → is_utf8 bytes ≡ true

class_named : (bytes : List ℕ) (o : Option ℕ) → position (λ b. b == 59) bytes ≡ o → Front bytes (up_to bytes o)
class_named bytes None h = tt
class_named bytes (Some end) h =
    let found = position-Some (λ b. b == 59) bytes end 0 h in
    let here : get_or bytes end 0 ≡ 59 = eqb-true (get_or bytes end 0) 59 found.1 in
    go (is_class_name (take end bytes)) refl found.0 here
  where
    go : (t : Bool) → is_class_name (take end bytes) ≡ t → end < length bytes → get_or bytes end 0 ≡ 59 → Front bytes (if t then Some (1, drop (end + 1) bytes) else None)
    go false is lt here = tt
    go true is lt here = λ rest.
        let next : end + 1 ≡ suc end = omega arith in
        let split : take end bytes ++ (59 ∷ drop (suc end) bytes) ≡ bytes =
        ap (λ (b : ℕ). take end bytes ++ (b ∷ drop (suc end) bytes)) (sym here) ∙ ap (λ (l : List ℕ). take end bytes ++ l) (sym (drop-cons bytes end 0 lt)) ∙ take-append-drop end bytes in
        let after : is_utf8 (drop (suc end) bytes) ≡ true = subst (λ (n : ℕ). is_utf8 (drop n bytes) ≡ true) next rest in
        subst (λ (l : List ℕ). is_utf8 l ≡ true) split (utf8_append (take end bytes) (59 ∷ drop (suc end) bytes) (class_utf8 (take end bytes) is) after)

choose : (bytes : List ℕ) (t : Bool) (a b : Option Typed) → (t ≡ true → Front bytes a) → (t ≡ false → Front bytes b) → Front bytes (if t then a else b)
choose bytes true a b f g = f refl
choose bytes false a b f g = g refl

behind : (b : ℕ) (rest : List ℕ) (o : Option Typed) → within 1 128 b ≡ true → Front rest o → Front (b ∷ rest) o
behind b rest None h f = tt
behind b rest (Some type) h f = λ k. ascii_first b rest h (f k)

base_front : (bytes : List ℕ) → Front bytes (base_type bytes)
base_front [] = tt
base_front (b ∷ bytes) =
    choose (b ∷ bytes) (b == 76) (class_type bytes) _ (λ e. behind b bytes (class_type bytes) (ap (within 1 128) (eqb-true b 76 e)) (class_named bytes (position (λ b. b == 59) bytes) refl)) (λ _.
    choose (b ∷ bytes) (is_wide_letter b) (Some (2, bytes)) _ (λ e. behind b bytes (Some (2, bytes)) (wide_ascii b e) (λ k. k)) (λ _.
    choose (b ∷ bytes) (is_narrow_letter b) (Some (1, bytes)) None (λ e. behind b bytes (Some (1, bytes)) (narrow_ascii b e) (λ k. k)) (λ _. tt)))

array_front : (bytes : List ℕ) (o : Option Typed) → Front bytes o → Front bytes (as_array o)
array_front bytes None f = tt
array_front bytes (Some type) f = f

-- the brackets in front of a text
brackets : (bytes : List ℕ) → is_utf8 (drop (dimensions bytes) bytes) ≡ true → is_utf8 bytes ≡ true
brackets [] h = h
brackets (b ∷ bytes) h =
    go (brackets bytes) (b == 91) refl (subst (λ (l : List ℕ). is_utf8 (drop (length l) (b ∷ bytes)) ≡ true) (take_while-cons (λ b. b == 91) b bytes) h)
  where
    go : (is_utf8 (drop (dimensions bytes) bytes) ≡ true → is_utf8 bytes ≡ true) → (t : Bool) → (b == 91) ≡ t → is_utf8 (drop (length (cond t (b ∷ take_while (λ b. b == 91) bytes) [])) (b ∷ bytes)) ≡ true → is_utf8 (b ∷ bytes) ≡ true
    go rest true e k = ascii_first b bytes (ap (within 1 128) (eqb-true b 91 e)) (rest k)
    go rest false e k = k

front_through : (xs ys : List ℕ) (o : Option Typed) → (is_utf8 ys ≡ true → is_utf8 xs ≡ true) → Front ys o → Front xs o
front_through xs ys None f g = tt
front_through xs ys (Some type) f g = λ k. f (g k)

dimensions_front : (n : ℕ) (bytes : List ℕ) → (is_utf8 (drop n bytes) ≡ true → is_utf8 bytes ≡ true) → Front bytes (with_dimensions n bytes)
dimensions_front zero bytes f = base_front bytes
dimensions_front (suc n) bytes f =
    choose bytes (nat_lt n 255) (as_array (base_type (drop (suc n) bytes))) None (λ _. array_front bytes (base_type (drop (suc n) bytes)) (front_through bytes (drop (suc n) bytes) (base_type (drop (suc n) bytes)) f (base_front (drop (suc n) bytes)))) (λ _. tt)

field_front : (bytes : List ℕ) → Front bytes (field_type bytes)
field_front bytes = dimensions_front (dimensions bytes) bytes (brackets bytes)

ended_utf8 : (bytes : List ℕ) (o : Option Typed) → Front bytes o → is_ended o ≡ true → is_utf8 bytes ≡ true
ended_utf8 bytes (Some (slots, [])) f h = f refl
ended_utf8 bytes (Some (slots, b ∷ rest)) f h = absurd cc
ended_utf8 bytes None f h = absurd cc

pub field_utf8 : (bytes : List ℕ) → is_field_descriptor bytes ≡ true → is_utf8 bytes ≡ true
field_utf8 bytes h = ended_utf8 bytes (field_type bytes) (field_front bytes) h

pub internal_utf8 : (name : List ℕ) → is_internal_name name ≡ true → is_utf8 name ≡ true
internal_utf8 name h = ⊎_elim (class_utf8 name) (λ a. field_utf8 name (and_parts (nat_lt 0 (dimensions name)) (is_field_descriptor name) a).1) (or_cases (is_class_name name) (is_array_descriptor name) h)

-- ---- methods

result_utf8 : (bytes : List ℕ) → is_result bytes ≡ true → is_utf8 bytes ≡ true
result_utf8 [] h = refl
result_utf8 (b ∷ []) h = ⊎_elim (λ e. ascii_first b [] (ap (within 1 128) (eqb-true b 86 e)) refl) (field_utf8 (b ∷ [])) (or_cases (b == 86) (is_field_descriptor (b ∷ [])) h)
result_utf8 (b ∷ c ∷ bytes) h = field_utf8 (b ∷ c ∷ bytes) h

parameters_utf8 : (turns slots : ℕ) (bytes : List ℕ) → parameters turns slots bytes ≡ true → is_utf8 bytes ≡ true
parameters_utf8 zero slots bytes h = absurd cc
parameters_utf8 (suc turns) slots [] h = absurd cc
parameters_utf8 (suc turns) slots (b ∷ bytes) h = go (parameters_utf8 turns) (b == 41) refl h
  where
    fits : ((slots : ℕ) (bytes : List ℕ) → parameters turns slots bytes ≡ true → is_utf8 bytes ≡ true) → (type : Typed) → (is_utf8 type.1 ≡ true → is_utf8 (b ∷ bytes) ≡ true)
        → (t : Bool) → go_on (parameters turns) (if t then Ok (slots + type.0, type.1) else Err false) ≡ true → is_utf8 (b ∷ bytes) ≡ true
    fits next type f true k = f (next (slots + type.0) type.1 k)
    fits next type f false k = absurd cc

    then_one : ((slots : ℕ) (bytes : List ℕ) → parameters turns slots bytes ≡ true → is_utf8 bytes ≡ true) → (o : Option Typed) → Front (b ∷ bytes) o → go_on (parameters turns) (further slots o) ≡ true → is_utf8 (b ∷ bytes) ≡ true
    then_one next None f k = absurd cc
    then_one next (Some type) f k = fits next type f (nat_le (slots + type.0) 255) k

    go : ((slots : ℕ) (bytes : List ℕ) → parameters turns slots bytes ≡ true → is_utf8 bytes ≡ true) → (t : Bool) → (b == 41) ≡ t → go_on (parameters turns) (if t then Err (is_result bytes) else further slots (field_type (b ∷ bytes))) ≡ true → is_utf8 (b ∷ bytes) ≡ true
    go next true e k = ascii_first b bytes (ap (within 1 128) (eqb-true b 41 e)) (result_utf8 bytes k)
    go next false e k = then_one next (field_type (b ∷ bytes)) (field_front (b ∷ bytes)) k

pub method_utf8 : (slots : ℕ) (bytes : List ℕ) → is_method_descriptor_with slots bytes ≡ true → is_utf8 bytes ≡ true
method_utf8 slots [] h = absurd cc
method_utf8 slots (b ∷ bytes) h =
    let p = and_parts (b == 40) (parameters (length bytes) slots bytes) h in
    ascii_first b bytes (ap (within 1 128) (eqb-true b 40 p.0)) (parameters_utf8 (length bytes) slots bytes p.1)

-- ---- bytes

-- no byte of a text is above 239
abbrev Small : List ℕ → ℕ → Type 0
Small xs r = utf8_from (begun r) xs ≡ true → are_bytes xs ≡ true

below : (low high b : ℕ) → high ≤ 256 → within low high b ≡ true → is_u1 b ≡ true
below low high b le h = let p = and_parts (nat_le low b) (nat_lt b high) h in let lt = ltb-true b high p.1 in lt-ltb b 256 (omega arith)

with_byte : (b : ℕ) (xs : List ℕ) → is_u1 b ≡ true → are_bytes xs ≡ true → are_bytes (b ∷ xs) ≡ true
with_byte b xs h k = and_from (is_u1 b) (are_bytes xs) h k

-- where nothing may follow, nothing is a text
fails : (b : ℕ) (xs : List ℕ) → utf8_from (begun 0) xs ≡ true → are_bytes (b ∷ xs) ≡ true
fails b xs h = absurd (false≢true (sym (nothing_fails xs) ∙ h))

begun_small : (xs : List ℕ) (b : ℕ) → Six (Small xs) → utf8_from (begun b) xs ≡ true → are_bytes (b ∷ xs) ≡ true
begun_small xs b six =
    pick (λ e. utf8_from e xs ≡ true → are_bytes (b ∷ xs) ≡ true) (within 1 0x80 b) (begun 97) _ (λ h k. with_byte b xs (below 1 0x80 b (omega arith) h) (six.whole k)) (λ _.
    pick (λ e. utf8_from e xs ≡ true → are_bytes (b ∷ xs) ≡ true) (b == 0xC0) (begun 192) _ (λ h k. with_byte b xs (ap is_u1 (eqb-true b 0xC0 h)) (six.null k)) (λ _.
    pick (λ e. utf8_from e xs ≡ true → are_bytes (b ∷ xs) ≡ true) (within 0xC2 0xE0 b) (begun 194) _ (λ h k. with_byte b xs (below 0xC2 0xE0 b (omega arith) h) (six.last k)) (λ _.
    pick (λ e. utf8_from e xs ≡ true → are_bytes (b ∷ xs) ≡ true) (b == 0xE0) (begun 224) _ (λ h k. with_byte b xs (ap is_u1 (eqb-true b 0xE0 h)) (six.second k)) (λ _.
    pick (λ e. utf8_from e xs ≡ true → are_bytes (b ∷ xs) ≡ true) (within 0xE1 0xF0 b) (begun 225) (begun 0) (λ h k. with_byte b xs (below 0xE1 0xF0 b (omega arith) h) (six.two k)) (λ _. fails b xs)))))

all_small : (xs : List ℕ) → Six (Small xs)
all_small [] = record { whole = λ _. refl; last = λ _. refl; null = λ _. refl; second = λ _. refl; two = λ _. refl; none = λ _. refl }
all_small (b ∷ xs) =
    let six = all_small xs in
    record {
      whole = begun_small xs b six;
      last = pick (λ e. utf8_from e xs ≡ true → are_bytes (b ∷ xs) ≡ true) (within 0x80 0xC0 b) (begun 97) (begun 0) (λ h k. with_byte b xs (below 0x80 0xC0 b (omega arith) h) (six.whole k)) (λ _. fails b xs);
      null = pick (λ e. utf8_from e xs ≡ true → are_bytes (b ∷ xs) ≡ true) (b == 0x80) (begun 97) (begun 0) (λ h k. with_byte b xs (ap is_u1 (eqb-true b 0x80 h)) (six.whole k)) (λ _. fails b xs);
      second = pick (λ e. utf8_from e xs ≡ true → are_bytes (b ∷ xs) ≡ true) (within 0xA0 0xC0 b) (begun 194) (begun 0) (λ h k. with_byte b xs (below 0xA0 0xC0 b (omega arith) h) (six.last k)) (λ _. fails b xs);
      two = pick (λ e. utf8_from e xs ≡ true → are_bytes (b ∷ xs) ≡ true) (within 0x80 0xC0 b) (begun 194) (begun 0) (λ h k. with_byte b xs (below 0x80 0xC0 b (omega arith) h) (six.last k)) (λ _. fails b xs);
      none = fails b xs;
    }

pub utf8_bytes : (bytes : List ℕ) → is_utf8 bytes ≡ true → are_bytes bytes ≡ true
utf8_bytes bytes h = (all_small bytes).whole h
