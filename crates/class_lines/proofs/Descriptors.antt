-- Names and descriptors are of characters (JVMS 4.2, 4.3).
use Rattle.std.proofs.Common.{◌≡◌, ℕ, zero, suc, ◌+◌, ◌<◌, Bool, true, false, not, ◌&&◌, ◌||◌, cond, List, [], ◌∷◌, ◌++◌, length, take, drop, get_or, Option, Some, None, Ok, Err, refl, sym, ap, subst, ◌∙◌, arith, ⊎_elim}
use Rattle.std.specs.Prelude.{if◌then◌else◌, ◌==◌, nat_lt, nat_le}
use Rattle.std.specs.List.{list_all, position, take_while}
use Rattle.std.proofs.lemmas.Bool.{and_parts, and_from, or_cases, eqb-true}
use Rattle.std.proofs.lemmas.List.{take-append-drop}
use Rattle.std.proofs.lemmas.List.Sums.{take_while-cons}
use Rattle.std.proofs.lemmas.List.Quantifiers.{position-Some}
use Rattle.std.proofs.Math.Seq.{drop-cons}
use Rattle.class_file.specs.Text.{within, is_utf8, is_paired, is_name_byte, is_name_text, has_parts, is_class_name, is_member_name, is_not_slash, Typed, up_to, class_type, is_wide_letter, is_narrow_letter, base_type, as_array, with_dimensions, dimensions, field_type, is_ended, is_field_descriptor, is_array_descriptor, is_result, further, go_on, parameters, is_method_descriptor_with, is_internal_name}
use Rattle.class_lines.specs.Lines.{is_free, are_characters}
use Rattle.class_lines.proofs.Back.{Spelled, spelled_nil, spelled_append, spelled_one, valid_spelled}

-- ---- names

free_of : (name : List ℕ) → list_all is_name_byte name ≡ true → list_all is_free name ≡ true
free_of [] h = refl
free_of (b ∷ name) h =
    let p = and_parts (is_name_byte b) (list_all is_name_byte name) h in
    let dot = and_parts (not (b == 46)) _ p.0 in
    let semicolon = and_parts (not (b == 59)) _ dot.1 in
    let bracket = and_parts (not (b == 91)) (is_free b) semicolon.1 in
    and_from (is_free b) (list_all is_free name) bracket.1 (free_of name p.1)

pub class_spelled : (name : List ℕ) → is_class_name name ≡ true → Spelled name
class_spelled name h =
    let p = and_parts (is_name_text name) (has_parts true name) h in
    let q = and_parts (is_utf8 name) (is_paired name && list_all is_name_byte name) p.0 in
    let r = and_parts (is_paired name) (list_all is_name_byte name) q.1 in
    valid_spelled name (record { utf8 = q.0; paired = r.0; free = free_of name r.1 })

pub member_spelled : (name : List ℕ) → is_member_name name ≡ true → Spelled name
member_spelled name h = class_spelled name (and_parts (is_class_name name) (list_all is_not_slash name) h).0

pub characters_spelled : (text : List ℕ) → are_characters text ≡ true → Spelled text
characters_spelled text h =
    let p = and_parts (is_utf8 text) (is_paired text && list_all is_free text) h in
    let q = and_parts (is_paired text) (list_all is_free text) p.1 in
    valid_spelled text (record { utf8 = p.0; paired = q.0; free = q.1 })

-- ---- letters

wide_ascii : (b : ℕ) → is_wide_letter b ≡ true → within 1 128 b ≡ true
wide_ascii b h = ⊎_elim (λ e. ap (within 1 128) (eqb-true b 74 e)) (λ e. ap (within 1 128) (eqb-true b 68 e)) (or_cases (b == 74) (b == 68) h)

narrow_ascii : (b : ℕ) → is_narrow_letter b ≡ true → within 1 128 b ≡ true
narrow_ascii b h =
    ⊎_elim (λ e. ap (within 1 128) (eqb-true b 66 e)) (λ h.
    ⊎_elim (λ e. ap (within 1 128) (eqb-true b 67 e)) (λ h.
    ⊎_elim (λ e. ap (within 1 128) (eqb-true b 70 e)) (λ h.
    ⊎_elim (λ e. ap (within 1 128) (eqb-true b 73 e)) (λ h.
    ⊎_elim (λ e. ap (within 1 128) (eqb-true b 83 e)) (λ e. ap (within 1 128) (eqb-true b 90 e))
    (or_cases (b == 83) (b == 90) h))
    (or_cases (b == 73) (b == 83 || b == 90) h))
    (or_cases (b == 70) (b == 73 || (b == 83 || b == 90)) h))
    (or_cases (b == 67) (b == 70 || (b == 73 || (b == 83 || b == 90))) h))
    (or_cases (b == 66) (b == 67 || (b == 70 || (b == 73 || (b == 83 || b == 90)))) h)

-- ---- types

-- what stands at the front of a text is modified UTF-8 if a type does
abbrev Front : List ℕ → Option Typed → Type 0
Front bytes None = Unit {0}
Front bytes (Some type) = Spelled type.1 → Spelled bytes

class_named : (bytes : List ℕ) (o : Option ℕ) → position (λ b. b == 59) bytes ≡ o → Front bytes (up_to bytes o)
class_named bytes None h = tt
class_named bytes (Some end) h =
    let found = position-Some (λ b. b == 59) bytes end 0 h in
    let here : get_or bytes end 0 ≡ 59 = eqb-true (get_or bytes end 0) 59 found.1 in
    go (is_class_name (take end bytes)) refl found.0 here
  where
    go : (t : Bool) → is_class_name (take end bytes) ≡ t → end < length bytes → get_or bytes end 0 ≡ 59 → Front bytes (if t then Some (1, drop (end + 1) bytes) else None)
    go false is lt here = tt
    go true is lt here = λ rest.
        let next : end + 1 ≡ suc end = omega arith in
        let split : take end bytes ++ (59 ∷ drop (suc end) bytes) ≡ bytes =
        ap (λ (b : ℕ). take end bytes ++ (b ∷ drop (suc end) bytes)) (sym here) ∙ ap (λ (l : List ℕ). take end bytes ++ l) (sym (drop-cons bytes end 0 lt)) ∙ take-append-drop end bytes in
        let after : Spelled (drop (suc end) bytes) = subst (λ (n : ℕ). Spelled (drop n bytes)) next rest in
        subst (λ (l : List ℕ). Spelled l) split (spelled_append (take end bytes) (59 ∷ drop (suc end) bytes) (class_spelled (take end bytes) is) (spelled_one 59 (drop (suc end) bytes) refl after))

choose : (bytes : List ℕ) (t : Bool) (a b : Option Typed) → (t ≡ true → Front bytes a) → (t ≡ false → Front bytes b) → Front bytes (if t then a else b)
choose bytes true a b f g = f refl
choose bytes false a b f g = g refl

behind : (b : ℕ) (rest : List ℕ) (o : Option Typed) → within 1 128 b ≡ true → Front rest o → Front (b ∷ rest) o
behind b rest None h f = tt
behind b rest (Some type) h f = λ k. spelled_one b rest h (f k)

base_front : (bytes : List ℕ) → Front bytes (base_type bytes)
base_front [] = tt
base_front (b ∷ bytes) =
    choose (b ∷ bytes) (b == 76) (class_type bytes) _ (λ e. behind b bytes (class_type bytes) (ap (within 1 128) (eqb-true b 76 e)) (class_named bytes (position (λ b. b == 59) bytes) refl)) (λ _.
    choose (b ∷ bytes) (is_wide_letter b) (Some (2, bytes)) _ (λ e. behind b bytes (Some (2, bytes)) (wide_ascii b e) (λ k. k)) (λ _.
    choose (b ∷ bytes) (is_narrow_letter b) (Some (1, bytes)) None (λ e. behind b bytes (Some (1, bytes)) (narrow_ascii b e) (λ k. k)) (λ _. tt)))

array_front : (bytes : List ℕ) (o : Option Typed) → Front bytes o → Front bytes (as_array o)
array_front bytes None f = tt
array_front bytes (Some type) f = f

-- the brackets in front of a text
brackets : (bytes : List ℕ) → Spelled (drop (dimensions bytes) bytes) → Spelled bytes
brackets [] h = h
brackets (b ∷ bytes) h =
    go (brackets bytes) (b == 91) refl (subst (λ (l : List ℕ). Spelled (drop (length l) (b ∷ bytes))) (take_while-cons (λ b. b == 91) b bytes) h)
  where
    go : (Spelled (drop (dimensions bytes) bytes) → Spelled bytes) → (t : Bool) → (b == 91) ≡ t → Spelled (drop (length (cond t (b ∷ take_while (λ b. b == 91) bytes) [])) (b ∷ bytes)) → Spelled (b ∷ bytes)
    go rest true e k = spelled_one b bytes (ap (within 1 128) (eqb-true b 91 e)) (rest k)
    go rest false e k = k

front_through : (xs ys : List ℕ) (o : Option Typed) → (Spelled ys → Spelled xs) → Front ys o → Front xs o
front_through xs ys None f g = tt
front_through xs ys (Some type) f g = λ k. f (g k)

dimensions_front : (n : ℕ) (bytes : List ℕ) → (Spelled (drop n bytes) → Spelled bytes) → Front bytes (with_dimensions n bytes)
dimensions_front zero bytes f = base_front bytes
dimensions_front (suc n) bytes f =
    choose bytes (nat_lt n 255) (as_array (base_type (drop (suc n) bytes))) None (λ _. array_front bytes (base_type (drop (suc n) bytes)) (front_through bytes (drop (suc n) bytes) (base_type (drop (suc n) bytes)) f (base_front (drop (suc n) bytes)))) (λ _. tt)

field_front : (bytes : List ℕ) → Front bytes (field_type bytes)
field_front bytes = dimensions_front (dimensions bytes) bytes (brackets bytes)

ended_spelled : (bytes : List ℕ) (o : Option Typed) → Front bytes o → is_ended o ≡ true → Spelled bytes
ended_spelled bytes (Some (slots, [])) f h = f spelled_nil
ended_spelled bytes (Some (slots, b ∷ rest)) f h = absurd cc
ended_spelled bytes None f h = absurd cc

pub field_spelled : (bytes : List ℕ) → is_field_descriptor bytes ≡ true → Spelled bytes
field_spelled bytes h = ended_spelled bytes (field_type bytes) (field_front bytes) h

pub internal_spelled : (name : List ℕ) → is_internal_name name ≡ true → Spelled name
internal_spelled name h = ⊎_elim (class_spelled name) (λ a. field_spelled name (and_parts (nat_lt 0 (dimensions name)) (is_field_descriptor name) a).1) (or_cases (is_class_name name) (is_array_descriptor name) h)

-- ---- methods

result_spelled : (bytes : List ℕ) → is_result bytes ≡ true → Spelled bytes
result_spelled [] h = spelled_nil
result_spelled (b ∷ []) h = ⊎_elim (λ e. spelled_one b [] (ap (within 1 128) (eqb-true b 86 e)) spelled_nil) (field_spelled (b ∷ [])) (or_cases (b == 86) (is_field_descriptor (b ∷ [])) h)
result_spelled (b ∷ c ∷ bytes) h = field_spelled (b ∷ c ∷ bytes) h

parameters_spelled : (turns slots : ℕ) (bytes : List ℕ) → parameters turns slots bytes ≡ true → Spelled bytes
parameters_spelled zero slots bytes h = absurd cc
parameters_spelled (suc turns) slots [] h = absurd cc
parameters_spelled (suc turns) slots (b ∷ bytes) h = go (parameters_spelled turns) (b == 41) refl h
  where
    fits : ((slots : ℕ) (bytes : List ℕ) → parameters turns slots bytes ≡ true → Spelled bytes) → (type : Typed) → (Spelled type.1 → Spelled (b ∷ bytes))
        → (t : Bool) → go_on (parameters turns) (if t then Ok (slots + type.0, type.1) else Err false) ≡ true → Spelled (b ∷ bytes)
    fits next type f true k = f (next (slots + type.0) type.1 k)
    fits next type f false k = absurd cc

    then_one : ((slots : ℕ) (bytes : List ℕ) → parameters turns slots bytes ≡ true → Spelled bytes) → (o : Option Typed) → Front (b ∷ bytes) o → go_on (parameters turns) (further slots o) ≡ true → Spelled (b ∷ bytes)
    then_one next None f k = absurd cc
    then_one next (Some type) f k = fits next type f (nat_le (slots + type.0) 255) k

    go : ((slots : ℕ) (bytes : List ℕ) → parameters turns slots bytes ≡ true → Spelled bytes) → (t : Bool) → (b == 41) ≡ t → go_on (parameters turns) (if t then Err (is_result bytes) else further slots (field_type (b ∷ bytes))) ≡ true → Spelled (b ∷ bytes)
    go next true e k = spelled_one b bytes (ap (within 1 128) (eqb-true b 41 e)) (result_spelled bytes k)
    go next false e k = then_one next (field_type (b ∷ bytes)) (field_front (b ∷ bytes)) k

pub method_spelled : (slots : ℕ) (bytes : List ℕ) → is_method_descriptor_with slots bytes ≡ true → Spelled bytes
method_spelled slots [] h = absurd cc
method_spelled slots (b ∷ bytes) h =
    let p = and_parts (b == 40) (parameters (length bytes) slots bytes) h in
    spelled_one b bytes (ap (within 1 128) (eqb-true b 40 p.0)) (parameters_spelled (length bytes) slots bytes p.1)
