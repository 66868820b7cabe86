-- The pools of the written classes are sound.
use Rattle.std.proofs.Common.{◌≡◌, ℕ, ◌+◌, ◌<◌, ◌≤◌, Bool, true, false, eqb, ltb, leb, not, ◌&&◌, List, [], ◌∷◌, ◌++◌, length, Some, refl, sym, ap, ◌∙◌, arith, ⊎_elim}
use Rattle.std.specs.Prelude.{codes, is_some}
use Rattle.std.specs.List.{list_all}
use Rattle.std.proofs.lemmas.Bool.{eqb-true, ltb-true, leb-true, lt-ltb, le-leb, and_parts, and_from, or_cases, or_left, not_from_false, false_from_ne_true, true≢false}
use Rattle.std.proofs.lemmas.List.Folds.{list_all-append}
use Rattle.class_file.specs.declared.pool.PoolEntry.{PoolEntry}
use Rattle.class_file.specs.declared.pool.PoolEntry.TheVariants as entry
use Rattle.class_file.specs.declared.types.ClassFile.{ClassFile}
use Rattle.class_file.specs.Text.{within, begun, utf8_from, is_utf8, is_paired, is_name_byte, is_name_text, has_parts, is_class_name, is_array_descriptor, is_internal_name, is_member_name}
use Rattle.class_file.specs.Pool.{text_at, class_at, named_type_at}
use Rattle.class_file.specs.Range.{pool_fits}
use Rattle.class_file.specs.Sound.{is_some_that, is_wide, is_second, seconds_follow, is_descriptor, of_method, entry_is_sound, entries_agree, pool_is_sound}
use Rattle.class_file.specs.FirstForm.{is_first_form, is_letter, is_digit, is_letter_or_digit, is_printable, is_reserved, is_identifier, begins_with_letter}
use Rattle.jp_model.specs.declared.first_aspect.FirstAspect.{FirstAspect}
use Rattle.jp_model.specs.AspectText.{is_first_aspect}
use Rattle.woven_calls.specs.Woven.{advice_name, call_entries, aspect_pool}
use Rattle.woven_calls.specs.Laws.Pools.{extends_append, text_slot, call_class, call_type}
use Rattle.woven_calls.specs.Laws.Grows.{all_still, pool_grows-entry}
use Rattle.before_weave.proofs.Forms.{first_parts, short_parts}
use Rattle.before_weave.proofs.Writable.{aspect_parts, pool_still_fits, aspect_pool_fits}

-- ---- texts of ASCII

abbrev is_ascii : ℕ → Bool
is_ascii b = within 1 128 b

begun_ascii : (b : ℕ) → is_ascii b ≡ true → begun b ≡ begun 97
begun_ascii b h = rw h refl

utf8_ascii : (bytes : List ℕ) → list_all is_ascii bytes ≡ true → is_utf8 bytes ≡ true
utf8_ascii [] h = refl
utf8_ascii (b ∷ bytes) h =
    let parts = and_parts (is_ascii b) (list_all is_ascii bytes) h in
    ap (λ e. utf8_from e bytes) (begun_ascii b parts.0) ∙ utf8_ascii bytes parts.1

ascii_within : (low high b : ℕ) → 1 ≤ low → high ≤ 128 → within low high b ≡ true → is_ascii b ≡ true
ascii_within low high b l h e =
    let parts = and_parts (leb low b) (ltb b high) e in
    let above = leb-true low b parts.0 in
    let below = ltb-true b high parts.1 in
    and_from (leb 1 b) (ltb b 128) (le-leb 1 b (omega arith)) (lt-ltb b 128 (omega arith))

letter_ascii : (b : ℕ) → is_letter_or_digit b ≡ true → is_ascii b ≡ true
letter_ascii b h =
    ⊎_elim (λ l. ⊎_elim (λ u. ascii_within 65 91 b (omega arith) (omega arith) u) (λ s. ascii_within 97 123 b (omega arith) (omega arith) s) (or_cases (within 65 91 b) (within 97 123 b) l))
    (λ d. ascii_within 48 58 b (omega arith) (omega arith) d) (or_cases (is_letter b) (is_digit b) h)

pub printable_utf8 : (text : List ℕ) → list_all is_printable text ≡ true → is_utf8 text ≡ true
printable_utf8 text h = utf8_ascii text (all_still is_printable is_ascii text (λ b e. ascii_within 32 127 b (omega arith) (omega arith) e) h)

-- ---- identifiers are names

no_letter : (b n : ℕ) → is_letter_or_digit n ≡ false → is_letter_or_digit b ≡ true → eqb b n ≡ false
no_letter b n f h = false_from_ne_true (eqb b n) (λ e. true≢false (sym h ∙ ap is_letter_or_digit (eqb-true b n e) ∙ f))

letters_paired : (bytes : List ℕ) → list_all is_letter_or_digit bytes ≡ true → is_paired bytes ≡ true
letters_paired [] h = refl
letters_paired (b ∷ bytes) h =
    let parts = and_parts (is_letter_or_digit b) (list_all is_letter_or_digit bytes) h in
    let e = no_letter b 237 refl parts.0 in
    rw e (letters_paired bytes parts.1)

letter_names : (b : ℕ) → is_letter_or_digit b ≡ true → is_name_byte b ≡ true
letter_names b h =
    and_from (not (eqb b 46)) (not (eqb b 59) && (not (eqb b 91) && not (eqb b 192))) (not_from_false (eqb b 46) (no_letter b 46 refl h))
    (and_from (not (eqb b 59)) (not (eqb b 91) && not (eqb b 192)) (not_from_false (eqb b 59) (no_letter b 59 refl h))
    (and_from (not (eqb b 91)) (not (eqb b 192)) (not_from_false (eqb b 91) (no_letter b 91 refl h)) (not_from_false (eqb b 192) (no_letter b 192 refl h))))

part_goes_on : (fresh : Bool) (b : ℕ) (bytes : List ℕ) → is_letter_or_digit b ≡ true → has_parts fresh (b ∷ bytes) ≡ has_parts false bytes
part_goes_on fresh b bytes h = let e = no_letter b 47 refl h in rw e refl

letters_parts : (bytes : List ℕ) → list_all is_letter_or_digit bytes ≡ true → has_parts false bytes ≡ true
letters_parts [] h = refl
letters_parts (b ∷ bytes) h =
    let parts = and_parts (is_letter_or_digit b) (list_all is_letter_or_digit bytes) h in
    part_goes_on false b bytes parts.0 ∙ letters_parts bytes parts.1

some_parts : (bytes : List ℕ) → begins_with_letter bytes ≡ true → list_all is_letter_or_digit bytes ≡ true → has_parts true bytes ≡ true
some_parts [] l h = absurd cc
some_parts (b ∷ bytes) l h =
    let parts = and_parts (is_letter_or_digit b) (list_all is_letter_or_digit bytes) h in
    part_goes_on true b bytes parts.0 ∙ letters_parts bytes parts.1

pub identifier_utf8 : (name : List ℕ) → is_identifier name ≡ true → is_utf8 name ≡ true
identifier_utf8 name h =
    let p = and_parts (begins_with_letter name) (list_all is_letter_or_digit name && not (is_reserved name)) h in
    let q = and_parts (list_all is_letter_or_digit name) (not (is_reserved name)) p.1 in
    utf8_ascii name (all_still is_letter_or_digit is_ascii name letter_ascii q.0)

pub identifier_class : (name : List ℕ) → is_identifier name ≡ true → is_class_name name ≡ true
identifier_class name h =
    let p = and_parts (begins_with_letter name) (list_all is_letter_or_digit name && not (is_reserved name)) h in
    let q = and_parts (list_all is_letter_or_digit name) (not (is_reserved name)) p.1 in
    and_from (is_name_text name) (has_parts true name)
    (and_from (is_utf8 name) (is_paired name && list_all is_name_byte name) (identifier_utf8 name h)
    (and_from (is_paired name) (list_all is_name_byte name) (letters_paired name q.0) (all_still is_letter_or_digit is_name_byte name letter_names q.0)))
    (some_parts name p.0 q.0)

pub identifier_internal : (name : List ℕ) → is_identifier name ≡ true → is_internal_name name ≡ true
identifier_internal name h = or_left (is_class_name name) (is_array_descriptor name) (identifier_class name h)

-- ---- what was sound stays so in a longer pool

seconds_append : (wide : Bool) (xs ys : List PoolEntry) → seconds_follow wide xs ≡ true → seconds_follow false ys ≡ true → seconds_follow wide (xs ++ ys) ≡ true
seconds_append true [] ys h e = absurd cc
seconds_append false [] ys h e = e
seconds_append true (x ∷ xs) ys h e =
    let parts = and_parts (is_second x) (seconds_follow (is_wide x) xs) h in
    and_from (is_second x) (seconds_follow (is_wide x) (xs ++ ys)) parts.0 (seconds_append (is_wide x) xs ys parts.1 e)
seconds_append false (x ∷ xs) ys h e =
    let parts = and_parts (not (is_second x)) (seconds_follow (is_wide x) xs) h in
    and_from (not (is_second x)) (seconds_follow (is_wide x) (xs ++ ys)) parts.0 (seconds_append (is_wide x) xs ys parts.1 e)

-- ---- the entries behind the pool

advice_named : is_member_name advice_name ≡ true
advice_named = refl

no_parameters_described : is_descriptor (codes "()V") ≡ true
no_parameters_described = refl

no_parameters_method : (name : List ℕ) → of_method (record { name = name; descriptor = codes "()V" }) ≡ true
no_parameters_method name = refl

module _ (pool : List PoolEntry) (a : FirstAspect) (first : is_first_aspect a ≡ true) where
  abbrev longer : List PoolEntry
  longer = pool ++ call_entries pool a

  abbrev start : ℕ
  start = length pool + 1

  name_there : text_at longer start ≡ Some a.name
  name_there = text_slot pool a 0 start a.name (omega arith) refl

  advice_there : text_at longer (start + 2) ≡ Some advice_name
  advice_there = text_slot pool a 2 (start + 2) advice_name (omega arith) refl

  descriptor_there : text_at longer (start + 3) ≡ Some (codes "()V")
  descriptor_there = text_slot pool a 3 (start + 3) (codes "()V") (omega arith) refl

  calls_sound : list_all (entry_is_sound longer) (call_entries pool a) ≡ true
  calls_sound =
      let id = (aspect_parts a first).identifier in
      let utf8 = identifier_utf8 a.name id in
      let class : is_some_that is_internal_name (text_at longer start) ≡ true = ap (is_some_that is_internal_name) name_there ∙ identifier_internal a.name id in
      let member : entry_is_sound longer (entry.NameAndType (start + 2) (start + 3)) ≡ true =
      and_from (is_some_that is_member_name (text_at longer (start + 2))) (is_some_that is_descriptor (text_at longer (start + 3)))
      (ap (is_some_that is_member_name) advice_there ∙ advice_named) (ap (is_some_that is_descriptor) descriptor_there ∙ no_parameters_described) in
      let method : entry_is_sound longer (entry.Methodref (start + 1) (start + 4)) ≡ true =
      and_from (is_some (class_at longer (start + 1))) (is_some_that of_method (named_type_at longer (start + 4)))
      (ap is_some (call_class pool a)) (ap (is_some_that of_method) (call_type pool a) ∙ no_parameters_method advice_name) in
      let last : Bool = entry_is_sound longer (entry.Methodref (start + 1) (start + 4)) && true in
      let two : Bool = entry_is_sound longer (entry.NameAndType (start + 2) (start + 3)) && last in
      and_from (is_utf8 a.name) (is_some_that is_internal_name (text_at longer start) && two) utf8
      (and_from (is_some_that is_internal_name (text_at longer start)) two class
      (and_from (entry_is_sound longer (entry.NameAndType (start + 2) (start + 3))) last member
      (and_from (entry_is_sound longer (entry.Methodref (start + 1) (start + 4))) true method refl)))

  longer_sound : length pool < 10000 → pool_is_sound pool ≡ true → pool_is_sound longer ≡ true
  longer_sound few h =
      let parts = and_parts (pool_fits pool) (entries_agree pool) h in
      let agree = and_parts (seconds_follow false pool) (list_all (entry_is_sound pool) pool) parts.1 in
      and_from (pool_fits longer) (entries_agree longer) (pool_still_fits pool a first few parts.0)
      (and_from (seconds_follow false longer) (list_all (entry_is_sound longer) longer) (seconds_append false pool (call_entries pool a) agree.0 refl)
      (list_all-append (entry_is_sound longer) pool (call_entries pool a)
      ∙ and_from (list_all (entry_is_sound longer) pool) (list_all (entry_is_sound longer) (call_entries pool a))
      (all_still (entry_is_sound pool) (entry_is_sound longer) pool (pool_grows-entry pool longer (extends_append pool (call_entries pool a))) agree.1) calls_sound))

pub woven_sound : (a : FirstAspect) (c : ClassFile) → is_first_form c ≡ true → is_first_aspect a ≡ true → pool_is_sound (c.pool ++ call_entries c.pool a) ≡ true
woven_sound a c h first = longer_sound c.pool a first (short_parts c h).pool (first_parts c h).sound

-- ---- the aspect's class

pub aspect_sound : (a : FirstAspect) → is_first_aspect a ≡ true → pool_is_sound (aspect_pool a) ≡ true
aspect_sound a h =
    let parts = aspect_parts a h in
    let internal = identifier_internal a.name parts.identifier in
    let name = identifier_utf8 a.name parts.identifier in
    let text = printable_utf8 a.text parts.printable in
    and_from (pool_fits (aspect_pool a)) (entries_agree (aspect_pool a)) (aspect_pool_fits a h) (rw (internal, name, text) refl)
