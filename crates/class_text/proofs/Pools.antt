-- What is made of a pool: it stays sound, and old indices stand for what they stood for (JVMS 4.4).
use Rattle.std.proofs.Common.{◌≡◌, ℕ, zero, suc, ◌+◌, ◌<◌, ◌≤◌, Bool, true, false, not, ◌&&◌, List, [], ◌∷◌, ◌++◌, length, Option, Some, None, refl, ap, ◌∙◌, arith}
use Rattle.std.specs.Prelude.{if◌then◌else◌, nat_le, is_some, slice_get, option_and_then}
use Rattle.std.specs.List.{list_all}
use Rattle.std.proofs.lemmas.Bool.{and_parts, and_from, leb-true, le-leb, lt-ltb, false≢true, or_left, or_right}
use Rattle.std.proofs.lemmas.List.Folds.{list_all-append}
use Rattle.class_file.specs.declared.pool.PoolEntry.{PoolEntry}
use Rattle.class_file.specs.declared.pool.PoolEntry.TheVariants as entry
use Rattle.class_file.specs.Text.{is_utf8, is_internal_name, is_member_name, is_field_descriptor, is_method_descriptor}
use Rattle.class_file.specs.Pool.{NamedType, entry_at, as_text, text_at, as_class, class_at, as_named_type, named_type_at}
use Rattle.class_file.specs.Range.{is_u2, is_u4, is_u8, is_s4, is_s8, are_bytes, entry_fits, pool_fits}
use Rattle.class_file.specs.Sound.{is_some_that, is_wide, is_second, seconds_follow, is_descriptor, of_field, of_method, entry_is_sound, entries_agree, pool_is_sound}
use Rattle.constant_pool.specs.Edit.{least_index, slots, placed_at, with_entry, with_text, with_class, with_string_text, with_named_type, with_member, with_field, with_method, Extends}
use Rattle.constant_pool.specs.Laws.{entry_extends, text_extends, named_type_extends}
use Rattle.constant_pool.specs.Meaning.{entry_stays, text_stays, class_stays, named_type_stays, text_found, class_found, named_type_found}
use Rattle.class_text.proofs.Utf8.{utf8_bytes, member_utf8, field_utf8, method_utf8, internal_utf8}

-- ---- tests that pass where another did

abbrev pub Still : Bool → Bool → Type 0
Still a b = a ≡ true → b ≡ true

and_still : (a a' b b' : Bool) → Still a a' → Still b b' → Still (a && b) (a' && b')
and_still a a' b b' f g e = let both = and_parts a b e in and_from a' b' (f both.0) (g both.1)

pub all_still : {X : Type 0} (p q : X → Bool) (xs : List X) → ((x : X) → Still (p x) (q x)) → Still (list_all p xs) (list_all q xs)
all_still p q [] f e = refl
all_still p q (x ∷ xs) f e = and_still (p x) (q x) (list_all p xs) (list_all q xs) (f x) (all_still p q xs f) e

some_still : {X : Type 0} (test : X → Bool) (o o' : Option X) → ((x : X) → o ≡ Some x → o' ≡ Some x) → Still (is_some_that test o) (is_some_that test o')
some_still test None o' kept e = absurd (false≢true e)
some_still test (Some x) o' kept e = ap (is_some_that test) (kept x refl) ∙ e

there_still : {X : Type 0} (o o' : Option X) → ((x : X) → o ≡ Some x → o' ≡ Some x) → Still (is_some o) (is_some o')
there_still None o' kept e = absurd (false≢true e)
there_still (Some x) o' kept e = ap is_some (kept x refl)

pub is_there : {X : Type 0} (test : X → Bool) (o : Option X) → is_some_that test o ≡ true → (x : X) × (o ≡ Some x) × (test x ≡ true)
is_there test None e = absurd (false≢true e)
is_there test (Some x) e = (x, refl, e)

there : {X : Type 0} (o : Option X) → is_some o ≡ true → (x : X) × (o ≡ Some x)
there None e = absurd (false≢true e)
there (Some x) e = (x, refl)

module _ (pool more : List PoolEntry) (h : Extends pool more) where
  pub grows-text : (test : List ℕ → Bool) (index : ℕ) → Still (is_some_that test (text_at pool index)) (is_some_that test (text_at more index))
  grows-text test index = some_still test (text_at pool index) (text_at more index) (text_stays pool more h index)

  pub grows-entry : (test : PoolEntry → Bool) (index : ℕ) → Still (is_some_that test (entry_at pool index)) (is_some_that test (entry_at more index))
  grows-entry test index = some_still test (entry_at pool index) (entry_at more index) (entry_stays pool more h index)

  pub grows-class : (test : List ℕ → Bool) (index : ℕ) → Still (is_some_that test (class_at pool index)) (is_some_that test (class_at more index))
  grows-class test index = some_still test (class_at pool index) (class_at more index) (class_stays pool more h index)

  text_there : (index : ℕ) → Still (is_some (text_at pool index)) (is_some (text_at more index))
  text_there index = there_still (text_at pool index) (text_at more index) (text_stays pool more h index)

  pub class_there : (index : ℕ) → Still (is_some (class_at pool index)) (is_some (class_at more index))
  class_there index = there_still (class_at pool index) (class_at more index) (class_stays pool more h index)

  named_still : (test : NamedType → Bool) (index : ℕ) → Still (is_some_that test (named_type_at pool index)) (is_some_that test (named_type_at more index))
  named_still test index = some_still test (named_type_at pool index) (named_type_at more index) (named_type_stays pool more h index)

  member_still : (test : NamedType → Bool) (class member : ℕ) → Still (is_some (class_at pool class) && is_some_that test (named_type_at pool member)) (is_some (class_at more class) && is_some_that test (named_type_at more member))
  member_still test class member = and_still _ _ _ _ (class_there class) (named_still test member)

  sound_still : (e : PoolEntry) → Still (entry_is_sound pool e) (entry_is_sound more e)
  sound_still (entry.Class name) s = grows-text is_internal_name name s
  sound_still (entry.String text) s = text_there text s
  sound_still (entry.Fieldref class member) s = member_still of_field class member s
  sound_still (entry.Methodref class member) s = member_still of_method class member s
  sound_still (entry.InterfaceMethodref class member) s = member_still of_method class member s
  sound_still (entry.NameAndType name descriptor) s = and_still _ _ _ _ (grows-text is_member_name name) (grows-text is_descriptor descriptor) s
  sound_still _ s = s

-- ---- sound pools

-- texts are short, and constants are numbers of their width
abbrev pub in_range : PoolEntry → Bool
in_range (entry.Utf8 text) = nat_le (length text) 65535
in_range (entry.Integer n) = is_s4 n
in_range (entry.Float bits) = is_u4 bits
in_range (entry.Long n) = is_s8 n
in_range (entry.Double bits) = is_u8 bits
in_range _ = true

pub record Sound (pool : List PoolEntry) : Type 0 where
  pub seconds : seconds_follow false pool ≡ true
  pub entries : list_all (entry_is_sound pool) pool ≡ true
  pub ranges : list_all in_range pool ≡ true

pub sound_empty : Sound []
sound_empty = record { seconds = refl; entries = refl; ranges = refl }

seconds_append : (wide : Bool) (xs ys : List PoolEntry) → seconds_follow wide xs ≡ true → seconds_follow false ys ≡ true → seconds_follow wide (xs ++ ys) ≡ true
seconds_append true [] ys h e = absurd (false≢true h)
seconds_append false [] ys h e = e
seconds_append true (x ∷ xs) ys h e =
    let parts = and_parts (is_second x) (seconds_follow (is_wide x) xs) h in
    and_from (is_second x) (seconds_follow (is_wide x) (xs ++ ys)) parts.0 (seconds_append (is_wide x) xs ys parts.1 e)
seconds_append false (x ∷ xs) ys h e =
    let parts = and_parts (not (is_second x)) (seconds_follow (is_wide x) xs) h in
    and_from (not (is_second x)) (seconds_follow (is_wide x) (xs ++ ys)) parts.0 (seconds_append (is_wide x) xs ys parts.1 e)

-- one entry, and its second index
slots_follow : (e : PoolEntry) (wide : Bool) → is_wide e ≡ wide → is_second e ≡ false → seconds_follow false (if wide then e ∷ entry.Second ∷ [] else e ∷ []) ≡ true
slots_follow e true w s = ap (λ (b : Bool). not b && (seconds_follow (is_wide e) (entry.Second ∷ []))) s ∙ ap (λ (b : Bool). seconds_follow b (entry.Second ∷ [])) w
slots_follow e false w s = ap (λ (b : Bool). not b && (seconds_follow (is_wide e) [])) s ∙ ap not w

slots_pass : (test : PoolEntry → Bool) (e : PoolEntry) (wide : Bool) → test entry.Second ≡ true → test e ≡ true → list_all test (if wide then e ∷ entry.Second ∷ [] else e ∷ []) ≡ true
slots_pass test e true s h = and_from (test e) (test entry.Second && true) h (and_from (test entry.Second) true s refl)
slots_pass test e false s h = and_from (test e) true h refl

-- an entry that is sound in a pool
pub record New (pool : List PoolEntry) (e : PoolEntry) : Type 0 where
  pub sound : entry_is_sound pool e ≡ true
  pub range : in_range e ≡ true
  pub first : is_second e ≡ false

placed_sound : (pool : List PoolEntry) (e : PoolEntry) (found : Option ℕ) → Sound pool → New pool e → Extends pool (placed_at pool e found).0 → Sound (placed_at pool e found).0
placed_sound pool e (Some index) s n h = s
placed_sound pool e None s n h =
    let more : List PoolEntry = pool ++ slots e in
    record {
      seconds = seconds_append false pool (slots e) s.seconds (slots_follow e (is_wide e) refl n.first);
      entries = list_all-append (entry_is_sound more) pool (slots e)
          ∙ and_from (list_all (entry_is_sound more) pool) (list_all (entry_is_sound more) (slots e))
          (all_still (entry_is_sound pool) (entry_is_sound more) pool (sound_still pool more h) s.entries)
          (slots_pass (entry_is_sound more) e (is_wide e) refl (sound_still pool more h e n.sound));
      ranges = list_all-append in_range pool (slots e) ∙ and_from (list_all in_range pool) (list_all in_range (slots e)) s.ranges (slots_pass in_range e (is_wide e) refl n.range);
    }

pub entry_sound : (pool : List PoolEntry) (e : PoolEntry) → Sound pool → New pool e → Sound (with_entry pool e).0
unfolding with_entry
entry_sound pool e s n = placed_sound pool e (least_index pool e) s n (entry_extends pool e)

pub text_sound : (pool : List PoolEntry) (text : List ℕ) → Sound pool → is_utf8 text ≡ true → length text ≤ 65535 → Sound (with_text pool text).0
text_sound pool text s u le = entry_sound pool (entry.Utf8 text) s (record { sound = u; range = le-leb (length text) 65535 le; first = refl })

pub class_sound : (pool : List PoolEntry) (name : List ℕ) → Sound pool → is_internal_name name ≡ true → length name ≤ 65535 → Sound (with_class pool name).0
unfolding with_class
class_sound pool name s i le =
    let t = with_text pool name in
    entry_sound t.0 (entry.Class t.1) (text_sound pool name s (internal_utf8 name i) le)
    (record { sound = ap (is_some_that is_internal_name) (text_found pool name) ∙ i; range = refl; first = refl })

pub string_sound : (pool : List PoolEntry) (text : List ℕ) → Sound pool → is_utf8 text ≡ true → length text ≤ 65535 → Sound (with_string_text pool text).0
unfolding with_string_text
string_sound pool text s u le =
    let t = with_text pool text in
    entry_sound t.0 (entry.String t.1) (text_sound pool text s u le) (record { sound = ap is_some (text_found pool text); range = refl; first = refl })

named_type_sound : (pool : List PoolEntry) (name descriptor : List ℕ) → Sound pool → is_member_name name ≡ true → length name ≤ 65535 → is_descriptor descriptor ≡ true → is_utf8 descriptor ≡ true → length descriptor ≤ 65535 → Sound (with_named_type pool name descriptor).0
unfolding with_named_type
named_type_sound pool name descriptor s m le d u le' =
    let n = with_text pool name in
    let t = with_text n.0 descriptor in
    let first = text_sound pool name s (member_utf8 name m) le in
    entry_sound t.0 (entry.NameAndType n.1 t.1) (text_sound n.0 descriptor first u le')
    (record {
      sound = and_from (is_some_that is_member_name (text_at t.0 n.1)) (is_some_that is_descriptor (text_at t.0 t.1))
          (ap (is_some_that is_member_name) (text_stays n.0 t.0 (text_extends n.0 descriptor) n.1 name (text_found pool name)) ∙ m)
          (ap (is_some_that is_descriptor) (text_found n.0 descriptor) ∙ d);
      range = refl;
      first = refl;
    })

-- a member is named by a class and a type that are there
names_sound : (test : NamedType → Bool) (pool : List PoolEntry) (class member : ℕ) (name : List ℕ) (type : NamedType) → class_at pool class ≡ Some name → named_type_at pool member ≡ Some type → test type ≡ true
    → (is_some (class_at pool class) && is_some_that test (named_type_at pool member)) ≡ true
names_sound test pool class member name type c t d = and_from (is_some (class_at pool class)) (is_some_that test (named_type_at pool member)) (ap is_some c) (ap (is_some_that test) t ∙ d)

module _ (pool : List PoolEntry) (class name descriptor : List ℕ) (sound : Sound pool) (internal : is_internal_name class ≡ true) (short : length class ≤ 65535) (member : is_member_name name ≡ true) (short' : length name ≤ 65535) (short'' : length descriptor ≤ 65535) where
  pub field_sound : is_field_descriptor descriptor ≡ true → Sound (with_field pool (record { class = class; name = name; descriptor = descriptor })).0
  unfolding with_member
  field_sound d =
      let c = with_class pool class in
      let n = with_named_type c.0 name descriptor in
      entry_sound n.0 (entry.Fieldref c.1 n.1)
      (named_type_sound c.0 name descriptor (class_sound pool class sound internal short) member short' (or_left (is_field_descriptor descriptor) (is_method_descriptor descriptor) d) (field_utf8 descriptor d) short'')
      (record {
        sound = names_sound of_field n.0 c.1 n.1 class (record { name = name; descriptor = descriptor }) (class_stays c.0 n.0 (named_type_extends c.0 name descriptor) c.1 class (class_found pool class)) (named_type_found c.0 name descriptor) d;
        range = refl;
        first = refl;
      })

  pub method_sound : (interface : Bool) → is_method_descriptor descriptor ≡ true → Sound (with_method pool (record { class = class; name = name; descriptor = descriptor; interface = interface })).0
  unfolding with_member
  method_sound true d =
      let c = with_class pool class in
      let n = with_named_type c.0 name descriptor in
      entry_sound n.0 (entry.InterfaceMethodref c.1 n.1)
      (named_type_sound c.0 name descriptor (class_sound pool class sound internal short) member short' (or_right (is_field_descriptor descriptor) (is_method_descriptor descriptor) d) (method_utf8 0 descriptor d) short'')
      (record {
        sound = names_sound of_method n.0 c.1 n.1 class (record { name = name; descriptor = descriptor }) (class_stays c.0 n.0 (named_type_extends c.0 name descriptor) c.1 class (class_found pool class)) (named_type_found c.0 name descriptor) d;
        range = refl;
        first = refl;
      })
  method_sound false d =
      let c = with_class pool class in
      let n = with_named_type c.0 name descriptor in
      entry_sound n.0 (entry.Methodref c.1 n.1)
      (named_type_sound c.0 name descriptor (class_sound pool class sound internal short) member short' (or_right (is_field_descriptor descriptor) (is_method_descriptor descriptor) d) (method_utf8 0 descriptor d) short'')
      (record {
        sound = names_sound of_method n.0 c.1 n.1 class (record { name = name; descriptor = descriptor }) (class_stays c.0 n.0 (named_type_extends c.0 name descriptor) c.1 class (class_found pool class)) (named_type_found c.0 name descriptor) d;
        range = refl;
        first = refl;
      })

-- ---- indices

get_within : (pool : List PoolEntry) (k : ℕ) (e : PoolEntry) → slice_get pool k ≡ Some e → k < length pool
get_within [] k e h = cc
get_within (x ∷ pool) zero e h = omega arith
get_within (x ∷ pool) (suc k) e h = let lt = get_within pool k e h in omega arith

pub entry_within : (pool : List PoolEntry) (index : ℕ) (e : PoolEntry) → entry_at pool index ≡ Some e → index ≤ length pool
entry_within pool zero e h = cc
entry_within pool (suc k) e h = let lt = get_within pool k e h in omega arith

through : {T : Type 0} (pool : List PoolEntry) (read : PoolEntry → Option T) (index : ℕ) (o : Option PoolEntry) (t : T) → entry_at pool index ≡ o → option_and_then read o ≡ Some t → index ≤ length pool
through pool read index None t is h = cc
through pool read index (Some e) t is h = entry_within pool index e is

pub text_within : (pool : List PoolEntry) (index : ℕ) (text : List ℕ) → text_at pool index ≡ Some text → index ≤ length pool
text_within pool index text h = through pool as_text index (entry_at pool index) text refl h

pub class_within : (pool : List PoolEntry) (index : ℕ) (name : List ℕ) → class_at pool index ≡ Some name → index ≤ length pool
class_within pool index name h = through pool (as_class pool) index (entry_at pool index) name refl h

named_within : (pool : List PoolEntry) (index : ℕ) (type : NamedType) → named_type_at pool index ≡ Some type → index ≤ length pool
named_within pool index type h = through pool (as_named_type pool) index (entry_at pool index) type refl h

-- ---- a sound pool that is not too long is one of a class file

module _ (pool : List PoolEntry) (few : length pool ≤ 65534) where
  pub index_fits : (index : ℕ) → index ≤ length pool → is_u2 index ≡ true
  index_fits index le = lt-ltb index 65536 (omega arith)

  text_index : (test : List ℕ → Bool) (index : ℕ) → is_some_that test (text_at pool index) ≡ true → is_u2 index ≡ true
  text_index test index h = let t = is_there test (text_at pool index) h in index_fits index (text_within pool index t.0 t.1)

  member_fits : (test : NamedType → Bool) (class member : ℕ) → (is_some (class_at pool class) && is_some_that test (named_type_at pool member)) ≡ true → (is_u2 class && is_u2 member) ≡ true
  member_fits test class member h =
      let p = and_parts (is_some (class_at pool class)) (is_some_that test (named_type_at pool member)) h in
      let c = there (class_at pool class) p.0 in
      let t = is_there test (named_type_at pool member) p.1 in
      and_from (is_u2 class) (is_u2 member) (index_fits class (class_within pool class c.0 c.1)) (index_fits member (named_within pool member t.0 t.1))

  one_fits : (e : PoolEntry) → entry_is_sound pool e ≡ true → in_range e ≡ true → entry_fits e ≡ true
  one_fits (entry.Utf8 text) s r = and_from (is_u2 (length text)) (are_bytes text) (let le = leb-true (length text) 65535 r in lt-ltb (length text) 65536 (omega arith)) (utf8_bytes text s)
  one_fits (entry.Integer n) s r = r
  one_fits (entry.Float bits) s r = r
  one_fits (entry.Long n) s r = r
  one_fits (entry.Double bits) s r = r
  one_fits (entry.Class name) s r = text_index is_internal_name name s
  one_fits (entry.String text) s r = let t = there (text_at pool text) s in index_fits text (text_within pool text t.0 t.1)
  one_fits (entry.Fieldref class member) s r = member_fits of_field class member s
  one_fits (entry.Methodref class member) s r = member_fits of_method class member s
  one_fits (entry.InterfaceMethodref class member) s r = member_fits of_method class member s
  one_fits (entry.NameAndType name descriptor) s r =
      let p = and_parts (is_some_that is_member_name (text_at pool name)) (is_some_that is_descriptor (text_at pool descriptor)) s in
      and_from (is_u2 name) (is_u2 descriptor) (text_index is_member_name name p.0) (text_index is_descriptor descriptor p.1)
  one_fits entry.Second s r = refl

  all_fit : (entries : List PoolEntry) → list_all (entry_is_sound pool) entries ≡ true → list_all in_range entries ≡ true → list_all entry_fits entries ≡ true
  all_fit [] s r = refl
  all_fit (e ∷ entries) s r =
      let p = and_parts (entry_is_sound pool e) (list_all (entry_is_sound pool) entries) s in
      let q = and_parts (in_range e) (list_all in_range entries) r in
      and_from (entry_fits e) (list_all entry_fits entries) (one_fits e p.0 q.0) (all_fit entries p.1 q.1)

  fits : Sound pool → pool_fits pool ≡ true
  fits s = and_from (is_u2 (length pool + 1)) (list_all entry_fits pool) (lt-ltb (length pool + 1) 65536 (omega arith)) (all_fit pool s.entries s.ranges)

  pub sound_pool : Sound pool → pool_is_sound pool ≡ true
  sound_pool s = and_from (pool_fits pool) (entries_agree pool) (fits s) (and_from (seconds_follow false pool) (list_all (entry_is_sound pool) pool) s.seconds s.entries)

  pub pool_fits_from : Sound pool → pool_fits pool ≡ true
  pool_fits_from s = fits s
