-- The first entry of a constant pool that is not sound.
use Rattle.std.specs.Prelude.{◌≡◌, ℕ, zero, suc, ◌+◌, ◌==◌, Bool, true, false, not, ◌&&◌, ◌||◌, if◌then◌else◌, List, [], ◌∷◌, Option, Some, None, is_some, ◌↔◌, slice_get, option_and_then, refl, length}
use Rattle.std.specs.List.{list_all}
use Rattle.std.proofs.Common.{sym, ap, subst, ◌∙◌, inl, inr}
use Rattle.std.proofs.lemmas.Bool.{and_parts, and_from, eqb-true}
use Rattle.class_file.specs.declared.pool.PoolEntry.{PoolEntry}
use Rattle.class_file.specs.declared.pool.PoolEntry.TheVariants as entry
use Rattle.class_file.specs.Pool.{NamedType, entry_at, text_at, as_class, class_at, as_named_type, named_type_at}
use Rattle.class_file.specs.Text.{is_utf8, is_internal_name, is_member_name, field_type, is_ended, is_field_descriptor, is_method_descriptor, is_method_descriptor_with, parameters}
use Rattle.class_file.specs.Sound.{is_some_that, is_descriptor, of_field, of_method, entry_is_sound}
use Rattle.class_file.specs.Code.{is_class_entry}

-- ---- what an entry itself names

-- a name and type whose descriptor is none of a method, and one whose descriptor is none of a field
abbrev pub is_no_method_type : List PoolEntry → PoolEntry → Bool
is_no_method_type pool (entry.NameAndType name descriptor) = not (is_some_that is_method_descriptor (text_at pool descriptor))
is_no_method_type pool _ = false

abbrev pub is_no_field_type : List PoolEntry → PoolEntry → Bool
is_no_field_type pool (entry.NameAndType name descriptor) = not (is_some_that is_field_descriptor (text_at pool descriptor))
is_no_field_type pool _ = false

abbrev pub names_member : (PoolEntry → Bool) → List PoolEntry → ℕ → ℕ → Bool
names_member is_type pool class member = is_some_that is_class_entry (entry_at pool class) && is_some_that is_type (entry_at pool member)

-- The indices of the entry are those of entries of the right kind, and the texts among them have the
-- right form. What a class or a name and type names is their own matter; a reference to a member is
-- wrong also where its name and type has a descriptor of the other kind.
abbrev pub names_rightly : List PoolEntry → PoolEntry → Bool
names_rightly pool (entry.Utf8 text) = is_utf8 text
names_rightly pool (entry.Class name) = is_some_that is_internal_name (text_at pool name)
names_rightly pool (entry.String text) = is_some (text_at pool text)
names_rightly pool (entry.Fieldref class member) = names_member (is_no_method_type pool) pool class member
names_rightly pool (entry.Methodref class member) = names_member (is_no_field_type pool) pool class member
names_rightly pool (entry.InterfaceMethodref class member) = names_member (is_no_field_type pool) pool class member
names_rightly pool (entry.NameAndType name descriptor) = is_some_that is_member_name (text_at pool name) && is_some_that is_descriptor (text_at pool descriptor)
names_rightly pool _ = true

-- the index of the first of the entries that names wrongly, where they stand from this index on
abbrev pub unsound_from : List PoolEntry → ℕ → List PoolEntry → Option ℕ
unsound_from pool index [] = None
unsound_from pool index (e ∷ entries) = if names_rightly pool e then unsound_from pool (index + 1) entries else Some index

-- the index of the first entry that names wrongly
abbrev pub first_unsound : List PoolEntry → Option ℕ
first_unsound pool = unsound_from pool 1 pool

-- ---- there is none exactly where each entry is sound

none_here : (right rest : Bool) (place : ℕ) (next : Option ℕ) → (next ≡ None → rest ≡ true) → (if right then next else Some place) ≡ None → (right && rest) ≡ true
none_here true rest place next later none = later none
none_here false rest place next later none = absurd cc

right_here : (right rest : Bool) (place : ℕ) (next : Option ℕ) → (rest ≡ true → next ≡ None) → (right && rest) ≡ true → (if right then next else Some place) ≡ None
right_here true rest place next later all = later all
right_here false rest place next later all = absurd cc

all_right : (pool : List PoolEntry) (index : ℕ) (entries : List PoolEntry) → unsound_from pool index entries ≡ None → list_all (names_rightly pool) entries ≡ true
all_right pool index [] none = refl
all_right pool index (e ∷ entries) none =
    none_here (names_rightly pool e) (list_all (names_rightly pool) entries) index (unsound_from pool (index + 1) entries) (all_right pool (index + 1) entries) none

none_wrong : (pool : List PoolEntry) (index : ℕ) (entries : List PoolEntry) → list_all (names_rightly pool) entries ≡ true → unsound_from pool index entries ≡ None
none_wrong pool index [] all = refl
none_wrong pool index (e ∷ entries) all =
    right_here (names_rightly pool e) (list_all (names_rightly pool) entries) index (unsound_from pool (index + 1) entries) (none_wrong pool (index + 1) entries) all

abbrev there_is : {X : Type 0} → X → Option X
there_is x = Some x

found : {X : Type 0} (x y : X) → there_is x ≡ there_is y → x ≡ y
found x y e = cc

there : {X : Type 0} (test : X → Bool) (o : Option X) → is_some_that test o ≡ true → (x : X) × (o ≡ Some x) × (test x ≡ true)
there test None h = absurd (let apart : false ≡ true = h in cc)
there test (Some x) h = (x, refl, h)

some : {X : Type 0} (o : Option X) → is_some o ≡ true → (x : X) × (o ≡ Some x)
some None h = absurd (let apart : false ≡ true = h in cc)
some (Some x) h = (x, refl)

at : {X : Type 0} (test : X → Bool) (xs : List X) (i : ℕ) (x : X) → list_all test xs ≡ true → slice_get xs i ≡ Some x → test x ≡ true
at test [] i x h e = absurd cc
at test (y ∷ ys) zero x h e = subst (λ z. test z ≡ true) (found y x e) (and_parts (test y) (list_all test ys) h).0
at test (y ∷ ys) (suc i) x h e = at test ys i x (and_parts (test y) (list_all test ys) h).1 e

entry_passes : (test : PoolEntry → Bool) (pool : List PoolEntry) (index : ℕ) (e : PoolEntry) → list_all test pool ≡ true → entry_at pool index ≡ Some e → test e ≡ true
entry_passes test pool zero e all is = absurd cc
entry_passes test pool (suc place) e all is = at test pool place e all is

-- a descriptor that begins with ( is that of no field
opens_no_field : (bytes : List ℕ) → is_field_descriptor (40 ∷ bytes) ≡ false
opens_no_field bytes = refl

apart : (bytes : List ℕ) → is_method_descriptor bytes ≡ true → is_field_descriptor bytes ≡ false
apart [] h = absurd (let no : false ≡ true = h in cc)
apart (b ∷ bytes) h =
    let opens : (b == 40) ≡ true = (and_parts (b == 40) (parameters (length bytes) 0 bytes) h).0 in
    subst (λ (n : ℕ). is_field_descriptor (n ∷ bytes) ≡ false) (sym (eqb-true b 40 opens)) (opens_no_field bytes)

no_both : (a b : Bool) → (b ≡ true → a ≡ false) → a ≡ true → not b ≡ true
no_both a true h k = absurd (let no : false ≡ true = sym (h refl) ∙ k in cc)
no_both a false h k = refl

field_is_no_method : (bytes : List ℕ) → is_field_descriptor bytes ≡ true → not (is_method_descriptor bytes) ≡ true
field_is_no_method bytes h = no_both (is_field_descriptor bytes) (is_method_descriptor bytes) (apart bytes) h

method_is_no_field : (bytes : List ℕ) → is_method_descriptor bytes ≡ true → not (is_field_descriptor bytes) ≡ true
method_is_no_field bytes h = no_both (is_method_descriptor bytes) (is_field_descriptor bytes) (λ f. other (is_method_descriptor bytes) (field_is_no_method bytes f)) h where
  other : (b : Bool) → not b ≡ true → b ≡ false
  other true n = absurd (let no : false ≡ true = n in cc)
  other false n = refl

the_first : (a b : Bool) → (a || b) ≡ true → not b ≡ true → a ≡ true
the_first true b k n = refl
the_first false true k n = absurd (let no : false ≡ true = n in cc)
the_first false false k n = k

the_second : (a b : Bool) → (a || b) ≡ true → not a ≡ true → b ≡ true
the_second true b k n = absurd (let no : false ≡ true = n in cc)
the_second false b k n = k

-- ---- where each entry names rightly, each is sound

module _ (pool : List PoolEntry) (all : list_all (names_rightly pool) pool ≡ true) where
  passes : (index : ℕ) (e : PoolEntry) → entry_at pool index ≡ Some e → names_rightly pool e ≡ true
  passes index e is = entry_passes (names_rightly pool) pool index e all is

  class_there : (e : PoolEntry) → is_class_entry e ≡ true → names_rightly pool e ≡ true → is_some (as_class pool e) ≡ true
  class_there (entry.Class name) is right = let t = there is_internal_name (text_at pool name) right in ap is_some t.1
  class_there _ is right = absurd (let no : false ≡ true = is in cc)

  class_is : (index : ℕ) → is_some_that is_class_entry (entry_at pool index) ≡ true → is_some (class_at pool index) ≡ true
  class_is index h =
      let t = there is_class_entry (entry_at pool index) h in
      ap (λ o. is_some (option_and_then (as_class pool) o)) t.1 ∙ class_there t.0 t.2 (passes index t.0 t.1)

  -- the name and the descriptor that a name and type has
  record Typed (name descriptor : ℕ) : Type 0 where
    first : List ℕ
    first_is : text_at pool name ≡ Some first
    second : List ℕ
    second_is : text_at pool descriptor ≡ Some second
    formed : is_descriptor second ≡ true

  typed : (name descriptor : ℕ) → names_rightly pool (entry.NameAndType name descriptor) ≡ true → Typed name descriptor
  typed name descriptor right =
      let p = and_parts (is_some_that is_member_name (text_at pool name)) _ right in
      let n = there is_member_name (text_at pool name) p.0 in
      let d = there is_descriptor (text_at pool descriptor) p.1 in
      record { first = n.0; first_is = n.1; second = d.0; second_is = d.1; formed = d.2 }

  field_there : (e : PoolEntry) → is_no_method_type pool e ≡ true → names_rightly pool e ≡ true → is_some_that of_field (as_named_type pool e) ≡ true
  field_there (entry.NameAndType name descriptor) is right =
      let t = typed name descriptor right in
      let no = subst (λ (o : Option (List ℕ)). not (is_some_that is_method_descriptor o) ≡ true) t.second_is is in
      rw (t.first_is, t.second_is) (the_first (is_field_descriptor t.second) (is_method_descriptor t.second) t.formed no)
  field_there _ is right = absurd (let no : false ≡ true = is in cc)

  method_there : (e : PoolEntry) → is_no_field_type pool e ≡ true → names_rightly pool e ≡ true → is_some_that of_method (as_named_type pool e) ≡ true
  method_there (entry.NameAndType name descriptor) is right =
      let t = typed name descriptor right in
      let no = subst (λ (o : Option (List ℕ)). not (is_some_that is_field_descriptor o) ≡ true) t.second_is is in
      rw (t.first_is, t.second_is) (the_second (is_field_descriptor t.second) (is_method_descriptor t.second) t.formed no)
  method_there _ is right = absurd (let no : false ≡ true = is in cc)

  member_is : (wanted : NamedType → Bool) (is_type : PoolEntry → Bool) → ((e : PoolEntry) → is_type e ≡ true → names_rightly pool e ≡ true → is_some_that wanted (as_named_type pool e) ≡ true)
      → (class member : ℕ) → names_member is_type pool class member ≡ true → (is_some (class_at pool class) && is_some_that wanted (named_type_at pool member)) ≡ true
  member_is wanted is_type each class member h =
      let p = and_parts (is_some_that is_class_entry (entry_at pool class)) _ h in
      let t = there is_type (entry_at pool member) p.1 in
      and_from (is_some (class_at pool class)) _ (class_is class p.0)
      (ap (λ o. is_some_that wanted (option_and_then (as_named_type pool) o)) t.1 ∙ each t.0 t.2 (passes member t.0 t.1))

  sound : (e : PoolEntry) → names_rightly pool e ≡ true → entry_is_sound pool e ≡ true
  sound (entry.Utf8 text) h = h
  sound (entry.Class name) h = h
  sound (entry.String text) h = h
  sound (entry.Fieldref class member) h = member_is of_field (is_no_method_type pool) field_there class member h
  sound (entry.Methodref class member) h = member_is of_method (is_no_field_type pool) method_there class member h
  sound (entry.InterfaceMethodref class member) h = member_is of_method (is_no_field_type pool) method_there class member h
  sound (entry.NameAndType name descriptor) h = h
  sound _ h = refl

-- ---- a sound entry names rightly

module _ (pool : List PoolEntry) where
  class_entry : (o : Option PoolEntry) → is_some (option_and_then (as_class pool) o) ≡ true → is_some_that is_class_entry o ≡ true
  class_entry None h = h
  class_entry (Some (entry.Class name)) h = refl
  class_entry (Some _) h = h

  other_type : (wanted : NamedType → Bool) (refused : List ℕ → Bool) → ((n : NamedType) → wanted n ≡ true → not (refused n.descriptor) ≡ true)
      → (name descriptor : Option (List ℕ)) → is_some_that wanted (option_and_then (λ n. option_and_then (λ d. let t : NamedType = record { name = n; descriptor = d } in Some t) descriptor) name) ≡ true
      → not (is_some_that refused descriptor) ≡ true
  other_type wanted refused each None descriptor h = absurd (let no : false ≡ true = h in cc)
  other_type wanted refused each (Some n) None h = absurd (let no : false ≡ true = h in cc)
  other_type wanted refused each (Some n) (Some d) h = each (record { name = n; descriptor = d }) h

  field_type_entry : (o : Option PoolEntry) → is_some_that of_field (option_and_then (as_named_type pool) o) ≡ true → is_some_that (is_no_method_type pool) o ≡ true
  field_type_entry None h = h
  field_type_entry (Some (entry.NameAndType name descriptor)) h =
      other_type of_field is_method_descriptor (λ n k. field_is_no_method n.descriptor k) (text_at pool name) (text_at pool descriptor) h
  field_type_entry (Some _) h = h

  method_type_entry : (o : Option PoolEntry) → is_some_that of_method (option_and_then (as_named_type pool) o) ≡ true → is_some_that (is_no_field_type pool) o ≡ true
  method_type_entry None h = h
  method_type_entry (Some (entry.NameAndType name descriptor)) h =
      other_type of_method is_field_descriptor (λ n k. method_is_no_field n.descriptor k) (text_at pool name) (text_at pool descriptor) h
  method_type_entry (Some _) h = h

  right : (e : PoolEntry) → entry_is_sound pool e ≡ true → names_rightly pool e ≡ true
  right (entry.Utf8 text) h = h
  right (entry.Class name) h = h
  right (entry.String text) h = h
  right (entry.Fieldref class member) h =
      let p = and_parts (is_some (class_at pool class)) _ h in
      and_from (is_some_that is_class_entry (entry_at pool class)) _ (class_entry (entry_at pool class) p.0) (field_type_entry (entry_at pool member) p.1)
  right (entry.Methodref class member) h =
      let p = and_parts (is_some (class_at pool class)) _ h in
      and_from (is_some_that is_class_entry (entry_at pool class)) _ (class_entry (entry_at pool class) p.0) (method_type_entry (entry_at pool member) p.1)
  right (entry.InterfaceMethodref class member) h =
      let p = and_parts (is_some (class_at pool class)) _ h in
      and_from (is_some_that is_class_entry (entry_at pool class)) _ (class_entry (entry_at pool class) p.0) (method_type_entry (entry_at pool member) p.1)
  right (entry.NameAndType name descriptor) h = h
  right _ h = refl

all_by : {X : Type 0} (f g : X → Bool) → ((x : X) → f x ≡ true → g x ≡ true) → (xs : List X) → list_all f xs ≡ true → list_all g xs ≡ true
all_by f g h [] k = refl
all_by f g h (x ∷ xs) k =
    let p = and_parts (f x) (list_all f xs) k in
    and_from (g x) (list_all g xs) (h x p.0) (all_by f g h xs p.1)

pub first_unsound-none : (pool : List PoolEntry) → (first_unsound pool ≡ None) ↔ (list_all (entry_is_sound pool) pool ≡ true)
first_unsound-none pool = (
  λ none. let all = all_right pool 1 pool none in all_by (names_rightly pool) (entry_is_sound pool) (sound pool all) pool all,
  λ all. none_wrong pool 1 pool (all_by (entry_is_sound pool) (names_rightly pool) (right pool) pool all),
)
