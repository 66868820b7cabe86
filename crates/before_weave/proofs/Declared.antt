-- What the written class keeps of the input class.
use Rattle.std.proofs.Common.{◌≡◌, ℕ, zero, suc, Bool, true, false, not, ◌&&◌, List, [], ◌∷◌, ◌++◌, length, take, map, Option, Some, refl, sym, ap, subst, ◌∙◌, arith}
use Rattle.std.specs.Prelude.{codes, ◌==◌}
use Rattle.std.specs.Str.{bytes_eq}
use Rattle.std.specs.List.{list_all, filter, starts_with, AllZip}
use Rattle.std.proofs.lemmas.Bool.{and_parts, and_from, cond-true, false_from_ne_true, true≢false}
use Rattle.std.proofs.lemmas.Slice.Eq.{bytes_eq-Decides}
use Rattle.class_file.specs.declared.pool.PoolEntry.{PoolEntry}
use Rattle.class_file.specs.declared.types.ClassFile.{ClassFile}
use Rattle.class_file.specs.declared.types.Member.{Member}
use Rattle.class_file.specs.declared.types.Attribute.{Attribute}
use Rattle.class_file.specs.Pool.{text_at, this_name, super_name}
use Rattle.class_file.specs.Sound.{is_some_that}
use Rattle.class_file.specs.FirstForm.{is_first_form, is_form_method, is_identifier, begins_with_letter, is_letter_or_digit, is_reserved, method_names, own_name, object_class}
use Rattle.jp_model.specs.declared.first_aspect.FirstAspect.{FirstAspect}
use Rattle.jp_model.specs.Headline.{is_code, declared_member, declared_members, has_within, is_generated, KeepsDeclared}
use Rattle.woven_calls.specs.Woven.{IsWovenMethod, call_entries, call_index}
use Rattle.woven_calls.specs.Laws.Grows.{is_there}
use Rattle.woven_calls.specs.Laws.Pools.{extends_append, text_kept, class_kept}
use Rattle.before_weave.specs.Weaving.{with_calls}
use Rattle.before_weave.proofs.Forms.{first_parts, short_parts, method_parts, form_methods}

-- ---- the pool, longer

pub same_name : (a : FirstAspect) (c : ClassFile) (methods : List Member) → is_first_form c ≡ true → this_name (with_calls a c methods) ≡ this_name c
same_name a c methods h =
    let own = is_there is_identifier (this_name c) (and_parts (is_some_that is_identifier (this_name c)) (is_some_that (bytes_eq object_class) (super_name c)) (first_parts c h).names).0 in
    class_kept c.pool (c.pool ++ call_entries c.pool a) (extends_append c.pool (call_entries c.pool a)) c.this_class own.0 own.1 ∙ sym own.1

-- ---- an identifier is no generated name

all_taken : (p : ℕ → Bool) (n : ℕ) (xs : List ℕ) → list_all p xs ≡ true → list_all p (take n xs) ≡ true
all_taken p zero xs h = refl
all_taken p (suc n) [] h = refl
all_taken p (suc n) (x ∷ xs) h = let both = and_parts (p x) (list_all p xs) h in and_from (p x) (list_all p (take n xs)) both.0 (all_taken p n xs both.1)

begins_not : (text : List ℕ) → list_all is_letter_or_digit text ≡ true → starts_with (λ x y. x == y) text (codes "ajc$") ≡ false
begins_not text h =
    false_from_ne_true (starts_with (λ x y. x == y) text (codes "ajc$"))
    (λ e. let same : codes "ajc$" ≡ take 4 text = (bytes_eq-Decides (codes "ajc$") (take 4 text)).0 e in
    let all : list_all is_letter_or_digit (codes "ajc$") ≡ true = ap (list_all is_letter_or_digit) same ∙ all_taken is_letter_or_digit 4 text h in
    true≢false (sym all))

within_not : (text : List ℕ) → list_all is_letter_or_digit text ≡ true → has_within (codes "ajc$") text ≡ false
within_not [] h = refl
within_not (b ∷ text) h =
    let first = begins_not (b ∷ text) h in
    rw first (within_not text (and_parts (is_letter_or_digit b) (list_all is_letter_or_digit text) h).1)

-- the method's name, in the pool or a longer one
abbrev is_plain : List PoolEntry → Member → Bool
is_plain pool m = not (is_generated (text_at pool m.name))

plain_name : (o : Option (List ℕ)) (name : List ℕ) → o ≡ Some name → is_identifier name ≡ true → not (is_generated o) ≡ true
plain_name o name e h =
    let letters = (and_parts (list_all is_letter_or_digit name) (not (is_reserved name)) (and_parts (begins_with_letter name) (list_all is_letter_or_digit name && not (is_reserved name)) h).1).0 in
    ap (λ x. not (is_generated x)) e ∙ ap not (within_not name letters)

filter_all : {X : Type 0} (p : X → Bool) (xs : List X) → list_all p xs ≡ true → filter p xs ≡ xs
filter_all p [] h = refl
filter_all p (x ∷ xs) h =
    let both = and_parts (p x) (list_all p xs) h in
    cond-true (p x) (x ∷ filter p xs) (filter p xs) both.0 ∙ ap (λ t. x ∷ t) (filter_all p xs both.1)

-- ---- members

abbrev with_attributes : Member → List Attribute → Member
with_attributes m attributes = record { flags = m.flags; name = m.name; descriptor = m.descriptor; attributes = attributes }

abbrev without_code : List Attribute → List Attribute
without_code attributes = filter (λ a. not (is_code a)) attributes

module _ (pool more : List PoolEntry) (own : List ℕ) (names : List (List ℕ)) (a : FirstAspect) (index : ℕ) where
  plain_old : (olds : List Member) → list_all (is_form_method pool own names) olds ≡ true → list_all (is_plain pool) olds ≡ true
  plain_old [] h = refl
  plain_old (o ∷ olds) h =
      let both = and_parts (is_form_method pool own names o) (list_all (is_form_method pool own names) olds) h in
      let name = is_there is_identifier (text_at pool o.name) (method_parts pool own names o both.0).name in
      and_from (is_plain pool o) (list_all (is_plain pool) olds) (plain_name (text_at pool o.name) name.0 name.1 name.2) (plain_old olds both.1)

  plain_new : (olds news : List Member) → list_all (is_form_method pool own names) olds ≡ true → AllZip (IsWovenMethod pool a index) olds news → list_all (is_plain (pool ++ more)) news ≡ true
  plain_new [] [] h z = refl
  plain_new [] (n ∷ news) h z = absurd z
  plain_new (o ∷ olds) [] h z = absurd z
  plain_new (o ∷ olds) (n ∷ news) h z =
      let both = and_parts (is_form_method pool own names o) (list_all (is_form_method pool own names) olds) h in
      let name = is_there is_identifier (text_at pool o.name) (method_parts pool own names o both.0).name in
      let kept : text_at (pool ++ more) n.name ≡ Some name.0 = ap (λ (m : Member). text_at (pool ++ more) m.name) z.0.after ∙ text_kept pool (pool ++ more) (extends_append pool more) o.name name.0 name.1 in
      and_from (is_plain (pool ++ more) n) (list_all (is_plain (pool ++ more)) news) (plain_name (text_at (pool ++ more) n.name) name.0 kept name.2) (plain_new olds news both.1 z.1)

  same_members : (olds news : List Member) → AllZip (IsWovenMethod pool a index) olds news → map declared_member news ≡ map declared_member olds
  same_members [] [] z = refl
  same_members [] (n ∷ news) z = absurd z
  same_members (o ∷ olds) [] z = absurd z
  same_members (o ∷ olds) (n ∷ news) z =
      let one : declared_member n ≡ declared_member o = ap declared_member z.0.after ∙ ap (λ t. with_attributes o (without_code t)) (sym z.0.before) in
      ap (λ m. m ∷ map declared_member news) one ∙ ap (λ t. declared_member o ∷ t) (same_members olds news z.1)

nil_of : {X : Type 0} (xs : List X) → length xs ≡ 0 → xs ≡ []
nil_of [] h = refl
nil_of (x ∷ xs) h = absurd (omega arith)

no_fields : (c w : ClassFile) → is_first_form c ≡ true → declared_members w c.fields ≡ map declared_member c.fields
no_fields c w h = subst (λ (fields : List Member). declared_members w fields ≡ map declared_member fields) (sym (nil_of c.fields (short_parts c h).fields)) refl

pub keeps_woven : (a : FirstAspect) (c : ClassFile) (methods : List Member) → is_first_form c ≡ true → AllZip (IsWovenMethod c.pool a (call_index c.pool)) c.methods methods → KeepsDeclared c (with_calls a c methods)
keeps_woven a c methods h z =
    let own = own_name (this_name c) in
    record {
      pool = record { rest = call_entries c.pool a; whole = refl };
      minor = refl;
      major = refl;
      flags = refl;
      this_class = refl;
      super_class = refl;
      interfaces = refl;
      attributes = refl;
      fields = no_fields c (with_calls a c methods) h;
      methods = ap (map declared_member) (filter_all (is_plain (c.pool ++ call_entries c.pool a)) methods (plain_new c.pool (call_entries c.pool a) own (method_names c) a (call_index c.pool) c.methods methods (form_methods c h) z))
          ∙ same_members c.pool (call_entries c.pool a) own (method_names c) a (call_index c.pool) c.methods methods z;
    }

append_nil : {X : Type 0} (xs : List X) → xs ++ [] ≡ xs
append_nil [] = refl
append_nil (x ∷ xs) = ap (λ t. x ∷ t) (append_nil xs)

pub keeps_same : (a : FirstAspect) (c : ClassFile) → is_first_form c ≡ true → KeepsDeclared c c
keeps_same a c h =
    record {
      pool = record { rest = []; whole = append_nil c.pool };
      minor = refl;
      major = refl;
      flags = refl;
      this_class = refl;
      super_class = refl;
      interfaces = refl;
      attributes = refl;
      fields = no_fields c c h;
      methods = ap (map declared_member) (filter_all (is_plain c.pool) c.methods (plain_old c.pool [] (own_name (this_name c)) (method_names c) a 0 c.methods (form_methods c h)));
    }
