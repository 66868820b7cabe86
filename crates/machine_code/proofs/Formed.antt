-- What is known of well-formed class files.
use Rattle.std.specs.Prelude.{◌≡◌, ℕ, zero, suc, ◌<◌, ◌^◌, ◌&&◌, Bool, true, false, if◌then◌else◌, List, [], ◌∷◌, length, slice_get, Option, Some, None, is_none, refl, IsTrue, nat_lt, nat_le}
use Rattle.std.proofs.Common.{sym, ap, ◌∙◌, subst}
use Rattle.std.specs.List.{list_all, AllByRecursion, filter_map, cons_option}
use Rattle.std.proofs.lemmas.Bool.{ltb-true}
use Rattle.class_file.specs.declared.pool.PoolEntry.{PoolEntry}
use Rattle.class_file.specs.declared.types.ClassFile.{ClassFile}
use Rattle.class_file.specs.declared.types.Member.{Member}
use Rattle.class_file.specs.declared.types.Attribute.{Attribute}
use Rattle.class_file.specs.declared.types.Content.{Content}
use Rattle.class_file.specs.declared.types.Content.TheVariants.{Code, ConstantValue, Exceptions, InnerClasses, Synthetic, Other}
use Rattle.class_file.specs.declared.types.CodeAttr.{CodeAttr}
use Rattle.class_file.specs.Pool.{text_at, this_name}
use Rattle.class_file.specs.Sound.{is_some_that, pool_is_sound}
use Rattle.class_file.specs.Range.{is_writable}
use Rattle.class_file.specs.Text.{within, is_class_name, is_member_name, is_method_descriptor_with}
use Rattle.class_file.specs.Code.{code_fault, fault_among, is_sized, instructions}
use Rattle.class_file.specs.WellFormed.{kind_in_method, kind_after, is_of_kind, attributes_agree, content_is_sound, code_is_sound, code_attribute_is_sound, is_class_or_none, is_name_index, receiver_slots, method_is_sound, field_is_sound, has_sound_names, has_sound_parts, has_known_version, is_well_formed}
use Rattle.class_machine.specs.ClassFiles.{code_in, first_of, code_of}

-- ---- tests

left : (a b : Bool) → (a && b) ≡ true → a ≡ true
left true b both = refl
left false b both = absurd cc

right : (a b : Bool) → (a && b) ≡ true → b ≡ true
right true b both = both
right false b both = absurd cc

passes_at : {X : Type 0} (test : X → Bool) (xs : List X) (i : ℕ) (x : X) → list_all test xs ≡ true → slice_get xs i ≡ Some x → test x ≡ true
passes_at test [] i x all at = absurd cc
passes_at test (y ∷ ys) zero x all at = let same : y ≡ x = cc in ap test (sym same) ∙ left (test y) (list_all test ys) all
passes_at test (y ∷ ys) (suc i) x all at = passes_at test ys i x (right (test y) (list_all test ys) all) at

pub formed_at : (files : List ClassFile) (i : ℕ) (c : ClassFile) → AllByRecursion (λ c. IsTrue (is_well_formed c)) files → slice_get files i ≡ Some c → is_well_formed c ≡ true
formed_at [] i c all at = absurd cc
formed_at (d ∷ files) zero c all at = let same : d ≡ c = cc in ap is_well_formed (sym same) ∙ all.0
formed_at (d ∷ files) (suc i) c all at = formed_at files i c all.1 at

-- ---- parts

module _ (c : ClassFile) (formed : is_well_formed c ≡ true) where
  behind_version : (pool_is_sound c.pool && (has_sound_names c && has_sound_parts c)) ≡ true
  behind_version =
      right (has_known_version c) (pool_is_sound c.pool && (has_sound_names c && has_sound_parts c))
      (right (is_writable c) (has_known_version c && (pool_is_sound c.pool && (has_sound_names c && has_sound_parts c))) formed)

  names_and_parts : (has_sound_names c && has_sound_parts c) ≡ true
  names_and_parts = right (pool_is_sound c.pool) (has_sound_names c && has_sound_parts c) behind_version

  -- the class is named
  pub names_itself : is_some_that is_class_name (this_name c) ≡ true
  names_itself = left (is_some_that is_class_name (this_name c)) _ (left (has_sound_names c) (has_sound_parts c) names_and_parts)

  methods_sound : list_all (method_is_sound c.major c.pool) c.methods ≡ true
  methods_sound = left (list_all (method_is_sound c.major c.pool) c.methods) _ (right (list_all (field_is_sound c.major c.pool) c.fields) _ (right (has_sound_names c) (has_sound_parts c) names_and_parts))

  pub sound_at : (i : ℕ) (m : Member) → slice_get c.methods i ≡ Some m → method_is_sound c.major c.pool m ≡ true
  sound_at i m at = passes_at (method_is_sound c.major c.pool) c.methods i m methods_sound at

module _ (major : ℕ) (pool : List PoolEntry) (m : Member) (sound : method_is_sound major pool m ≡ true) where
  -- the method has a name and a descriptor
  pub has_name : is_some_that is_member_name (text_at pool m.name) ≡ true
  has_name = left (is_name_index pool m.name) _ sound

  pub has_descriptor : is_some_that (is_method_descriptor_with (receiver_slots m.flags.0)) (text_at pool m.descriptor) ≡ true
  has_descriptor = left (is_some_that (is_method_descriptor_with (receiver_slots m.flags.0)) (text_at pool m.descriptor)) _ (right (is_name_index pool m.name) _ sound)

  pub has_attributes : attributes_agree kind_in_method (content_is_sound major pool) pool [] m.attributes ≡ true
  has_attributes = right (is_some_that (is_method_descriptor_with (receiver_slots m.flags.0)) (text_at pool m.descriptor)) _ (right (is_name_index pool m.name) _ sound)

-- ---- code

sized_if : (code : List ℕ) (rest : Option ℕ) (b : Bool) → is_none (if b then rest else Some 0) ≡ true → b ≡ true
sized_if code rest true none = refl
sized_if code rest false none = absurd cc

below_most : (n : ℕ) → within 1 0x10000 n ≡ true → n < 2 ^ 16
below_most n h = ltb-true n 0x10000 (right (nat_le 1 n) (nat_lt n 0x10000) h)

sound_is_small : (major : ℕ) (pool : List PoolEntry) (code : CodeAttr) → code_is_sound major pool code ≡ true → length code.code < 2 ^ 16
sound_is_small major pool code sound =
    let none : is_none (code_fault major pool code) ≡ true = right (list_all (code_attribute_is_sound pool) code.attributes) _ (right (list_all (λ e. is_class_or_none pool e.catch_type) code.entries) _ sound) in
    below_most (length code.code) (sized_if code.code (fault_among major pool code (instructions code.code)) (is_sized code.code) none)

some_code : (a b : CodeAttr) → Some a ≡ Some b → a ≡ b
some_code a b e = cc

-- the code that an attribute holds
code_small : (major : ℕ) (pool : List PoolEntry) (name : ℕ) (content : Content) (code : CodeAttr) → content_is_sound major pool content ≡ true → code_in (record { name = name; content = content }) ≡ Some code → length code.code < 2 ^ 16
code_small major pool name (Code held) code is found =
    let small = sound_is_small major pool held is in
    subst (λ (c : CodeAttr). length c.code < 2 ^ 16) (some_code held code found) small
code_small major pool name (ConstantValue index) code is found = absurd cc
code_small major pool name (Exceptions classes) code is found = absurd cc
code_small major pool name (InnerClasses rows) code is found = absurd cc
code_small major pool name Synthetic code is found = absurd cc
code_small major pool name (Other bytes) code is found = absurd cc

first_small : (major : ℕ) (pool : List PoolEntry) (earlier : List (List ℕ)) (attributes : List Attribute) (code : CodeAttr) → attributes_agree kind_in_method (content_is_sound major pool) pool earlier attributes ≡ true → first_of (filter_map code_in attributes) ≡ Some code → length code.code < 2 ^ 16
first_small major pool earlier [] code agree found = absurd cc
first_small major pool earlier (a ∷ attributes) code agree found =
    by (λ h. first_small major pool (cons_option (text_at pool a.name) earlier) attributes code (right (content_is_sound major pool a.content) _ behind) h) (code_in a) refl found
  where
    behind : (content_is_sound major pool a.content && attributes_agree kind_in_method (content_is_sound major pool) pool (cons_option (text_at pool a.name) earlier) attributes) ≡ true
    behind = right (is_some_that (λ name. is_of_kind (kind_after kind_in_method earlier name) a.content) (text_at pool a.name)) _ agree

    by : (first_of (filter_map code_in attributes) ≡ Some code → length code.code < 2 ^ 16) → (o : Option CodeAttr) → code_in a ≡ o → first_of (cons_option o (filter_map code_in attributes)) ≡ Some code → length code.code < 2 ^ 16
    by later None is h = later h
    by later (Some held) is h = code_small major pool a.name a.content code (left (content_is_sound major pool a.content) _ behind) (is ∙ h)

-- the code of a method of a well-formed class
pub code_is_small : (c : ClassFile) (i : ℕ) (m : Member) (code : CodeAttr) → is_well_formed c ≡ true → slice_get c.methods i ≡ Some m → code_of m ≡ Some code → length code.code < 2 ^ 16
code_is_small c i m code formed at found =
    first_small c.major c.pool [] m.attributes code (has_attributes c.major c.pool m (sound_at c formed i m at)) found
