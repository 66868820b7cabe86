-- What is well-formed under a pool is so under one that extends it: each index stands for what it stood for.
use Rattle.std.proofs.Common.{◌≡◌, ℕ, Bool, true, false, ◌&&◌, ◌||◌, ◌==◌, if◌then◌else◌, List, [], ◌∷◌, Option, Some, None, Result, Ok, Err, refl, sym, ap, ◌∙◌, is_some, is_none, IsTrue}
use Rattle.std.specs.List.{list_all, cons_option}
use Rattle.std.proofs.lemmas.Bool.{and_parts, and_from, cond-true}
use Rattle.opcode_table.specs.declared.insn.Insn.{Insn}
use Rattle.opcode_table.specs.declared.insn.Insn.TheVariants as insn
use Rattle.opcode_table.specs.declared.fault.CodeFault.{CodeFault}
use Rattle.class_file.specs.declared.pool.PoolEntry.{PoolEntry}
use Rattle.class_file.specs.declared.pool.PoolEntry.TheVariants as entry
use Rattle.class_file.specs.declared.types.ClassFile.{ClassFile}
use Rattle.class_file.specs.declared.types.Member.{Member}
use Rattle.class_file.specs.declared.types.Attribute.{Attribute}
use Rattle.class_file.specs.declared.types.Content.{Content}
use Rattle.class_file.specs.declared.types.Content.TheVariants as content
use Rattle.class_file.specs.declared.types.CodeAttr.{CodeAttr}
use Rattle.class_file.specs.declared.types.CodeAttribute.{CodeAttribute}
use Rattle.class_file.specs.declared.types.CodeContent.{CodeContent}
use Rattle.class_file.specs.declared.types.CodeContent.TheVariants as code_content
use Rattle.class_file.specs.declared.types.ExceptionEntry.{ExceptionEntry}
use Rattle.class_file.specs.declared.types.InnerClass.{InnerClass}
use Rattle.class_file.specs.declared.types.VariableRow.{VariableRow}
use Rattle.class_file.specs.Text.{within, is_class_name, is_internal_name, is_member_name, is_field_descriptor, is_method_descriptor_with}
use Rattle.class_file.specs.Pool.{NamedType, entry_at, text_at, class_at, named_type_at}
use Rattle.class_file.specs.Range.{is_writable}
use Rattle.class_file.specs.Sound.{is_some_that, is_descriptor, of_field, of_method, entry_is_sound, pool_is_sound}
use Rattle.class_file.specs.Code.{Placed, is_narrow_constant, is_wide_constant, is_field_entry, is_method_entry, is_interface_entry, is_class_entry, is_element_name, has_dimensions, has_operand, or_else, first_failing, leads_well, first_stray, fault_among, is_sized, instructions, code_fault}
use Rattle.class_file.specs.WellFormed.{Kind, kind_in_class, kind_in_field, kind_in_method, is_of_kind, kind_after, attributes_agree, is_of_code_kind, kind_in_code, is_class_index, is_class_or_none, is_name_index, is_name_or_none, is_constant, inner_is_sound, variable_is_sound, variable_type_is_sound, code_content_is_sound, code_attribute_is_sound, code_is_sound, content_is_sound, field_is_sound, receiver_slots, method_is_sound, has_known_version, has_sound_names, has_sound_parts, is_well_formed}
use Rattle.woven_calls.specs.Laws.Pools.{Extends, text_kept, class_kept, named_type_kept}

-- ---- tests that pass where another did

abbrev pub Still : Bool → Bool → Type 0
Still a b = a ≡ true → b ≡ true

and_still : (a a' b b' : Bool) → Still a a' → Still b b' → Still (a && b) (a' && b')
and_still a a' b b' f g e = let both = and_parts a b e in and_from a' b' (f both.0) (g both.1)

or_still : (a b b' : Bool) → Still b b' → Still (a || b) (a || b')
or_still true b b' f e = refl
or_still false b b' f e = f e

choice_still : (a x x' y y' : Bool) → Still x x' → Still y y' → Still (if a then x else y) (if a then x' else y')
choice_still true x x' y y' f g e = f e
choice_still false x x' y y' f g e = g e

pub all_still : {X : Type 0} (p q : X → Bool) (xs : List X) → ((x : X) → Still (p x) (q x)) → Still (list_all p xs) (list_all q xs)
all_still p q [] f e = refl
all_still p q (x ∷ xs) f e = and_still (p x) (q x) (list_all p xs) (list_all q xs) (f x) (all_still p q xs f) e

some_still : {X : Type 0} (test : X → Bool) (o o' : Option X) → ((x : X) → o ≡ Some x → o' ≡ Some x) → Still (is_some_that test o) (is_some_that test o')
some_still test None o' kept e = let apart : false ≡ true = e in absurd cc
some_still test (Some x) o' kept e = ap (is_some_that test) (kept x refl) ∙ e

there_still : {X : Type 0} (o o' : Option X) → ((x : X) → o ≡ Some x → o' ≡ Some x) → Still (is_some o) (is_some o')
there_still None o' kept e = let apart : false ≡ true = e in absurd cc
there_still (Some x) o' kept e = ap is_some (kept x refl)

pub is_there : {X : Type 0} (test : X → Bool) (o : Option X) → is_some_that test o ≡ true → (x : X) × (o ≡ Some x) × (test x ≡ true)
is_there test None e = let apart : false ≡ true = e in absurd cc
is_there test (Some x) e = (x, refl, e)

pub is_no : {X : Type 0} (o : Option X) → is_none o ≡ true → o ≡ None
is_no None e = refl
is_no (Some x) e = let apart : false ≡ true = e in absurd cc

failing_still : (p q : Placed → Bool) → ((x : Placed) → Still (p x) (q x)) → (xs : List Placed) → first_failing p xs ≡ None → first_failing q xs ≡ None
failing_still p q f [] e = refl
failing_still p q f (x ∷ xs) e = go (failing_still p q f xs) (p x) refl e
  where
    go : (first_failing p xs ≡ None → first_failing q xs ≡ None) → (b : Bool) → p x ≡ b → (if b then first_failing p xs else Some x.pc) ≡ None → first_failing q (x ∷ xs) ≡ None
    go rest true is e = cond-true (q x) (first_failing q xs) (Some x.pc) (f x is) ∙ rest e
    go rest false is e = absurd cc

module _ (pool more : List PoolEntry) (h : Extends pool more) where
  -- ---- what indices stand for

  -- a text that passes a test still does
  pub pool_grows-text : (test : List ℕ → Bool) (index : ℕ) → Still (is_some_that test (text_at pool index)) (is_some_that test (text_at more index))
  pool_grows-text test index = some_still test (text_at pool index) (text_at more index) (text_kept pool more h index)

  entry_still : (test : PoolEntry → Bool) (index : ℕ) → Still (is_some_that test (entry_at pool index)) (is_some_that test (entry_at more index))
  entry_still test index = some_still test (entry_at pool index) (entry_at more index) (h index)

  class_still : (test : List ℕ → Bool) (index : ℕ) → Still (is_some_that test (class_at pool index)) (is_some_that test (class_at more index))
  class_still test index = some_still test (class_at pool index) (class_at more index) (class_kept pool more h index)

  named_still : (test : NamedType → Bool) (index : ℕ) → Still (is_some_that test (named_type_at pool index)) (is_some_that test (named_type_at more index))
  named_still test index = some_still test (named_type_at pool index) (named_type_at more index) (named_type_kept pool more h index)

  text_there : (index : ℕ) → Still (is_some (text_at pool index)) (is_some (text_at more index))
  text_there index = there_still (text_at pool index) (text_at more index) (text_kept pool more h index)

  class_there : (index : ℕ) → Still (is_class_index pool index) (is_class_index more index)
  class_there index = there_still (class_at pool index) (class_at more index) (class_kept pool more h index)

  class_or_none : (index : ℕ) → Still (is_class_or_none pool index) (is_class_or_none more index)
  class_or_none index = or_still (index == 0) (is_class_index pool index) (is_class_index more index) (class_there index)

  name_still : (index : ℕ) → Still (is_name_index pool index) (is_name_index more index)
  name_still index = pool_grows-text is_member_name index

  name_or_none : (index : ℕ) → Still (is_name_or_none pool index) (is_name_or_none more index)
  name_or_none index = or_still (index == 0) (is_name_index pool index) (is_name_index more index) (name_still index)

  -- ---- entries

  member_still : (test : NamedType → Bool) (class member : ℕ) → Still (is_some (class_at pool class) && is_some_that test (named_type_at pool member)) (is_some (class_at more class) && is_some_that test (named_type_at more member))
  member_still test class member = and_still _ _ _ _ (class_there class) (named_still test member)

  pub pool_grows-entry : (e : PoolEntry) → Still (entry_is_sound pool e) (entry_is_sound more e)
  pool_grows-entry (entry.Class name) s = pool_grows-text is_internal_name name s
  pool_grows-entry (entry.String text) s = text_there text s
  pool_grows-entry (entry.Fieldref class member) s = member_still of_field class member s
  pool_grows-entry (entry.Methodref class member) s = member_still of_method class member s
  pool_grows-entry (entry.InterfaceMethodref class member) s = member_still of_method class member s
  pool_grows-entry (entry.NameAndType name descriptor) s = and_still _ _ _ _ (pool_grows-text is_member_name name) (pool_grows-text is_descriptor descriptor) s
  pool_grows-entry _ s = s

  -- ---- code

  pub pool_grows-operand : (major : ℕ) (i : Insn) → Still (has_operand major pool i) (has_operand major more i)
  pool_grows-operand major (insn.Pool op index) s =
      choice_still (within 18 20 op) _ _ _ _ (entry_still (is_narrow_constant major) index)
      (choice_still (op == 20) _ _ _ _ (entry_still is_wide_constant index)
      (choice_still (within 178 182 op) _ _ _ _ (entry_still is_field_entry index)
      (choice_still (within 182 185 op) _ _ _ _ (entry_still is_method_entry index)
      (choice_still (op == 189) _ _ _ _ (class_still is_element_name index) (entry_still is_class_entry index))))) s
  pool_grows-operand major (insn.Interface index count last) s = entry_still is_interface_entry index s
  pool_grows-operand major (insn.Multi index dims) s = class_still (has_dimensions dims) index s
  pool_grows-operand major _ s = s

  fault_still : (major : ℕ) (c : CodeAttr) (r : Result (List Placed) CodeFault) → fault_among major pool c r ≡ None → fault_among major more c r ≡ None
  fault_still major c (Err fault) e = absurd cc
  fault_still major c (Ok insns) e = go (first_failing (λ p. has_operand major pool p.insn) insns) refl e
    where
      go : (o : Option ℕ) → first_failing (λ p. has_operand major pool p.insn) insns ≡ o → or_else o (or_else (first_failing (leads_well c.code insns) insns) (first_stray c.code insns c.entries)) ≡ None → fault_among major more c (Ok insns) ≡ None
      go (Some n) is e = absurd cc
      go None is e =
          ap (λ o. or_else o (or_else (first_failing (leads_well c.code insns) insns) (first_stray c.code insns c.entries)))
          (failing_still (λ p. has_operand major pool p.insn) (λ p. has_operand major more p.insn) (λ p. pool_grows-operand major p.insn) insns is) ∙ e

  pub pool_grows-fault : (major : ℕ) (c : CodeAttr) → code_fault major pool c ≡ None → code_fault major more c ≡ None
  pool_grows-fault major c e = go (is_sized c.code) refl e
    where
      go : (b : Bool) → is_sized c.code ≡ b → (if b then fault_among major pool c (instructions c.code) else Some 0) ≡ None → code_fault major more c ≡ None
      go true is e = cond-true (is_sized c.code) (fault_among major more c (instructions c.code)) (Some 0) is ∙ fault_still major c (instructions c.code) e
      go false is e = absurd cc

  variables_still : (r : VariableRow) → Still (variable_is_sound pool r) (variable_is_sound more r)
  variables_still r = and_still _ _ _ _ (name_still r.name) (pool_grows-text is_field_descriptor r.descriptor)

  variable_types_still : (r : VariableRow) → Still (variable_type_is_sound pool r) (variable_type_is_sound more r)
  variable_types_still r = and_still _ _ _ _ (name_still r.name) (text_there r.descriptor)

  code_content_still : (c : CodeContent) → Still (code_content_is_sound pool c) (code_content_is_sound more c)
  code_content_still (code_content.LocalVariableTable rows) s = all_still (variable_is_sound pool) (variable_is_sound more) rows variables_still s
  code_content_still (code_content.LocalVariableTypeTable rows) s = all_still (variable_type_is_sound pool) (variable_type_is_sound more) rows variable_types_still s
  code_content_still _ s = s

  code_attribute_still : (a : CodeAttribute) → Still (code_attribute_is_sound pool a) (code_attribute_is_sound more a)
  code_attribute_still a = and_still _ _ _ _ (pool_grows-text (λ name. is_of_code_kind (kind_in_code name) a.content) a.name) (code_content_still a.content)

  -- the exception table of some code
  pub pool_grows-handlers : (entries : List ExceptionEntry) → Still (list_all (λ (e : ExceptionEntry). is_class_or_none pool e.catch_type) entries) (list_all (λ (e : ExceptionEntry). is_class_or_none more e.catch_type) entries)
  pool_grows-handlers entries = all_still (λ (e : ExceptionEntry). is_class_or_none pool e.catch_type) (λ (e : ExceptionEntry). is_class_or_none more e.catch_type) entries (λ e. class_or_none e.catch_type)

  -- its attributes
  pub pool_grows-code_attributes : (attributes : List CodeAttribute) → Still (list_all (code_attribute_is_sound pool) attributes) (list_all (code_attribute_is_sound more) attributes)
  pool_grows-code_attributes attributes = all_still (code_attribute_is_sound pool) (code_attribute_is_sound more) attributes code_attribute_still

  pub pool_grows-code : (major : ℕ) (c : CodeAttr) → Still (code_is_sound major pool c) (code_is_sound major more c)
  pool_grows-code major c =
      and_still _ _ _ _ (pool_grows-handlers c.entries) (and_still _ _ _ _ (pool_grows-code_attributes c.attributes)
      (λ (e : is_none (code_fault major pool c) ≡ true). let none : is_none (code_fault major more c) ≡ true = ap is_none (pool_grows-fault major c (is_no (code_fault major pool c) e)) in none))

  -- ---- attributes and members

  inner_still : (c : InnerClass) → Still (inner_is_sound pool c) (inner_is_sound more c)
  inner_still c = and_still _ _ _ _ (class_there c.inner) (and_still _ _ _ _ (class_or_none c.outer) (name_or_none c.name))

  pub pool_grows-content : (major : ℕ) (c : Content) → Still (content_is_sound major pool c) (content_is_sound major more c)
  pool_grows-content major (content.Code code) s = pool_grows-code major code s
  pool_grows-content major (content.ConstantValue constant) s = entry_still is_constant constant s
  pool_grows-content major (content.Exceptions classes) s = all_still (is_class_index pool) (is_class_index more) classes class_there s
  pool_grows-content major (content.InnerClasses classes) s = all_still (inner_is_sound pool) (inner_is_sound more) classes inner_still s
  pool_grows-content major _ s = s

  pub pool_grows-attributes : (kind_in : List ℕ → Kind) (test test' : Content → Bool) → ((c : Content) → Still (test c) (test' c)) → (earlier : List (List ℕ)) (attributes : List Attribute)
      → Still (attributes_agree kind_in test pool earlier attributes) (attributes_agree kind_in test' more earlier attributes)
  pool_grows-attributes kind_in test test' f earlier [] s = refl
  pool_grows-attributes kind_in test test' f earlier (a ∷ attributes) s =
      let of_kind : List ℕ → Bool = λ name. is_of_kind (kind_after kind_in earlier name) a.content in
      let first = and_parts (is_some_that of_kind (text_at pool a.name)) (test a.content && attributes_agree kind_in test pool (cons_option (text_at pool a.name) earlier) attributes) s in
      let rest = and_parts (test a.content) (attributes_agree kind_in test pool (cons_option (text_at pool a.name) earlier) attributes) first.1 in
      let name = is_there of_kind (text_at pool a.name) first.0 in
      let same : text_at more a.name ≡ text_at pool a.name = text_kept pool more h a.name name.0 name.1 ∙ sym name.1 in
      and_from (is_some_that of_kind (text_at more a.name)) (test' a.content && attributes_agree kind_in test' more (cons_option (text_at more a.name) earlier) attributes) (pool_grows-text of_kind a.name first.0)
      (and_from (test' a.content) (attributes_agree kind_in test' more (cons_option (text_at more a.name) earlier) attributes) (f a.content rest.0)
      (ap (λ (o : Option (List ℕ)). attributes_agree kind_in test' more (cons_option o earlier) attributes) same ∙ pool_grows-attributes kind_in test test' f (cons_option (text_at pool a.name) earlier) attributes rest.1))

  pub pool_grows-field : (major : ℕ) (m : Member) → Still (field_is_sound major pool m) (field_is_sound major more m)
  pool_grows-field major m =
      and_still _ _ _ _ (name_still m.name) (and_still _ _ _ _ (pool_grows-text is_field_descriptor m.descriptor)
      (pool_grows-attributes kind_in_field (content_is_sound major pool) (content_is_sound major more) (pool_grows-content major) [] m.attributes))

  pub pool_grows-method : (major : ℕ) (m : Member) → Still (method_is_sound major pool m) (method_is_sound major more m)
  pool_grows-method major m =
      and_still _ _ _ _ (name_still m.name) (and_still _ _ _ _ (pool_grows-text (is_method_descriptor_with (receiver_slots m.flags.0)) m.descriptor)
      (pool_grows-attributes kind_in_method (content_is_sound major pool) (content_is_sound major more) (pool_grows-content major) [] m.attributes))

-- ---- classes

-- the class with another pool and other methods
abbrev pub with_pool : ClassFile → List PoolEntry → List Member → ClassFile
with_pool c pool methods = record {
  minor = c.minor;
  major = c.major;
  pool = pool;
  flags = c.flags;
  this_class = c.this_class;
  super_class = c.super_class;
  interfaces = c.interfaces;
  fields = c.fields;
  methods = methods;
  attributes = c.attributes;
}

-- a well-formed class, part by part
pub record IsFormed (c : ClassFile) : Type 0 where
  pub writable : is_writable c ≡ true
  pub version : has_known_version c ≡ true
  pub pool : pool_is_sound c.pool ≡ true
  pub names : has_sound_names c ≡ true
  pub fields : list_all (field_is_sound c.major c.pool) c.fields ≡ true
  pub methods : list_all (method_is_sound c.major c.pool) c.methods ≡ true
  pub attributes : attributes_agree kind_in_class (content_is_sound c.major c.pool) c.pool [] c.attributes ≡ true

pub well_formed_parts : (c : ClassFile) → IsTrue (is_well_formed c) → IsFormed c
well_formed_parts c h =
    let p = and_parts (is_writable c) (has_known_version c && (pool_is_sound c.pool && (has_sound_names c && has_sound_parts c))) h in
    let q = and_parts (has_known_version c) (pool_is_sound c.pool && (has_sound_names c && has_sound_parts c)) p.1 in
    let r = and_parts (pool_is_sound c.pool) (has_sound_names c && has_sound_parts c) q.1 in
    let s = and_parts (has_sound_names c) (has_sound_parts c) r.1 in
    let t = and_parts (list_all (field_is_sound c.major c.pool) c.fields) _ s.1 in
    let u = and_parts (list_all (method_is_sound c.major c.pool) c.methods) (attributes_agree kind_in_class (content_is_sound c.major c.pool) c.pool [] c.attributes) t.1 in
    record { writable = p.0; version = q.0; pool = r.0; names = s.0; fields = t.0; methods = u.0; attributes = u.1 }

pub well_formed_from : (c : ClassFile) → IsFormed c → IsTrue (is_well_formed c)
well_formed_from c x =
    let parts : has_sound_parts c ≡ true = and_from (list_all (field_is_sound c.major c.pool) c.fields) _ x.fields
    (and_from (list_all (method_is_sound c.major c.pool) c.methods) (attributes_agree kind_in_class (content_is_sound c.major c.pool) c.pool [] c.attributes) x.methods x.attributes) in
    and_from (is_writable c) (has_known_version c && (pool_is_sound c.pool && (has_sound_names c && has_sound_parts c))) x.writable
    (and_from (has_known_version c) (pool_is_sound c.pool && (has_sound_names c && has_sound_parts c)) x.version
    (and_from (pool_is_sound c.pool) (has_sound_names c && has_sound_parts c) x.pool
    (and_from (has_sound_names c) (has_sound_parts c) x.names parts)))

-- A class stays well-formed with a longer pool that is sound and with methods that are sound under it.
pub pool_grows-class : (c : ClassFile) (more : List PoolEntry) (methods : List Member) → Extends c.pool more → IsTrue (is_well_formed c)
    → is_writable (with_pool c more methods) ≡ true → pool_is_sound more ≡ true → list_all (method_is_sound c.major more) methods ≡ true → IsTrue (is_well_formed (with_pool c more methods))
pool_grows-class c more methods h formed writable sound good =
    let x = well_formed_parts c formed in
    well_formed_from (with_pool c more methods) (record {
      writable = writable;
      version = x.version;
      pool = sound;
      names = and_still _ _ _ _ (class_still c.pool more h is_class_name c.this_class) (and_still _ _ _ _ (class_there c.pool more h c.super_class) (all_still (is_class_index c.pool) (is_class_index more) c.interfaces (class_there c.pool more h))) x.names;
      fields = all_still (field_is_sound c.major c.pool) (field_is_sound c.major more) c.fields (pool_grows-field c.pool more h c.major) x.fields;
      methods = good;
      attributes = pool_grows-attributes c.pool more h kind_in_class (content_is_sound c.major c.pool) (content_is_sound c.major more) (pool_grows-content c.pool more h c.major) [] c.attributes x.attributes;
    })
