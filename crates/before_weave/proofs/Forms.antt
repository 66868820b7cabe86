-- What the form of a class says of its parts.
use Rattle.std.proofs.Common.{◌≡◌, ℕ, zero, suc, ◌+◌, ◌<◌, ◌≤◌, Bool, true, eqb, ltb, leb, ◌&&◌, List, [], ◌∷◌, length, Ok, Err, refl, sym, ap, ◌∙◌, arith, ⊎_elim}
use Rattle.std.specs.Prelude.{codes}
use Rattle.std.specs.Str.{bytes_eq}
use Rattle.std.specs.List.{list_all, list_any}
use Rattle.std.proofs.lemmas.Bool.{eqb-true, ltb-true, leb-true, and_parts, and_from, or_cases, or_left, or_right}
use Rattle.std.proofs.lemmas.List.{nil_from_length}
use Rattle.opcode_table.specs.declared.insn.Insn.{Insn}
use Rattle.opcode_table.specs.declared.insn.Insn.TheVariants as insn
use Rattle.opcode_table.specs.Decoding.{Decoded, decoded}
use Rattle.class_file.specs.declared.pool.PoolEntry.{PoolEntry}
use Rattle.class_file.specs.declared.types.ClassFile.{ClassFile}
use Rattle.class_file.specs.declared.types.Member.{Member}
use Rattle.class_file.specs.declared.types.Attribute.{Attribute}
use Rattle.class_file.specs.declared.types.Content.{Content}
use Rattle.class_file.specs.declared.types.Content.TheVariants as content
use Rattle.class_file.specs.declared.types.CodeAttr.{CodeAttr}
use Rattle.class_file.specs.Text.{within}
use Rattle.class_file.specs.Pool.{Reference, this_name, text_at}
use Rattle.class_file.specs.Range.{is_writable}
use Rattle.class_file.specs.Sound.{is_some_that, pool_is_sound}
use Rattle.class_file.specs.FirstForm.{is_first_form, has_short_lists, has_form_names, has_form_methods, has_form_flags, is_form_method, is_form_attribute, is_form_content, has_form_code, is_form_insn, is_own_method, is_identifier, is_text, is_single, is_plain_code, no_arguments, insns_pass, step_passes, method_names, own_name, are_distinct}
use Rattle.class_file.specs.FirstFormLaws.{well_formed_is_writable, well_formed_is_sound}
use Rattle.class_file.specs.WellFormed.{is_well_formed}
use Rattle.woven_calls.specs.Woven.{with_code}
use Rattle.woven_calls.specs.Laws.Grows.{all_still}
use Rattle.woven_calls.specs.Laws.Methods.{own_identifier}
use Rattle.before_weave.specs.Walk.{has_no_table, is_straight, is_straight_content, is_straight_method}

-- ---- the parts of the form of a class

pub record FirstParts (c : ClassFile) : Type 0 where
  pub formed : is_well_formed c ≡ true
  pub writable : is_writable c ≡ true
  pub sound : pool_is_sound c.pool ≡ true
  pub short : has_short_lists c ≡ true
  pub names : has_form_names c ≡ true
  pub methods : has_form_methods c ≡ true

pub first_parts : (c : ClassFile) → is_first_form c ≡ true → FirstParts c
first_parts c h =
    let p = and_parts (is_well_formed c) (has_short_lists c && (has_form_names c && has_form_methods c)) h in
    let q = and_parts (has_short_lists c) (has_form_names c && has_form_methods c) p.1 in
    let r = and_parts (has_form_names c) (has_form_methods c) q.1 in
    record { formed = p.0; writable = well_formed_is_writable c p.0; sound = well_formed_is_sound c p.0; short = q.0; names = r.0; methods = r.1 }

pub record ShortParts (c : ClassFile) : Type 0 where
  pub pool : length c.pool < 10000
  pub interfaces : length c.interfaces ≡ 0
  pub fields : length c.fields ≡ 0
  pub methods : length c.methods ≤ 100

pub short_parts : (c : ClassFile) → is_first_form c ≡ true → ShortParts c
short_parts c h =
    let first = first_parts c h in
    let p = and_parts (ltb (length c.pool) 10000) (eqb (length c.interfaces) 0 && (eqb (length c.fields) 0 && leb (length c.methods) 100)) first.short in
    let q = and_parts (eqb (length c.interfaces) 0) (eqb (length c.fields) 0 && leb (length c.methods) 100) p.1 in
    let r = and_parts (eqb (length c.fields) 0) (leb (length c.methods) 100) q.1 in
    record {
      pool = ltb-true (length c.pool) 10000 p.0;
      interfaces = eqb-true (length c.interfaces) 0 q.0;
      fields = eqb-true (length c.fields) 0 r.0;
      methods = leb-true (length c.methods) 100 r.1;
    }

-- ---- the parts of the form of a method

pub record MethodParts (pool : List PoolEntry) (own : List ℕ) (methods : List (List ℕ)) (m : Member) : Type 0 where
  pub flags : has_form_flags m.flags.0 ≡ true
  pub name : is_some_that is_identifier (text_at pool m.name) ≡ true
  pub descriptor : is_text pool no_arguments m.descriptor ≡ true
  pub single : is_single (is_form_attribute pool own methods) m.attributes ≡ true

pub method_parts : (pool : List PoolEntry) (own : List ℕ) (methods : List (List ℕ)) (m : Member) → is_form_method pool own methods m ≡ true → MethodParts pool own methods m
method_parts pool own methods m h =
    let p = and_parts (has_form_flags m.flags.0) (is_some_that is_identifier (text_at pool m.name) && (is_text pool no_arguments m.descriptor && is_single (is_form_attribute pool own methods) m.attributes)) h in
    let q = and_parts (is_some_that is_identifier (text_at pool m.name)) (is_text pool no_arguments m.descriptor && is_single (is_form_attribute pool own methods) m.attributes) p.1 in
    let r = and_parts (is_text pool no_arguments m.descriptor) (is_single (is_form_attribute pool own methods) m.attributes) q.1 in
    record { flags = p.0; name = q.0; descriptor = r.0; single = r.1 }

pub form_methods : (c : ClassFile) → is_first_form c ≡ true → list_all (is_form_method c.pool (own_name (this_name c)) (method_names c)) c.methods ≡ true
form_methods c h = (and_parts (are_distinct (method_names c)) (list_all (is_form_method c.pool (own_name (this_name c)) (method_names c)) c.methods) (first_parts c h).methods).1

pub distinct_names : (c : ClassFile) → is_first_form c ≡ true → are_distinct (method_names c) ≡ true
distinct_names c h = (and_parts (are_distinct (method_names c)) (list_all (is_form_method c.pool (own_name (this_name c)) (method_names c)) c.methods) (first_parts c h).methods).0

-- the code of a method
pub form_code : (pool : List PoolEntry) (own : List ℕ) (names : List (List ℕ)) (o : Member) (name : ℕ) (code : CodeAttr) → is_form_method pool own names o ≡ true → o.attributes ≡ with_code name code → has_form_code pool own names code ≡ true
form_code pool own names o name code form e =
    let single : is_single (is_form_attribute pool own names) (with_code name code) ≡ true = ap (is_single (is_form_attribute pool own names)) (sym e) ∙ (method_parts pool own names o form).single in
    (and_parts (is_text pool (codes "Code") name) (has_form_code pool own names code) single).1

-- its instructions are of the form
pub code_passes : (pool : List PoolEntry) (own : List ℕ) (names : List (List ℕ)) (o : Member) (name : ℕ) (code : CodeAttr) → is_form_method pool own names o ≡ true → o.attributes ≡ with_code name code → insns_pass (is_form_insn pool own names) code.code (length code.code) 0 ≡ true
code_passes pool own names o name code form e = (and_parts (is_plain_code code) (insns_pass (is_form_insn pool own names) code.code (length code.code) 0) (form_code pool own names o name code form e)).1

-- the class's own methods have identifiers as their names
pub own_call : (c : ClassFile) → is_first_form c ≡ true → (r : Reference) → is_own_method (own_name (this_name c)) (method_names c) r ≡ true → is_identifier r.member.name ≡ true
own_call c h r passes =
    let outer = and_parts (bytes_eq r.class (own_name (this_name c))) (list_any (bytes_eq r.member.name) (method_names c) && bytes_eq r.member.descriptor no_arguments) passes in
    let inner = and_parts (list_any (bytes_eq r.member.name) (method_names c)) (bytes_eq r.member.descriptor no_arguments) outer.1 in
    own_identifier c.pool (own_name (this_name c)) (method_names c) r.member.name c.methods (form_methods c h) inner.0

pub record PlainParts (code : CodeAttr) : Type 0 where
  pub entries : code.entries ≡ []
  pub attributes : code.attributes ≡ []
  pub some : 1 ≤ length code.code
  pub few : length code.code ≤ 1000

pub plain_parts : (code : CodeAttr) → is_plain_code code ≡ true → PlainParts code
plain_parts code h =
    let p = and_parts (eqb (length code.entries) 0) (eqb (length code.attributes) 0 && within 1 1001 (length code.code)) h in
    let q = and_parts (eqb (length code.attributes) 0) (within 1 1001 (length code.code)) p.1 in
    let r = and_parts (leb 1 (length code.code)) (ltb (length code.code) 1001) q.1 in
    let few = ltb-true (length code.code) 1001 r.1 in
    record {
      entries = nil_from_length code.entries (eqb-true (length code.entries) 0 p.0);
      attributes = nil_from_length code.attributes (eqb-true (length code.attributes) 0 q.0);
      some = leb-true 1 (length code.code) r.0;
      few = omega arith;
    }

-- ---- straight code

step_weaker : (p q : Insn → Bool) (f g : ℕ → Bool) (pc : ℕ) (d : Decoded) → ((i : Insn) → p i ≡ true → q i ≡ true) → ((n : ℕ) → f n ≡ true → g n ≡ true) → step_passes p f pc d ≡ true → step_passes q g pc d ≡ true
step_weaker p q f g pc (Ok x) h k e = let both = and_parts (p x.0) (f (pc + x.1)) e in and_from (q x.0) (g (pc + x.1)) (h x.0 both.0) (k (pc + x.1) both.1)
step_weaker p q f g pc (Err fault) h k e = absurd cc

passes_weaker : (p q : Insn → Bool) (code : List ℕ) → ((i : Insn) → p i ≡ true → q i ≡ true) → (turns pc : ℕ) → insns_pass p code turns pc ≡ true → insns_pass q code turns pc ≡ true
passes_weaker p q code h zero pc e = e
passes_weaker p q code h (suc turns) pc e =
    ⊎_elim (λ ends. or_left (eqb pc (length code)) (step_passes q (insns_pass q code turns) pc (decoded code pc)) ends)
    (λ goes. or_right (eqb pc (length code)) (step_passes q (insns_pass q code turns) pc (decoded code pc))
    (step_weaker p q (insns_pass p code turns) (insns_pass q code turns) pc (decoded code pc) h (λ n. passes_weaker p q code h turns n) goes))
    (or_cases (eqb pc (length code)) (step_passes p (insns_pass p code turns) pc (decoded code pc)) e)

no_table : (pool : List PoolEntry) (own : List ℕ) (methods : List (List ℕ)) (i : Insn) → is_form_insn pool own methods i ≡ true → has_no_table i ≡ true
no_table pool own methods (insn.TableSwitch table) h = absurd cc
no_table pool own methods (insn.LookupSwitch table) h = absurd cc
no_table pool own methods _ h = refl

straight_content : (pool : List PoolEntry) (own : List ℕ) (methods : List (List ℕ)) (c : Content) → is_form_content pool own methods c ≡ true → is_straight_content c ≡ true
straight_content pool own methods (content.Code code) h =
    let both = and_parts (is_plain_code code) (insns_pass (is_form_insn pool own methods) code.code (length code.code) 0) h in
    and_from (is_plain_code code) (is_straight code.code) both.0
    (passes_weaker (is_form_insn pool own methods) has_no_table code.code (no_table pool own methods) (length code.code) 0 both.1)
straight_content pool own methods _ h = absurd cc

straight_attributes : (pool : List PoolEntry) (own : List ℕ) (methods : List (List ℕ)) (as' : List Attribute) → is_single (is_form_attribute pool own methods) as' ≡ true → is_single (λ (a : Attribute). is_straight_content a.content) as' ≡ true
straight_attributes pool own methods [] h = absurd cc
straight_attributes pool own methods (a ∷ []) h = straight_content pool own methods a.content (and_parts (is_text pool (codes "Code") a.name) (is_form_content pool own methods a.content) h).1
straight_attributes pool own methods (a ∷ b ∷ rest) h = absurd cc

pub straight_methods : (c : ClassFile) → is_first_form c ≡ true → list_all is_straight_method c.methods ≡ true
straight_methods c h =
    all_still (is_form_method c.pool (own_name (this_name c)) (method_names c)) is_straight_method c.methods
    (λ m e. straight_attributes c.pool (own_name (this_name c)) (method_names c) m.attributes (method_parts c.pool (own_name (this_name c)) (method_names c) m e).single)
    (form_methods c h)
