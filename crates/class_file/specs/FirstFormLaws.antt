-- What a class of the first form is, part by part.
use Rattle.std.proofs.Common.{◌≡◌, ℕ, zero, suc, ◌+◌, ◌^◌, ◌<◌, ◌≤◌, Bool, true, false, ◌&&◌, cond, ltb, leb, eqb, List, [], ◌∷◌, ◌++◌, length, take, drop, get_or, Option, Some, None, Ok, Err, refl, sym, ap, subst, ◌∙◌, inl, inr, ◌⊎◌, arith}
use Rattle.std.specs.Prelude.{IsTrue, slice_get, codes}
use Rattle.std.specs.List.{list_all, list_any, flat_map, AllByRecursion}
use Rattle.std.specs.Str.{bytes_eq}
use Rattle.std.proofs.lemmas.Bool.{and_parts, or_cases, ltb-true, leb-true, eqb-true}
use Rattle.std.proofs.lemmas.Slice.Eq.{bytes_eq-Decides}
use Rattle.std.proofs.lemmas.List.{take-append-drop, drop-drop, nil_from_length}
use Rattle.std.proofs.lemmas.List.Concat.{flat_map-cons}
use Rattle.std.proofs.Math.Seq.{drop-length}
use Rattle.opcode_table.specs.declared.insn.Insn.{Insn}
use Rattle.opcode_table.specs.Decoding.{Decoded, decoded}
use Rattle.opcode_table.specs.Spelling.{spelling, IsInsn, IsSingle}
use Rattle.opcode_table.specs.DecodedStands.{decoded_stands}
use Rattle.class_file.specs.declared.pool.PoolEntry.{PoolEntry}
use Rattle.class_file.specs.declared.types.ClassFile.{ClassFile}
use Rattle.class_file.specs.declared.types.Member.{Member}
use Rattle.class_file.specs.declared.types.Attribute.{Attribute}
use Rattle.class_file.specs.declared.types.Content.{Content}
use Rattle.class_file.specs.declared.types.Content.TheVariants as content
use Rattle.class_file.specs.declared.types.CodeAttr.{CodeAttr}
use Rattle.class_file.specs.Spelling as class_spelling
use Rattle.class_file.specs.Range.{is_u2, is_u4, are_bytes, counted_fits, pool_fits, code_fits, content_fits, attribute_fits, member_fits, is_writable}
use Rattle.class_file.specs.Pool.{Reference, text_at, string_at, field_at, method_at, this_name, super_name}
use Rattle.class_file.specs.Sound.{is_some_that, pool_is_sound}
use Rattle.class_file.specs.FirstForm.{is_identifier, is_printable_text, is_reference, object_class, no_arguments, is_system_out, is_println, is_own_method, is_form_operand, is_form_insn, step_passes, insns_pass, is_plain_code, has_form_code, is_form_content, is_text, is_form_attribute, is_single, has_form_flags, is_form_method, method_names, are_distinct, has_short_lists, has_form_names, own_name, has_form_methods, is_first_form}
use Rattle.class_file.specs.WellFormed.{has_known_version, is_well_formed}

-- ---- tests and what they say

there : {X : Type 0} (test : X → Bool) (o : Option X) → is_some_that test o ≡ true → (x : X) × (o ≡ Some x) × (test x ≡ true)
there test None h = absurd (let apart : false ≡ true = h in cc)
there test (Some x) h = (x, refl, h)

same : (a b : List ℕ) → bytes_eq a b ≡ true → a ≡ b
same a b h = (bytes_eq-Decides a b).0 h

the_text : (text : List ℕ) (o : Option (List ℕ)) → is_some_that (bytes_eq text) o ≡ true → o ≡ Some text
the_text text o h = let t = there (bytes_eq text) o h in t.1 ∙ ap (λ (x : List ℕ). Some x) (sym (same text t.0 t.2))

-- the member of a class, by name and descriptor
abbrev pub reference : List ℕ → List ℕ → List ℕ → Reference
reference class name descriptor = record { class = class; member = record { name = name; descriptor = descriptor } }

the_reference : (class name descriptor : List ℕ) (r : Reference) → is_reference class name descriptor r ≡ true → r ≡ reference class name descriptor
the_reference class name descriptor r h =
    let a = and_parts (bytes_eq r.class class) _ h in
    let b = and_parts (bytes_eq r.member.name name) (bytes_eq r.member.descriptor descriptor) a.1 in
    ap (λ (x : List ℕ). reference x r.member.name r.member.descriptor) (same r.class class a.0)
    ∙ ap (λ (x : List ℕ). reference class x r.member.descriptor) (same r.member.name name b.0)
    ∙ ap (λ (x : List ℕ). reference class name x) (same r.member.descriptor descriptor b.1)

-- ---- instructions

-- which of the six instructions it is, and what its operand names
pub data IsFormInsn (pool : List PoolEntry) (own : List ℕ) (methods : List (List ℕ)) (insn : Insn) : Type 0 where
  Nop : insn ≡ Insn.Plain 0 → IsFormInsn pool own methods insn
  Return : insn ≡ Insn.Plain 177 → IsFormInsn pool own methods insn
  Ldc : (index : ℕ) (text : List ℕ) → insn ≡ Insn.Pool 18 index → string_at pool index ≡ Some text → is_printable_text text ≡ true → IsFormInsn pool own methods insn
  GetStatic : (index : ℕ) → insn ≡ Insn.Pool 178 index → field_at pool index ≡ Some (reference (codes "java/lang/System") (codes "out") (codes "Ljava/io/PrintStream;")) → IsFormInsn pool own methods insn
  InvokeVirtual : (index : ℕ) → insn ≡ Insn.Pool 182 index → method_at pool index ≡ Some (reference (codes "java/io/PrintStream") (codes "println") (codes "(Ljava/lang/String;)V")) → IsFormInsn pool own methods insn
  InvokeStatic : (index : ℕ) (name : List ℕ) → insn ≡ Insn.Pool 184 index → method_at pool index ≡ Some (reference own name no_arguments) → list_any (bytes_eq name) methods ≡ true → IsFormInsn pool own methods insn

chosen : (b x y : Bool) → cond b x y ≡ true → ((b ≡ true) × (x ≡ true)) ⊎ ((b ≡ false) × (y ≡ true))
chosen true x y h = inl (refl, h)
chosen false x y h = inr (refl, h)

module _ (pool : List PoolEntry) (own : List ℕ) (methods : List (List ℕ)) where
  operand : (op index : ℕ) → is_form_operand pool own methods op index ≡ true → IsFormInsn pool own methods (Insn.Pool op index)
  operand op index h =
      elim (chosen (eqb op 18) _ _ h) [
        | inl p ↦
            let t = there is_printable_text (string_at pool index) p.1 in
            Ldc index t.0 (ap (λ (o : ℕ). Insn.Pool o index) (eqb-true op 18 p.0)) t.1 t.2
        | inr q ↦ elim (chosen (eqb op 178) _ _ q.1) [
          | inl p ↦
              let t = there is_system_out (field_at pool index) p.1 in
              GetStatic index (ap (λ (o : ℕ). Insn.Pool o index) (eqb-true op 178 p.0)) (t.1 ∙ ap (λ (r : Reference). Some r) (the_reference _ _ _ t.0 t.2))
          | inr q2 ↦ elim (chosen (eqb op 182) _ _ q2.1) [
            | inl p ↦
                let t = there is_println (method_at pool index) p.1 in
                InvokeVirtual index (ap (λ (o : ℕ). Insn.Pool o index) (eqb-true op 182 p.0)) (t.1 ∙ ap (λ (r : Reference). Some r) (the_reference _ _ _ t.0 t.2))
            | inr q3 ↦ elim (chosen (eqb op 184) _ _ q3.1) [
              | inl p ↦
                  let t = there (is_own_method own methods) (method_at pool index) p.1 in
                  let a = and_parts (bytes_eq t.0.class own) _ t.2 in
                  let b = and_parts (list_any (bytes_eq t.0.member.name) methods) (bytes_eq t.0.member.descriptor no_arguments) a.1 in
                  let is : t.0 ≡ reference own t.0.member.name no_arguments =
                  ap (λ (x : List ℕ). reference x t.0.member.name t.0.member.descriptor) (same t.0.class own a.0)
                  ∙ ap (λ (x : List ℕ). reference own t.0.member.name x) (same t.0.member.descriptor no_arguments b.1) in
                  InvokeStatic index t.0.member.name (ap (λ (o : ℕ). Insn.Pool o index) (eqb-true op 184 p.0)) (t.1 ∙ ap (λ (r : Reference). Some r) is) b.0
              | inr q4 ↦ absurd (let apart : false ≡ true = q4.1 in cc)
            ]
          ]
        ]
      ]

  -- what the test of an instruction says
  pub form_insn : (insn : Insn) → is_form_insn pool own methods insn ≡ true → IsFormInsn pool own methods insn
  form_insn (Insn.Plain op) h =
      elim (or_cases (eqb op 0) (eqb op 177) h) [
        | inl e ↦ Nop (ap (λ (o : ℕ). Insn.Plain o) (eqb-true op 0 e))
        | inr e ↦ Return (ap (λ (o : ℕ). Insn.Plain o) (eqb-true op 177 e))
      ]
  form_insn (Insn.Pool op index) h = operand op index h
  form_insn _ h = absurd (let apart : false ≡ true = h in cc)

  single : (insn : Insn) → is_form_insn pool own methods insn ≡ true → IsSingle insn
  single (Insn.Plain op) h = tt
  single (Insn.Pool op index) h = tt
  single _ h = absurd (let apart : false ≡ true = h in cc)

-- ---- code

bytes_at : (bytes : List ℕ) → are_bytes bytes ≡ true → (i : ℕ) → get_or bytes i 0 < 256
bytes_at [] h i = omega arith
bytes_at (b ∷ bytes) h zero = ltb-true b 256 (and_parts (ltb b 256) (are_bytes bytes) h).0
bytes_at (b ∷ bytes) h (suc i) = bytes_at bytes (and_parts (ltb b 256) (are_bytes bytes) h).1 i

step : (test : Insn → Bool) (next : ℕ → Bool) (pc : ℕ) (d : Decoded) → step_passes test next pc d ≡ true → (insn : Insn) × (size : ℕ) × (d ≡ Ok (insn, size)) × (test insn ≡ true) × (next (pc + size) ≡ true)
step test next pc (Ok x) h = let p = and_parts (test x.0) (next (pc + x.1)) h in (x.0, x.1, refl, p.0, p.1)
step test next pc (Err fault) h = absurd (let apart : false ≡ true = h in cc)

-- the instructions of some code, one after the other
pub record Insns (test : Insn → Bool) (code : List ℕ) : Type 0 where
  pub insns : List Insn
  pub spelled : code ≡ flat_map spelling insns
  pub pass : AllByRecursion (λ i. (test i ≡ true) × IsInsn i) insns

insns_from : (test : Insn → Bool) → ((i : Insn) → test i ≡ true → IsSingle i) → (code : List ℕ) → ((i : ℕ) → get_or code i 0 < 256) → (turns pc : ℕ) → pc ≤ length code → insns_pass test code turns pc ≡ true → Insns test (drop pc code)
insns_from test single code fits zero pc le h =
    record { insns = []; spelled = ap (λ (n : ℕ). drop n code) (eqb-true pc (length code) h) ∙ drop-length code; pass = tt }
insns_from test single code fits (suc turns) pc le h =
    elim (or_cases (eqb pc (length code)) (step_passes test (insns_pass test code turns) pc (decoded code pc)) h) [
      | inl e ↦ record { insns = []; spelled = ap (λ (n : ℕ). drop n code) (eqb-true pc (length code) e) ∙ drop-length code; pass = tt }
      | inr e ↦
          let s = step test (insns_pass test code turns) pc (decoded code pc) e in
          let stands = decoded_stands code pc s.0 s.1 fits s.2 in
          let others = insns_from test single code fits turns (pc + s.1) stands.within s.4 in
          let here : take s.1 (drop pc code) ≡ spelling s.0 = stands.spelled (single s.0 s.3) in
          let parts : drop pc code ≡ spelling s.0 ++ drop (pc + s.1) code = sym (take-append-drop s.1 (drop pc code)) ∙ rw (here, drop-drop) refl in
          record {
            insns = s.0 ∷ others.insns;
            spelled = parts ∙ ap (λ (x : List ℕ). spelling s.0 ++ x) others.spelled ∙ sym (flat_map-cons spelling s.0 others.insns);
            pass = ((s.3, stands.valid), others.pass);
          }
    ]

-- code that passes is the bytes of instructions that pass
pub insns_of : (pool : List PoolEntry) (own : List ℕ) (methods : List (List ℕ)) (code : List ℕ) → are_bytes code ≡ true → insns_pass (is_form_insn pool own methods) code (length code) 0 ≡ true → Insns (is_form_insn pool own methods) code
insns_of pool own methods code fits h = insns_from (is_form_insn pool own methods) (single pool own methods) code (bytes_at code fits) (length code) 0 (omega arith) h

-- ---- methods

pub record IsFormMethod (pool : List PoolEntry) (own : List ℕ) (methods : List (List ℕ)) (m : Member) : Type 0 where
  pub flags : has_form_flags m.flags.0 ≡ true
  pub name : List ℕ
  pub named : text_at pool m.name ≡ Some name
  pub identifier : is_identifier name ≡ true
  pub descriptor : text_at pool m.descriptor ≡ Some no_arguments
  pub attribute : ℕ
  pub attribute_named : text_at pool attribute ≡ Some (codes "Code")
  pub code : CodeAttr
  pub attributes : m.attributes ≡ record { name = attribute; content = content.Code code } ∷ []
  pub no_entries : code.entries ≡ []
  pub no_attributes : code.attributes ≡ []
  pub some : 0 < length code.code
  pub few : length code.code ≤ 1000
  pub max_stack : code.max_stack < 2 ^ 16
  pub max_locals : code.max_locals < 2 ^ 16
  pub insns : Insns (is_form_insn pool own methods) code.code

record IsFormAttribute (pool : List PoolEntry) (own : List ℕ) (methods : List (List ℕ)) (a : Attribute) : Type 0 where
  code : CodeAttr
  content_is : a.content ≡ content.Code code
  passes : has_form_code pool own methods code ≡ true
  fits : code_fits code ≡ true

form_content : (pool : List PoolEntry) (own : List ℕ) (methods : List (List ℕ)) (name : ℕ) (c : Content) → is_form_content pool own methods c ≡ true → content_fits c ≡ true → IsFormAttribute pool own methods (record { name = name; content = c })
form_content pool own methods name (content.Code code) h fits = record { code = code; content_is = refl; passes = h; fits = fits }
form_content pool own methods name _ h fits = absurd (let apart : false ≡ true = h in cc)

only : (pool : List PoolEntry) (own : List ℕ) (methods : List (List ℕ)) (xs : List Attribute) → is_single (is_form_attribute pool own methods) xs ≡ true → (a : Attribute) × (xs ≡ a ∷ []) × (is_form_attribute pool own methods a ≡ true)
only pool own methods [] h = absurd (let apart : false ≡ true = h in cc)
only pool own methods (a ∷ []) h = (a, refl, h)
only pool own methods (a ∷ b ∷ xs) h = absurd (let apart : false ≡ true = h in cc)

abbrev attribute_of : ℕ → Content → Attribute
attribute_of name c = record { name = name; content = c }

-- a method that passes the test, and whose numbers fit
pub form_method : (pool : List PoolEntry) (own : List ℕ) (methods : List (List ℕ)) (m : Member) → is_form_method pool own methods m ≡ true → member_fits m ≡ true → IsFormMethod pool own methods m
form_method pool own methods m h fits =
    let a = and_parts (has_form_flags m.flags.0) _ h in
    let b = and_parts (is_some_that is_identifier (text_at pool m.name)) _ a.1 in
    let c = and_parts (is_text pool no_arguments m.descriptor) (is_single (is_form_attribute pool own methods) m.attributes) b.1 in
    let name = there is_identifier (text_at pool m.name) b.0 in
    let one = only pool own methods m.attributes c.1 in
    let d = and_parts (is_text pool (codes "Code") one.0.name) (is_form_content pool own methods one.0.content) one.2 in
    let f = and_parts (is_u2 m.flags.0) _ fits in
    let g = and_parts (is_u2 m.name) _ f.1 in
    let i = and_parts (is_u2 m.descriptor) (counted_fits attribute_fits m.attributes) g.1 in
    let j = and_parts (is_u2 (length m.attributes)) (list_all attribute_fits m.attributes) i.1 in
    let k : (attribute_fits one.0 && true) ≡ true = subst (λ (xs : List Attribute). list_all attribute_fits xs ≡ true) one.1 j.1 in
    let l = and_parts (attribute_fits one.0) true k in
    let n = and_parts (is_u2 one.0.name) _ l.0 in
    let o = and_parts (is_u4 (length (class_spelling.spelled_content one.0.content))) (content_fits one.0.content) n.1 in
    let form = form_content pool own methods one.0.name one.0.content d.1 o.1 in
    let p = and_parts (is_plain_code form.code) (insns_pass (is_form_insn pool own methods) form.code.code (length form.code.code) 0) form.passes in
    let q = and_parts (eqb (length form.code.entries) 0) _ p.0 in
    let r = and_parts (eqb (length form.code.attributes) 0) _ q.1 in
    let s = and_parts (leb 1 (length form.code.code)) (ltb (length form.code.code) 1001) r.1 in
    let long : 1 ≤ length form.code.code = leb-true 1 (length form.code.code) s.0 in
    let short : length form.code.code < 1001 = ltb-true (length form.code.code) 1001 s.1 in
    let t = and_parts (is_u2 form.code.max_stack) _ form.fits in
    let u = and_parts (is_u2 form.code.max_locals) _ t.1 in
    let v = and_parts (is_u4 (length form.code.code)) _ u.1 in
    let w = and_parts (are_bytes form.code.code) _ v.1 in
    record {
      flags = a.0;
      name = name.0;
      named = name.1;
      identifier = name.2;
      descriptor = the_text no_arguments (text_at pool m.descriptor) c.0;
      attribute = one.0.name;
      attribute_named = the_text (codes "Code") (text_at pool one.0.name) d.0;
      code = form.code;
      attributes = one.1 ∙ ap (λ (x : Content). attribute_of one.0.name x ∷ []) form.content_is;
      no_entries = nil_from_length form.code.entries (eqb-true _ _ q.0);
      no_attributes = nil_from_length form.code.attributes (eqb-true _ _ r.0);
      some = omega (arith, long);
      few = omega (arith, short);
      max_stack = ltb-true form.code.max_stack (2 ^ 16) t.0;
      max_locals = ltb-true form.code.max_locals (2 ^ 16) u.0;
      insns = insns_of pool own methods form.code.code w.0 p.1;
    }

-- ---- classes

pub record IsFirstForm (c : ClassFile) : Type 0 where
  pub formed : is_well_formed c ≡ true
  pub writable : is_writable c ≡ true
  pub sound : pool_is_sound c.pool ≡ true
  pub few : length c.pool < 10000
  pub name : List ℕ
  pub named : this_name c ≡ Some name
  pub identifier : is_identifier name ≡ true
  pub extends : super_name c ≡ Some object_class
  pub no_interfaces : c.interfaces ≡ []
  pub no_fields : c.fields ≡ []
  pub distinct : are_distinct (method_names c) ≡ true
  pub methods : list_all (is_form_method c.pool name (method_names c)) c.methods ≡ true
  pub fit : list_all member_fits c.methods ≡ true

methods_fit : (c : ClassFile) → is_writable c ≡ true → list_all member_fits c.methods ≡ true
methods_fit c h =
    let a = and_parts (is_u2 c.minor) _ h in
    let b = and_parts (is_u2 c.major) _ a.1 in
    let d = and_parts (pool_fits c.pool) _ b.1 in
    let e = and_parts (is_u2 c.flags.0) _ d.1 in
    let f = and_parts (is_u2 c.this_class) _ e.1 in
    let g = and_parts (is_u2 c.super_class) _ f.1 in
    let i = and_parts (counted_fits is_u2 c.interfaces) _ g.1 in
    let j = and_parts (counted_fits member_fits c.fields) _ i.1 in
    let k = and_parts (counted_fits member_fits c.methods) (counted_fits attribute_fits c.attributes) j.1 in
    (and_parts (is_u2 (length c.methods)) (list_all member_fits c.methods) k.0).1

-- a well-formed class can be written, and its pool is sound
pub well_formed_is_writable : (c : ClassFile) → IsTrue (is_well_formed c) → IsTrue (is_writable c)
well_formed_is_writable c h = (and_parts (is_writable c) _ h).0

pub well_formed_is_sound : (c : ClassFile) → IsTrue (is_well_formed c) → IsTrue (pool_is_sound c.pool)
well_formed_is_sound c h =
    let v = and_parts (has_known_version c) _ (and_parts (is_writable c) _ h).1 in
    (and_parts (pool_is_sound c.pool) _ v.1).0

pub first_form : (c : ClassFile) → IsTrue (is_first_form c) → IsFirstForm c
first_form c h =
    let w = and_parts (is_well_formed c) _ h in
    let l = and_parts (has_short_lists c) _ w.1 in
    let n = and_parts (has_form_names c) (has_form_methods c) l.1 in
    let l1 = and_parts (ltb (length c.pool) 10000) (eqb (length c.interfaces) 0 && (eqb (length c.fields) 0 && leb (length c.methods) 100)) l.0 in
    let l2 = and_parts (eqb (length c.interfaces) 0) _ l1.1 in
    let l3 = and_parts (eqb (length c.fields) 0) _ l2.1 in
    let names = and_parts (is_some_that is_identifier (this_name c)) (is_some_that (bytes_eq object_class) (super_name c)) n.0 in
    let name = there is_identifier (this_name c) names.0 in
    let ms = and_parts (are_distinct (method_names c)) _ n.1 in
    record {
      formed = w.0;
      writable = well_formed_is_writable c w.0;
      sound = well_formed_is_sound c w.0;
      few = ltb-true (length c.pool) 10000 l1.0;
      name = name.0;
      named = name.1;
      identifier = name.2;
      extends = the_text object_class (super_name c) names.1;
      no_interfaces = nil_from_length c.interfaces (eqb-true _ _ l2.0);
      no_fields = nil_from_length c.fields (eqb-true _ _ l3.0);
      distinct = ms.0;
      methods = subst (λ (o : Option (List ℕ)). list_all (is_form_method c.pool (own_name o) (method_names c)) c.methods ≡ true) name.1 ms.1;
      fit = methods_fit c (well_formed_is_writable c w.0);
    }

abbrev some : {X : Type 0} → X → Option X
some x = Some x

found : {X : Type 0} (x y : X) → some x ≡ some y → x ≡ y
found x y e = cc

-- each method of such a class
at : {X : Type 0} (test : X → Bool) (xs : List X) (i : ℕ) (x : X) → list_all test xs ≡ true → slice_get xs i ≡ Some x → test x ≡ true
at test [] i x h e = absurd cc
at test (y ∷ ys) zero x h e = subst (λ z. test z ≡ true) (found y x e) (and_parts (test y) (list_all test ys) h).0
at test (y ∷ ys) (suc i) x h e = at test ys i x (and_parts (test y) (list_all test ys) h).1 e

pub first_form_method : (c : ClassFile) (form : IsFirstForm c) (i : ℕ) (m : Member) → slice_get c.methods i ≡ Some m → IsFormMethod c.pool form.name (method_names c) m
first_form_method c form i m e =
    form_method c.pool form.name (method_names c) m
    (at (is_form_method c.pool form.name (method_names c)) c.methods i m form.methods e)
    (at member_fits c.methods i m form.fit e)
