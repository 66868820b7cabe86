-- The written classes are well-formed.
use Rattle.std.proofs.Common.{◌≡◌, ℕ, ◌<◌, Bool, true, false, ◌&&◌, leb, ltb, List, [], ◌∷◌, ◌++◌, length, None, refl, sym, ap, ◌∙◌, append_assoc, arith}
use Rattle.std.specs.Prelude.{is_none}
use Rattle.std.specs.List.{list_all, flat_map, AllZip, AllByRecursion}
use Rattle.std.proofs.lemmas.Bool.{le-leb, lt-ltb, and_parts, and_from}
use Rattle.opcode_table.specs.declared.insn.Insn.{Insn}
use Rattle.opcode_table.specs.declared.insn.Insn.TheVariants as insn
use Rattle.opcode_table.specs.Decoding.{decoded}
use Rattle.opcode_table.specs.Table.{opcode}
use Rattle.opcode_table.specs.Spelling.{spelling, IsInsn, IsSingle}
use Rattle.class_file.specs.declared.pool.PoolEntry.{PoolEntry}
use Rattle.class_file.specs.declared.types.ClassFile.{ClassFile}
use Rattle.class_file.specs.declared.types.Member.{Member}
use Rattle.class_file.specs.declared.types.Attribute.{Attribute}
use Rattle.class_file.specs.declared.types.Content.TheVariants as content
use Rattle.class_file.specs.declared.types.CodeAttr.{CodeAttr}
use Rattle.class_file.specs.declared.types.ExceptionEntry.{ExceptionEntry}
use Rattle.class_file.specs.Text.{is_class_name, is_member_name, is_method_descriptor_with}
use Rattle.class_file.specs.Pool.{text_at, this_name}
use Rattle.class_file.specs.Sound.{is_some_that}
use Rattle.class_file.specs.Code.{has_operand, is_method_entry, code_fault}
use Rattle.class_file.specs.WellFormed.{Kind, kind_in_method, is_of_kind, kind_after, attributes_agree, is_class_or_none, code_attribute_is_sound, code_is_sound, content_is_sound, is_name_index, receiver_slots, method_is_sound, is_well_formed}
use Rattle.class_file.specs.FirstForm.{is_first_form, is_form_insn, insns_pass, is_plain_code, has_form_code, is_form_method, method_names, own_name}
use Rattle.jp_model.specs.declared.first_aspect.FirstAspect.{FirstAspect}
use Rattle.jp_model.specs.AspectText.{is_first_aspect}
use Rattle.woven_calls.specs.Woven.{unless, is_unadvised, woven_insn, with_code, IsWovenCode, IsWovenMethod, call_entries, call_index, aspect_class}
use Rattle.woven_calls.specs.Laws.Pools.{Extends, extends_append, text_kept, slot, call_is_insn}
use Rattle.woven_calls.specs.Laws.Grows.{is_there, is_no, well_formed_parts, well_formed_from, pool_grows-text, pool_grows-operand, pool_grows-handlers, pool_grows-code_attributes, pool_grows-class}
use Rattle.woven_calls.specs.Laws.Forms.{all_pass}
use Rattle.woven_calls.specs.Laws.StraightCode.{leads_on, straight_is_sound, operands_of}
use Rattle.before_weave.specs.Weaving.{with_calls}
use Rattle.before_weave.proofs.Forms.{first_parts, short_parts, form_methods, form_code, plain_parts}
use Rattle.before_weave.proofs.WovenClass.{each_weaker}
use Rattle.before_weave.proofs.Writable.{aspect_parts, coded, grown, not_shrunk, woven_writable, aspect_writable}
use Rattle.before_weave.proofs.Sound.{identifier_class, woven_sound, aspect_sound}

-- ---- code

-- the instructions of the form lead to the next one
leads : (pool : List PoolEntry) (own : List ℕ) (names : List (List ℕ)) (i : Insn) → is_form_insn pool own names i ≡ true → leads_on i ≡ true
leads pool own names (insn.Plain op) h = refl
leads pool own names (insn.Pool op index) h = refl
leads pool own names _ h = absurd cc

-- a Code is of a kind or is not, whatever it holds
same_kind : (kind : Kind) (x y : CodeAttr) → is_of_kind kind (content.Code x) ≡ is_of_kind kind (content.Code y)
same_kind Kind.Code x y = refl
same_kind Kind.ConstantValue x y = refl
same_kind Kind.Exceptions x y = refl
same_kind Kind.InnerClasses x y = refl
same_kind Kind.Synthetic x y = refl
same_kind Kind.Other x y = refl

module _ (major : ℕ) (pool : List PoolEntry) (a : FirstAspect) (few : length pool < 10000) (own : List ℕ) (names : List (List ℕ)) where
  abbrev longer : List PoolEntry
  longer = pool ++ call_entries pool a

  abbrev call : Insn
  call = insn.Pool 184 (call_index pool)

  grows : Extends pool longer
  grows = extends_append pool (call_entries pool a)

  abbrev with_call : Bool → Insn → List Insn → List Insn
  with_call true i rest = i ∷ rest
  with_call false i rest = call ∷ i ∷ rest

  -- the instructions of the woven code
  abbrev woven_insns : List ℕ → List Insn → List Insn
  woven_insns code [] = []
  woven_insns code (i ∷ insns) = with_call (is_unadvised pool code a i) i (woven_insns code insns)

  one_spelled : (b : Bool) (i : Insn) (rest : List Insn) → (unless b (spelling call) ++ spelling i) ++ flat_map spelling rest ≡ flat_map spelling (with_call b i rest)
  one_spelled true i rest = refl
  one_spelled false i rest = append_assoc (spelling call) (spelling i) (flat_map spelling rest)

  woven_spelled : (code : List ℕ) (insns : List Insn) → flat_map (woven_insn pool code a (call_index pool)) insns ≡ flat_map spelling (woven_insns code insns)
  woven_spelled code [] = refl
  woven_spelled code (i ∷ insns) = ap (λ l. woven_insn pool code a (call_index pool) i ++ l) (woven_spelled code insns) ∙ one_spelled (is_unadvised pool code a i) i (woven_insns code insns)

  one_holds : (P : Insn → Type 0) (b : Bool) (i : Insn) (rest : List Insn) → P call → P i → AllByRecursion P rest → AllByRecursion P (with_call b i rest)
  one_holds P true i rest c p ps = (p, ps)
  one_holds P false i rest c p ps = (c, (p, ps))

  -- what holds of the call and of each instruction holds of each woven one
  all_hold : (P : Insn → Type 0) → P call → (code : List ℕ) (insns : List Insn) → AllByRecursion P insns → AllByRecursion P (woven_insns code insns)
  all_hold P c code [] ps = tt
  all_hold P c code (i ∷ insns) ps = one_holds P (is_unadvised pool code a i) i (woven_insns code insns) c ps.0 (all_hold P c code insns ps.1)

  call_operand : has_operand major longer call ≡ true
  call_operand = ap (is_some_that is_method_entry) (slot pool a 5 (call_index pool) (omega arith))

  woven_fault : (code : CodeAttr) (bytes : List ℕ) → IsWovenCode pool a (call_index pool) code.code bytes → has_form_code pool own names code ≡ true → code_fault major pool code ≡ None
      → code_fault major longer (coded code.max_stack code.max_locals bytes code) ≡ None
  woven_fault code bytes w form sound =
      let parts = and_parts (is_plain_code code) (insns_pass (is_form_insn pool own names) code.code (length code.code) 0) form in
      let plain = plain_parts code parts.0 in
      let some = plain.some in
      let short = plain.few in
      let old : length code.code ≡ length (flat_map spelling w.insns) = ap length w.before in
      let new : length bytes ≡ length (flat_map (woven_insn pool code.code a (call_index pool)) w.insns) = ap length w.after in
      let less = grown pool code.code a (call_index pool) w.insns w.single in
      let more = not_shrunk pool code.code a (call_index pool) w.insns in
      let passes = all_pass (is_form_insn pool own names) code.code (length code.code) 0 w.insns w.single w.before parts.1 in
      let operands = operands_of major pool code w.insns w.single w.before sound in
      straight_is_sound major longer (coded code.max_stack code.max_locals bytes code) (woven_insns code.code w.insns)
      (all_hold (λ i. IsInsn i × IsSingle i) (call_is_insn pool few, tt) code.code w.insns w.single)
      (w.after ∙ woven_spelled code.code w.insns)
      (and_from (leb 1 (length bytes)) (ltb (length bytes) 65536) (le-leb 1 (length bytes) (omega arith)) (lt-ltb (length bytes) 65536 (omega arith)))
      plain.entries
      (all_hold (λ i. leads_on i ≡ true) refl code.code w.insns (each_weaker (λ i. is_form_insn pool own names i ≡ true) (λ i. leads_on i ≡ true) w.insns (leads pool own names) passes))
      (all_hold (λ i. has_operand major longer i ≡ true) call_operand code.code w.insns (each_weaker (λ i. has_operand major pool i ≡ true) (λ i. has_operand major longer i ≡ true) w.insns (pool_grows-operand pool longer grows major) operands))

  woven_code_sound : (code : CodeAttr) (bytes : List ℕ) → IsWovenCode pool a (call_index pool) code.code bytes → has_form_code pool own names code ≡ true → code_is_sound major pool code ≡ true
      → code_is_sound major longer (coded code.max_stack code.max_locals bytes code) ≡ true
  woven_code_sound code bytes w form sound =
      let new = coded code.max_stack code.max_locals bytes code in
      let p = and_parts (list_all (λ (e : ExceptionEntry). is_class_or_none pool e.catch_type) code.entries) (list_all (code_attribute_is_sound pool) code.attributes && is_none (code_fault major pool code)) sound in
      let q = and_parts (list_all (code_attribute_is_sound pool) code.attributes) (is_none (code_fault major pool code)) p.1 in
      and_from (list_all (λ (e : ExceptionEntry). is_class_or_none longer e.catch_type) code.entries) (list_all (code_attribute_is_sound longer) code.attributes && is_none (code_fault major longer new))
      (pool_grows-handlers pool longer grows code.entries p.0)
      (and_from (list_all (code_attribute_is_sound longer) code.attributes) (is_none (code_fault major longer new)) (pool_grows-code_attributes pool longer grows code.attributes q.0)
      (ap is_none (woven_fault code bytes w form (is_no (code_fault major pool code) q.1))))

  -- ---- methods

  woven_attributes : (name : ℕ) (code : CodeAttr) (bytes : List ℕ) → IsWovenCode pool a (call_index pool) code.code bytes → has_form_code pool own names code ≡ true
      → attributes_agree kind_in_method (content_is_sound major pool) pool [] (with_code name code) ≡ true
      → attributes_agree kind_in_method (content_is_sound major longer) longer [] (with_code name (coded code.max_stack code.max_locals bytes code)) ≡ true
  woven_attributes name code bytes w form h =
      let new = coded code.max_stack code.max_locals bytes code in
      let is_kind : CodeAttr → List ℕ → Bool = λ code name. is_of_kind (kind_after kind_in_method [] name) (content.Code code) in
      let p = and_parts (is_some_that (is_kind code) (text_at pool name)) (code_is_sound major pool code && true) h in
      let q = and_parts (code_is_sound major pool code) true p.1 in
      let text = is_there (is_kind code) (text_at pool name) p.0 in
      and_from (is_some_that (is_kind new) (text_at longer name)) (code_is_sound major longer new && true)
      (ap (is_some_that (is_kind new)) (text_kept pool longer grows name text.0 text.1) ∙ same_kind (kind_after kind_in_method [] text.0) new code ∙ text.2)
      (and_from (code_is_sound major longer new) true (woven_code_sound code bytes w form q.0) refl)

  woven_method_sound : (o n : Member) → is_form_method pool own names o ≡ true → IsWovenMethod pool a (call_index pool) o n → method_is_sound major pool o ≡ true → method_is_sound major longer n ≡ true
  woven_method_sound o n form w h =
      let descriptor : List ℕ → Bool = is_method_descriptor_with (receiver_slots o.flags.0) in
      let new : List Attribute = with_code w.name (coded w.code.max_stack w.code.max_locals w.bytes w.code) in
      let agree : Bool = attributes_agree kind_in_method (content_is_sound major pool) pool [] o.attributes in
      let agree' : Bool = attributes_agree kind_in_method (content_is_sound major longer) longer [] new in
      let p = and_parts (is_name_index pool o.name) (is_some_that descriptor (text_at pool o.descriptor) && agree) h in
      let q = and_parts (is_some_that descriptor (text_at pool o.descriptor)) agree p.1 in
      let old : attributes_agree kind_in_method (content_is_sound major pool) pool [] (with_code w.name w.code) ≡ true =
      ap (attributes_agree kind_in_method (content_is_sound major pool) pool []) (sym w.before) ∙ q.1 in
      ap (method_is_sound major longer) w.after
      ∙ and_from (is_name_index longer o.name) (is_some_that descriptor (text_at longer o.descriptor) && agree') (pool_grows-text pool longer grows is_member_name o.name p.0)
      (and_from (is_some_that descriptor (text_at longer o.descriptor)) agree' (pool_grows-text pool longer grows descriptor o.descriptor q.0)
      (woven_attributes w.name w.code w.bytes w.woven (form_code pool own names o w.name w.code form w.before) old))

  woven_methods_sound : (olds news : List Member) → list_all (is_form_method pool own names) olds ≡ true → AllZip (IsWovenMethod pool a (call_index pool)) olds news → list_all (method_is_sound major pool) olds ≡ true → list_all (method_is_sound major longer) news ≡ true
  woven_methods_sound [] [] form z h = refl
  woven_methods_sound [] (n ∷ news) form z h = absurd z
  woven_methods_sound (o ∷ olds) [] form z h = absurd z
  woven_methods_sound (o ∷ olds) (n ∷ news) form z h =
      let sound = and_parts (method_is_sound major pool o) (list_all (method_is_sound major pool) olds) h in
      let forms = and_parts (is_form_method pool own names o) (list_all (is_form_method pool own names) olds) form in
      and_from (method_is_sound major longer n) (list_all (method_is_sound major longer) news) (woven_method_sound o n forms.0 z.0 sound.0) (woven_methods_sound olds news forms.1 z.1 sound.1)

-- ---- classes

pub woven_formed : (a : FirstAspect) (c : ClassFile) (methods : List Member) → is_first_form c ≡ true → is_first_aspect a ≡ true → AllZip (IsWovenMethod c.pool a (call_index c.pool)) c.methods methods → is_well_formed (with_calls a c methods) ≡ true
woven_formed a c methods h first z =
    let formed = (first_parts c h).formed in
    pool_grows-class c (c.pool ++ call_entries c.pool a) methods (extends_append c.pool (call_entries c.pool a)) formed
    (woven_writable a c methods h first z) (woven_sound a c h first)
    (woven_methods_sound c.major c.pool a (short_parts c h).pool (own_name (this_name c)) (method_names c) c.methods methods (form_methods c h) z (well_formed_parts c formed).methods)

advice_sound : (a : FirstAspect) → list_all (method_is_sound (aspect_class a).major (aspect_class a).pool) (aspect_class a).methods ≡ true
unfolding decoded opcode
advice_sound a = refl

pub aspect_formed : (a : FirstAspect) → is_first_aspect a ≡ true → is_well_formed (aspect_class a) ≡ true
aspect_formed a h =
    well_formed_from (aspect_class a) (record {
      writable = aspect_writable a h;
      version = refl;
      pool = aspect_sound a h;
      names = and_from (is_class_name a.name) true (identifier_class a.name (aspect_parts a h).identifier) refl;
      fields = refl;
      methods = advice_sound a;
      attributes = refl;
    })
