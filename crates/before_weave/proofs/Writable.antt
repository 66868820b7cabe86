-- The written class can be written.
use Rattle.std.proofs.Common.{◌≡◌, ℕ, ◌+◌, ◌*◌, ◌<◌, ◌≤◌, Bool, true, false, ltb, leb, not, ◌&&◌, List, [], ◌∷◌, ◌++◌, length, length-append, refl, sym, ap, ◌∙◌, arith, ⊎_elim}
use Rattle.std.specs.Prelude.{codes, ◌/◌, ◌%◌}
use Rattle.std.specs.Str.{bytes_eq}
use Rattle.std.specs.List.{list_all, flat_map, AllZip, AllByRecursion}
use Rattle.std.specs.Int.{w16, to_be_bytes}
use Rattle.std.proofs.lemmas.Bool.{ltb-true, leb-true, lt-ltb, and_parts, and_from, or_cases}
use Rattle.std.proofs.lemmas.List.Folds.{list_all-append}
use Rattle.std.proofs.lemmas.List.Elements.{length_all_zip}
use Rattle.opcode_table.specs.declared.insn.Insn.{Insn}
use Rattle.opcode_table.specs.declared.insn.Insn.TheVariants as insn
use Rattle.opcode_table.specs.Table.{opcode}
use Rattle.opcode_table.specs.Spelling.{spelling, IsInsn, IsSingle}
use Rattle.class_file.specs.declared.pool.PoolEntry.{PoolEntry}
use Rattle.class_file.specs.declared.pool.PoolEntry.TheVariants as entry
use Rattle.class_file.specs.declared.types.ClassFile.{ClassFile}
use Rattle.class_file.specs.declared.types.Member.{Member}
use Rattle.class_file.specs.declared.types.Content.TheVariants as content
use Rattle.class_file.specs.declared.types.CodeAttr.{CodeAttr}
use Rattle.class_file.specs.Pool.{this_name}
use Rattle.class_file.specs.Text.{within}
use Rattle.class_file.specs.Range.{is_u1, is_u2, is_u4, are_bytes, counted_fits, entry_fits, pool_fits, exception_fits, code_attribute_fits, code_fits, attribute_fits, member_fits, is_writable}
use Rattle.class_file.specs.Spelling.{spelled_content}
use Rattle.class_file.specs.FirstForm.{is_first_form, is_letter, is_digit, is_letter_or_digit, is_printable, is_printable_text, is_reserved, is_identifier, begins_with_letter, is_plain_code, is_form_insn, is_form_method, insns_pass, method_names, own_name}
use Rattle.jp_model.specs.declared.first_aspect.FirstAspect.{FirstAspect}
use Rattle.jp_model.specs.AspectText.{is_first_aspect, is_short_identifier, is_literal, is_unescaped, aspect_of}
use Rattle.jp_model.specs.Headline.{IsAspectClass}
use Rattle.woven_calls.specs.Woven.{unless, is_unadvised, woven_insn, with_code, IsWovenCode, IsWovenMethod, call_entries, call_index, aspect_class, aspect_pool}
use Rattle.woven_calls.specs.Laws.Grows.{all_still}
use Rattle.before_weave.specs.Weaving.{with_calls}
use Rattle.woven_calls.specs.Laws.StraightCode.{spelled_some}
use Rattle.before_weave.proofs.Forms.{first_parts, short_parts, form_methods, form_code, PlainParts, plain_parts}

-- ---- bytes of texts

below_byte : (low high b : ℕ) → high ≤ 256 → within low high b ≡ true → is_u1 b ≡ true
below_byte low high b le h =
    let lt = ltb-true b high (and_parts (leb low b) (ltb b high) h).1 in
    lt-ltb b 256 (omega arith)

letter_is_byte : (b : ℕ) → is_letter_or_digit b ≡ true → is_u1 b ≡ true
letter_is_byte b h =
    ⊎_elim (λ l. ⊎_elim (λ u. below_byte 65 91 b (omega arith) u) (λ s. below_byte 97 123 b (omega arith) s) (or_cases (within 65 91 b) (within 97 123 b) l))
    (λ d. below_byte 48 58 b (omega arith) d) (or_cases (is_letter b) (is_digit b) h)

pub record AspectParts (a : FirstAspect) : Type 0 where
  pub identifier : is_identifier a.name ≡ true
  pub printable : is_printable_text a.text ≡ true
  pub name_length : is_u2 (length a.name) ≡ true
  pub name_bytes : are_bytes a.name ≡ true
  pub text_length : is_u2 (length a.text) ≡ true
  pub text_bytes : are_bytes a.text ≡ true

pub aspect_parts : (a : FirstAspect) → is_first_aspect a ≡ true → AspectParts a
aspect_parts a h =
    let p = and_parts (is_short_identifier a.name) (not (bytes_eq a.name (codes "System")) && (is_short_identifier a.class && (is_short_identifier a.method && is_literal a.text))) h in
    let q = and_parts (not (bytes_eq a.name (codes "System"))) (is_short_identifier a.class && (is_short_identifier a.method && is_literal a.text)) p.1 in
    let r = and_parts (is_short_identifier a.class) (is_short_identifier a.method && is_literal a.text) q.1 in
    let s = and_parts (is_short_identifier a.method) (is_literal a.text) r.1 in
    let name = and_parts (is_identifier a.name) (leb (length a.name) 1000) p.0 in
    let letters = and_parts (begins_with_letter a.name) (list_all is_letter_or_digit a.name && not (is_reserved a.name)) name.0 in
    let all = and_parts (list_all is_letter_or_digit a.name) (not (is_reserved a.name)) letters.1 in
    let short = leb-true (length a.name) 1000 name.1 in
    let text = and_parts (is_printable_text a.text) (list_all is_unescaped a.text && leb (length a.text) 65535) s.1 in
    let rest = and_parts (list_all is_unescaped a.text) (leb (length a.text) 65535) text.1 in
    let few = leb-true (length a.text) 65535 rest.1 in
    record {
      identifier = name.0;
      printable = text.0;
      name_length = lt-ltb (length a.name) 65536 (omega arith);
      name_bytes = all_still is_letter_or_digit is_u1 a.name letter_is_byte all.0;
      text_length = lt-ltb (length a.text) 65536 (omega arith);
      text_bytes = all_still is_printable is_u1 a.text (λ b e. below_byte 32 127 b (omega arith) e) text.0;
    }

-- ---- the pool

both : (x y : Bool) → x ≡ true → y ≡ true → (x && y) ≡ true
both x y p q = and_from x y p q

call_entries_fit : (pool : List PoolEntry) (a : FirstAspect) → is_first_aspect a ≡ true → length pool < 10000 → list_all entry_fits (call_entries pool a) ≡ true
call_entries_fit pool a h lt =
    let parts = aspect_parts a h in
    let n : ℕ = length pool + 1 in
    let f0 : is_u2 n ≡ true = lt-ltb n 65536 (omega arith) in
    let f1 : is_u2 (n + 1) ≡ true = lt-ltb (n + 1) 65536 (omega arith) in
    let f2 : is_u2 (n + 2) ≡ true = lt-ltb (n + 2) 65536 (omega arith) in
    let f3 : is_u2 (n + 3) ≡ true = lt-ltb (n + 3) 65536 (omega arith) in
    let f4 : is_u2 (n + 4) ≡ true = lt-ltb (n + 4) 65536 (omega arith) in
    let method : list_all entry_fits (entry.Methodref (n + 1) (n + 4) ∷ []) ≡ true = both (is_u2 (n + 1) && is_u2 (n + 4)) true (both (is_u2 (n + 1)) (is_u2 (n + 4)) f1 f4) refl in
    let member : list_all entry_fits (entry.NameAndType (n + 2) (n + 3) ∷ entry.Methodref (n + 1) (n + 4) ∷ []) ≡ true =
    both (is_u2 (n + 2) && is_u2 (n + 3)) (list_all entry_fits (entry.Methodref (n + 1) (n + 4) ∷ [])) (both (is_u2 (n + 2)) (is_u2 (n + 3)) f2 f3) method in
    both (is_u2 (length a.name) && are_bytes a.name) (is_u2 n && list_all entry_fits (entry.NameAndType (n + 2) (n + 3) ∷ entry.Methodref (n + 1) (n + 4) ∷ []))
    (both (is_u2 (length a.name)) (are_bytes a.name) parts.name_length parts.name_bytes)
    (both (is_u2 n) (list_all entry_fits (entry.NameAndType (n + 2) (n + 3) ∷ entry.Methodref (n + 1) (n + 4) ∷ [])) f0 member)

pub pool_still_fits : (pool : List PoolEntry) (a : FirstAspect) → is_first_aspect a ≡ true → length pool < 10000 → pool_fits pool ≡ true → pool_fits (pool ++ call_entries pool a) ≡ true
pool_still_fits pool a h lt e =
    let n : length (pool ++ call_entries pool a) ≡ length pool + 6 = length-append pool (call_entries pool a) in
    both (is_u2 (length (pool ++ call_entries pool a) + 1)) (list_all entry_fits (pool ++ call_entries pool a))
    (lt-ltb (length (pool ++ call_entries pool a) + 1) 65536 (omega arith))
    (list_all-append entry_fits pool (call_entries pool a)
    ∙ both (list_all entry_fits pool) (list_all entry_fits (call_entries pool a)) (and_parts (is_u2 (length pool + 1)) (list_all entry_fits pool) e).1 (call_entries_fit pool a h lt))

-- ---- code

call_is : (index : ℕ) → spelling (insn.Pool 184 index) ≡ 184 ∷ to_be_bytes w16 index
unfolding spelling opcode
call_is index = refl

call_bytes : (index : ℕ) → are_bytes (spelling (insn.Pool 184 index)) ≡ true
call_bytes index =
    let high : is_u1 (index / 256 % 256) ≡ true = lt-ltb (index / 256 % 256) 256 (omega arith) in
    let low : is_u1 (index % 256) ≡ true = lt-ltb (index % 256) 256 (omega arith) in
    ap are_bytes (call_is index) ∙ both (is_u1 (index / 256 % 256)) (is_u1 (index % 256) && true) high (both (is_u1 (index % 256)) true low refl)

call_length : (index : ℕ) → length (spelling (insn.Pool 184 index)) ≡ 3
call_length index = ap length (call_is index)

unless_length : (b : Bool) (call : List ℕ) → length call ≡ 3 → length (unless b call) ≤ 3
unless_length true call e = omega arith
unless_length false call e = omega arith

unless_bytes : (b : Bool) (call : List ℕ) → are_bytes call ≡ true → are_bytes (unless b call) ≡ true
unless_bytes true call e = refl
unless_bytes false call e = e

module _ (pool : List PoolEntry) (code : List ℕ) (a : FirstAspect) (index : ℕ) where
  pub grown : (insns : List Insn) → AllByRecursion (λ i. IsInsn i × IsSingle i) insns → length (flat_map (woven_insn pool code a index) insns) ≤ 4 * length (flat_map spelling insns)
  grown [] s = omega arith
  grown (i ∷ insns) s =
      let call : List ℕ = spelling (insn.Pool 184 index) in
      let few = unless_length (is_unadvised pool code a i) call (call_length index) in
      let some = spelled_some i s.0.1 in
      let rest = grown insns s.1 in
      let l1 = length-append (woven_insn pool code a index i) (flat_map (woven_insn pool code a index) insns) in
      let l2 = length-append (unless (is_unadvised pool code a i) call) (spelling i) in
      let l3 = length-append (spelling i) (flat_map spelling insns) in
      omega arith

  pub not_shrunk : (insns : List Insn) → length (flat_map spelling insns) ≤ length (flat_map (woven_insn pool code a index) insns)
  not_shrunk [] = omega arith
  not_shrunk (i ∷ insns) =
      let rest = not_shrunk insns in
      let l1 = length-append (woven_insn pool code a index i) (flat_map (woven_insn pool code a index) insns) in
      let l2 = length-append (unless (is_unadvised pool code a i) (spelling (insn.Pool 184 index))) (spelling i) in
      let l3 = length-append (spelling i) (flat_map spelling insns) in
      omega arith

  still_bytes : (insns : List Insn) → are_bytes (flat_map spelling insns) ≡ true → are_bytes (flat_map (woven_insn pool code a index) insns) ≡ true
  still_bytes [] h = refl
  still_bytes (i ∷ insns) h =
      let call : List ℕ = spelling (insn.Pool 184 index) in
      let parts = and_parts (are_bytes (spelling i)) (are_bytes (flat_map spelling insns)) (sym (list_all-append is_u1 (spelling i) (flat_map spelling insns)) ∙ h) in
      list_all-append is_u1 (woven_insn pool code a index i) (flat_map (woven_insn pool code a index) insns)
      ∙ both (are_bytes (woven_insn pool code a index i)) (are_bytes (flat_map (woven_insn pool code a index) insns))
      (list_all-append is_u1 (unless (is_unadvised pool code a i) call) (spelling i)
      ∙ both (are_bytes (unless (is_unadvised pool code a i) call)) (are_bytes (spelling i)) (unless_bytes (is_unadvised pool code a i) call (call_bytes index)) parts.0)
      (still_bytes insns parts.1)

abbrev plain_code : ℕ → ℕ → List ℕ → CodeAttr
plain_code stack locals bytes = record { max_stack = stack; max_locals = locals; code = bytes; entries = []; attributes = [] }

plain_length : (stack locals : ℕ) (bytes : List ℕ) → length (spelled_content (content.Code (plain_code stack locals bytes))) ≡ length bytes + 12
plain_length stack locals bytes = let l = length-append bytes (0 ∷ 0 ∷ 0 ∷ 0 ∷ []) in omega arith

plain_fits : (name stack locals : ℕ) (bytes : List ℕ) → is_u2 name ≡ true → is_u2 stack ≡ true → is_u2 locals ≡ true → are_bytes bytes ≡ true → length bytes ≤ 4000 → counted_fits attribute_fits (with_code name (plain_code stack locals bytes)) ≡ true
plain_fits name stack locals bytes n s l b le =
    let code = plain_code stack locals bytes in
    let long = plain_length stack locals bytes in
    let small : is_u4 (length bytes) ≡ true = lt-ltb (length bytes) 4294967296 (omega arith) in
    let fits : code_fits code ≡ true = both (is_u2 stack) (is_u2 locals && (is_u4 (length bytes) && (are_bytes bytes && true))) s
    (both (is_u2 locals) (is_u4 (length bytes) && (are_bytes bytes && true)) l (both (is_u4 (length bytes)) (are_bytes bytes && true) small (both (are_bytes bytes) true b refl))) in
    let size : is_u4 (length (spelled_content (content.Code code))) ≡ true = lt-ltb (length (spelled_content (content.Code code))) 4294967296 (omega arith) in
    both (is_u2 name && (is_u4 (length (spelled_content (content.Code code))) && code_fits code)) true
    (both (is_u2 name) (is_u4 (length (spelled_content (content.Code code))) && code_fits code) n (both (is_u4 (length (spelled_content (content.Code code)))) (code_fits code) size fits)) refl

-- ---- methods

abbrev pub coded : ℕ → ℕ → List ℕ → CodeAttr → CodeAttr
coded stack locals bytes code = record { max_stack = stack; max_locals = locals; code = bytes; entries = code.entries; attributes = code.attributes }

pub record CodeParts (name : ℕ) (code : CodeAttr) : Type 0 where
  pub name_fits : is_u2 name ≡ true
  pub stack : is_u2 code.max_stack ≡ true
  pub locals : is_u2 code.max_locals ≡ true
  pub bytes : are_bytes code.code ≡ true

code_parts : (name : ℕ) (code : CodeAttr) → counted_fits attribute_fits (with_code name code) ≡ true → CodeParts name code
code_parts name code h =
    let size : Bool = is_u4 (length (spelled_content (content.Code code))) in
    let tail : Bool = counted_fits exception_fits code.entries && counted_fits code_attribute_fits code.attributes in
    let one = and_parts (is_u2 name && (size && code_fits code)) true h in
    let p = and_parts (is_u2 name) (size && code_fits code) one.0 in
    let q = and_parts size (code_fits code) p.1 in
    let r = and_parts (is_u2 code.max_stack) (is_u2 code.max_locals && (is_u4 (length code.code) && (are_bytes code.code && tail))) q.1 in
    let s = and_parts (is_u2 code.max_locals) (is_u4 (length code.code) && (are_bytes code.code && tail)) r.1 in
    let t = and_parts (is_u4 (length code.code)) (are_bytes code.code && tail) s.1 in
    let u = and_parts (are_bytes code.code) tail t.1 in
    record { name_fits = p.0; stack = r.0; locals = s.0; bytes = u.0 }

module _ (pool : List PoolEntry) (a : FirstAspect) (index : ℕ) (own : List ℕ) (names : List (List ℕ)) where
  woven_code_fits : (name : ℕ) (code : CodeAttr) (bytes : List ℕ) → CodeParts name code → PlainParts code → IsWovenCode pool a index code.code bytes → counted_fits attribute_fits (with_code name (coded code.max_stack code.max_locals bytes code)) ≡ true
  woven_code_fits name code bytes parts plain w =
      let few = plain.few in
      let old : length code.code ≡ length (flat_map spelling w.insns) = ap length w.before in
      let new : length bytes ≡ length (flat_map (woven_insn pool code.code a index) w.insns) = ap length w.after in
      let more = grown pool code.code a index w.insns w.single in
      let short : length bytes ≤ 4000 = omega arith in
      let are : are_bytes bytes ≡ true = ap are_bytes w.after ∙ still_bytes pool code.code a index w.insns (ap are_bytes (sym w.before) ∙ parts.bytes) in
      ap (λ e. counted_fits attribute_fits (with_code name (record { max_stack = code.max_stack; max_locals = code.max_locals; code = bytes; entries = e; attributes = code.attributes }))) plain.entries
      ∙ ap (λ t. counted_fits attribute_fits (with_code name (record { max_stack = code.max_stack; max_locals = code.max_locals; code = bytes; entries = []; attributes = t }))) plain.attributes
      ∙ plain_fits name code.max_stack code.max_locals bytes parts.name_fits parts.stack parts.locals are short

  method_fits : (o n : Member) → member_fits o ≡ true → is_form_method pool own names o ≡ true → IsWovenMethod pool a index o n → member_fits n ≡ true
  method_fits o n h form w =
      let p = and_parts (is_u2 o.flags.0) (is_u2 o.name && (is_u2 o.descriptor && counted_fits attribute_fits o.attributes)) h in
      let q = and_parts (is_u2 o.name) (is_u2 o.descriptor && counted_fits attribute_fits o.attributes) p.1 in
      let r = and_parts (is_u2 o.descriptor) (counted_fits attribute_fits o.attributes) q.1 in
      let code = code_parts w.name w.code (ap (counted_fits attribute_fits) (sym w.before) ∙ r.1) in
      let plain = plain_parts w.code (and_parts (is_plain_code w.code) (insns_pass (is_form_insn pool own names) w.code.code (length w.code.code) 0) (form_code pool own names o w.name w.code form w.before)).0 in
      let new = woven_code_fits w.name w.code w.bytes code plain w.woven in
      let attributes : Bool = counted_fits attribute_fits (with_code w.name (coded w.code.max_stack w.code.max_locals w.bytes w.code)) in
      ap member_fits w.after
      ∙ both (is_u2 o.flags.0) (is_u2 o.name && (is_u2 o.descriptor && attributes)) p.0 (both (is_u2 o.name) (is_u2 o.descriptor && attributes) q.0 (both (is_u2 o.descriptor) attributes r.0 new))

  methods_fit : (olds news : List Member) → list_all member_fits olds ≡ true → list_all (is_form_method pool own names) olds ≡ true → AllZip (IsWovenMethod pool a index) olds news → list_all member_fits news ≡ true
  methods_fit [] [] h f z = refl
  methods_fit [] (n ∷ news) h f z = absurd z
  methods_fit (o ∷ olds) [] h f z = absurd z
  methods_fit (o ∷ olds) (n ∷ news) h f z =
      let fits = and_parts (member_fits o) (list_all member_fits olds) h in
      let form = and_parts (is_form_method pool own names o) (list_all (is_form_method pool own names) olds) f in
      both (member_fits n) (list_all member_fits news) (method_fits o n fits.0 form.0 z.0) (methods_fit olds news fits.1 form.1 z.1)

-- ---- classes

pub woven_writable : (a : FirstAspect) (c : ClassFile) (methods : List Member) → is_first_form c ≡ true → is_first_aspect a ≡ true → AllZip (IsWovenMethod c.pool a (call_index c.pool)) c.methods methods → is_writable (with_calls a c methods) ≡ true
woven_writable a c methods h first z =
    let own = own_name (this_name c) in
    let short = short_parts c h in
    let pool' : List PoolEntry = c.pool ++ call_entries c.pool a in
    let few = short.methods in
    let number = length_all_zip (IsWovenMethod c.pool a (call_index c.pool)) c.methods methods z in
    let last : Bool = counted_fits attribute_fits c.attributes in
    let m : Bool = counted_fits member_fits c.methods in
    let m' : Bool = counted_fits member_fits methods in
    let f : Bool = counted_fits member_fits c.fields in
    let i : Bool = counted_fits is_u2 c.interfaces in
    let p1 = and_parts (is_u2 c.minor) (is_u2 c.major && (pool_fits c.pool && (is_u2 c.flags.0 && (is_u2 c.this_class && (is_u2 c.super_class && (i && (f && (m && last)))))))) (first_parts c h).writable in
    let p2 = and_parts (is_u2 c.major) (pool_fits c.pool && (is_u2 c.flags.0 && (is_u2 c.this_class && (is_u2 c.super_class && (i && (f && (m && last))))))) p1.1 in
    let p3 = and_parts (pool_fits c.pool) (is_u2 c.flags.0 && (is_u2 c.this_class && (is_u2 c.super_class && (i && (f && (m && last)))))) p2.1 in
    let p4 = and_parts (is_u2 c.flags.0) (is_u2 c.this_class && (is_u2 c.super_class && (i && (f && (m && last))))) p3.1 in
    let p5 = and_parts (is_u2 c.this_class) (is_u2 c.super_class && (i && (f && (m && last)))) p4.1 in
    let p6 = and_parts (is_u2 c.super_class) (i && (f && (m && last))) p5.1 in
    let p7 = and_parts i (f && (m && last)) p6.1 in
    let p8 = and_parts f (m && last) p7.1 in
    let p9 = and_parts m last p8.1 in
    let old = and_parts (is_u2 (length c.methods)) (list_all member_fits c.methods) p9.0 in
    let new : m' ≡ true = both (is_u2 (length methods)) (list_all member_fits methods) (lt-ltb (length methods) 65536 (omega arith))
    (methods_fit c.pool a (call_index c.pool) own (method_names c) c.methods methods old.1 (form_methods c h) z) in
    both (is_u2 c.minor) (is_u2 c.major && (pool_fits pool' && (is_u2 c.flags.0 && (is_u2 c.this_class && (is_u2 c.super_class && (i && (f && (m' && last)))))))) p1.0
    (both (is_u2 c.major) (pool_fits pool' && (is_u2 c.flags.0 && (is_u2 c.this_class && (is_u2 c.super_class && (i && (f && (m' && last))))))) p2.0
    (both (pool_fits pool') (is_u2 c.flags.0 && (is_u2 c.this_class && (is_u2 c.super_class && (i && (f && (m' && last)))))) (pool_still_fits c.pool a first short.pool p3.0)
    (both (is_u2 c.flags.0) (is_u2 c.this_class && (is_u2 c.super_class && (i && (f && (m' && last))))) p4.0
    (both (is_u2 c.this_class) (is_u2 c.super_class && (i && (f && (m' && last)))) p5.0
    (both (is_u2 c.super_class) (i && (f && (m' && last))) p6.0
    (both i (f && (m' && last)) p7.0
    (both f (m' && last) p8.0
    (both m' last new p9.1))))))))

pub aspect_pool_fits : (a : FirstAspect) → is_first_aspect a ≡ true → pool_fits (aspect_pool a) ≡ true
aspect_pool_fits a h =
    let parts = aspect_parts a h in
    let nl = parts.name_length in
    let nb = parts.name_bytes in
    let tl = parts.text_length in
    let tb = parts.text_bytes in
    rw (nl, nb, tl, tb) refl

pub aspect_writable : (a : FirstAspect) → is_first_aspect a ≡ true → is_writable (aspect_class a) ≡ true
aspect_writable a h =
    let parts = aspect_parts a h in
    let nl = parts.name_length in
    let nb = parts.name_bytes in
    let tl = parts.text_length in
    let tb = parts.text_bytes in
    rw (nl, nb, tl, tb) refl

pub aspect_is_class : (a : FirstAspect) → IsAspectClass (aspect_of a) (aspect_class a)
aspect_is_class a = record { name = refl; super_class = refl; minor = refl; major = refl; advice = refl; flags = refl; interfaces = refl; attributes = refl; fields = refl; methods = refl }
