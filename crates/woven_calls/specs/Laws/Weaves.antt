-- Woven classes carry out the advice, and so do classes without a place for it as they were.
use Rattle.std.proofs.Common.{◌≡◌, ◌≢◌, ℕ, ◌+◌, ◌<◌, Bool, true, false, not, ◌&&◌, nat_le, bytes_eq, IsTrue, List, [], ◌∷◌, ◌++◌, length, map, Option, Some, None, refl, sym, ap, ap₂, ◌∙◌, subst, codes, option_and_then, if◌then◌else◌}
use Rattle.std.specs.List.{list_all, position_from, AllByRecursion, AllZip}
use Rattle.std.specs.Option.{option_map, unwrap_or}
use Rattle.std.proofs.lemmas.Bool.{and_parts, false_from_ne_true}
use Rattle.opcode_table.specs.declared.insn.Insn.{Insn}
use Rattle.opcode_table.specs.declared.insn.Insn.TheVariants as insn
use Rattle.opcode_table.specs.Spelling.{spelling, IsInsn, IsSingle}
use Rattle.class_file.specs.declared.pool.PoolEntry.{PoolEntry}
use Rattle.class_file.specs.declared.types.ClassFile.{ClassFile}
use Rattle.class_file.specs.declared.types.Member.{Member}
use Rattle.class_file.specs.declared.types.Attribute.{Attribute}
use Rattle.class_file.specs.declared.types.Content.TheVariants as content
use Rattle.class_file.specs.declared.types.CodeAttr.{CodeAttr}
use Rattle.class_file.specs.Sound.{is_some_that}
use Rattle.class_file.specs.Pool.{NamedType, text_at, class_at, this_name, super_name, member_type}
use Rattle.class_file.specs.FirstForm.{object_class, is_identifier, is_printable_text, is_form_insn, insns_pass, is_plain_code, has_form_code, is_text, is_form_attribute, is_single, has_form_flags, is_form_method, method_names, no_arguments, is_first_form}
use Rattle.class_file.specs.FirstFormLaws.{IsFirstForm, first_form}
use Rattle.class_heads.specs.declared.types.FieldHead.{FieldHead}
use Rattle.class_heads.specs.declared.types.MethodHead.{MethodHead}
use Rattle.class_heads.specs.declared.types.ClassHead.{ClassHead}
use Rattle.class_heads.specs.Heads.{class_name_at, field_head, method_head, head_of}
use Rattle.class_heads.specs.Searches.{same_name}
use Rattle.class_machine.specs.declared.kinds.Mode.{Mode}
use Rattle.class_machine.specs.Operations.{Invoke}
use Rattle.class_machine.specs.Declarations.{member_name}
use Rattle.class_machine.specs.ClassFiles.{MethodCode, operation, with_pool}
use Rattle.jp_model.specs.declared.first_aspect.FirstAspect.{FirstAspect}
use Rattle.jp_model.specs.AspectText.{aspect_of, is_short_identifier, is_unescaped, is_literal, is_first_aspect}
use Rattle.jp_model.specs.Aspects.{Advice}
use Rattle.jp_model.specs.JoinPoints.{chain_of}
use Rattle.jp_model.specs.Headline.{AreApart, Behaves}
use Rattle.woven_calls.specs.Woven.{is_empty, unless, is_unadvised, woven_insn, IsWovenCode, call_entries, call_index, with_code, IsWovenMethod, IsWovenClass, IsUnadvisedCode, IsUnadvisedMethod, IsUnadvised, IsWovenOrKept, Woven, Kept, aspect_class}
use Rattle.woven_calls.specs.Laws.Pools.{Extends, named_type, extends_append, extends_same, text_kept, class_kept, member_kept, call_names, call_is_insn}
use Rattle.woven_calls.specs.Laws.Grows.{is_there}
use Rattle.woven_calls.specs.Laws.Forms.{has_meaning, all_pass, same_bytes}
use Rattle.woven_calls.specs.Laws.AspectClass.{advice_reference}
use Rattle.woven_calls.specs.Laws.Tables.{Plain, initialiser_type}
use Rattle.woven_calls.specs.Laws.Places.{Written, IsCarried}
use Rattle.woven_calls.specs.Laws.Lookups.{IsCarriedCode, IsCarriedMember, IsCarriedClass}
use Rattle.woven_calls.specs.Laws.Methods.{form_name, form_descriptor}
use Rattle.woven_calls.specs.Laws.Starts.{behaves}

-- ---- what the form says

-- the aspect's name is an identifier, and its text printable
aspect_form : (a : FirstAspect) → IsTrue (is_first_aspect a) → IsTrue (is_identifier a.name) × IsTrue (is_printable_text a.text)
aspect_form a h =
    let p1 = and_parts (is_short_identifier a.name) (not (bytes_eq a.name (codes "System")) && (is_short_identifier a.class && (is_short_identifier a.method && is_literal a.text))) h in
    let p2 = and_parts (not (bytes_eq a.name (codes "System"))) (is_short_identifier a.class && (is_short_identifier a.method && is_literal a.text)) p1.1 in
    let p3 = and_parts (is_short_identifier a.class) (is_short_identifier a.method && is_literal a.text) p2.1 in
    let p4 = and_parts (is_short_identifier a.method) (is_literal a.text) p3.1 in
    ((and_parts (is_identifier a.name) (nat_le (length a.name) 1000) p1.0).0, (and_parts (is_printable_text a.text) (list_all is_unescaped a.text && nat_le (length a.text) 65535) p4.1).0)

zipped : {X : Type 0} (P Q R : X → Type 0) → ((x : X) → P x → Q x → R x) → (xs : List X) → AllByRecursion P xs → AllByRecursion Q xs → AllByRecursion R xs
zipped P Q R h [] p q = tt
zipped P Q R h (x ∷ xs) p q = (h x p.0 q.0, zipped P Q R h xs p.1 q.1)

-- a method of the form
module _ (own : List ℕ) (methods : List (List ℕ)) (pool : List PoolEntry) (m : Member) (h : is_form_method pool own methods m ≡ true) where
  parts : (is_some_that is_identifier (text_at pool m.name) ≡ true) × (is_text pool no_arguments m.descriptor ≡ true) × (is_single (is_form_attribute pool own methods) m.attributes ≡ true)
  parts =
      let p1 = and_parts (has_form_flags m.flags.0) (is_some_that is_identifier (text_at pool m.name) && (is_text pool no_arguments m.descriptor && is_single (is_form_attribute pool own methods) m.attributes)) h in
      let p2 = and_parts (is_some_that is_identifier (text_at pool m.name)) (is_text pool no_arguments m.descriptor && is_single (is_form_attribute pool own methods) m.attributes) p1.1 in
      let p3 = and_parts (is_text pool no_arguments m.descriptor) (is_single (is_form_attribute pool own methods) m.attributes) p2.1 in
      (p2.0, p3.0, p3.1)

  type_of : (type : NamedType) × (member_type pool m ≡ Some type)
  type_of =
      let name = is_there is_identifier (text_at pool m.name) parts.0 in
      let descriptor = is_there (bytes_eq no_arguments) (text_at pool m.descriptor) parts.1 in (
        named_type name.0 descriptor.0,
        ap (option_and_then (λ n. option_and_then (λ d. Some (named_type n d)) (text_at pool m.descriptor))) name.1
            ∙ ap (option_and_then (λ d. Some (named_type name.0 d))) descriptor.1,
      )

  insns_of : (name : ℕ) (code : CodeAttr) → m.attributes ≡ with_code name code → insns_pass (is_form_insn pool own methods) code.code (length code.code) 0 ≡ true
  insns_of name code is =
      let one : is_form_attribute pool own methods (record { name = name; content = content.Code code }) ≡ true = subst (λ (l : List Attribute). is_single (is_form_attribute pool own methods) l ≡ true) is parts.2 in
      let inside = and_parts (is_text pool (codes "Code") name) (has_form_code pool own methods code) one in
      (and_parts (is_plain_code code) (insns_pass (is_form_insn pool own methods) code.code (length code.code) 0) inside.1).1

-- ---- heads

-- a method's head under another pool, with code in place of code
head_kept : (own : List ℕ) (names : List (List ℕ)) (pool more : List PoolEntry) (x : Member) (name name' : ℕ) (code code' : CodeAttr) → Extends pool more → is_form_method pool own names x ≡ true → x.attributes ≡ with_code name code
    → method_head more (record { flags = x.flags; name = x.name; descriptor = x.descriptor; attributes = with_code name' code' }) ≡ method_head pool x
head_kept own names pool more x name name' code code' longer form is =
    let made : Option (List ℕ) → Option (List ℕ) → List Attribute → MethodHead = λ n d attributes. let h = method_head pool (record { flags = x.flags; name = x.name; descriptor = x.descriptor; attributes = attributes }) in
    record { name = record { name = unwrap_or n []; descriptor = unwrap_or d [] }; flags = x.flags; exceptions = h.exceptions; is_synthetic = h.is_synthetic } in
    let n = form_name pool own names x form in
    let d = form_descriptor pool own names x form in
    ap (λ (t : Option (List ℕ)). made t (text_at more x.descriptor) (with_code name code)) (text_kept pool more longer x.name n.0 n.1 ∙ sym n.1)
    ∙ ap (λ (t : Option (List ℕ)). made (text_at pool x.name) t (with_code name code)) (text_kept pool more longer x.descriptor no_arguments d ∙ sym d)
    ∙ ap (λ (l : List Attribute). made (text_at pool x.name) (text_at pool x.descriptor) l) (sym is)

-- the head of a class whose names a longer pool keeps
class_head_kept : (c : ClassFile) (f : IsFirstForm c) (more : List PoolEntry) (methods : List Member) → Extends c.pool more → map (method_head more) methods ≡ map (method_head c.pool) c.methods
    → head_of (record { minor = c.minor; major = c.major; pool = more; flags = c.flags; this_class = c.this_class; super_class = c.super_class; interfaces = c.interfaces; fields = c.fields; methods = methods; attributes = c.attributes }) ≡ head_of c
class_head_kept c f more methods longer same =
    let made : Option (List ℕ) → Option (List ℕ) → List (List ℕ) → List FieldHead → List MethodHead → ClassHead = λ name super interfaces fields methods.
    record { name = unwrap_or name []; version = c.major; flags = c.flags; super_class = super; interfaces = interfaces; fields = fields; methods = methods } in
    let under : List PoolEntry → List (List ℕ) = λ pool. map (class_name_at pool) c.interfaces in
    let fields : List PoolEntry → List FieldHead = λ pool. map (field_head pool) c.fields in
    let no_interface : under more ≡ under c.pool = ap (map (class_name_at more)) f.no_interfaces ∙ sym (ap (map (class_name_at c.pool)) f.no_interfaces) in
    let no_field : fields more ≡ fields c.pool = ap (map (field_head more)) f.no_fields ∙ sym (ap (map (field_head c.pool)) f.no_fields) in
    ap (λ (o : Option (List ℕ)). made o (class_at more c.super_class) (under more) (fields more) (map (method_head more) methods)) (class_kept c.pool more longer c.this_class f.name f.named ∙ sym f.named)
    ∙ ap (λ (o : Option (List ℕ)). made (this_name c) o (under more) (fields more) (map (method_head more) methods)) (class_kept c.pool more longer c.super_class object_class f.extends ∙ sym f.extends)
    ∙ ap (λ l. made (this_name c) (super_name c) l (fields more) (map (method_head more) methods)) no_interface
    ∙ ap (λ l. made (this_name c) (super_name c) (under c.pool) l (map (method_head more) methods)) no_field
    ∙ ap (λ l. made (this_name c) (super_name c) (under c.pool) (fields c.pool) l) same

-- no method is an initialiser
silent_methods : (own : List ℕ) (names : List (List ℕ)) (pool : List PoolEntry) (ms : List Member) (i : ℕ) → list_all (is_form_method pool own names) ms ≡ true → position_from (λ x. same_name x.name (member_name initialiser_type)) i (map (method_head pool) ms) ≡ None
silent_methods own names pool [] i forms = refl
silent_methods own names pool (m ∷ ms) i forms =
    let f = and_parts (is_form_method pool own names m) (list_all (is_form_method pool own names) ms) forms in
    let n = form_name pool own names m f.0 in
    let other : bytes_eq n.0 initialiser_type.name ≡ false = false_from_ne_true (bytes_eq n.0 initialiser_type.name) (λ same. let apart : true ≡ false = sym n.2 ∙ ap is_identifier (same_bytes n.0 initialiser_type.name same) in absurd cc) in
    let rest = position_from (λ x. same_name x.name (member_name initialiser_type)) (i + 1) (map (method_head pool) ms) in
    ap (λ (t : Option (List ℕ)). if bytes_eq (unwrap_or t []) initialiser_type.name && bytes_eq (unwrap_or (text_at pool m.descriptor) []) initialiser_type.descriptor then Some i else rest) n.1
    ∙ ap (λ (b : Bool). if b && bytes_eq (unwrap_or (text_at pool m.descriptor) []) initialiser_type.descriptor then Some i else rest) other
    ∙ silent_methods own names pool ms (i + 1) f.1

plain_class : (c : ClassFile) → IsTrue (is_first_form c) → Plain (head_of c)
plain_class c form =
    let f = first_form c form in
    record { identifier = ap (λ (o : Option (List ℕ)). is_identifier (unwrap_or o [])) f.named ∙ f.identifier; silent = silent_methods f.name (method_names c) c.pool c.methods 0 f.methods }

plain_classes : (classes : List ClassFile) → AllByRecursion (λ c. IsTrue (is_first_form c)) classes → AllByRecursion Plain (map head_of classes)
plain_classes [] forms = tt
plain_classes (c ∷ classes) forms = (plain_class c forms.0, plain_classes classes forms.1)

-- ---- woven

module _ (a : FirstAspect) (own : List ℕ) (names : List (List ℕ)) (pool : List PoolEntry) (short : length pool < 10000) where
  abbrev longer : List PoolEntry
  longer = pool ++ call_entries pool a

  woven_as : (code' : List ℕ) (chain : List Advice) (i : Insn) → Written longer code' (advice_reference a) chain i (unless (is_empty chain) (spelling (insn.Pool 184 (call_index pool))) ++ spelling i)
  woven_as code' [] i = refl
  woven_as code' (b ∷ rest) i = record {
    call = insn.Pool 184 (call_index pool);
    insn = call_is_insn pool short;
    single = tt;
    means = ap (option_map (Invoke Mode.Static)) (call_names pool a);
    spelled = refl;
  }

  abbrev code_with : CodeAttr → List ℕ → CodeAttr
  code_with code bytes = record { max_stack = code.max_stack; max_locals = code.max_locals; code = bytes; entries = code.entries; attributes = code.attributes }

  abbrev under : List PoolEntry → CodeAttr → MethodCode
  under pool code = record { pool = pool; code = code }

  woven_code : (code : CodeAttr) (bytes : List ℕ) → IsWovenCode pool a (call_index pool) code.code bytes → insns_pass (is_form_insn pool own names) code.code (length code.code) 0 ≡ true
      → IsCarriedCode a own names (under pool code) (under longer (code_with code bytes))
  woven_code code bytes x passes = record {
    stack = refl;
    locals = refl;
    insns = x.insns;
    bytes = woven_insn pool code.code a (call_index pool);
    carried = zipped (λ i. IsInsn i × IsSingle i) (λ i. is_form_insn pool own names i ≡ true) (IsCarried a own names (under pool code) (under longer (code_with code bytes)) (woven_insn pool code.code a (call_index pool)))
        (λ i valid form. record { insn = valid.0; single = valid.1; meaning = has_meaning pool longer code.code bytes own names (extends_append pool (call_entries pool a)) i form; written = woven_as bytes (chain_of (aspect_of a ∷ []) (operation pool code.code i)) i })
        x.insns x.single (all_pass (is_form_insn pool own names) code.code (length code.code) 0 x.insns x.single x.before passes);
    before = x.before;
    after = x.after;
  }

module _ (a : FirstAspect) (c : ClassFile) (f : IsFirstForm c) where
  abbrev more : List PoolEntry
  more = c.pool ++ call_entries c.pool a

  abbrev grown : List Member → ClassFile
  grown methods = record {
    minor = c.minor;
    major = c.major;
    pool = more;
    flags = c.flags;
    this_class = c.this_class;
    super_class = c.super_class;
    interfaces = c.interfaces;
    fields = c.fields;
    methods = methods;
    attributes = c.attributes;
  }

  abbrev Forms : Member → Type 0
  Forms m = is_form_method c.pool f.name (method_names c) m ≡ true

  woven_method : (all : List Member) (m m' : Member) → Forms m → IsWovenMethod c.pool a (call_index c.pool) m m' → IsCarriedMember a f.name (method_names c) c (grown all) m m'
  woven_method all m m' form x =
      let type = type_of f.name (method_names c) c.pool m form in
      let kept = member_kept c.pool more (extends_append c.pool (call_entries c.pool a)) m type.0 type.1 in
      subst (IsCarriedMember a f.name (method_names c) c (grown all) m) (sym x.after) (record {
        type = type.0;
        typed = type.1;
        typed' = kept;
        name = x.name;
        name' = x.name;
        code = x.code;
        code' = record { max_stack = x.code.max_stack; max_locals = x.code.max_locals; code = x.bytes; entries = x.code.entries; attributes = x.code.attributes };
        attributes = x.before;
        attributes' = refl;
        carried = woven_code a f.name (method_names c) c.pool f.few x.code x.bytes x.woven (insns_of f.name (method_names c) c.pool m form x.name x.code x.before);
      })

  woven_methods : (all ms ms' : List Member) → list_all (is_form_method c.pool f.name (method_names c)) ms ≡ true → AllZip (IsWovenMethod c.pool a (call_index c.pool)) ms ms' → AllZip (IsCarriedMember a f.name (method_names c) c (grown all)) ms ms'
  woven_methods all [] [] form each = tt
  woven_methods all [] (m' ∷ ms') form each = absurd each
  woven_methods all (m ∷ ms) [] form each = absurd each
  woven_methods all (m ∷ ms) (m' ∷ ms') form each =
      let p = and_parts (is_form_method c.pool f.name (method_names c) m) (list_all (is_form_method c.pool f.name (method_names c)) ms) form in
      (woven_method all m m' p.0 each.0, woven_methods all ms ms' p.1 each.1)

  woven_heads : (ms ms' : List Member) → list_all (is_form_method c.pool f.name (method_names c)) ms ≡ true → AllZip (IsWovenMethod c.pool a (call_index c.pool)) ms ms' → map (method_head more) ms' ≡ map (method_head c.pool) ms
  woven_heads [] [] form each = refl
  woven_heads [] (m' ∷ ms') form each = absurd each
  woven_heads (m ∷ ms) [] form each = absurd each
  woven_heads (m ∷ ms) (m' ∷ ms') form each =
      let p = and_parts (is_form_method c.pool f.name (method_names c) m) (list_all (is_form_method c.pool f.name (method_names c)) ms) form in
      let x = each.0 in
      ap₂ (λ h hs. h ∷ hs)
      (ap (method_head more) x.after ∙ head_kept f.name (method_names c) c.pool more m x.name x.name x.code (record { max_stack = x.code.max_stack; max_locals = x.code.max_locals; code = x.bytes; entries = x.code.entries; attributes = x.code.attributes }) (extends_append c.pool (call_entries c.pool a)) p.0 x.before)
      (woven_heads ms ms' p.1 each.1)

  woven_class : (w : ClassFile) → this_name c ≢ Some a.name → IsWovenClass a c w → IsCarriedClass a c w
  woven_class w apart x =
      let longer = extends_append c.pool (call_entries c.pool a) in
      subst (IsCarriedClass a c) (sym x.after) (record {
        own = f.name;
        named = f.named;
        named' = class_kept c.pool more longer c.this_class f.name f.named;
        identifier = f.identifier;
        apart = λ same. apart (f.named ∙ ap Some same);
        head = class_head_kept c f more x.methods longer (woven_heads c.methods x.methods f.methods x.each);
        methods = f.methods;
        members = woven_methods x.methods c.methods x.methods f.methods x.each;
      })

  -- ---- unadvised

  written_as : (code : List ℕ) (chain : List Advice) (i : Insn) → is_empty chain ≡ true → Written c.pool code (advice_reference a) chain i (spelling i)
  written_as code [] i none = refl
  written_as code (b ∷ rest) i none = let apart : false ≡ true = none in absurd cc

  unadvised_code : (code : CodeAttr) → IsUnadvisedCode c.pool a code.code → insns_pass (is_form_insn c.pool f.name (method_names c)) code.code (length code.code) 0 ≡ true → IsCarriedCode a f.name (method_names c) (with_pool c code) (with_pool c code)
  unadvised_code code x passes = record {
    stack = refl;
    locals = refl;
    insns = x.insns;
    bytes = spelling;
    carried = zipped (λ i. (IsInsn i × IsSingle i) × (IsTrue (is_unadvised c.pool code.code a i))) (λ i. is_form_insn c.pool f.name (method_names c) i ≡ true) (IsCarried a f.name (method_names c) (with_pool c code) (with_pool c code) spelling)
        (λ i valid form. record { insn = valid.0.0; single = valid.0.1; meaning = has_meaning c.pool c.pool code.code code.code f.name (method_names c) (extends_same c.pool) i form; written = written_as code.code (chain_of (aspect_of a ∷ []) (operation c.pool code.code i)) i valid.1 })
        x.insns (zipped (λ i. IsInsn i × IsSingle i) (λ i. IsTrue (is_unadvised c.pool code.code a i)) _ (λ i valid none. (valid, none)) x.insns x.single x.none)
        (all_pass (is_form_insn c.pool f.name (method_names c)) code.code (length code.code) 0 x.insns x.single x.spelled passes);
    before = x.spelled;
    after = x.spelled;
  }

  unadvised_method : (m : Member) → Forms m → IsUnadvisedMethod c.pool a m → IsCarriedMember a f.name (method_names c) c c m m
  unadvised_method m form x =
      let type = type_of f.name (method_names c) c.pool m form in
      record {
        type = type.0;
        typed = type.1;
        typed' = type.1;
        name = x.name;
        name' = x.name;
        code = x.code;
        code' = x.code;
        attributes = x.attributes;
        attributes' = x.attributes;
        carried = unadvised_code x.code x.unadvised (insns_of f.name (method_names c) c.pool m form x.name x.code x.attributes);
      }

  unadvised_methods : (ms : List Member) → list_all (is_form_method c.pool f.name (method_names c)) ms ≡ true → AllByRecursion (IsUnadvisedMethod c.pool a) ms → AllZip (IsCarriedMember a f.name (method_names c) c c) ms ms
  unadvised_methods [] form all = tt
  unadvised_methods (m ∷ ms) form all =
      let p = and_parts (is_form_method c.pool f.name (method_names c) m) (list_all (is_form_method c.pool f.name (method_names c)) ms) form in
      (unadvised_method m p.0 all.0, unadvised_methods ms p.1 all.1)

  unadvised_class : this_name c ≢ Some a.name → IsUnadvised a c → IsCarriedClass a c c
  unadvised_class apart x = record {
    own = f.name;
    named = f.named;
    named' = f.named;
    identifier = f.identifier;
    apart = λ same. apart (f.named ∙ ap Some same);
    head = refl;
    methods = f.methods;
    members = unadvised_methods c.methods f.methods x;
  }

-- ---- all classes

carried_class : (c w : ClassFile) (a : FirstAspect) → IsTrue (is_first_form c) → this_name c ≢ Some a.name → IsWovenOrKept a c w → IsCarriedClass a c w
carried_class c w a form apart (Woven x) = woven_class a c (first_form c form) w apart x
carried_class c w a form apart (Kept same x) = subst (IsCarriedClass a c) (sym same) (unadvised_class a c (first_form c form) apart x)

-- the last of a list without two alike is unlike those before it
apart_from_last : {X : Type 0} (last : X) (xs : List X) (x : X) → AllByRecursion (λ y. x ≢ y) (xs ++ last ∷ []) → x ≢ last
apart_from_last last [] x all = all.0
apart_from_last last (y ∷ xs) x all = apart_from_last last xs x all.1

carried_classes : (a : FirstAspect) (classes written : List ClassFile) → AllByRecursion (λ c. IsTrue (is_first_form c)) classes → AreApart (map this_name classes ++ Some a.name ∷ []) → AllZip (IsWovenOrKept a) classes written → AllZip (IsCarriedClass a) classes written
carried_classes a [] [] form apart all = tt
carried_classes a [] (w ∷ written) form apart all = absurd all
carried_classes a (c ∷ classes) [] form apart all = absurd all
carried_classes a (c ∷ classes) (w ∷ written) form apart all = (
  carried_class c w a form.0 (apart_from_last (Some a.name) (map this_name classes) (this_name c) apart.0) all.0,
  carried_classes a classes written form.1 apart.1 all.1,
)

-- The woven classes and the aspect's class run as the join point machine does on the classes and the aspect.
pub woven_behaves : (classes written : List ClassFile) (a : FirstAspect) → AllByRecursion (λ c. IsTrue (is_first_form c)) classes → IsTrue (is_first_aspect a) → AreApart (map this_name classes ++ Some a.name ∷ [])
    → AllZip (IsWovenOrKept a) classes written → Behaves classes (aspect_of a ∷ []) (written ++ aspect_class a ∷ [])
woven_behaves classes written a form aspect apart all =
    let b = aspect_form a aspect in
    behaves a b.0 b.1 classes written (carried_classes a classes written form apart all) (plain_classes classes form)
