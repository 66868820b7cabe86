-- What the walk makes is the woven class.
use Rattle.std.proofs.Common.{◌≡◌, ℕ, Bool, true, false, not, List, [], ◌∷◌, ◌++◌, length, refl, sym, ap, subst, ◌∙◌}
use Rattle.std.specs.Prelude.{IsTrue, Result, Ok, Err, IfOk}
use Rattle.std.specs.List.{list_all, list_any, flat_map, AllZip, AllByRecursion}
use Rattle.std.proofs.lemmas.Bool.{and_parts, or_parts}
use Rattle.std.proofs.lemmas.List.Elements.{recursion_from_All}
use Rattle.opcode_table.specs.declared.insn.Insn.{Insn}
use Rattle.opcode_table.specs.declared.insn.Insn.TheVariants as insn
use Rattle.opcode_table.specs.Spelling.{spelling}
use Rattle.class_file.specs.declared.pool.PoolEntry.{PoolEntry}
use Rattle.class_file.specs.declared.types.ClassFile.{ClassFile}
use Rattle.class_file.specs.declared.types.Member.{Member}
use Rattle.class_file.specs.FirstForm.{is_form_insn, insns_pass, is_form_method, method_names, own_name, is_first_form}
use Rattle.class_file.specs.Pool.{this_name}
use Rattle.jp_model.specs.declared.first_aspect.FirstAspect.{FirstAspect}
use Rattle.woven_calls.specs.Woven.{unless, is_unadvised, woven_insn, IsWovenCode, IsWovenMethod, IsUnadvisedMethod, call_index}
use Rattle.before_weave.specs.Marks.{marks_of, is_advised}
use Rattle.before_weave.specs.Walk.{marked_insn, IsMarkedCode, IsMarkedMethod, HasCalls, AreMarkedMethods}
use Rattle.before_weave.specs.Weaving.{with_calls, IsClassWeaving, Woven, Kept}
use Rattle.woven_calls.specs.Laws.Forms.{all_pass}
use Rattle.before_weave.proofs.Advised.{agrees}
use Rattle.before_weave.proofs.Forms.{form_methods, code_passes, own_call}

flat_same : {X : Type 0} (f g : X → List ℕ) (P : X → Type 0) (xs : List X) → ((x : X) → P x → f x ≡ g x) → AllByRecursion P xs → flat_map f xs ≡ flat_map g xs
flat_same f g P [] h all = refl
flat_same f g P (x ∷ xs) h all = ap (λ t. t ++ flat_map f xs) (h x all.0) ∙ ap (λ t. g x ++ t) (flat_same f g P xs h all.1)

-- two lists that go together, where more is known of the first one's elements
pub zip_known : {X : Type 0} (P : X → Bool) (R S : X → X → Type 0) (xs ys : List X) → ((x y : X) → P x ≡ true → R x y → S x y) → list_all P xs ≡ true → AllZip R xs ys → AllZip S xs ys
zip_known P R S [] [] h all e = tt
zip_known P R S [] (y ∷ ys) h all e = absurd e
zip_known P R S (x ∷ xs) [] h all e = absurd e
zip_known P R S (x ∷ xs) (y ∷ ys) h all e = let both = and_parts (P x) (list_all P xs) all in (h x y both.0 e.0, zip_known P R S xs ys h both.1 e.1)

pub each_known : {X : Type 0} (P : X → Bool) (Q R : X → Type 0) (xs : List X) → ((x : X) → P x ≡ true → Q x → R x) → list_all P xs ≡ true → AllByRecursion Q xs → AllByRecursion R xs
each_known P Q R [] h all e = tt
each_known P Q R (x ∷ xs) h all e = let both = and_parts (P x) (list_all P xs) all in (h x both.0 e.0, each_known P Q R xs h both.1 e.1)

pub each_weaker : {X : Type 0} (P Q : X → Type 0) (xs : List X) → ((x : X) → P x → Q x) → AllByRecursion P xs → AllByRecursion Q xs
each_weaker P Q [] h e = tt
each_weaker P Q (x ∷ xs) h e = (h x e.0, each_weaker P Q xs h e.1)

module _ (a : FirstAspect) (c : ClassFile) (h : is_first_form c ≡ true) where
  abbrev pool : List PoolEntry
  pool = c.pool

  abbrev own : List ℕ
  own = own_name (this_name c)

  abbrev passes : Insn → Bool
  passes = is_form_insn pool own (method_names c)

  pub insn_agrees : (code : List ℕ) (i : Insn) → passes i ≡ true → is_unadvised pool code a i ≡ not (is_advised (marks_of pool a) i)
  insn_agrees code i form = agrees a pool code own (method_names c) (own_call c h) i form

  insn_same : (code : List ℕ) (index : ℕ) (i : Insn) → passes i ≡ true → marked_insn (marks_of pool a) index i ≡ woven_insn pool code a index i
  insn_same code index i form = ap (λ b. unless b (spelling (insn.Pool 184 index)) ++ spelling i) (sym (insn_agrees code i form))

  woven_code : (index : ℕ) (old new : List ℕ) (advised : Bool) → insns_pass passes old (length old) 0 ≡ true → IsMarkedCode (marks_of pool a) index old new advised → IsWovenCode pool a index old new
  woven_code index old new advised form m = record {
    insns = m.insns;
    single = m.single;
    before = m.before;
    after = m.after ∙ flat_same (marked_insn (marks_of pool a) index) (woven_insn pool old a index) (λ i. passes i ≡ true) m.insns (insn_same old index) (all_pass passes old (length old) 0 m.insns m.single m.before form);
  }

  woven_method : (index : ℕ) (old new : Member) → is_form_method pool own (method_names c) old ≡ true → IsMarkedMethod (marks_of pool a) index old new → IsWovenMethod pool a index old new
  woven_method index old new form m = record {
    name = m.name;
    code = m.code;
    bytes = m.bytes;
    woven = woven_code index m.code.code m.bytes m.advised (code_passes pool own (method_names c) old m.name m.code form m.before) m.woven;
    before = m.before;
    after = m.after;
  }

  none_free : (code : List ℕ) (insns : List Insn) → AllByRecursion (λ i. passes i ≡ true) insns → list_any (is_advised (marks_of pool a)) insns ≡ false → AllByRecursion (λ i. IsTrue (is_unadvised pool code a i)) insns
  none_free code [] forms h = tt
  none_free code (i ∷ insns) forms h =
      let both = or_parts (is_advised (marks_of pool a) i) (list_any (is_advised (marks_of pool a)) insns) h in
      (insn_agrees code i forms.0 ∙ ap not both.0, none_free code insns forms.1 both.1)

  unadvised_method : (m : Member) → is_form_method pool own (method_names c) m ≡ true → HasCalls (marks_of pool a) false m → IsUnadvisedMethod pool a m
  unadvised_method m form x = record {
    name = x.name;
    code = x.code;
    attributes = x.attributes;
    unadvised = record {
      insns = x.insns;
      single = x.single;
      spelled = x.spelled;
      none = none_free x.code.code x.insns (all_pass passes x.code.code (length x.code.code) 0 x.insns x.single x.spelled (code_passes pool own (method_names c) m x.name x.code form x.attributes)) x.any;
    };
  }

pub woven_class : (a : FirstAspect) (c w : ClassFile) → is_first_form c ≡ true → (marks : List Bool) (index : ℕ) (methods : List Member) (advised : Bool)
    → marks ≡ marks_of c.pool a → index ≡ call_index c.pool → AreMarkedMethods marks index c.methods methods advised → advised ≡ true
    → w ≡ with_calls a c methods → IsClassWeaving a c w
woven_class a c w h marks index methods advised m i made some is =
    let made' : AreMarkedMethods (marks_of c.pool a) (call_index c.pool) c.methods methods true =
    subst (λ (l : List Bool). AreMarkedMethods l (call_index c.pool) c.methods methods true) m
    (subst (λ (k : ℕ). AreMarkedMethods marks k c.methods methods true) i
    (subst (λ (b : Bool). AreMarkedMethods marks index c.methods methods b) some made)) in
    Woven made'.any (record {
      methods = methods;
      each = zip_known (is_form_method c.pool (own_name (this_name c)) (method_names c)) (IsMarkedMethod (marks_of c.pool a) (call_index c.pool)) (IsWovenMethod c.pool a (call_index c.pool)) c.methods methods (woven_method a c h (call_index c.pool)) (form_methods c h) made'.each;
      after = is;
    })

pub kept_class : (a : FirstAspect) (c w : ClassFile) → is_first_form c ≡ true → (marks : List Bool) (index : ℕ) (methods : List Member) (advised : Bool)
    → marks ≡ marks_of c.pool a → AreMarkedMethods marks index c.methods methods advised → advised ≡ false → w ≡ c → IsClassWeaving a c w
kept_class a c w h marks index methods advised m made none is =
    let made' : AreMarkedMethods (marks_of c.pool a) index c.methods methods false =
    subst (λ (l : List Bool). AreMarkedMethods l index c.methods methods false) m
    (subst (λ (b : Bool). AreMarkedMethods marks index c.methods methods b) none made) in
    Kept is (each_known (is_form_method c.pool (own_name (this_name c)) (method_names c)) (HasCalls (marks_of c.pool a) false) (IsUnadvisedMethod c.pool a) c.methods (unadvised_method a c h) (form_methods c h)
    (recursion_from_All (HasCalls (marks_of c.pool a) false) c.methods made'.any))

pub ok_weaker : {T E : Type 0} (r : Result T E) (P Q : T → Type 0) → ((x : T) → P x → Q x) → IfOk r P → IfOk r Q
ok_weaker (Ok x) P Q h p = h x p
ok_weaker (Err e) P Q h p = tt
