-- A class with an advised call is not untouched.
use Rattle.std.proofs.Common.{◌≡◌, ℕ, zero, suc, ◌<◌, Bool, true, not, List, [], ◌∷◌, ◌++◌, length, length-append, get_or, Some, Ok, sym, ap, subst, ◌∙◌, append_assoc, arith, ⊎_elim}
use Rattle.std.specs.List.{list_all, list_any, filter_map, flat_map, AllByRecursion, Any}
use Rattle.std.proofs.lemmas.Bool.{and_parts, or_cases, true≢false}
use Rattle.std.proofs.lemmas.Option.{slice_get-get_or}
use Rattle.opcode_table.specs.declared.insn.Insn.{Insn}
use Rattle.opcode_table.specs.Decoding.{decoded}
use Rattle.opcode_table.specs.Spelling.{spelling, IsInsn, IsSingle}
use Rattle.opcode_table.specs.DecodedAgain.{decoded_after}
use Rattle.class_file.specs.declared.types.ClassFile.{ClassFile}
use Rattle.class_file.specs.declared.types.Attribute.{Attribute}
use Rattle.class_file.specs.Pool.{this_name}
use Rattle.class_file.specs.FirstForm.{is_first_form, is_form_insn, is_form_method, method_names, own_name}
use Rattle.jp_model.specs.declared.first_aspect.FirstAspect.{FirstAspect}
use Rattle.jp_model.specs.AspectText.{aspect_of}
use Rattle.jp_model.specs.JoinPoints.{chain_of}
use Rattle.class_machine.specs.ClassFiles.{code_in, first_of, code_of, with_pool, operation_of}
use Rattle.jp_model.specs.Headline.{IsStart, First, Behind, IsUntouched}
use Rattle.woven_calls.specs.Woven.{is_empty, is_unadvised}
use Rattle.before_weave.specs.Marks.{marks_of, is_advised}
use Rattle.before_weave.specs.Walk.{HasCalls}
use Rattle.woven_calls.specs.Laws.Forms.{all_pass}
use Rattle.before_weave.proofs.WovenClass.{insn_agrees}
use Rattle.before_weave.proofs.Forms.{form_methods, code_passes}

-- ---- a list whose elements pass

-- each element passes, also the one at k
pub all_get : {X : Type 0} (p : X → Bool) (xs : List X) (k : ℕ) (x : X) → list_all p xs ≡ true → k < length xs → get_or xs k x ≡ x → p x ≡ true
all_get p [] k x h lt e = absurd (omega arith)
all_get p (y ∷ ys) zero x h lt e = ap p (sym e) ∙ (and_parts (p y) (list_all p ys) h).0
all_get p (y ∷ ys) (suc k) x h lt e = all_get p ys k x (and_parts (p y) (list_all p ys) h).1 (omega arith) e

-- ---- an advised call at an instruction's start

record Stop (test : Insn → Bool) (code : List ℕ) (marks : List Bool) : Type 0 where
  pc : ℕ
  insn : Insn
  size : ℕ
  start : IsStart code pc
  there : decoded code pc ≡ Ok (insn, size)
  form : test insn ≡ true
  advised : is_advised marks insn ≡ true

find_advised : (test : Insn → Bool) (code before : List ℕ) (marks : List Bool) (insns : List Insn) → code ≡ before ++ flat_map spelling insns → IsStart code (length before) → AllByRecursion (λ i. IsInsn i × IsSingle i) insns → AllByRecursion (λ i. test i ≡ true) insns
    → list_any (is_advised marks) insns ≡ true → Stop test code marks
find_advised test code before marks [] e s single forms h = absurd cc
find_advised test code before marks (i ∷ insns) e s single forms h =
    let there : decoded code (length before) ≡ Ok (i, length (spelling i)) =
    ap (λ (c : List ℕ). decoded c (length before)) e ∙ decoded_after before i (flat_map spelling insns) single.0.0 single.0.1 in
    ⊎_elim (λ here. record { pc = length before; insn = i; size = length (spelling i); start = s; there = there; form = forms.0; advised = here })
    (λ later. find_advised test code (before ++ spelling i) marks insns (e ∙ sym (append_assoc before (spelling i) (flat_map spelling insns)))
    (subst (λ (n : ℕ). IsStart code n) (sym (length-append before (spelling i))) (Behind (length before) i (length (spelling i)) s there)) single.1 forms.1 later)
    (or_cases (is_advised marks i) (list_any (is_advised marks) insns) h)

-- ---- the class

pub touched : (a : FirstAspect) (c : ClassFile) → is_first_form c ≡ true → IsUntouched (aspect_of a ∷ []) c → Any (HasCalls (marks_of c.pool a) true) c.methods → ⊥
touched a c h untouched (k, m, lt, at, calls) =
    let own = own_name (this_name c) in
    let form = all_get (is_form_method c.pool own (method_names c)) c.methods k m (form_methods c h) lt at in
    let passes = code_passes c.pool own (method_names c) m calls.name calls.code form calls.attributes in
    let forms = all_pass (is_form_insn c.pool own (method_names c)) calls.code.code (length calls.code.code) 0 calls.insns calls.single calls.spelled passes in
    let coded : code_of m ≡ Some calls.code = ap (λ (l : List Attribute). first_of (filter_map code_in l)) calls.attributes in
    let stop = find_advised (is_form_insn c.pool own (method_names c)) calls.code.code [] (marks_of c.pool a) calls.insns calls.spelled First calls.single forms calls.any in
    let none = untouched k m calls.code stop.pc (slice_get-get_or c.methods k m lt ∙ ap Some at) coded stop.start in
    let chain = ap (λ d. chain_of (aspect_of a ∷ []) (operation_of (with_pool c calls.code) d)) stop.there in
    let free : is_unadvised c.pool calls.code.code a stop.insn ≡ true = ap is_empty (sym chain ∙ none) in
    true≢false (sym free ∙ insn_agrees a c h calls.code.code stop.insn stop.form ∙ ap not stop.advised)
