-- Where the instructions of the classes stand in the written classes, and that the written classes carry out the advice.
use Rattle.std.proofs.Common.{◌≡◌, ◌≢◌, ℕ, ◌+◌, Bool, true, false, cond, List, [], ◌∷◌, ◌++◌, length, drop, flat_map, Option, Some, None, Ok, refl, sym, ap, ◌∙◌, subst, subst₂, append_assoc, option_and_then}
use Rattle.std.specs.List.{AllByRecursion}
use Rattle.std.proofs.lemmas.Option.{same_Some}
use Rattle.opcode_table.specs.declared.insn.Insn.{Insn}
use Rattle.opcode_table.specs.Decoding.{Decoded, decoded}
use Rattle.opcode_table.specs.Spelling.{spelling, IsInsn, IsSingle}
use Rattle.opcode_table.specs.DecodedAgain.{decoded_where_spelled}
use Rattle.class_file.specs.declared.pool.PoolEntry.{PoolEntry}
use Rattle.class_file.specs.declared.types.ClassFile.{ClassFile}
use Rattle.class_file.specs.FirstForm.{is_own_method}
use Rattle.class_file.specs.Pool.{Reference}
use Rattle.class_machine.specs.Classes.{Classes}
use Rattle.class_machine.specs.Descriptors.{parameters_in}
use Rattle.class_machine.specs.Operations.{Operation}
use Rattle.class_machine.specs.Turn.{Code}
use Rattle.class_machine.specs.ClassFiles.{Place, MethodCode, operation, operation_of, place_in, size_of, next_pc, line_at, method_code, class_code}
use Rattle.class_machine.specs.Run.{class_table}
use Rattle.jp_model.specs.declared.first_aspect.FirstAspect.{FirstAspect}
use Rattle.jp_model.specs.AspectText.{aspect_of}
use Rattle.jp_model.specs.Aspects.{PrintLine, Advice, Aspect}
use Rattle.jp_model.specs.JoinPoints.{matches, call_at, chain_for, chain_of}
use Rattle.woven_calls.specs.Laws.Tables.{own_found}
use Rattle.woven_calls.specs.Laws.Turns.{Form, Nothing, Text, Output, Prints, Calls, Back, meaning}
use Rattle.woven_calls.specs.Laws.Carries.{SameEntry, CallsSame, HasForm, IsKept, IsAdvised, Speaks, Carries}
use Rattle.woven_calls.specs.Laws.AspectClass.{advice_reference}
use Rattle.woven_calls.specs.Laws.Forms.{CallsKnown, HasMeaning, decoded_end, drop_behind}

-- ---- one instruction

-- a call of the advice's method stands before the instruction
pub record CallsBefore (more : List PoolEntry) (code' : List ℕ) (advice : Reference) (i : Insn) (bytes : List ℕ) : Type 0 where
  pub call : Insn
  pub insn : IsInsn call
  pub single : IsSingle call
  pub means : operation more code' call ≡ Some (meaning (Calls advice))
  pub spelled : bytes ≡ spelling call ++ spelling i

-- what an instruction with this chain is written as
abbrev pub Written : List PoolEntry → List ℕ → Reference → List Advice → Insn → List ℕ → Type 0
Written more code' advice [] i bytes = bytes ≡ spelling i
Written more code' advice (b ∷ rest) i bytes = CallsBefore more code' advice i bytes

-- an instruction of the one code, as bytes of the other; the class's own methods are these
pub record IsCarried (a : FirstAspect) (own : List ℕ) (methods : List (List ℕ)) (m m' : MethodCode) (bytes : Insn → List ℕ) (i : Insn) : Type 0 where
  pub insn : IsInsn i
  pub single : IsSingle i
  pub meaning : HasMeaning own methods (operation m.pool m.code.code i) (operation m'.pool m'.code.code i)
  pub written : Written m'.pool m'.code.code (advice_reference a) (chain_of (aspect_of a ∷ []) (operation m.pool m.code.code i)) i (bytes i)

-- ---- the chain

abbrev the_chain : FirstAspect → Advice
the_chain a = record { pointcut = record { class = a.class; method = a.method }; body = PrintLine a.text ∷ [] }

one_of : (a : FirstAspect) (test : Bool) (b : Advice) (rest : List Advice) → cond test (the_chain a ∷ []) [] ≡ b ∷ rest → (rest ≡ []) × (b.body ≡ PrintLine a.text ∷ [])
one_of a true b rest e = let same : the_chain a ≡ b = cc in (cc, ap (λ (b : Advice). b.body) (sym same))
one_of a false b rest e = absurd cc

one_for : (a : FirstAspect) (o : Option Reference) (b : Advice) (rest : List Advice) → chain_for (aspect_of a ∷ []) o ≡ b ∷ rest → (rest ≡ []) × (b.body ≡ PrintLine a.text ∷ [])
one_for a None b rest e = absurd cc
one_for a (Some r) b rest e = one_of a (matches (the_chain a).pointcut r) b rest e

-- ---- a place

-- an instruction at a place, where its method and its bytes are known
pub line_where : (classes : List ClassFile) (p : Place) (m : MethodCode) (i : Insn) (n : ℕ) → method_code classes p.method ≡ Some m → decoded m.code.code p.pc ≡ Ok (i, n) → (class_code classes).line p ≡ operation m.pool m.code.code i
line_where classes p m i n found here = ap (option_and_then (line_at p.pc)) found ∙ ap (operation_of m) here

pub next_where : (classes : List ClassFile) (p : Place) (m : MethodCode) (i : Insn) (n : ℕ) → method_code classes p.method ≡ Some m → decoded m.code.code p.pc ≡ Ok (i, n) → (class_code classes).next p ≡ place_in p.method (p.pc + n)
next_where classes p m i n found here =
    ap (λ (o : Option MethodCode). place_in p.method (next_pc p.pc o)) found ∙ ap (λ (d : Decoded). place_in p.method (p.pc + size_of d)) here

-- both classes find the static method, which has no parameters
pub record Callable (cs cs' : Classes) (r : Reference) : Type 0 where
  pub private : Bool
  pub here : cs.method r ≡ Some (own_found r private)
  pub there : cs'.method r ≡ Some (own_found r private)
  pub parameters : parameters_in r.member.descriptor ≡ []

module _ (a : FirstAspect) (before after : List ClassFile) where
  abbrev old : Code Place
  old = class_code before

  abbrev new : Code Place
  new = class_code after

  abbrev cs : Classes
  cs = class_table before

  abbrev cs' : Classes
  cs' = class_table after

  abbrev aspects : List Aspect
  aspects = aspect_of a ∷ []

  -- what is left of the code at the one place is carried out at the other
  pub record At (p q : Place) : Type 0 where
    pub m : MethodCode
    pub m' : MethodCode
    pub found : method_code before p.method ≡ Some m
    pub found' : method_code after q.method ≡ Some m'
    pub own : List ℕ
    pub methods : List (List ℕ)
    pub apart : own ≢ a.name
    pub called : (r : Reference) → is_own_method own methods r ≡ true → (r.class ≡ own) × Callable (class_table before) (class_table after) r
    pub bytes : Insn → List ℕ
    pub rest : List Insn
    pub carried : AllByRecursion (IsCarried a own methods m m' bytes) rest
    pub stands : drop p.pc m.code.code ≡ flat_map spelling rest
    pub stands' : drop q.pc m'.code.code ≡ flat_map bytes rest

  -- the same, where an instruction is the first of what is left
  record Begins (p q : Place) (op : Operation) : Type 0 where
    m : MethodCode
    m' : MethodCode
    found : method_code before p.method ≡ Some m
    found' : method_code after q.method ≡ Some m'
    own : List ℕ
    methods : List (List ℕ)
    apart : own ≢ a.name
    called : (r : Reference) → is_own_method own methods r ≡ true → (r.class ≡ own) × Callable (class_table before) (class_table after) r
    bytes : Insn → List ℕ
    i : Insn
    rest : List Insn
    here : IsCarried a own methods m m' bytes i
    carried : AllByRecursion (IsCarried a own methods m m' bytes) rest
    stands : drop p.pc m.code.code ≡ spelling i ++ flat_map spelling rest
    stands' : drop q.pc m'.code.code ≡ bytes i ++ flat_map bytes rest
    means : operation m.pool m.code.code i ≡ Some op

  begins : (p q : Place) (op : Operation) → At p q → old.line p ≡ Some op → Begins p q op
  begins p q op at e = go at.rest at.carried at.stands at.stands'
    where
      go : (rest : List Insn) → AllByRecursion (IsCarried a at.own at.methods at.m at.m' at.bytes) rest → drop p.pc at.m.code.code ≡ flat_map spelling rest → drop q.pc at.m'.code.code ≡ flat_map at.bytes rest → Begins p q op
      go [] carried stands stands' =
          let none : old.line p ≡ None = ap (option_and_then (line_at p.pc)) at.found ∙ ap (operation_of at.m) (decoded_end at.m.code.code p.pc stands) in
          let apart = sym none ∙ e in absurd cc
      go (i ∷ rest) carried stands stands' = record {
        m = at.m;
        m' = at.m';
        found = at.found;
        found' = at.found';
        own = at.own;
        methods = at.methods;
        apart = at.apart;
        called = at.called;
        bytes = at.bytes;
        i = i;
        rest = rest;
        here = carried.0;
        carried = carried.1;
        stands = stands;
        stands' = stands';
        means = sym (line_where before p at.m i (length (spelling i)) at.found (decoded_where_spelled at.m.code.code p.pc i (flat_map spelling rest) stands carried.0.insn carried.0.single)) ∙ e;
      }

  module _ (p q : Place) (op : Operation) (x : Begins p q op) where
    abbrev size : ℕ
    size = length (spelling x.i)

    -- the place behind the instruction
    behind : old.next p ≡ place_in p.method (p.pc + size)
    behind = next_where before p x.m x.i size x.found (decoded_where_spelled x.m.code.code p.pc x.i (flat_map spelling x.rest) x.stands x.here.insn x.here.single)

    same_op : operation x.m'.pool x.m'.code.code x.i ≡ Some op
    same_op = let same = sym x.here.meaning.before ∙ x.means in x.here.meaning.after ∙ same

    -- the instruction at a place of the new code, and the one behind it
    module _ (q' : Place) (same : q'.method ≡ q.method) (stands : drop q'.pc x.m'.code.code ≡ spelling x.i ++ flat_map x.bytes x.rest) where
      found_here : method_code after q'.method ≡ Some x.m'
      found_here = ap (method_code after) same ∙ x.found'

      decoded_here : decoded x.m'.code.code q'.pc ≡ Ok (x.i, size)
      decoded_here = decoded_where_spelled x.m'.code.code q'.pc x.i (flat_map x.bytes x.rest) stands x.here.insn x.here.single

      line_here : new.line q' ≡ Some op
      line_here = line_where after q' x.m' x.i size found_here decoded_here ∙ same_op

      next_at : At (place_in p.method (p.pc + size)) (place_in q'.method (q'.pc + size))
      next_at = record {
        m = x.m;
        m' = x.m';
        found = x.found;
        found' = found_here;
        own = x.own;
        methods = x.methods;
        apart = x.apart;
        called = x.called;
        bytes = x.bytes;
        rest = x.rest;
        carried = x.carried;
        stands = drop_behind x.m.code.code p.pc (spelling x.i) (flat_map spelling x.rest) x.stands;
        stands' = drop_behind x.m'.code.code q'.pc (spelling x.i) (flat_map x.bytes x.rest) stands;
      }

      next_here : At (old.next p) (new.next q')
      next_here = subst₂ At (sym behind) (sym (next_where after q' x.m' x.i size found_here decoded_here)) next_at

    kept : chain_of aspects (Some op) ≡ [] → IsKept At old new cs cs' p q op
    kept none =
        let written : x.bytes x.i ≡ spelling x.i =
        subst (λ (chain : List Advice). Written x.m'.pool x.m'.code.code (advice_reference a) chain x.i (x.bytes x.i)) (ap (chain_of aspects) x.means ∙ none) x.here.written in
        let stands = x.stands' ∙ ap (λ l. l ++ flat_map x.bytes x.rest) written in
        record { line = line_here q refl stands; next = next_here q refl stands }

    advised : (b : Advice) (rest : List Advice) → chain_of aspects (Some op) ≡ b ∷ rest → IsAdvised At old new cs cs' (advice_reference a) a.text p q op b rest
    advised b rest some =
        let written : CallsBefore x.m'.pool x.m'.code.code (advice_reference a) x.i (x.bytes x.i) =
        subst (λ (chain : List Advice). Written x.m'.pool x.m'.code.code (advice_reference a) chain x.i (x.bytes x.i)) (ap (chain_of aspects) x.means ∙ some) x.here.written in
        let first : drop q.pc x.m'.code.code ≡ spelling written.call ++ (spelling x.i ++ flat_map x.bytes x.rest) =
        x.stands' ∙ ap (λ l. l ++ flat_map x.bytes x.rest) written.spelled ∙ append_assoc (spelling written.call) (spelling x.i) (flat_map x.bytes x.rest) in
        let n = length (spelling written.call) in
        let here = decoded_where_spelled x.m'.code.code q.pc written.call (spelling x.i ++ flat_map x.bytes x.rest) first written.insn written.single in
        let second : Place = place_in q.method (q.pc + n) in
        let stands : drop second.pc x.m'.code.code ≡ spelling x.i ++ flat_map x.bytes x.rest =
        drop_behind x.m'.code.code q.pc (spelling written.call) (spelling x.i ++ flat_map x.bytes x.rest) first in
        let next : new.next q ≡ second = next_where after q x.m' written.call n x.found' here in
        let one = one_for a (call_at op) b rest some in
        record {
          single = one.0;
          body = one.1;
          call = line_where after q x.m' written.call n x.found' here ∙ written.means;
          line = ap new.line next ∙ line_here second refl stands;
          next = subst (λ (q' : Place). At (old.next p) (new.next q')) (sym next) (next_here second refl stands);
        }

  -- what is called is found in both
  module _ (looks : (r : Reference) → r.class ≢ a.name → SameEntry At (old.method r) (new.method r)) where
    calls_same : (own : List ℕ) (methods : List (List ℕ)) → own ≢ a.name → ((r : Reference) → is_own_method own methods r ≡ true → (r.class ≡ own) × Callable cs cs' r) → (form : Form) → CallsKnown own methods form → CallsSame At old new cs cs' form
    calls_same own methods apart called Nothing known = tt
    calls_same own methods apart called (Text units) known = tt
    calls_same own methods apart called Output known = tt
    calls_same own methods apart called Prints known = tt
    calls_same own methods apart called (Calls r) known =
        let c = called r known in
        record { private = c.1.private; here = c.1.here; there = c.1.there; parameters = c.1.parameters; entry = looks r (λ same. apart (sym c.0 ∙ same)) }
    calls_same own methods apart called Back known = tt

    has_form : (p q : Place) (op : Operation) → Begins p q op → HasForm At old new cs cs' op
    has_form p q op x = record {
      form = x.here.meaning.form;
      means = same_Some op (meaning x.here.meaning.form) (sym x.means ∙ x.here.meaning.before);
      calls = calls_same x.own x.methods x.apart x.called x.here.meaning.form x.here.meaning.calls;
    }

    pub carries : Speaks At old new cs cs' (advice_reference a) a.text → Carries At old new cs cs' aspects (advice_reference a) a.text
    carries speaks = record {
      forms = λ p q op at e. has_form p q op (begins p q op at e);
      kept = λ p q op at e none. kept p q op (begins p q op at e) none;
      advised = λ p q op b rest at e some. advised p q op (begins p q op at e) b rest some;
      speaks = speaks;
    }
