-- The walk over a method's code.
use Rattle.std.proofs.Common.{◌≡◌, ℕ, zero, suc, ◌+◌, ◌<◌, ◌≤◌, Bool, true, false, eqb, not, ◌||◌, List, [], ◌∷◌, ◌++◌, length, length-append, get_or, take, drop, Ok, Err, refl, sym, ap, subst, ◌∙◌, append_assoc, arith, ⊎_elim, rules}
use Rattle.std.specs.Prelude.{IsOk}
use Rattle.std.specs.List.{list_any, flat_map, Any, AllZip, AllByRecursion}
use Rattle.std.proofs.lemmas.List.{take_more, take_all}
use Rattle.std.proofs.lemmas.List.Quantifiers.{Any-push}
use Rattle.std.proofs.lemmas.List.Elements.{All-more, all_zip_more}
use Rattle.std.proofs.Math.Seq.{take-length}
use Rattle.std.proofs.lemmas.Bool.{eqb-true, and_parts, or_cases}
use Rattle.std.proofs.lemmas.List.Concat.{flat_map-append}
use Rattle.std.proofs.lemmas.List.Folds.{list_any-append}
use Rattle.opcode_table.specs.declared.insn.Insn.{Insn}
use Rattle.opcode_table.specs.declared.insn.Insn.TheVariants as insn
use Rattle.std.specs.Int.{w16, to_be_bytes}
use Rattle.opcode_table.specs.Table.{opcode}
use Rattle.opcode_table.specs.Decoding.{Decoded, decoded}
use Rattle.opcode_table.specs.Spelling.{spelling, IsInsn, IsSingle, Stands}
use Rattle.class_file.specs.declared.types.Member.{Member}
use Rattle.class_file.specs.FirstForm.{insns_pass, step_passes}
use Rattle.woven_calls.specs.Woven.{unless}
use Rattle.before_weave.specs.Marks.{is_advised}
use Rattle.before_weave.specs.Walk.{has_no_table, marked_insn, IsMarkedCode, IsMarkedMethod, HasCalls, HaveCalls, AreMarkedMethods}

-- ---- one instruction's bytes

pub put_one : (b : Bool) (old mid new call bytes : List ℕ) → b ≡ true → mid ≡ old ++ call → new ≡ mid ++ bytes → new ≡ old ++ (unless (not b) call ++ bytes)
put_one true old mid new call bytes e m n = n ∙ ap (λ t. t ++ bytes) m ∙ append_assoc old call bytes
put_one false old mid new call bytes e m n = absurd cc

pub put_none : (b : Bool) (old new call bytes : List ℕ) → b ≡ false → new ≡ old ++ bytes → new ≡ old ++ (unless (not b) call ++ bytes)
put_none false old new call bytes e n = n
put_none true old new call bytes e n = absurd cc

call_spelling : (index : ℕ) → spelling (insn.Pool 184 index) ≡ 184 ∷ to_be_bytes w16 index
unfolding spelling opcode
call_spelling index = refl

pub put_call : (index : ℕ) (old mid new bytes : List ℕ) → bytes ≡ to_be_bytes w16 index → mid ≡ old ++ 184 ∷ [] → new ≡ mid ++ bytes → new ≡ old ++ spelling (insn.Pool 184 index)
put_call index old mid new bytes b m n = n ∙ ap (λ t. mid ++ t) b ∙ ap (λ t. t ++ to_be_bytes w16 index) m ∙ append_assoc old (184 ∷ []) (to_be_bytes w16 index) ∙ ap (λ t. old ++ t) (sym (call_spelling index))

-- ---- a list and one more

pub each_more : {X : Type 0} (P : X → Type 0) (xs : List X) (x : X) → AllByRecursion P xs → P x → AllByRecursion P (xs ++ x ∷ [])
each_more P [] x h p = (p, tt)
each_more P (y ∷ ys) x h p = (h.0, each_more P ys x h.1 p)

append_nil : (xs : List ℕ) → xs ++ [] ≡ xs
append_nil [] = refl
append_nil (x ∷ xs) = ap (λ l. x ∷ l) (append_nil xs)

pub flat_more : {X : Type 0} (f : X → List ℕ) (xs : List X) (x : X) → flat_map f (xs ++ x ∷ []) ≡ flat_map f xs ++ f x
flat_more f xs x = flat_map-append f xs (x ∷ []) ∙ ap (λ t. flat_map f xs ++ t) (append_nil (f x))

or_false : (b : Bool) → (b || false) ≡ b
or_false true = refl
or_false false = refl

pub any_more : {X : Type 0} (p : X → Bool) (xs : List X) (x : X) → list_any p (xs ++ x ∷ []) ≡ (list_any p xs || p x)
any_more p xs x = list_any-append p xs (x ∷ []) ∙ ap (λ t. list_any p xs || t) (or_false (p x))

abbrev nothing : List ℕ
nothing = []

take_none : (k : ℕ) → take k (nothing) ≡ nothing
take_none zero = refl
take_none (suc k) = refl

pub take_further : (n m : ℕ) (xs : List ℕ) → take (n + m) xs ≡ take n xs ++ take m (drop n xs)
take_further zero m xs = let e : 0 + m ≡ m = omega arith in ap (λ k. take k xs) e
take_further (suc n) m [] = take_none (suc n + m) ∙ sym (take_none m)
take_further (suc n) m (x ∷ xs) =
    let e : suc n + m ≡ suc (n + m) = omega arith in
    ap (λ k. take k (x ∷ xs)) e ∙ ap (λ l. x ∷ l) (take_further n m xs)

-- ---- the code is decoded to its end

module _ (test : Insn → Bool) (code : List ℕ) where
  step_ok : (next : ℕ → Bool) (pc : ℕ) (d : Decoded) → step_passes test next pc d ≡ true → IsOk d
  step_ok next pc (Ok x) h = search rules
  step_ok next pc (Err fault) h = absurd cc

  pub passes_ok : (turns pc : ℕ) → insns_pass test code turns pc ≡ true → pc < length code → IsOk (decoded code pc)
  passes_ok zero pc h lt = let e = eqb-true pc (length code) h in absurd (omega arith)
  passes_ok (suc turns) pc h lt =
      ⊎_elim (λ e. let is = eqb-true pc (length code) e in absurd (omega arith)) (λ s. step_ok (insns_pass test code turns) pc (decoded code pc) s)
      (or_cases (eqb pc (length code)) (step_passes test (insns_pass test code turns) pc (decoded code pc)) h)

  pub passes_next : (turns pc : ℕ) (x : Insn × ℕ) → insns_pass test code turns pc ≡ true → pc < length code → decoded code pc ≡ Ok x → (rest : ℕ) × (test x.0 ≡ true) × (insns_pass test code rest (pc + x.1) ≡ true)
  passes_next zero pc x h lt e = let is = eqb-true pc (length code) h in absurd (omega arith)
  passes_next (suc turns) pc x h lt e =
      ⊎_elim (λ e'. let is = eqb-true pc (length code) e' in absurd (omega arith))
      (λ s. let s' : step_passes test (insns_pass test code turns) pc (Ok x) ≡ true = subst (λ (d : Decoded). step_passes test (insns_pass test code turns) pc d ≡ true) e s in
      let both = and_parts (test x.0) (insns_pass test code turns (pc + x.1)) s' in (turns, both.0, both.1))
      (or_cases (eqb pc (length code)) (step_passes test (insns_pass test code turns) pc (decoded code pc)) h)

pub single_where : (i : Insn) → has_no_table i ≡ true → IsSingle i
single_where (insn.TableSwitch table) h = absurd cc
single_where (insn.LookupSwitch table) h = absurd cc
single_where _ h = tt

-- ---- the walk

-- the code up to pc was walked
pub record Walked (marks : List Bool) (index : ℕ) (code : List ℕ) (pc : ℕ) (bytes : List ℕ) (advised : Bool) : Type 0 where
  pub insns : List Insn
  pub single : AllByRecursion (λ i. IsInsn i × IsSingle i) insns
  pub before : take pc code ≡ flat_map spelling insns
  pub after : bytes ≡ flat_map (marked_insn marks index) insns
  pub any : advised ≡ list_any (is_advised marks) insns
  pub turns : ℕ
  pub passes : insns_pass has_no_table code turns pc ≡ true
  pub within : pc ≤ length code

pub walk_begins : (marks : List Bool) (index : ℕ) (code bytes : List ℕ) → insns_pass has_no_table code (length code) 0 ≡ true → bytes ≡ [] → Walked marks index code 0 bytes false
walk_begins marks index code bytes h e = record { insns = []; single = tt; before = refl; after = e; any = refl; turns = length code; passes = h; within = omega arith }

pub walk_goes_on : (marks : List Bool) (index : ℕ) (code : List ℕ) (pc : ℕ) (bytes bytes' : List ℕ) (advised advised' : Bool) (x : Insn × ℕ)
    → Walked marks index code pc bytes advised → pc < length code → decoded code pc ≡ Ok x → Stands code pc x.0 x.1
    → bytes' ≡ bytes ++ marked_insn marks index x.0 → advised' ≡ (advised || is_advised marks x.0) → Walked marks index code (pc + x.1) bytes' advised'
walk_goes_on marks index code pc bytes bytes' advised advised' x w lt e s b a =
    let next = passes_next has_no_table code w.turns pc x w.passes lt e in
    let one = single_where x.0 next.1 in
    record {
      insns = w.insns ++ x.0 ∷ [];
      single = each_more (λ i. IsInsn i × IsSingle i) w.insns x.0 w.single (s.valid, one);
      before = take_further pc x.1 code ∙ ap (λ t. t ++ take x.1 (drop pc code)) w.before ∙ ap (λ t. flat_map spelling w.insns ++ t) (s.spelled one) ∙ sym (flat_more spelling w.insns x.0);
      after = b ∙ ap (λ t. t ++ marked_insn marks index x.0) w.after ∙ sym (flat_more (marked_insn marks index) w.insns x.0);
      any = a ∙ ap (λ t. t || is_advised marks x.0) w.any ∙ sym (any_more (is_advised marks) w.insns x.0);
      turns = next.0;
      passes = next.2;
      within = s.within;
    }

pub walk_ends : (marks : List Bool) (index : ℕ) (code : List ℕ) (pc : ℕ) (bytes : List ℕ) (advised : Bool) → Walked marks index code pc bytes advised → length code ≤ pc → IsMarkedCode marks index code bytes advised
walk_ends marks index code pc bytes advised w le =
    let within = w.within in
    let n : pc ≡ length code = omega arith in
    record {
      insns = w.insns;
      single = w.single;
      before = sym (take-length code) ∙ ap (λ k. take k code) (sym n) ∙ w.before;
      after = w.after;
      any = w.any;
    }

-- the bytes of the instruction at pc
pub walk_spells : (marks : List Bool) (index : ℕ) (code : List ℕ) (pc : ℕ) (bytes : List ℕ) (advised : Bool) (x : Insn × ℕ) (n : ℕ)
    → Walked marks index code pc bytes advised → pc < length code → decoded code pc ≡ Ok x → Stands code pc x.0 x.1 → n ≡ x.1 → take n (drop pc code) ≡ spelling x.0
walk_spells marks index code pc bytes advised x n w lt e s is =
    ap (λ k. take k (drop pc code)) is ∙ s.spelled (single_where x.0 (passes_next has_no_table code w.turns pc x w.passes lt e).1)

-- ---- the methods so far

get_left : {X : Type 0} (xs ys : List X) (k : ℕ) (d : X) → k < length xs → get_or (xs ++ ys) k d ≡ get_or xs k d
get_left [] ys k d lt = absurd (omega arith)
get_left (x ∷ xs) ys zero d lt = refl
get_left (x ∷ xs) ys (suc k) d lt = get_left xs ys k d (omega arith)

any_left : {X : Type 0} (P : X → Type 0) (xs ys : List X) → Any P xs → Any P (xs ++ ys)
any_left P xs ys (k, x, lt, at, p) = (k, x, omega (arith, length-append xs ys), get_left xs ys k x lt ∙ at, p)

have_more : (marks : List Bool) (methods : List Member) (i : ℕ) (m : Member) (before now : Bool) → i < length methods → m ≡ get_or methods i m → HaveCalls marks before (take i methods) → HasCalls marks now m → HaveCalls marks (before || now) (take (i + 1) methods)
have_more marks methods i m true now lt at h calls =
    subst (λ (l : List Member). Any (HasCalls marks true) l) (sym (take_more methods i m lt)) (any_left (HasCalls marks true) (take i methods) (get_or methods i m ∷ []) h)
have_more marks methods i m false true lt at h calls =
    subst (λ (l : List Member). Any (HasCalls marks true) l) (sym (take_more methods i m lt))
    (Any-push (HasCalls marks true) (take i methods) (get_or methods i m) (subst (λ (x : Member). HasCalls marks true x) at calls))
have_more marks methods i m false false lt at h calls =
    All-more (HasCalls marks false) methods i m lt h (subst (λ (x : Member). HasCalls marks false x) at calls)

pub marked_more : (marks : List Bool) (index : ℕ) (methods members members' : List Member) (i : ℕ) (m member : Member) (before now after : Bool) → i < length methods → m ≡ get_or methods i m
    → AreMarkedMethods marks index (take i methods) members before → IsMarkedMethod marks index m member → HasCalls marks now m → members' ≡ members ++ member ∷ [] → after ≡ (before || now)
    → AreMarkedMethods marks index (take (i + 1) methods) members' after
marked_more marks index methods members members' i m member before now after lt at made one calls more is = record {
  each = subst (λ (l : List Member). AllZip (IsMarkedMethod marks index) (take (i + 1) methods) l) (sym more) (all_zip_more (IsMarkedMethod marks index) methods members i m member lt at made.each one);
  any = subst (λ (b : Bool). HaveCalls marks b (take (i + 1) methods)) (sym is) (have_more marks methods i m before now lt at made.any calls);
}

pub or_then : (a b r : Bool) → a ≡ true → r ≡ true → r ≡ (a || b)
or_then true b r e f = f
or_then false b r e f = absurd cc

pub or_else : (a b r : Bool) → a ≡ false → r ≡ b → r ≡ (a || b)
or_else false b r e f = f
or_else true b r e f = absurd cc

pub marked_all : (marks : List Bool) (index : ℕ) (methods members : List Member) (i : ℕ) (advised : Bool) → length methods ≤ i → AreMarkedMethods marks index (take i methods) members advised → AreMarkedMethods marks index methods members advised
marked_all marks index methods members i advised le made = subst (λ (l : List Member). AreMarkedMethods marks index l members advised) (take_all i methods le) made
