-- The instruction of an operation (JVMS 6.4), and that the bytes of one that is no switch spell it.
use Rattle.std.proofs.Common.{◌≡◌, ℕ, ◌^◌, ◌<◌, ◌≤◌, Bool, true, false, not, ◌&&◌, ◌||◌, List, [], ◌∷◌, ◌++◌, length, Option, Some, None, refl, sym, ap, subst, ◌∙◌, arith, inl, inr, ⊎_elim, ℤ}
use Rattle.std.specs.Prelude.{if◌then◌else◌, ◌==◌, nat_lt, nat_le, min, is_some}
use Rattle.std.proofs.lemmas.Bool.{and_parts, and_from, or_cases, or_right, leb-true, le-leb, ltb-true, ltb-false, lt-ltb, eqb-true, eqb-false, cases_Bool, cond-false}
use Rattle.opcode_table.specs.declared.insn.Insn.{Insn}
use Rattle.opcode_table.specs.declared.form.Form.{Form}
use Rattle.opcode_table.specs.Table.{form_of, opcode}
use Rattle.opcode_table.specs.Decoding.{each_below}
use Rattle.opcode_table.specs.Each.{at_each}
use Rattle.opcode_table.specs.Spelling.{spelling, u2_bytes, s2_bytes, s4_bytes, local_bytes, increment_bytes, pool_bytes, branch_bytes, FitsLocal, FitsIncrement, FitsPool, FitsBranch, IsInsn, IsSingle}
use Rattle.class_file.specs.Text.{within, dimensions}
use Rattle.class_lines.specs.declared.line.Operation.{Operation}
use Rattle.class_lines.specs.declared.line.Constant.{Constant}
use Rattle.class_lines.specs.Words.{Text, fits}
use Rattle.class_lines.specs.Lines.{is_integer, is_constant, of_form, has_form, is_plain_form, is_local_form, is_branch_form, is_class_op, is_operation}
use Rattle.class_lines.proofs.LineForms.{member_form, class_form, multi_form}
use Rattle.class_text.specs.declared.numbered.Numbered.{Numbered}
use Rattle.class_text.specs.Labels.{is_wide_increment, is_wide_form, place_of, has_label, distance, leads_well, size_at}
use Rattle.class_text.specs.Bytes as bytes
use Rattle.class_text.specs.Bytes.{argument_slots, operation_bytes, fitting}
use Rattle.class_text.specs.Pool.{takes_few}
use Rattle.class_text.specs.Meaning.{member_insn, insn_of}
use Rattle.class_text.proofs.Numbers.{fits_1, fits_2, fits_4, fitting_is, way_is}

-- the index, of two bytes, and of one where the instruction has one; a call of an interface's method counts few slots
abbrev pub HasIndex : ℕ → Operation → Type 0
HasIndex index (Operation.Constant op constant) = (index < 2 ^ 16) × (op ≡ 18 → index ≤ 255)
HasIndex index (Operation.Member op class name descriptor) = (index < 2 ^ 16) × (takes_few op descriptor ≡ true)
HasIndex index operation = index < 2 ^ 16

-- each label of the lines stands where a place has two bytes
pub record AreNear (body : List Numbered) : Type 0 where
  pub near : (name : Text) (to : ℕ) → place_of name 0 body ≡ Some to → to ≤ 65535

-- ---- forms

plain_form : (f : Option Form) → of_form is_plain_form f ≡ true → f ≡ Some Form.Plain
plain_form (Some Form.Plain) h = refl
plain_form _ h = absurd cc

local_form : (f : Option Form) → of_form is_local_form f ≡ true → f ≡ Some Form.Local
local_form (Some Form.Local) h = refl
local_form _ h = absurd cc

abbrev is_pool_form : Option Form → Bool
is_pool_form (Some Form.Pool) = true
is_pool_form _ = false

pool_form : (f : Option Form) → is_pool_form f ≡ true → f ≡ Some Form.Pool
pool_form (Some Form.Pool) h = refl
pool_form _ h = absurd cc

-- opcodes with an index of two bytes and not_call more
abbrev takes_index : ℕ → Bool
takes_index op = within 178 185 op || (op == 187 || (op == 189 || within 192 194 op))

walk : each_below 202 (λ op. not (takes_index op) || is_pool_form (form_of op)) ≡ true
unfolding opcode
walk = refl

index_form : (op : ℕ) → op < 202 → takes_index op ≡ true → form_of op ≡ Some Form.Pool
index_form op lt h =
    let e : (not (takes_index op) || is_pool_form (form_of op)) ≡ true = at_each (λ op. not (takes_index op) || is_pool_form (form_of op)) 202 op lt walk in
    pool_form (form_of op) (ap (λ (b : Bool). not b || is_pool_form (form_of op)) (sym h) ∙ e)

-- ---- what is spelled

pub record Spelled (body : List Numbered) (pc index : ℕ) (operation : Operation) : Type 0 where
  pub bytes : operation_bytes body pc index operation ≡ spelling (insn_of body pc index operation)
  pub valid : IsInsn (insn_of body pc index operation)
  pub single : IsSingle (insn_of body pc index operation)
  pub size : length (operation_bytes body pc index operation) ≡ size_at pc operation

-- it is no switch
abbrev pub IsNoSwitch : Operation → Type 0
IsNoSwitch (Operation.TableSwitch low labels default) = ⊥
IsNoSwitch (Operation.LookupSwitch cases default) = ⊥
IsNoSwitch operation = Unit {0}

local_fits : (index : ℕ) (wide : Bool) → nat_lt 255 index ≡ wide → index ≤ 65535 → FitsLocal (Some Form.Local) index wide
local_fits index true h le = omega arith
local_fits index false h le = let small = ltb-false 255 index h in omega arith

local_size : (op index : ℕ) (wide : Bool) → length (local_bytes op index wide) ≡ (if wide then 4 else 2)
local_size op index true = refl
local_size op index false = refl

increment_fits : (index : ℕ) (by : ℤ) (large far : Bool) → nat_lt 255 index ≡ large → is_integer 127 by ≡ far → index ≤ 65535 → is_integer 32767 by ≡ true → FitsIncrement index by (large || not far)
increment_fits index by true far h k le fits = (omega arith, fits_2 by fits)
increment_fits index by false true h k le fits = (let small = ltb-false 255 index h in omega arith, fits_1 by k)
increment_fits index by false false h k le fits = (omega arith, fits_2 by fits)

increment_size : (index : ℕ) (by : ℤ) (wide : Bool) → length (increment_bytes index by wide) ≡ (if wide then 6 else 3)
increment_size index by true = refl
increment_size index by false = refl

ldc_spelled : (body : List Numbered) (pc index : ℕ) (c : Constant) → index ≤ 255 → Spelled body pc index (Operation.Constant 18 c)
unfolding spelling opcode
ldc_spelled body pc index c le =
    let e : min index 255 ≡ index = omega arith in
    record { bytes = ap (λ (n : ℕ). 18 ∷ n ∷ []) e; valid = let lt : index < 256 = omega arith in lt; single = tt; size = refl }

ldc_w_spelled : (body : List Numbered) (pc index : ℕ) (c : Constant) → index < 2 ^ 16 → Spelled body pc index (Operation.Constant 19 c)
unfolding spelling opcode
ldc_w_spelled body pc index c lt = record { bytes = refl; valid = lt; single = tt; size = refl }

long_spelled : (body : List Numbered) (pc index : ℕ) (n : ℤ) → index < 2 ^ 16 → Spelled body pc index (Operation.Long n)
unfolding spelling opcode
long_spelled body pc index n lt = record { bytes = refl; valid = lt; single = tt; size = refl }

double_spelled : (body : List Numbered) (pc index bits : ℕ) → index < 2 ^ 16 → Spelled body pc index (Operation.Double bits)
unfolding spelling opcode
double_spelled body pc index bits lt = record { bytes = refl; valid = lt; single = tt; size = refl }

-- an index of two bytes behind an opcode
index_bytes : (op index : ℕ) → form_of op ≡ Some Form.Pool → op ∷ u2_bytes index ≡ spelling (Insn.Pool op index)
unfolding spelling
index_bytes op index is = ap (λ (f : Option Form). op ∷ pool_bytes f index) (sym is)

index_valid : (op index : ℕ) → form_of op ≡ Some Form.Pool → index < 2 ^ 16 → IsInsn (Insn.Pool op index)
index_valid op index is lt = subst (λ (f : Option Form). FitsPool f index) (sym is) lt

class_spelled : (body : List Numbered) (pc index op : ℕ) (class : Text) → form_of op ≡ Some Form.Pool → index < 2 ^ 16 → Spelled body pc index (Operation.Class op class)
class_spelled body pc index op class is lt = record { bytes = index_bytes op index is; valid = index_valid op index is lt; single = tt; size = refl }

interface_spelled : (body : List Numbered) (pc index : ℕ) (class name descriptor : Text) → index < 2 ^ 16 → argument_slots descriptor ≤ 255 → Spelled body pc index (Operation.Member 185 class name descriptor)
unfolding spelling
interface_spelled body pc index class name descriptor lt few =
    let e : min (argument_slots descriptor) 255 ≡ argument_slots descriptor = omega arith in
    record { bytes = ap (λ (n : ℕ). 185 ∷ u2_bytes index ++ n ∷ 0 ∷ []) e; valid = (lt, (let small : argument_slots descriptor < 256 = omega arith in small), (let zero_fits : 0 < 256 = omega arith in zero_fits)); single = tt; size = refl }

member_spelled : (body : List Numbered) (pc index op : ℕ) (class name descriptor : Text) → (op == 185) ≡ false → form_of op ≡ Some Form.Pool → index < 2 ^ 16 → Spelled body pc index (Operation.Member op class name descriptor)
member_spelled body pc index op class name descriptor other is lt =
    let not_call : member_insn op index descriptor ≡ Insn.Pool op index = cond-false (op == 185) (Insn.Interface index (argument_slots descriptor) 0) (Insn.Pool op index) other in
    let none : bytes.count_bytes op descriptor ≡ [] = cond-false (op == 185) (min (argument_slots descriptor) 255 ∷ 0 ∷ []) [] other in
    let here : operation_bytes body pc index (Operation.Member op class name descriptor) ≡ op ∷ u2_bytes index = ap (λ (l : List ℕ). op ∷ u2_bytes index ++ l) none in
    record {
      bytes = here ∙ index_bytes op index is ∙ ap spelling (sym not_call);
      valid = subst IsInsn (sym not_call) (index_valid op index is lt);
      single = subst IsSingle (sym not_call) tt;
      size = ap length here ∙ sym (cond-false (op == 185) 5 3 other);
    }

any_member_spelled : (body : List Numbered) (pc index op : ℕ) (class name descriptor : Text) → 178 ≤ op → op < 186 → index < 2 ^ 16 → takes_few op descriptor ≡ true → Spelled body pc index (Operation.Member op class name descriptor)
any_member_spelled body pc index op class name descriptor low high lt few =
    elim (cases_Bool (op == 185)) [
      | inl is ↦
          let e : 185 ≡ op = sym (eqb-true op 185 is) in
          let slots : (nat_lt 185 185 || nat_le (argument_slots descriptor) 255) ≡ true = ap (λ (n : ℕ). nat_lt n 185 || nat_le (argument_slots descriptor) 255) e ∙ few in
          subst (λ (n : ℕ). Spelled body pc index (Operation.Member n class name descriptor)) e (interface_spelled body pc index class name descriptor lt (leb-true (argument_slots descriptor) 255 slots))
      | inr other ↦
          let ne = eqb-false op 185 other in
          let below : within 178 185 op ≡ true = and_from (nat_le 178 op) (nat_lt op 185) (le-leb 178 op low) (lt-ltb op 185 (omega arith)) in
          member_spelled body pc index op class name descriptor other (index_form op (omega arith) (ap (λ (b : Bool). b || (op == 187 || (op == 189 || within 192 194 op))) below)) lt
    ]

-- a label that is there is near
there : (body : List Numbered) (pc : ℕ) (o : Option ℕ) → is_some o ≡ true → pc ≤ 65535 → ((to : ℕ) → o ≡ Some to → to ≤ 65535) → is_integer 2147483647 (distance pc o) ≡ true
there body pc None h le near = absurd cc
there body pc (Some to) h le near = way_is pc to le (near to refl)

pub reaches : (body : List Numbered) (pc : ℕ) (to : Text) → pc ≤ 65535 → AreNear body → has_label body to ≡ true → is_integer 2147483647 (distance pc (place_of to 0 body)) ≡ true
reaches body pc to le near h = there body pc (place_of to 0 body) h le (near.near to)

branch_spelled : (body : List Numbered) (pc index op : ℕ) (to : Text) (f : Option Form) → form_of op ≡ f → of_form is_branch_form f ≡ true → pc ≤ 65535 → AreNear body
    → (has_label body to && (is_wide_form f || is_integer 32767 (distance pc (place_of to 0 body)))) ≡ true → Spelled body pc index (Operation.Branch op to)
unfolding spelling
branch_spelled body pc index op to (Some Form.Branch) is h le near leads =
    let d : ℤ = distance pc (place_of to 0 body) in
    let p = and_parts (has_label body to) (is_integer 32767 d) leads in
    record {
      bytes = ap (λ (f : Option Form). op ∷ bytes.branch_bytes body pc to (is_wide_form f)) is ∙ ap (λ (z : ℤ). op ∷ s2_bytes z) (fitting_is 32767 d p.1) ∙ sym (ap (λ (f : Option Form). op ∷ branch_bytes f d) is);
      valid = subst (λ (f : Option Form). FitsBranch f d) (sym is) (fits_2 d p.1);
      single = tt;
      size = ap (λ (f : Option Form). length (op ∷ bytes.branch_bytes body pc to (is_wide_form f))) is ∙ sym (ap (λ (f : Option Form). if is_wide_form f then 5 else 3) is);
    }
branch_spelled body pc index op to (Some Form.WideBranch) is h le near leads =
    let d : ℤ = distance pc (place_of to 0 body) in
    let p = and_parts (has_label body to) true leads in
    let small : is_integer 2147483647 d ≡ true = reaches body pc to le near p.0 in
    record {
      bytes = ap (λ (f : Option Form). op ∷ bytes.branch_bytes body pc to (is_wide_form f)) is ∙ ap (λ (z : ℤ). op ∷ s4_bytes z) (fitting_is 2147483647 d small) ∙ sym (ap (λ (f : Option Form). op ∷ branch_bytes f d) is);
      valid = subst (λ (f : Option Form). FitsBranch f d) (sym is) (fits_4 d small);
      single = tt;
      size = ap (λ (f : Option Form). length (op ∷ bytes.branch_bytes body pc to (is_wide_form f))) is ∙ sym (ap (λ (f : Option Form). if is_wide_form f then 5 else 3) is);
    }
branch_spelled body pc index op to _ is h le near leads = absurd cc

class_opcode : (op : ℕ) (class : Text) → is_class_op op class ≡ true → (op < 202) × (takes_index op ≡ true)
class_opcode op class h =
    ⊎_elim
    (λ (e : (op == 187) ≡ true). let is = eqb-true op 187 e in subst (λ (n : ℕ). (n < 202) × (takes_index n ≡ true)) (sym is) (omega arith, refl))
    (λ rest. ⊎_elim
    (λ (f : (op == 189 && nat_lt (dimensions class) 255) ≡ true). let is = eqb-true op 189 (and_parts (op == 189) (nat_lt (dimensions class) 255) f).0 in subst (λ (n : ℕ). (n < 202) × (takes_index n ≡ true)) (sym is) (omega arith, refl))
    (λ (f : within 192 194 op ≡ true). let p = and_parts (nat_le 192 op) (nat_lt op 194) f in let lt = ltb-true op 194 p.1 in
    (omega arith, or_right (within 178 185 op) (op == 187 || (op == 189 || within 192 194 op)) (or_right (op == 187) (op == 189 || within 192 194 op) (or_right (op == 189) (within 192 194 op) f))))
    (or_cases (op == 189 && nat_lt (dimensions class) 255) (within 192 194 op) rest))
    (or_cases (op == 187) ((op == 189 && nat_lt (dimensions class) 255) || within 192 194 op) h)

-- The bytes of an operation that is no switch spell its instruction.
pub operation_spelled : (body : List Numbered) (pc index : ℕ) (o : Operation) → is_operation o ≡ true → leads_well body pc o ≡ true → HasIndex index o → pc ≤ 65535 → AreNear body → IsNoSwitch o → Spelled body pc index o
unfolding spelling
operation_spelled body pc index (Operation.Plain op) h leads has le near single =
    record { bytes = refl; valid = plain_form (form_of op) (and_parts (nat_lt op 202) (of_form is_plain_form (form_of op)) h).1; single = tt; size = refl }
operation_spelled body pc index (Operation.Bipush value) h leads has le near single = record { bytes = refl; valid = fits_1 value h; single = tt; size = refl }
operation_spelled body pc index (Operation.Sipush value) h leads has le near single = record { bytes = refl; valid = fits_2 value h; single = tt; size = refl }
operation_spelled body pc index (Operation.Local op local) h leads has le near single =
    let p = and_parts (has_form op is_local_form) (nat_le local 65535) h in
    let q = and_parts (nat_lt op 202) (of_form is_local_form (form_of op)) p.0 in
    record {
      bytes = refl;
      valid = subst (λ (f : Option Form). FitsLocal f local (nat_lt 255 local)) (sym (local_form (form_of op) q.1)) (local_fits local (nat_lt 255 local) refl (leb-true local 65535 p.1));
      single = tt;
      size = local_size op local (nat_lt 255 local);
    }
operation_spelled body pc index (Operation.Iinc local by) h leads has le near single =
    let p = and_parts (nat_le local 65535) (is_integer 32767 by) h in
    record {
      bytes = refl;
      valid = increment_fits local by (nat_lt 255 local) (is_integer 127 by) refl refl (leb-true local 65535 p.0) p.1;
      single = tt;
      size = increment_size local by (is_wide_increment local by);
    }
operation_spelled body pc index (Operation.Constant op constant) h leads has le near single =
    let p = and_parts (op == 18 || op == 19) (is_constant constant) h in
    ⊎_elim
    (λ (e : (op == 18) ≡ true). let is = eqb-true op 18 e in subst (λ (n : ℕ). Spelled body pc index (Operation.Constant n constant)) (sym is) (ldc_spelled body pc index constant (has.1 is)))
    (λ (e : (op == 19) ≡ true). subst (λ (n : ℕ). Spelled body pc index (Operation.Constant n constant)) (sym (eqb-true op 19 e)) (ldc_w_spelled body pc index constant has.0))
    (or_cases (op == 18) (op == 19) p.0)
operation_spelled body pc index (Operation.Long n) h leads has le near single = long_spelled body pc index n has
operation_spelled body pc index (Operation.Double bits) h leads has le near single = double_spelled body pc index bits has
operation_spelled body pc index (Operation.Member op class name descriptor) h leads has le near single =
    let p = (member_form op class name descriptor h).type in
    any_member_spelled body pc index op class name descriptor (⊎_elim (λ f. f.0) (λ m. let low = m.0 in omega arith) p) (⊎_elim (λ f. let high = f.1 in omega arith) (λ m. m.1) p) has.0 has.1
operation_spelled body pc index (Operation.Class op class) h leads has le near single =
    let r = class_opcode op class (class_form op class h).1 in
    class_spelled body pc index op class (index_form op r.0 r.1) has
operation_spelled body pc index (Operation.NewArray code) h leads has le near single =
    let p = and_parts (nat_le 4 code) (nat_lt code 12) h in
    let lt = ltb-true code 12 p.1 in
    record { bytes = refl; valid = (let small : code < 256 = omega arith in small); single = tt; size = refl }
operation_spelled body pc index (Operation.Multi class dims) h leads has le near single =
    let few = (multi_form class dims h).1 in
    record { bytes = refl; valid = (has, (let small : dims < 256 = omega arith in small)); single = tt; size = refl }
operation_spelled body pc index (Operation.Branch op to) h leads has le near single =
    let p = and_parts (has_form op is_branch_form) _ h in
    let q = and_parts (nat_lt op 202) (of_form is_branch_form (form_of op)) p.0 in
    branch_spelled body pc index op to (form_of op) refl q.1 le near leads
operation_spelled body pc index (Operation.TableSwitch low labels default) h leads has le near single = absurd single
operation_spelled body pc index (Operation.LookupSwitch cases default) h leads has le near single = absurd single
