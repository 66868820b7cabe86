-- The instructions that a method's lines make, one behind the other.
use Rattle.std.proofs.Common.{◌≡◌, ℕ, zero, suc, ◌+◌, ◌-◌, ◌*◌, ◌<◌, ◌≤◌, Bool, true, false, ◌&&◌, ◌||◌, List, [], ◌∷◌, ◌++◌, length, map, drop, Option, Some, None, Ok, refl, sym, ap, subst, ◌∙◌, arith, inl, inr, ◌⊎◌, length-append, ℤ, pos, ◌+ℤ◌}
use Rattle.std.specs.Prelude.{if◌then◌else◌, ◌==◌, nat_lt, nat_le, min, is_some}
use Rattle.std.specs.List.{AllByRecursion, AllZip, flat_map, list_all}
use Rattle.std.proofs.lemmas.Bool.{and_parts, and_from, or_left, or_right, leb-true, ltb-true, eq-eqb, ne_eqb, eqb-true, cond-true, cond-false}
use Rattle.std.proofs.lemmas.List.{length-drop, length-take, length-map, drop-drop}
use Rattle.std.proofs.lemmas.List.Folds.{list_all-map}
use Rattle.std.proofs.Math.Seq.{drop-append_seam}
use Rattle.opcode_table.specs.declared.insn.Insn.{Insn}
use Rattle.opcode_table.specs.Table.{form_of}
use Rattle.opcode_table.specs.Decoding.{Decoded, decoded, table_place}
use Rattle.opcode_table.specs.DecodedAgain.{decoded_where_spelled}
use Rattle.opcode_table.specs.Spelling.{u2_bytes, local_bytes, increment_bytes}
use Rattle.class_file.specs.declared.pool.PoolEntry.{PoolEntry}
use Rattle.class_file.specs.Code.{Placed, in_front, placed, instructions_from, offsets, is_start, is_start_at, leads_well as placed_leads_well, has_operand, first_failing}
use Rattle.class_lines.specs.declared.line.Line.{Line}
use Rattle.class_lines.specs.declared.line.Operation.{Operation}
use Rattle.class_lines.specs.declared.line.Case.{Case}
use Rattle.class_lines.specs.Words.{Text}
use Rattle.class_lines.specs.Lines.{is_operation, is_label_or_none, is_line, is_integer}
use Rattle.constant_pool.specs.Edit.{Extends}
use Rattle.constant_pool.specs.Laws.{extends-further}
use Rattle.class_text.specs.declared.numbered.Numbered.{Numbered}
use Rattle.class_text.specs.declared.order.Place.{Place}
use Rattle.class_text.specs.Gives.{Making}
use Rattle.class_text.specs.Order.{misplaced}
use Rattle.class_text.specs.Labels.{padding, is_wide_increment, is_wide_form, size_at, advance, is_labelled, place_of, has_label, distance, leads_well, is_at, is_new, is_right, mislabelled}
use Rattle.class_text.specs.Bytes.{local_operation, increment_operation, branch_bytes, zeros, place_bytes, switch_bytes, table_bytes, case_bytes, cases_bytes, operation_bytes, argument_slots}
use Rattle.class_text.specs.Pool.{index_made}
use Rattle.class_text.specs.Making.{step_made, steps_made}
use Rattle.class_text.proofs.Numbers.{back}
use Rattle.class_text.specs.Meaning.{insn_of, labels_of, HasKeys, Labelled, steps_in, Names, StandsIn, IsStep, AreInRow}
use Rattle.class_text.proofs.Insns.{HasIndex, AreNear, IsNoSwitch, operation_spelled}
use Rattle.class_text.proofs.Switches.{At, table_stands, lookup_stands}
use Rattle.class_text.proofs.Made.{then_parts, same_ok, Grown, grown_itself, Indexed, index_is, names_stay, operand_named}

-- ---- sizes

if_length : (t : Bool) (xs ys : List ℕ) (m n : ℕ) → length xs ≡ m → length ys ≡ n → length (if t then xs else ys) ≡ (if t then m else n)
if_length true xs ys m n h k = h
if_length false xs ys m n h k = k

local_size : (op index : ℕ) (wide : Bool) → nat_lt 255 index ≡ wide → length (local_operation op index) ≡ (if wide then 4 else 2)
local_size op index true is = ap (λ (b : Bool). length (local_bytes op index b)) is
local_size op index false is = ap (λ (b : Bool). length (local_bytes op index b)) is

increment_size : (index : ℕ) (by : ℤ) (wide : Bool) → is_wide_increment index by ≡ wide → length (increment_operation index by) ≡ (if wide then 6 else 3)
increment_size index by true is = ap (λ (b : Bool). length (increment_bytes index by b)) is
increment_size index by false is = ap (λ (b : Bool). length (increment_bytes index by b)) is

member_size : (op index : ℕ) (descriptor : Text) (t : Bool) → length (op ∷ u2_bytes index ++ (if t then min (argument_slots descriptor) 255 ∷ 0 ∷ [] else [])) ≡ (if t then 5 else 3)
member_size op index descriptor true = refl
member_size op index descriptor false = refl

branch_size : (body : List Numbered) (pc op : ℕ) (to : Text) (t : Bool) → length (op ∷ branch_bytes body pc to t) ≡ (if t then 5 else 3)
branch_size body pc op to true = refl
branch_size body pc op to false = refl

labels_size : (body : List Numbered) (pc : ℕ) (labels : List Text) → length (flat_map (place_bytes body pc) labels) ≡ 4 * length labels
labels_size body pc [] = refl
labels_size body pc (label ∷ labels) = omega (arith, length-append (place_bytes body pc label) (flat_map (place_bytes body pc) labels), labels_size body pc labels)

cases_size : (body : List Numbered) (pc : ℕ) (cases : List Case) → length (flat_map (case_bytes body pc) cases) ≡ 8 * length cases
cases_size body pc [] = refl
cases_size body pc (c ∷ cases) = omega (arith, length-append (case_bytes body pc c) (flat_map (case_bytes body pc) cases), cases_size body pc cases)

zeros_size : (pc : ℕ) → length (zeros pc) ≡ padding pc
zeros_size pc = omega (arith, length-take (padding pc) (let z : List ℕ = 0 ∷ 0 ∷ 0 ∷ [] in z))

head_size : (body : List Numbered) (pc op : ℕ) (default : Text) → length (switch_bytes body pc op default) ≡ 5 + padding pc
head_size body pc op default = omega (arith, length-append (op ∷ zeros pc) (place_bytes body pc default), zeros_size pc)

table_size : (body : List Numbered) (pc : ℕ) (low : ℤ) (labels : List Text) → length (table_bytes body pc low labels) ≡ 8 + 4 * length labels
unfolding table_bytes
table_size body pc low labels = omega (arith, labels_size body pc labels)

pub operation_size : (body : List Numbered) (pc index : ℕ) (o : Operation) → length (operation_bytes body pc index o) ≡ size_at pc o
operation_size body pc index (Operation.Plain op) = refl
operation_size body pc index (Operation.Bipush value) = refl
operation_size body pc index (Operation.Sipush value) = refl
operation_size body pc index (Operation.Local op local) = local_size op local (nat_lt 255 local) refl
operation_size body pc index (Operation.Iinc local by) = increment_size local by (is_wide_increment local by) refl
operation_size body pc index (Operation.Constant op constant) = if_length (op == 18) (op ∷ min index 255 ∷ []) (op ∷ u2_bytes index) 2 3 refl refl
operation_size body pc index (Operation.Long n) = refl
operation_size body pc index (Operation.Double bits) = refl
operation_size body pc index (Operation.Member op class name descriptor) = member_size op index descriptor (op == 185)
operation_size body pc index (Operation.Class op class) = refl
operation_size body pc index (Operation.NewArray code) = refl
operation_size body pc index (Operation.Multi class dims) = refl
operation_size body pc index (Operation.Branch op to) = branch_size body pc op to (is_wide_form (form_of op))
operation_size body pc index (Operation.TableSwitch low labels default) =
    omega (arith, length-append (switch_bytes body pc 170 default) (table_bytes body pc low labels), head_size body pc 170 default, table_size body pc low labels)
operation_size body pc index (Operation.LookupSwitch cases default) =
    omega (arith, length-append (switch_bytes body pc 171 default) (cases_bytes body pc cases), head_size body pc 171 default, cases_size body pc cases)

if_some : (t : Bool) (m n : ℕ) → 0 < m → 0 < n → 0 < (if t then m else n)
if_some true m n h k = h
if_some false m n h k = k

pub size_some : (pc : ℕ) (o : Operation) → 0 < size_at pc o
size_some pc (Operation.Local op local) = if_some (nat_lt 255 local) 4 2 (omega arith) (omega arith)
size_some pc (Operation.Iinc local by) = if_some (is_wide_increment local by) 6 3 (omega arith) (omega arith)
size_some pc (Operation.Constant op constant) = if_some (op == 18) 2 3 (omega arith) (omega arith)
size_some pc (Operation.Member op class name descriptor) = if_some (op == 185) 5 3 (omega arith) (omega arith)
size_some pc (Operation.Branch op to) = if_some (is_wide_form (form_of op)) 5 3 (omega arith) (omega arith)
size_some pc (Operation.TableSwitch low labels default) = omega arith
size_some pc (Operation.LookupSwitch cases default) = omega arith
size_some pc _ = omega arith

-- ---- an instruction stands where its bytes do

pub record Stands (code : List ℕ) (body : List Numbered) (pc index : ℕ) (o : Operation) : Type 0 where
  pub decodes : decoded code pc ≡ Ok (insn_of body pc index o, size_at pc o)
  pub leads : offsets code (insn_of body pc index o) ≡ map (λ name. distance pc (place_of name 0 body)) (labels_of o)
  pub keys : HasKeys code pc o

single_stands : (code : List ℕ) (body : List Numbered) (pc index : ℕ) (o : Operation) → is_operation o ≡ true → leads_well body pc o ≡ true → HasIndex index o → pc ≤ 65535 → AreNear body → IsNoSwitch o → At code pc (operation_bytes body pc index o)
    → decoded code pc ≡ Ok (insn_of body pc index o, size_at pc o)
single_stands code body pc index o form leads has le near alone a =
    let s = operation_spelled body pc index o form leads has le near alone in
    let i : Insn = insn_of body pc index o in
    decoded_where_spelled code pc i a.rest (a.is ∙ ap (λ (l : List ℕ). l ++ a.rest) s.bytes) s.valid s.single
    ∙ ap (λ (n : ℕ). let d : Decoded = Ok (i, n) in d) (sym (ap length s.bytes) ∙ s.size)

member_leads : (code : List ℕ) (op index : ℕ) (descriptor : Text) (t : Bool) → offsets code (if t then Insn.Interface index (argument_slots descriptor) 0 else Insn.Pool op index) ≡ []
member_leads code op index descriptor true = refl
member_leads code op index descriptor false = refl

pub operation_stands : (code : List ℕ) (body : List Numbered) (pc index : ℕ) (o : Operation) → is_operation o ≡ true → leads_well body pc o ≡ true → HasIndex index o → pc + size_at pc o ≤ 65535 → AreNear body → At code pc (operation_bytes body pc index o) → Stands code body pc index o
operation_stands code body pc index (Operation.TableSwitch low labels default) form leads has le near a =
    let s = table_stands body pc (omega arith) near code index low labels default form leads a in
    let n : table_place pc + (12 + 4 * length (map (λ name. distance pc (place_of name 0 body)) labels)) - pc ≡ size_at pc (Operation.TableSwitch low labels default) =
    omega (arith, length-map labels (λ name. distance pc (place_of name 0 body))) in
    record { decodes = s.reads.decodes ∙ ap (λ (n : ℕ). let d : Decoded = Ok (Insn.TableSwitch (table_place pc), n) in d) n; leads = s.reads.leads; keys = s.lowest }
operation_stands code body pc index (Operation.LookupSwitch cases default) form leads has le near a =
    let s = lookup_stands body pc (omega arith) near code index cases default form leads (omega arith) a in
    let n : table_place pc + (8 + 8 * length (map (λ (c : Case). c.key) cases)) - pc ≡ size_at pc (Operation.LookupSwitch cases default) =
    omega (arith, length-map cases (λ (c : Case). c.key)) in
    record {
      decodes = s.reads.decodes ∙ ap (λ (n : ℕ). let d : Decoded = Ok (Insn.LookupSwitch (table_place pc), n) in d) n;
      leads = s.reads.leads ∙ ap (λ (l : List ℤ). distance pc (place_of default 0 body) ∷ l) (mapped cases);
      keys = s.with_keys;
    }
  where
    mapped : (cases : List Case) → map (λ (c : Case). distance pc (place_of c.label 0 body)) cases ≡ map (λ name. distance pc (place_of name 0 body)) (map (λ (c : Case). c.label) cases)
    mapped [] = refl
    mapped (c ∷ cases) = ap (λ (l : List ℤ). distance pc (place_of c.label 0 body) ∷ l) (mapped cases)
operation_stands code body pc index (Operation.Member op class name descriptor) form leads has le near a =
    record { decodes = single_stands code body pc index (Operation.Member op class name descriptor) form leads has (omega arith) near tt a; leads = member_leads code op index descriptor (op == 185); keys = tt }
operation_stands code body pc index (Operation.Plain op) form leads has le near a = record { decodes = single_stands code body pc index (Operation.Plain op) form leads has (omega arith) near tt a; leads = refl; keys = tt }
operation_stands code body pc index (Operation.Bipush value) form leads has le near a = record { decodes = single_stands code body pc index (Operation.Bipush value) form leads has (omega arith) near tt a; leads = refl; keys = tt }
operation_stands code body pc index (Operation.Sipush value) form leads has le near a = record { decodes = single_stands code body pc index (Operation.Sipush value) form leads has (omega arith) near tt a; leads = refl; keys = tt }
operation_stands code body pc index (Operation.Local op local) form leads has le near a = record { decodes = single_stands code body pc index (Operation.Local op local) form leads has (omega arith) near tt a; leads = refl; keys = tt }
operation_stands code body pc index (Operation.Iinc local by) form leads has le near a = record { decodes = single_stands code body pc index (Operation.Iinc local by) form leads has (omega arith) near tt a; leads = refl; keys = tt }
operation_stands code body pc index (Operation.Constant op constant) form leads has le near a = record { decodes = single_stands code body pc index (Operation.Constant op constant) form leads has (omega arith) near tt a; leads = refl; keys = tt }
operation_stands code body pc index (Operation.Long n) form leads has le near a = record { decodes = single_stands code body pc index (Operation.Long n) form leads has (omega arith) near tt a; leads = refl; keys = tt }
operation_stands code body pc index (Operation.Double bits) form leads has le near a = record { decodes = single_stands code body pc index (Operation.Double bits) form leads has (omega arith) near tt a; leads = refl; keys = tt }
operation_stands code body pc index (Operation.Class op class) form leads has le near a = record { decodes = single_stands code body pc index (Operation.Class op class) form leads has (omega arith) near tt a; leads = refl; keys = tt }
operation_stands code body pc index (Operation.NewArray kind) form leads has le near a = record { decodes = single_stands code body pc index (Operation.NewArray kind) form leads has (omega arith) near tt a; leads = refl; keys = tt }
operation_stands code body pc index (Operation.Multi class dims) form leads has le near a = record { decodes = single_stands code body pc index (Operation.Multi class dims) form leads has (omega arith) near tt a; leads = refl; keys = tt }
operation_stands code body pc index (Operation.Branch op to) form leads has le near a = record { decodes = single_stands code body pc index (Operation.Branch op to) form leads has (omega arith) near tt a; leads = refl; keys = tt }

-- ---- the instructions of a method

-- one that was made: its line's number, its place, the pool before it and behind it, and its index
pub record Made : Type 0 where
  pub number : ℕ
  pub pc : ℕ
  pub before : List PoolEntry
  pub after : List PoolEntry
  pub index : ℕ
  pub operation : Operation

pub record IsMade (version : ℕ) (body : List Numbered) (m : Made) : Type 0 where
  pub form : is_operation m.operation ≡ true
  pub leads : leads_well body m.pc m.operation ≡ true
  pub made : index_made version m.number m.operation m.before ≡ Ok (m.after, m.index)
  pub few : length m.before ≤ 65534
  pub room : m.pc + size_at m.pc m.operation ≤ 65535

abbrev pub bytes_of : List Numbered → List Made → List ℕ
bytes_of body ms = flat_map (λ (m : Made). operation_bytes body m.pc m.index m.operation) ms

-- each stands behind the one before, and is made with the pool that that one left
abbrev pub Linked : ℕ → List PoolEntry → List Made → List PoolEntry → Type 0
Linked pc pool [] last = pool ≡ last
Linked pc pool (m ∷ ms) last = (m.pc ≡ pc) × (m.before ≡ pool) × Linked (pc + size_at pc m.operation) m.after ms last

abbrev pub placed_of : List Numbered → Made → Placed
placed_of body m = record { pc = m.pc; insn = insn_of body m.pc m.index m.operation }

abbrev pub OfForm : Option Line → Type 0
OfForm None = Unit {0}
OfForm (Some line) = is_line line ≡ true

-- each line is of the form, or is none
abbrev pub AreOfForm : List Numbered → Type 0
AreOfForm lines = AllByRecursion (λ (l : Numbered). OfForm l.line) lines

-- it is the line's, whose label stands at its place
pub record OfStep (body : List Numbered) (m : Made) (s : Labelled) : Type 0 where
  pub operation : m.operation ≡ s.operation
  pub labelled : (name : Text) → s.label ≡ Some name → place_of name 0 body ≡ Some m.pc

pub record Steps (version : ℕ) (body : List Numbered) (pc : ℕ) (lines : List Numbered) (pool last : List PoolEntry) (bytes : List ℕ) : Type 0 where
  pub made : List Made
  pub each : AllByRecursion (IsMade version body) made
  pub linked : Linked pc pool made last
  pub is : bytes ≡ bytes_of body made
  pub says : AllZip (OfStep body) made (steps_in lines)
  pub labels : (name : Text) (place : ℕ) → place_of name pc lines ≡ Some place → is_start (map (placed_of body) made) place ≡ true
  pub some : 0 < pc + length bytes
  pub room : pc + length bytes ≤ 65535

-- a test that nothing fails
pub if_none : (t : Bool) (x : Option ℕ) (n : ℕ) → (if t then x else Some n) ≡ None → (t ≡ true) × (x ≡ None)
if_none true x n h = (refl, h)
if_none false x n h = absurd cc

label_found : (name : Text) (t : Bool) (pc place : ℕ) (next : Option ℕ) → (if t then Some pc else next) ≡ Some place → ((pc == place) ≡ true) ⊎ (next ≡ Some place)
label_found name true pc place next h = inl (eq-eqb pc place (let e : pc ≡ place = cc in e))
label_found name false pc place next h = inr h

module _ (version : ℕ) (body : List Numbered) (end : ℕ) where
  -- what is made of the lines from one on
  abbrev Makes : List Numbered → Type 0
  Makes lines = (pc : ℕ) (pool : List PoolEntry) (made : List PoolEntry × List ℕ) → pc ≤ 65535 → length pool ≤ 65534 → AreOfForm lines → misplaced end Place.Inside lines ≡ None → mislabelled body pc lines ≡ None
      → steps_made version body pc lines pool ≡ Ok made → Steps version body pc lines pool made.0 made.1

  step_first : (number : ℕ) (label : Option Text) (o : Operation) (lines : List Numbered) → Makes lines → Makes (record { number = number; line = Some (Line.Step label o) } ∷ lines)
  step_first number label o lines next pc pool made le few form place right h =
      let f = and_parts (is_label_or_none label) (is_operation o) form.0 in
      let r = if_none (is_right body pc (Some (Line.Step label o))) (mislabelled body (advance pc o) lines) number right in
      let s = and_parts (is_new body pc label) (leads_well body pc o && nat_le (advance pc o) 65535) r.0 in
      let t = and_parts (leads_well body pc o) (nat_le (advance pc o) 65535) s.1 in
      let room = leb-true (advance pc o) 65535 t.1 in
      let there : advance pc o ≡ pc + size_at pc o = omega arith in
      let a = then_parts (step_made version body pc number (Some (Line.Step label o)) pool) _ made h in
      let b = then_parts (index_made version number o pool) _ a.value a.first in
      let c = then_parts (steps_made version body (advance pc o) lines a.value.0) _ made a.after in
      let stepped : (b.value.0, operation_bytes body pc b.value.1 o) ≡ a.value = same_ok (b.value.0, operation_bytes body pc b.value.1 o) a.value b.after in
      let pools : b.value.0 ≡ a.value.0 = ap (λ (x : List PoolEntry × List ℕ). x.0) stepped in
      let bytes : operation_bytes body pc b.value.1 o ≡ a.value.1 = ap (λ (x : List PoolEntry × List ℕ). x.1) stepped in
      let done : (c.value.0, a.value.1 ++ c.value.1) ≡ made = same_ok (c.value.0, a.value.1 ++ c.value.1) made c.after in
      let i = index_is version number o pool b.value f.1 few b.first in
      let small : length a.value.0 ≤ 65534 = subst (λ (p : List PoolEntry). length p ≤ 65534) pools i.grown.few in
      let rest = next (advance pc o) a.value.0 c.value room small form.1 place r.1 c.first in
      let size : length a.value.1 ≡ size_at pc o = ap length (sym bytes) ∙ operation_size body pc b.value.1 o in
      let m : Made = record { number = number; pc = pc; before = pool; after = a.value.0; index = b.value.1; operation = o } in
      let all : length (a.value.1 ++ c.value.1) ≡ length a.value.1 + length c.value.1 = length-append a.value.1 c.value.1 in
      let end_some = rest.some in
      let end_room = rest.room in
      subst (λ (x : List PoolEntry × List ℕ). Steps version body pc (record { number = number; line = Some (Line.Step label o) } ∷ lines) pool x.0 x.1) done (record {
        made = m ∷ rest.made;
        each = (record { form = f.1; leads = t.0; made = b.first ∙ ap (λ (p : List PoolEntry). let r : Making ℕ = Ok (p, b.value.1) in r) pools; few = few; room = omega arith }, rest.each);
        linked = (refl, refl, subst (λ (n : ℕ). Linked n a.value.0 rest.made c.value.0) there rest.linked);
        is = ap (λ (l : List ℕ). l ++ c.value.1) (sym bytes) ∙ ap (λ (l : List ℕ). operation_bytes body pc b.value.1 o ++ l) rest.is;
        says = (record { operation = refl; labelled = λ name is. new_label label name is s.0 }, rest.says);
        labels = λ name place found. found_in rest.made name place (rest.labels name place) (label_found name (is_labelled name (Some (Line.Step label o))) pc place (place_of name (advance pc o) lines) found);
        some = omega (arith, all, size);
        room = omega (arith, all, size);
      })
    where
      at_place : (found : Option ℕ) → is_at pc found ≡ true → found ≡ Some pc
      at_place None h = absurd cc
      at_place (Some place) h = ap Some (eqb-true place pc h)

      new_label : (label : Option Text) (name : Text) → label ≡ Some name → is_new body pc label ≡ true → place_of name 0 body ≡ Some pc
      new_label None name is h = absurd cc
      new_label (Some given) name is h = (let same : given ≡ name = cc in ap (λ (n : Text). place_of n 0 body) (sym same)) ∙ at_place (place_of given 0 body) h

      found_in : (rest : List Made) (name : Text) (place : ℕ) → (place_of name (advance pc o) lines ≡ Some place → is_start (map (placed_of body) rest) place ≡ true) → ((pc == place) ≡ true) ⊎ (place_of name (advance pc o) lines ≡ Some place)
          → ((pc == place) || is_start (map (placed_of body) rest) place) ≡ true
      found_in rest name place next (inl here) = or_left (pc == place) (is_start (map (placed_of body) rest) place) here
      found_in rest name place next (inr later) = or_right (pc == place) (is_start (map (placed_of body) rest) place) (next later)

  catch_first : (number : ℕ) (from to handler : Text) (class : Option Text) (lines : List Numbered) → Makes lines → Makes (record { number = number; line = Some (Line.Catch from to handler class) } ∷ lines)
  catch_first number from to handler class lines next pc pool made le few form place right h =
      let r = if_none (is_right body pc (Some (Line.Catch from to handler class))) (mislabelled body pc lines) number right in
      let c = then_parts (steps_made version body pc lines pool) _ made h in
      let done : c.value ≡ made = same_ok c.value made c.after in
      let rest = next pc pool c.value le few form.1 place r.1 c.first in
      subst (λ (x : List PoolEntry × List ℕ). Steps version body pc (record { number = number; line = Some (Line.Catch from to handler class) } ∷ lines) pool x.0 x.1) done
      (record { made = rest.made; each = rest.each; linked = rest.linked; is = rest.is; says = rest.says; labels = rest.labels; some = rest.some; room = rest.room })

  end_first : (number : ℕ) (lines : List Numbered) → Makes (record { number = number; line = Some Line.End } ∷ lines)
  end_first number lines pc pool made le few form place right h =
      let r = if_none (nat_lt 0 pc) (mislabelled body pc lines) number right in
      let lt = ltb-true 0 pc r.0 in
      let done : (pool, []) ≡ made = same_ok (pool, []) made h in
      subst (λ (x : List PoolEntry × List ℕ). Steps version body pc (record { number = number; line = Some Line.End } ∷ lines) pool x.0 x.1) done
      (record { made = []; each = tt; linked = refl; is = refl; says = tt; labels = λ name place found. absurd cc; some = omega arith; room = omega arith })

  line_first : (number : ℕ) (o : Option Line) (lines : List Numbered) → Makes lines → Makes (record { number = number; line = o } ∷ lines)
  line_first number (Some (Line.Step label o)) lines next pc pool made le few form place right h = step_first number label o lines next pc pool made le few form place right h
  line_first number (Some (Line.Catch from to handler class)) lines next pc pool made le few form place right h = catch_first number from to handler class lines next pc pool made le few form place right h
  line_first number (Some Line.End) lines next pc pool made le few form place right h = end_first number lines pc pool made le few form place right h
  line_first number (Some (Line.Class name super version flags interfaces)) lines next pc pool made le few form place right h = absurd cc
  line_first number (Some (Line.Field head)) lines next pc pool made le few form place right h = absurd cc
  line_first number (Some (Line.Method head stack locals)) lines next pc pool made le few form place right h = absurd cc
  line_first number (Some (Line.Bare head)) lines next pc pool made le few form place right h = absurd cc
  line_first number None lines next pc pool made le few form place right h = absurd cc

  -- the steps of the lines of a method
  pub steps_are : (lines : List Numbered) → Makes lines
  steps_are [] pc pool made le few form place right h = absurd cc
  steps_are (line ∷ lines) pc pool made le few form place right h = line_first line.number line.line lines (steps_are lines) pc pool made le few form place right h

-- ---- the pools

pub grown_further : (a b c : List PoolEntry) → Grown a b → Grown b c → Grown a c
grown_further a b c f g = record { grows = extends-further a b c f.grows g.grows; few = g.few; sound = λ s. g.sound (f.sound s) }

module _ (version : ℕ) (body : List Numbered) where
  pub indexed : (m : Made) → IsMade version body m → Indexed version m.before m.after m.index m.operation
  indexed m i = index_is version m.number m.operation m.before (m.after, m.index) i.form i.few i.made

  pub linked_grown : (pc : ℕ) (pool last : List PoolEntry) (ms : List Made) → length pool ≤ 65534 → AllByRecursion (IsMade version body) ms → Linked pc pool ms last → Grown pool last
  linked_grown pc pool last [] few each linked = subst (Grown pool) linked (grown_itself pool few)
  linked_grown pc pool last (m ∷ ms) few each linked =
      let g = (indexed m each.0).grown in
      grown_further pool m.after last (subst (λ (p : List PoolEntry). Grown p m.after) linked.1 g) (linked_grown (pc + size_at pc m.operation) m.after last ms g.few each.1 linked.2)

  -- each operand stands in the last pool, and in those that extend it
  pub operands_are : (pc : ℕ) (pool last more : List PoolEntry) (ms : List Made) → AllByRecursion (IsMade version body) ms → Linked pc pool ms last → Extends last more → first_failing (λ p. has_operand version more p.insn) (map (placed_of body) ms) ≡ None
  operands_are pc pool last more [] each linked h = refl
  operands_are pc pool last more (m ∷ ms) each linked h =
      let i = indexed m each.0 in
      let g = linked_grown (pc + size_at pc m.operation) m.after last ms i.grown.few each.1 linked.2 in
      let named = names_stay m.after more (extends-further m.after last more g.grows h) m.index m.operation i.names in
      cond-true (has_operand version more (insn_of body m.pc m.index m.operation)) _ (Some m.pc) (operand_named version more body m.pc m.index m.operation each.0.form named i.push)
      ∙ operands_are (pc + size_at pc m.operation) m.after last more ms each.1 linked.2 h

-- ---- the code

-- labels that are there lead to instructions
labels_lead : (body : List Numbered) (pc : ℕ) (o : Operation) → leads_well body pc o ≡ true → list_all (has_label body) (labels_of o) ≡ true
labels_lead body pc (Operation.Branch op to) h = and_from (has_label body to) true (and_parts (has_label body to) (is_wide_form (form_of op) || is_integer 32767 (distance pc (place_of to 0 body))) h).0 refl
labels_lead body pc (Operation.TableSwitch low labels default) h = h
labels_lead body pc (Operation.LookupSwitch cases default) h =
    let p = and_parts (has_label body default) (list_all (λ (c : Case). has_label body c.label) cases) h in
    and_from (has_label body default) (list_all (has_label body) (map (λ (c : Case). c.label) cases)) p.0 (list_all-map (has_label body) (λ (c : Case). c.label) cases ∙ p.1)
labels_lead body pc _ h = refl

-- each stands where the one before ends
pub in_row : (version : ℕ) (body : List Numbered) (pc : ℕ) (pool last : List PoolEntry) (ms : List Made) (steps : List Labelled) → AllByRecursion (IsMade version body) ms → Linked pc pool ms last → AllZip (OfStep body) ms steps → AreInRow pc (map (placed_of body) ms) steps
in_row version body pc pool last [] steps each linked says = tt
in_row version body pc pool last (m ∷ ms) [] each linked says = absurd says
in_row version body pc pool last (m ∷ ms) (s ∷ steps) each linked says =
    let room : pc + size_at pc m.operation ≤ 65535 = subst (λ (n : ℕ). n + size_at n m.operation ≤ 65535) linked.0 each.0.room in (
      linked.0,
      subst (λ (o : Operation). pc + size_at pc o ≤ 65535) says.0.operation room,
      subst (λ (o : Operation). AreInRow (pc + size_at pc o) (map (placed_of body) ms) steps) says.0.operation (in_row version body (pc + size_at pc m.operation) m.after last ms steps each.1 linked.2 says.1),
    )

module _ (version : ℕ) (body : List Numbered) (near : AreNear body) (code : List ℕ) where
  stands_at : (m : Made) → IsMade version body m → At code m.pc (operation_bytes body m.pc m.index m.operation) → Stands code body m.pc m.index m.operation
  stands_at m i a = operation_stands code body m.pc m.index m.operation i.form i.leads (indexed version body m i).has i.room near a

  here : (pc : ℕ) (m : Made) (ms : List Made) → m.pc ≡ pc → drop pc code ≡ bytes_of body (m ∷ ms) → At code m.pc (operation_bytes body m.pc m.index m.operation)
  here pc m ms at is = record { rest = bytes_of body ms; is = ap (λ (n : ℕ). drop n code) at ∙ is }

  behind : (pc : ℕ) (m : Made) (ms : List Made) → m.pc ≡ pc → drop pc code ≡ bytes_of body (m ∷ ms) → drop (pc + size_at pc m.operation) code ≡ bytes_of body ms
  behind pc m ms at is =
      let bytes : List ℕ = operation_bytes body m.pc m.index m.operation in
      let size : length bytes ≡ size_at pc m.operation = operation_size body m.pc m.index m.operation ∙ ap (λ (n : ℕ). size_at n m.operation) at in
      ap (λ (n : ℕ). drop (pc + n) code) (sym size) ∙ sym (drop-drop (length bytes) pc code) ∙ ap (drop (length bytes)) is ∙ drop-append_seam bytes (bytes_of body ms)

  -- what is left at a place
  left : (pc : ℕ) (m : Made) (ms : List Made) → m.pc ≡ pc → drop pc code ≡ bytes_of body (m ∷ ms) → pc + size_at pc m.operation ≤ length code
  left pc m ms at is =
      let bytes : List ℕ = operation_bytes body m.pc m.index m.operation in
      let size : length bytes ≡ size_at pc m.operation = operation_size body m.pc m.index m.operation ∙ ap (λ (n : ℕ). size_at n m.operation) at in
      let some = size_some pc m.operation in
      omega (arith, length-drop pc code, ap length is, length-append bytes (bytes_of body ms))

  -- The instructions of the code are those of the lines, each at its place.
  pub instructions_are : (turns pc : ℕ) (pool last : List PoolEntry) (ms : List Made) → AllByRecursion (IsMade version body) ms → Linked pc pool ms last → drop pc code ≡ bytes_of body ms → pc ≤ length code → length code ≤ pc + turns
      → instructions_from code turns pc ≡ Ok (map (placed_of body) ms)
  instructions_are zero pc pool last [] each linked is within few = refl
  instructions_are zero pc pool last (m ∷ ms) each linked is within few = let l = left pc m ms linked.0 is in let some = size_some pc m.operation in absurd (omega arith)
  instructions_are (suc turns) pc pool last [] each linked is within few =
      let l = length-drop pc code in
      let none : length (drop pc code) ≡ 0 = ap length is in
      cond-true (pc == length code) (Ok []) (placed pc (instructions_from code turns) (decoded code pc)) (eq-eqb pc (length code) (omega arith))
  instructions_are (suc turns) pc pool last (m ∷ ms) each linked is within few =
      let l = left pc m ms linked.0 is in
      let some = size_some pc m.operation in
      let s = stands_at m each.0 (here pc m ms linked.0 is) in
      let decodes : decoded code pc ≡ Ok (insn_of body m.pc m.index m.operation, size_at pc m.operation) =
      subst (λ (n : ℕ). decoded code n ≡ Ok (insn_of body m.pc m.index m.operation, size_at n m.operation)) linked.0 s.decodes in
      let rest = instructions_are turns (pc + size_at pc m.operation) m.after last ms each.1 linked.2 (behind pc m ms linked.0 is) l (omega arith) in
      cond-false (pc == length code) (Ok []) (placed pc (instructions_from code turns) (decoded code pc)) (ne_eqb pc (length code) (λ e. omega arith))
      ∙ ap (placed pc (instructions_from code turns)) decodes
      ∙ ap (in_front (record { pc = pc; insn = insn_of body m.pc m.index m.operation })) rest
      ∙ ap (λ (n : ℕ). in_front (record { pc = n; insn = insn_of body m.pc m.index m.operation }) (Ok (map (placed_of body) ms))) (sym linked.0)

  -- a way to a label leads to an instruction
  way_leads : (insns : List Placed) → ((name : Text) (place : ℕ) → place_of name 0 body ≡ Some place → is_start insns place ≡ true) → (pc : ℕ) (names : List Text) → list_all (has_label body) names ≡ true
      → list_all (λ offset. is_start_at insns (pos pc +ℤ offset)) (map (λ name. distance pc (place_of name 0 body)) names) ≡ true
  way_leads insns labels pc [] h = refl
  way_leads insns labels pc (name ∷ names) h =
      let p = and_parts (has_label body name) (list_all (has_label body) names) h in
      and_from (is_start_at insns (pos pc +ℤ distance pc (place_of name 0 body))) _ (one (place_of name 0 body) refl p.0) (way_leads insns labels pc names p.1)
    where
      one : (o : Option ℕ) → place_of name 0 body ≡ o → is_some o ≡ true → is_start_at insns (pos pc +ℤ distance pc (place_of name 0 body)) ≡ true
      one None is h = absurd cc
      one (Some to) is h = ap (λ (o : Option ℕ). is_start_at insns (pos pc +ℤ distance pc o)) is ∙ ap (is_start_at insns) (back pc to) ∙ labels name to is

  pub leads_are : (insns : List Placed) → ((name : Text) (place : ℕ) → place_of name 0 body ≡ Some place → is_start insns place ≡ true) → (pc : ℕ) (pool last : List PoolEntry) (ms : List Made) → AllByRecursion (IsMade version body) ms → Linked pc pool ms last → drop pc code ≡ bytes_of body ms
      → first_failing (placed_leads_well code insns) (map (placed_of body) ms) ≡ None
  leads_are insns labels pc pool last [] each linked is = refl
  leads_are insns labels pc pool last (m ∷ ms) each linked is =
      let s = stands_at m each.0 (here pc m ms linked.0 is) in
      let leads : placed_leads_well code insns (placed_of body m) ≡ true =
      ap (list_all (λ offset. is_start_at insns (pos m.pc +ℤ offset))) s.leads ∙ way_leads insns labels m.pc (labels_of m.operation) (labels_lead body m.pc m.operation each.0.leads) in
      cond-true (placed_leads_well code insns (placed_of body m)) _ (Some m.pc) leads
      ∙ leads_are insns labels (pc + size_at pc m.operation) m.after last ms each.1 linked.2 (behind pc m ms linked.0 is)

  -- labels that are there stand at places of code
  labels_stand : (names : List Text) → list_all (has_label body) names ≡ true → AllByRecursion (StandsIn body) names
  labels_stand [] h = tt
  labels_stand (name ∷ names) h =
      let p = and_parts (has_label body name) (list_all (has_label body) names) h in (one (place_of name 0 body) refl p.0, labels_stand names p.1)
    where
      one : (o : Option ℕ) → place_of name 0 body ≡ o → is_some o ≡ true → StandsIn body name
      one None is h = absurd cc
      one (Some place) is h = (place, is, near.near name place is)

  -- each instruction is the one of its line
  pub steps_mean : (pc : ℕ) (pool last more : List PoolEntry) (ms : List Made) (steps : List Labelled) → AllByRecursion (IsMade version body) ms → Linked pc pool ms last → Extends last more → drop pc code ≡ bytes_of body ms → AllZip (OfStep body) ms steps
      → AllZip (IsStep more code body) (map (placed_of body) ms) steps
  steps_mean pc pool last more [] [] each linked h is says = tt
  steps_mean pc pool last more [] (s ∷ steps) each linked h is says = absurd says
  steps_mean pc pool last more (m ∷ ms) [] each linked h is says = absurd says
  steps_mean pc pool last more (m ∷ ms) (s ∷ steps) each linked h is says =
      let i = indexed version body m each.0 in
      let g = linked_grown version body (pc + size_at pc m.operation) m.after last ms i.grown.few each.1 linked.2 in
      let stands = stands_at m each.0 (here pc m ms linked.0 is) in
      let named = names_stay m.after more (extends-further m.after last more g.grows h) m.index m.operation i.names in
      let o = says.0.operation in (
        record {
          index = m.index;
          insn = ap (insn_of body m.pc m.index) o;
          names = subst (λ (o : Operation). Names more m.index o) o named;
          there = subst (λ (o : Operation). AllByRecursion (StandsIn body) (labels_of o)) o (labels_stand (labels_of m.operation) (labels_lead body m.pc m.operation each.0.leads));
          leads = stands.leads ∙ ap (λ (o : Operation). map (λ name. distance m.pc (place_of name 0 body)) (labels_of o)) o;
          keys = subst (λ (o : Operation). HasKeys code m.pc o) o stands.keys;
          labelled = says.0.labelled;
        },
        steps_mean (pc + size_at pc m.operation) m.after last more ms steps each.1 linked.2 h (behind pc m ms linked.0 is) says.1,
      )
