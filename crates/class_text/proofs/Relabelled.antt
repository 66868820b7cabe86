-- The lines of a method with other labels, by the places of its instructions: they make the same code.
use Rattle.std.proofs.Common.{◌≡◌, ◌≢◌, ℕ, ◌+◌, ◌-◌, ◌*◌, ◌%◌, ◌<◌, ◌≤◌, Bool, true, false, ◌&&◌, ◌||◌, List, [], ◌∷◌, ◌++◌, length, map, Option, Some, None, Ok, Err, refl, sym, ap, subst, ◌∙◌, arith, inl, inr, ⊎_elim, ℤ, pos, ◌+ℤ◌, ◌-ℤ◌}
use Rattle.std.specs.Prelude.{if◌then◌else◌, ◌==◌, nat_lt, nat_le, is_some, Result}
use Rattle.std.specs.List.{AllByRecursion, AllZip, cons_option, flat_map, list_all}
use Rattle.std.specs.Str.{bytes_eq}
use Rattle.std.proofs.lemmas.Bool.{and_from, or_cases, ltb-true, lt-ltb, eq-eqb, eqb-true, cases_eq, le-leb, cond-true, cond-false, false_from_ne_true}
use Rattle.std.proofs.lemmas.List.{length-map}
use Rattle.std.proofs.lemmas.Slice.Eq.{bytes_eq-Decides}
use Rattle.opcode_table.specs.Table.{form_of}
use Rattle.opcode_table.specs.Spelling.{s2_bytes, s4_bytes}
use Rattle.class_file.specs.declared.pool.PoolEntry.{PoolEntry}
use Rattle.class_file.specs.declared.types.ExceptionEntry.{ExceptionEntry}
use Rattle.class_file.specs.Code.{is_start}
use Rattle.class_lines.specs.declared.line.Line.{Line}
use Rattle.class_lines.specs.declared.line.Operation.{Operation}
use Rattle.class_lines.specs.declared.line.Constant.{Constant}
use Rattle.class_lines.specs.declared.line.Case.{Case}
use Rattle.class_lines.specs.Words.{Text}
use Rattle.class_lines.specs.Lines.{is_integer}
use Rattle.constant_pool.specs.Edit.{Placed, with_class, with_string_text, with_field, with_method}
use Rattle.class_text.specs.declared.numbered.Numbered.{Numbered}
use Rattle.class_text.specs.Gives.{◌>>=◌, Making}
use Rattle.class_text.specs.Labels.{is_wide_form, size_at, advance, place_behind, is_labelled, is_end, place_of, has_label, distance, leads_well, is_at, is_new, is_right, is_head, mislabelled}
use Rattle.class_text.specs.Bytes.{fitting, place_bytes, switch_bytes, branch_bytes, table_bytes, case_bytes, cases_bytes, operation_bytes, zeros}
use Rattle.class_text.specs.Pool.{within_pool, with_short, class_made, field_made, method_made, are_short, takes_few, member_made, constant_made, within_byte, pushed_made, index_made}
use Rattle.class_text.specs.Making.{step_made, steps_made, place_index, caught_made, at_label, entry_made, counted, count_with, entries_made}
use Rattle.class_text.specs.Meaning.{labels_of, Guard, guards_in}
use Rattle.class_text.proofs.Made.{then_parts, if_made, same_ok}
use Rattle.class_text.proofs.Steps.{Made, IsMade, bytes_of, Linked, placed_of}

-- ---- what is made doesn't hang on the numbers of lines

if_again : {A : Type 0} (t : Bool) (made made' : Result A ℕ) (line line' : ℕ) (result : A) → (made ≡ Ok result → made' ≡ Ok result) → (if t then made else Err line) ≡ Ok result → (if t then made' else Err line') ≡ Ok result
if_again true made made' line line' result f h = f h
if_again false made made' line line' result f h = absurd cc

pub within_again : (line line' : ℕ) (placed made : Placed) → within_pool line placed ≡ Ok made → within_pool line' placed ≡ Ok made
within_again line line' placed made h = if_again (nat_le (length placed.0) 65534) (Ok placed) (Ok placed) line line' made (λ e. e) h

pub short_again : (line line' : ℕ) (text : Text) (placed made : Placed) → with_short line text placed ≡ Ok made → with_short line' text placed ≡ Ok made
short_again line line' text placed made h = if_again (nat_le (length text) 65535) (within_pool line placed) (within_pool line' placed) line line' made (within_again line line' placed made) h

constant_again : (version line line' : ℕ) (c : Constant) (pool : List PoolEntry) (made : Placed) → constant_made version line c pool ≡ Ok made → constant_made version line' c pool ≡ Ok made
constant_again version line line' (Constant.Int n) pool made h = within_again line line' _ made h
constant_again version line line' (Constant.Float bits) pool made h = within_again line line' _ made h
constant_again version line line' (Constant.Text text) pool made h = short_again line line' text (with_string_text pool text) made h
constant_again version line line' (Constant.Class class) pool made h = go (nat_lt version 49) h
  where
    go : (late : Bool) → (if late then Err line else class_made line class pool) ≡ Ok made → (if late then Err line' else class_made line' class pool) ≡ Ok made
    go true h = absurd cc
    go false h = short_again line line' class (with_class pool class) made h

byte_again : (op line line' : ℕ) (placed made : Placed) → within_byte op line placed ≡ Ok made → within_byte op line' placed ≡ Ok made
byte_again op line line' placed made h = go (op == 18 && nat_lt 255 placed.1) h
  where
    go : (past : Bool) → (if past then Err line else Ok placed) ≡ Ok made → (if past then Err line' else Ok placed) ≡ Ok made
    go true h = absurd cc
    go false h = h

pushed_again : (version line line' op : ℕ) (c : Constant) (pool : List PoolEntry) (made : Placed) → pushed_made version line op c pool ≡ Ok made → pushed_made version line' op c pool ≡ Ok made
pushed_again version line line' op c pool made h =
    let t = then_parts (constant_made version line c pool) (within_byte op line) made h in
    ap (λ (r : Making ℕ). r >>= within_byte op line') (constant_again version line line' c pool t.value t.first) ∙ byte_again op line line' t.value made t.after

member_again : (line line' op : ℕ) (class name descriptor : Text) (pool : List PoolEntry) (made : Placed) → member_made line op class name descriptor pool ≡ Ok made → member_made line' op class name descriptor pool ≡ Ok made
member_again line line' op class name descriptor pool made h =
    if_again (are_short class name descriptor && takes_few op descriptor) (if nat_le op 181 then field_made line class name descriptor pool else method_made line class name descriptor (op == 185) pool)
    (if nat_le op 181 then field_made line' class name descriptor pool else method_made line' class name descriptor (op == 185) pool) line line' made (go (nat_le op 181)) h
  where
    go : (field : Bool) → (if field then field_made line class name descriptor pool else method_made line class name descriptor (op == 185) pool) ≡ Ok made → (if field then field_made line' class name descriptor pool else method_made line' class name descriptor (op == 185) pool) ≡ Ok made
    go true e = within_again line line' (with_field pool (record { class = class; name = name; descriptor = descriptor })) made e
    go false e = within_again line line' (with_method pool (record { class = class; name = name; descriptor = descriptor; interface = op == 185 })) made e

pub index_again : (version line line' : ℕ) (o : Operation) (pool : List PoolEntry) (made : Placed) → index_made version line o pool ≡ Ok made → index_made version line' o pool ≡ Ok made
index_again version line line' (Operation.Constant op constant) pool made h = pushed_again version line line' op constant pool made h
index_again version line line' (Operation.Long n) pool made h = within_again line line' _ made h
index_again version line line' (Operation.Double bits) pool made h = within_again line line' _ made h
index_again version line line' (Operation.Member op class name descriptor) pool made h = member_again line line' op class name descriptor pool made h
index_again version line line' (Operation.Class op class) pool made h = short_again line line' class (with_class pool class) made h
index_again version line line' (Operation.Multi class dims) pool made h = short_again line line' class (with_class pool class) made h
index_again version line line' _ pool made h = h

-- ---- exception tables

-- what is made of the lines of an exception table, whatever their numbers are
abbrev pub EntriesOf : List Numbered → ℕ → List Guard → List PoolEntry → List PoolEntry × List ExceptionEntry → Type 0
EntriesOf body count [] pool made = (pool, []) ≡ made
EntriesOf body count (g ∷ guards) pool made =
    (c : Placed) × ((number : ℕ) → caught_made number g.class pool ≡ Ok c) × (count < 65535) × (rest : List PoolEntry × List ExceptionEntry) × EntriesOf body (count + 1) guards c.0 rest
    × ((rest.0, record { start = at_label body g.from; end = at_label body g.to; handler = at_label body g.handler; catch_type = c.1 } ∷ rest.1) ≡ made)

caught_again : (line line' : ℕ) (class : Option Text) (pool : List PoolEntry) (made : Placed) → caught_made line class pool ≡ Ok made → caught_made line' class pool ≡ Ok made
caught_again line line' None pool made h = h
caught_again line line' (Some class) pool made h = short_again line line' class (with_class pool class) made h

pub none_added : {X : Type 0} (more : Making (List X)) (made : List PoolEntry × List X) → (more >>= (λ m. Ok (m.0, m.1))) ≡ Ok made → more ≡ Ok made
none_added (Ok m) made h = h
none_added (Err n) made h = absurd cc

pub added_none : {X : Type 0} (more : Making (List X)) → (more >>= (λ m. Ok (m.0, m.1))) ≡ more
added_none (Ok m) = refl
added_none (Err n) = refl

abbrev pub Entered : List Numbered → List Numbered → Type 0
Entered body lines = (count : ℕ) (pool : List PoolEntry) (made : List PoolEntry × List ExceptionEntry) → entries_made body count lines pool ≡ Ok made → EntriesOf body count (guards_in lines) pool made

catch_entered : (body : List Numbered) (number : ℕ) (from to handler : Text) (class : Option Text) (lines : List Numbered) → Entered body lines → Entered body (record { number = number; line = Some (Line.Catch from to handler class) } ∷ lines)
catch_entered body number from to handler class lines next count pool made h =
    let t = then_parts (entry_made body number (Some (Line.Catch from to handler class)) pool) _ made h in
    let u = then_parts (caught_made number class pool) _ t.value t.first in
    let e : ExceptionEntry = record { start = at_label body from; end = at_label body to; handler = at_label body handler; catch_type = u.value.1 } in
    let one : (u.value.0, Some e) ≡ t.value = same_ok (u.value.0, Some e) t.value u.after in
    let after : counted number count (Some e) (entries_made body (count + 1) lines u.value.0) ≡ Ok made =
    ap (λ (v : List PoolEntry × Option ExceptionEntry). counted number count v.1 (entries_made body (count_with count v.1) lines v.0)) one ∙ t.after in
    let p = if_made (nat_lt count 65535) (entries_made body (count + 1) lines u.value.0 >>= (λ m. Ok (m.0, cons_option (Some e) m.1))) number made after in
    let w = then_parts (entries_made body (count + 1) lines u.value.0) _ made p.1 in
    (u.value, λ line. caught_again number line class pool u.value u.first, ltb-true count 65535 p.0, w.value, next (count + 1) u.value.0 w.value w.first, same_ok (w.value.0, e ∷ w.value.1) made w.after)

line_entered : (body : List Numbered) (number : ℕ) (o : Option Line) (lines : List Numbered) → Entered body lines → Entered body (record { number = number; line = o } ∷ lines)
line_entered body number (Some (Line.Catch from to handler class)) lines next count pool made h = catch_entered body number from to handler class lines next count pool made h
line_entered body number (Some Line.End) lines next count pool made h = same_ok (pool, []) made h
line_entered body number (Some (Line.Step label o)) lines next count pool made h = next count pool made (none_added (entries_made body count lines pool) made h)
line_entered body number (Some (Line.Class name super version flags interfaces)) lines next count pool made h = next count pool made (none_added (entries_made body count lines pool) made h)
line_entered body number (Some (Line.Field head)) lines next count pool made h = next count pool made (none_added (entries_made body count lines pool) made h)
line_entered body number (Some (Line.Method head stack locals)) lines next count pool made h = next count pool made (none_added (entries_made body count lines pool) made h)
line_entered body number (Some (Line.Bare head)) lines next count pool made h = next count pool made (none_added (entries_made body count lines pool) made h)
line_entered body number None lines next count pool made h = next count pool made (none_added (entries_made body count lines pool) made h)

-- the exception table of lines, without their numbers
pub entries_of : (body lines : List Numbered) → Entered body lines
entries_of body [] count pool made h = same_ok (pool, []) made h
entries_of body (line ∷ lines) count pool made h = line_entered body line.number line.line lines (entries_of body lines) count pool made h

-- ---- other labels

-- two texts that are told apart
unlike : (a b : Text) → a ≢ b → bytes_eq a b ≡ false
unlike a b ne = false_from_ne_true (bytes_eq a b) (λ e. ne ((bytes_eq-Decides a b).0 e))

alike : (a : Text) → bytes_eq a a ≡ true
alike a = (bytes_eq-Decides a a).1 refl

abbrev pub place_or : Option ℕ → ℕ
place_or None = 0
place_or (Some place) = place

-- each place has a label of its own, and some places are marked
module _ (label_of : ℕ → Text) (apart : (a b : ℕ) → label_of a ≡ label_of b → a ≡ b) (marks : ℕ → Bool) (body : List Numbered) where
  -- the label of the place of a label
  abbrev pub renamed : Text → Text
  renamed name = label_of (place_or (place_of name 0 body))

  abbrev pub renamed_case : Case → Case
  renamed_case c = record { key = c.key; label = renamed c.label }

  abbrev pub relabel : Operation → Operation
  relabel (Operation.Branch op to) = Operation.Branch op (renamed to)
  relabel (Operation.TableSwitch low labels default) = Operation.TableSwitch low (map renamed labels) (renamed default)
  relabel (Operation.LookupSwitch cases default) = Operation.LookupSwitch (map renamed_case cases) (renamed default)
  relabel operation = operation

  -- a marked place has its label
  abbrev pub label_at : ℕ → Option Text
  label_at pc = if marks pc then Some (label_of pc) else None

  pub record Renames (m : Made) (l : Numbered) : Type 0 where
    pub is : l.line ≡ Some (Line.Step (label_at m.pc) (relabel m.operation))

  pub relabel_size : (pc : ℕ) (o : Operation) → size_at pc (relabel o) ≡ size_at pc o
  relabel_size pc (Operation.TableSwitch low labels default) = ap (λ (n : ℕ). 13 + (3 - pc % 4) + 4 * n) (length-map labels renamed)
  relabel_size pc (Operation.LookupSwitch cases default) = ap (λ (n : ℕ). 9 + (3 - pc % 4) + 8 * n) (length-map cases renamed_case)
  relabel_size pc (Operation.Branch op to) = refl
  relabel_size pc _ = refl

  pub relabel_index : (version line : ℕ) (o : Operation) (pool : List PoolEntry) (made : Placed) → index_made version line o pool ≡ Ok made → index_made version line (relabel o) pool ≡ Ok made
  relabel_index version line (Operation.TableSwitch low labels default) pool made h = h
  relabel_index version line (Operation.LookupSwitch cases default) pool made h = h
  relabel_index version line (Operation.Branch op to) pool made h = h
  relabel_index version line _ pool made h = h

  -- the place behind a renamed instruction
  behind_renamed : (pc : ℕ) (label : Option Text) (o : Operation) → pc + size_at pc o ≤ 65535 → place_behind pc (Some (Line.Step label (relabel o))) ≡ pc + size_at pc o
  behind_renamed pc label o room = let s = relabel_size pc o in omega (arith, s, room)

  -- ---- the places of labels

  labelled_here : (pc q : ℕ) (o : Operation) → pc ≡ q → marks q ≡ true → is_labelled (label_of q) (Some (Line.Step (label_at pc) o)) ≡ true
  labelled_here pc q o e m =
      subst (λ (n : ℕ). is_labelled (label_of q) (Some (Line.Step (label_at n) o)) ≡ true) (sym e)
      (ap (λ (t : Bool). is_labelled (label_of q) (Some (Line.Step (if t then Some (label_of q) else None) o))) m ∙ alike (label_of q))

  labelled_elsewhere : (pc q : ℕ) (o : Operation) → pc ≢ q → is_labelled (label_of q) (Some (Line.Step (label_at pc) o)) ≡ false
  labelled_elsewhere pc q o ne = go (marks pc)
    where
      go : (t : Bool) → is_labelled (label_of q) (Some (Line.Step (if t then Some (label_of pc) else None) o)) ≡ false
      go true = unlike (label_of pc) (label_of q) (λ e. ne (apart pc q e))
      go false = refl

  -- the label of a marked place at which an instruction begins stands there
  pub label_stands : (version pc q : ℕ) (pool last : List PoolEntry) (ms : List Made) (steps tail : List Numbered) → AllByRecursion (IsMade version body) ms → Linked pc pool ms last → AllZip Renames ms steps → marks q ≡ true → is_start (map (placed_of body) ms) q ≡ true
      → place_of (label_of q) pc (steps ++ tail) ≡ Some q
  label_stands version pc q pool last [] steps tail each linked names m start = absurd cc
  label_stands version pc q pool last (x ∷ ms) [] tail each linked names m start = absurd names
  label_stands version pc q pool last (x ∷ ms) (l ∷ steps) tail each linked names m start =
      elim (cases_eq x.pc q) [
        | inl e ↦
            let here : is_labelled (label_of q) l.line ≡ true = ap (is_labelled (label_of q)) names.0.is ∙ labelled_here x.pc q (relabel x.operation) e m in
            cond-true (is_labelled (label_of q) l.line) (Some pc) _ here ∙ ap Some (sym linked.0 ∙ e)
        | inr ne ↦
            let other : is_labelled (label_of q) l.line ≡ false = ap (is_labelled (label_of q)) names.0.is ∙ labelled_elsewhere x.pc q (relabel x.operation) ne in
            let goes : is_end l.line ≡ false = ap is_end names.0.is in
            let room : pc + size_at pc x.operation ≤ 65535 = subst (λ (n : ℕ). n + size_at n x.operation ≤ 65535) linked.0 each.0.room in
            let behind : place_behind pc l.line ≡ pc + size_at pc x.operation = ap (place_behind pc) names.0.is ∙ behind_renamed pc (label_at x.pc) x.operation room in
            let later : is_start (map (placed_of body) ms) q ≡ true = ⊎_elim (λ e. absurd (ne (eqb-true x.pc q e))) (λ s. s) (or_cases (x.pc == q) (is_start (map (placed_of body) ms) q) start) in
            cond-false (is_labelled (label_of q) l.line) (Some pc) _ other ∙ cond-false (is_end l.line) None (place_of (label_of q) (place_behind pc l.line) (steps ++ tail)) goes
            ∙ ap (λ (n : ℕ). place_of (label_of q) n (steps ++ tail)) behind
            ∙ label_stands version (pc + size_at pc x.operation) q x.after last ms steps tail each.1 linked.2 names.1 m later
      ]

  -- ---- the same bytes

  module _ (other : List Numbered) where
    -- the labels stand where they stood
    abbrev pub SamePlaces : List Text → Type 0
    SamePlaces names = AllByRecursion (λ (name : Text). place_of (renamed name) 0 other ≡ place_of name 0 body) names

    same_bytes : (pc : ℕ) (name : Text) → place_of (renamed name) 0 other ≡ place_of name 0 body → place_bytes other pc (renamed name) ≡ place_bytes body pc name
    same_bytes pc name e = ap (λ (o : Option ℕ). s4_bytes (fitting 2147483647 (distance pc o))) e

    all_bytes : (pc : ℕ) (names : List Text) → SamePlaces names → flat_map (place_bytes other pc) (map renamed names) ≡ flat_map (place_bytes body pc) names
    all_bytes pc [] same = refl
    all_bytes pc (name ∷ names) same =
        ap (λ (l : List ℕ). l ++ flat_map (place_bytes other pc) (map renamed names)) (same_bytes pc name same.0) ∙ ap (λ (l : List ℕ). place_bytes body pc name ++ l) (all_bytes pc names same.1)

    case_bytes_are : (pc : ℕ) (cases : List Case) → SamePlaces (map (λ (c : Case). c.label) cases) → flat_map (case_bytes other pc) (map renamed_case cases) ≡ flat_map (case_bytes body pc) cases
    case_bytes_are pc [] same = refl
    case_bytes_are pc (c ∷ cases) same =
        ap (λ (l : List ℕ). (s4_bytes c.key ++ l) ++ flat_map (case_bytes other pc) (map renamed_case cases)) (same_bytes pc c.label same.0) ∙ ap (λ (l : List ℕ). case_bytes body pc c ++ l) (case_bytes_are pc cases same.1)

    branch_same : (pc : ℕ) (to : Text) (wide : Bool) → place_of (renamed to) 0 other ≡ place_of to 0 body → branch_bytes other pc (renamed to) wide ≡ branch_bytes body pc to wide
    branch_same pc to true e = same_bytes pc to e
    branch_same pc to false e = ap (λ (o : Option ℕ). s2_bytes (fitting 32767 (distance pc o))) e

    table_same : (pc : ℕ) (low : ℤ) (labels : List Text) → SamePlaces labels → table_bytes other pc low (map renamed labels) ≡ table_bytes body pc low labels
    unfolding table_bytes
    table_same pc low labels same =
        ap (λ (n : ℕ). s4_bytes low ++ (s4_bytes (fitting 2147483647 (low +ℤ pos n -ℤ pos 1)) ++ flat_map (place_bytes other pc) (map renamed labels))) (length-map labels renamed)
        ∙ ap (λ (l : List ℕ). s4_bytes low ++ (s4_bytes (fitting 2147483647 (low +ℤ pos (length labels) -ℤ pos 1)) ++ l)) (all_bytes pc labels same)

    -- a renamed instruction has the same bytes
    pub relabel_bytes : (pc index : ℕ) (o : Operation) → SamePlaces (labels_of o) → operation_bytes other pc index (relabel o) ≡ operation_bytes body pc index o
    relabel_bytes pc index (Operation.Branch op to) same = ap (λ (l : List ℕ). op ∷ l) (branch_same pc to (is_wide_form (form_of op)) same.0)
    relabel_bytes pc index (Operation.TableSwitch low labels default) same =
        ap (λ (l : List ℕ). (170 ∷ zeros pc ++ l) ++ table_bytes other pc low (map renamed labels)) (same_bytes pc default same.0) ∙ ap (λ (l : List ℕ). switch_bytes body pc 170 default ++ l) (table_same pc low labels same.1)
    relabel_bytes pc index (Operation.LookupSwitch cases default) same =
        ap (λ (l : List ℕ). (171 ∷ zeros pc ++ l) ++ cases_bytes other pc (map renamed_case cases)) (same_bytes pc default same.0)
        ∙ ap (λ (n : ℕ). switch_bytes body pc 171 default ++ (s4_bytes (fitting 2147483647 (pos n)) ++ flat_map (case_bytes other pc) (map renamed_case cases))) (length-map cases renamed_case)
        ∙ ap (λ (l : List ℕ). switch_bytes body pc 171 default ++ (s4_bytes (fitting 2147483647 (pos (length cases))) ++ l)) (case_bytes_are pc cases same.1)
    relabel_bytes pc index _ same = refl

    -- the labels of each instruction stand where they stood
    abbrev pub AllSame : List Made → Type 0
    AllSame ms = AllByRecursion (λ (m : Made). SamePlaces (labels_of m.operation)) ms

    -- renamed lines make the same code, if those behind them make none
    pub steps_again : (version pc : ℕ) (pool last : List PoolEntry) (ms : List Made) (steps tail : List Numbered) → AllByRecursion (IsMade version body) ms → Linked pc pool ms last → AllZip Renames ms steps → AllSame ms
        → ((end : ℕ) → steps_made version other end tail last ≡ Ok (last, [])) → steps_made version other pc (steps ++ tail) pool ≡ Ok (last, bytes_of body ms)
    steps_again version pc pool last [] [] tail each linked names same none = subst (λ (p : List PoolEntry). steps_made version other pc tail p ≡ Ok (last, [])) (sym linked) (none pc)
    steps_again version pc pool last [] (l ∷ steps) tail each linked names same none = absurd names
    steps_again version pc pool last (m ∷ ms) [] tail each linked names same none = absurd names
    steps_again version pc pool last (m ∷ ms) (l ∷ steps) tail each linked names same none =
        let goes : is_end l.line ≡ false = ap is_end names.0.is in
        let room : pc + size_at pc m.operation ≤ 65535 = subst (λ (n : ℕ). n + size_at n m.operation ≤ 65535) linked.0 each.0.room in
        let behind : place_behind pc l.line ≡ pc + size_at pc m.operation = ap (place_behind pc) names.0.is ∙ behind_renamed pc (label_at m.pc) m.operation room in
        let index : index_made version l.number (relabel m.operation) pool ≡ Ok (m.after, m.index) =
        relabel_index version l.number m.operation pool (m.after, m.index) (index_again version m.number l.number m.operation pool (m.after, m.index) (subst (λ (p : List PoolEntry). index_made version m.number m.operation p ≡ Ok (m.after, m.index)) linked.1 each.0.made)) in
        let bytes : operation_bytes other pc m.index (relabel m.operation) ≡ operation_bytes body m.pc m.index m.operation =
        relabel_bytes pc m.index m.operation same.0 ∙ ap (λ (n : ℕ). operation_bytes body n m.index m.operation) (sym linked.0) in
        let step : step_made version other pc l.number l.line pool ≡ Ok (m.after, operation_bytes body m.pc m.index m.operation) =
        ap (λ (o : Option Line). step_made version other pc l.number o pool) names.0.is
        ∙ ap (λ (r : Making ℕ). r >>= (λ (i : Placed). let k : Making (List ℕ) = Ok (i.0, operation_bytes other pc i.1 (relabel m.operation)) in k)) index
        ∙ ap (λ (b : List ℕ). let k : Making (List ℕ) = Ok (m.after, b) in k) bytes in
        let rest = steps_again version (pc + size_at pc m.operation) m.after last ms steps tail each.1 linked.2 names.1 same.1 none in
        let then_rest : Making (List ℕ) → List ℕ → Making (List ℕ) = λ r b. r >>= (λ (more : List PoolEntry × List ℕ). let k : Making (List ℕ) = Ok (more.0, b ++ more.1) in k) in
        cond-false (is_end l.line) (Ok (pool, [])) _ goes
        ∙ ap (λ (r : Making (List ℕ)). r >>= (λ (s : List PoolEntry × List ℕ). then_rest (steps_made version other (place_behind pc l.line) (steps ++ tail) s.0) s.1)) step
        ∙ ap (λ (n : ℕ). then_rest (steps_made version other n (steps ++ tail) m.after) (operation_bytes body m.pc m.index m.operation)) behind
        ∙ ap (λ (r : Making (List ℕ)). then_rest r (operation_bytes body m.pc m.index m.operation)) rest

  -- ---- where labels stand

  -- each label of the names is there, and its place is marked
  abbrev pub AreMarked : List Text → Type 0
  AreMarked names = AllByRecursion (λ (name : Text). (q : ℕ) × (place_of name 0 body ≡ Some q) × (marks q ≡ true)) names

  module _ (version : ℕ) (pool last : List PoolEntry) (ms : List Made) (steps tail : List Numbered) (each : AllByRecursion (IsMade version body) ms) (linked : Linked 0 pool ms last) (names : AllZip Renames ms steps)
      (labels : (name : Text) (place : ℕ) → place_of name 0 body ≡ Some place → is_start (map (placed_of body) ms) place ≡ true) where
    pub same_place : (name : Text) (q : ℕ) → place_of name 0 body ≡ Some q → marks q ≡ true → place_of (renamed name) 0 (steps ++ tail) ≡ place_of name 0 body
    same_place name q is m =
        ap (λ (o : Option ℕ). place_of (label_of (place_or o)) 0 (steps ++ tail)) is
        ∙ label_stands version 0 q pool last ms steps tail each linked names m (labels name q is) ∙ sym is

    pub same_places : (of : List Text) → AreMarked of → SamePlaces (steps ++ tail) of
    same_places [] marked = tt
    same_places (name ∷ of) marked = (same_place name marked.0.0 marked.0.1 marked.0.2, same_places of marked.1)

    pub all_same : (some : List Made) → AllByRecursion (λ (m : Made). AreMarked (labels_of m.operation)) some → AllSame (steps ++ tail) some
    all_same [] marked = tt
    all_same (m ∷ some) marked = (same_places (labels_of m.operation) marked.0, all_same some marked.1)

  -- ---- the exception table

  pub record RenamesGuard (g : Guard) (l : Numbered) : Type 0 where
    pub is : l.line ≡ Some (Line.Catch (renamed g.from) (renamed g.to) (renamed g.handler) g.class)

  module _ (other : List Numbered) where
    -- the bounds and the handler stand where they stood
    abbrev pub SameBounds : List Guard → Type 0
    SameBounds guards = AllByRecursion (λ (g : Guard). SamePlaces other (g.from ∷ g.to ∷ g.handler ∷ [])) guards

    -- the lines of instructions have no entry
    pub steps_pass : (count : ℕ) (pool : List PoolEntry) (ms : List Made) (steps tail : List Numbered) → AllZip Renames ms steps → entries_made other count (steps ++ tail) pool ≡ entries_made other count tail pool
    steps_pass count pool [] [] tail names = refl
    steps_pass count pool [] (l ∷ steps) tail names = absurd names
    steps_pass count pool (m ∷ ms) [] tail names = absurd names
    steps_pass count pool (m ∷ ms) (l ∷ steps) tail names =
        ap (λ (o : Option Line). entries_made other count (record { number = l.number; line = o } ∷ (steps ++ tail)) pool) names.0.is
        ∙ added_none (entries_made other count (steps ++ tail) pool) ∙ steps_pass count pool ms steps tail names.1

    -- the lines of the exception table make the same entries, if those behind them make none
    pub entries_again : (count : ℕ) (pool : List PoolEntry) (made : List PoolEntry × List ExceptionEntry) (guards : List Guard) (lines tail : List Numbered) → AllZip RenamesGuard guards lines → SameBounds guards → EntriesOf body count guards pool made
        → ((n : ℕ) (p : List PoolEntry) → entries_made other n tail p ≡ Ok (p, [])) → entries_made other count (lines ++ tail) pool ≡ Ok made
    entries_again count pool made [] [] tail names same is none = none count pool ∙ ap (λ (m : List PoolEntry × List ExceptionEntry). let r : Making (List ExceptionEntry) = Ok m in r) is
    entries_again count pool made [] (l ∷ lines) tail names same is none = absurd names
    entries_again count pool made (g ∷ guards) [] tail names same is none = absurd names
    entries_again count pool made (g ∷ guards) (l ∷ lines) tail names same is none =
        let rest = entries_again (count + 1) is.0.0 is.3 guards lines tail names.1 same.1 is.4 none in
        let s : at_label other (renamed g.from) ≡ at_label body g.from = ap place_index same.0.0 in
        let e : at_label other (renamed g.to) ≡ at_label body g.to = ap place_index same.0.1.0 in
        let h : at_label other (renamed g.handler) ≡ at_label body g.handler = ap place_index same.0.1.1.0 in
        let entry : ℕ → ℕ → ℕ → ExceptionEntry = λ a b c. record { start = a; end = b; handler = c; catch_type = is.0.1 } in
        let new : ExceptionEntry = entry (at_label other (renamed g.from)) (at_label other (renamed g.to)) (at_label other (renamed g.handler)) in
        let old : ExceptionEntry = entry (at_label body g.from) (at_label body g.to) (at_label body g.handler) in
        let same_entry : new ≡ old =
        ap (λ (n : ℕ). entry n (at_label other (renamed g.to)) (at_label other (renamed g.handler))) s ∙ ap (λ (n : ℕ). entry (at_label body g.from) n (at_label other (renamed g.handler))) e ∙ ap (entry (at_label body g.from) (at_label body g.to)) h in
        let after : List PoolEntry × Option ExceptionEntry → Making (List ExceptionEntry) = λ v. counted l.number count v.1 (entries_made other (count_with count v.1) (lines ++ tail) v.0) in
        let first : entry_made other l.number l.line pool ≡ Ok (is.0.0, Some old) =
        ap (λ (o : Option Line). entry_made other l.number o pool) names.0.is
        ∙ ap (λ (r : Making ℕ). r >>= (λ (c : Placed). let k : Making (Option ExceptionEntry) = Ok (c.0, Some (record { start = at_label other (renamed g.from); end = at_label other (renamed g.to); handler = at_label other (renamed g.handler); catch_type = c.1 })) in k)) (is.1 l.number)
        ∙ ap (λ (x : ExceptionEntry). let k : Making (Option ExceptionEntry) = Ok (is.0.0, Some x) in k) same_entry in
        cond-false (is_end l.line) (Ok (pool, [])) _ (ap is_end names.0.is)
        ∙ ap (λ (r : Making (Option ExceptionEntry)). r >>= after) first
        ∙ cond-true (nat_lt count 65535) _ (Err l.number) (lt-ltb count 65535 is.2)
        ∙ ap (λ (r : Making (List ExceptionEntry)). r >>= (λ (m : List PoolEntry × List ExceptionEntry). let k : Making (List ExceptionEntry) = Ok (m.0, old ∷ m.1) in k)) rest
        ∙ ap (λ (m : List PoolEntry × List ExceptionEntry). let r : Making (List ExceptionEntry) = Ok m in r) is.5

  -- ---- the lines are right

  module _ (other : List Numbered) where
    all_there : (names : List Text) → SamePlaces other names → list_all (has_label other) (map renamed names) ≡ list_all (has_label body) names
    all_there [] same = refl
    all_there (name ∷ names) same =
        ap (λ (o : Option ℕ). is_some o && list_all (has_label other) (map renamed names)) same.0 ∙ ap (λ (t : Bool). has_label body name && t) (all_there names same.1)

    cases_there : (cases : List Case) → SamePlaces other (map (λ (c : Case). c.label) cases) → list_all (λ (c : Case). has_label other c.label) (map renamed_case cases) ≡ list_all (λ (c : Case). has_label body c.label) cases
    cases_there [] same = refl
    cases_there (c ∷ cases) same =
        ap (λ (o : Option ℕ). is_some o && list_all (λ (c : Case). has_label other c.label) (map renamed_case cases)) same.0 ∙ ap (λ (t : Bool). has_label body c.label && t) (cases_there cases same.1)

    -- a renamed instruction leads as well as the old one
    pub relabel_leads : (pc : ℕ) (o : Operation) → SamePlaces other (labels_of o) → leads_well other pc (relabel o) ≡ leads_well body pc o
    relabel_leads pc (Operation.Branch op to) same = ap (λ (p : Option ℕ). is_some p && (is_wide_form (form_of op) || is_integer 32767 (distance pc p))) same.0
    relabel_leads pc (Operation.TableSwitch low labels default) same =
        ap (λ (p : Option ℕ). is_some p && list_all (has_label other) (map renamed labels)) same.0 ∙ ap (λ (t : Bool). has_label body default && t) (all_there labels same.1)
    relabel_leads pc (Operation.LookupSwitch cases default) same =
        ap (λ (p : Option ℕ). is_some p && list_all (λ (c : Case). has_label other c.label) (map renamed_case cases)) same.0 ∙ ap (λ (t : Bool). has_label body default && t) (cases_there cases same.1)
    relabel_leads pc _ same = refl

    new_at : (pc : ℕ) → (marks pc ≡ true → place_of (label_of pc) 0 other ≡ Some pc) → is_new other pc (label_at pc) ≡ true
    new_at pc f = go (marks pc) f
      where
        go : (t : Bool) → (t ≡ true → place_of (label_of pc) 0 other ≡ Some pc) → is_new other pc (if t then Some (label_of pc) else None) ≡ true
        go true f = ap (is_at pc) (f refl) ∙ eq-eqb pc pc refl
        go false f = refl

    -- where each instruction's own label stands
    abbrev pub OwnPlaces : List Made → Type 0
    OwnPlaces ms = AllByRecursion (λ (m : Made). marks m.pc ≡ true → place_of (label_of m.pc) 0 other ≡ Some m.pc) ms

    -- the place behind the instructions
    abbrev pub end_of : ℕ → List Made → ℕ
    end_of pc [] = pc
    end_of pc (m ∷ ms) = end_of (pc + size_at pc m.operation) ms

    -- renamed lines are right, if those behind them are
    pub steps_right : (version pc : ℕ) (pool last : List PoolEntry) (ms : List Made) (steps tail : List Numbered) → AllByRecursion (IsMade version body) ms → Linked pc pool ms last → AllZip Renames ms steps → AllSame other ms → OwnPlaces ms
        → mislabelled other (end_of pc ms) tail ≡ None → mislabelled other pc (steps ++ tail) ≡ None
    steps_right version pc pool last [] [] tail each linked names same own right = right
    steps_right version pc pool last [] (l ∷ steps) tail each linked names same own right = absurd names
    steps_right version pc pool last (m ∷ ms) [] tail each linked names same own right = absurd names
    steps_right version pc pool last (m ∷ ms) (l ∷ steps) tail each linked names same own right =
        let room : pc + size_at pc m.operation ≤ 65535 = subst (λ (n : ℕ). n + size_at n m.operation ≤ 65535) linked.0 each.0.room in
        let behind : place_behind pc l.line ≡ pc + size_at pc m.operation = ap (place_behind pc) names.0.is ∙ behind_renamed pc (label_at m.pc) m.operation room in
        let there : advance pc (relabel m.operation) ≡ pc + size_at pc m.operation = behind_renamed pc (label_at m.pc) m.operation room in
        let leads : leads_well other pc (relabel m.operation) ≡ true =
        relabel_leads pc m.operation same.0 ∙ ap (λ (n : ℕ). leads_well body n m.operation) (sym linked.0) ∙ each.0.leads in
        let new : is_new other pc (label_at m.pc) ≡ true = ap (λ (n : ℕ). is_new other n (label_at m.pc)) (sym linked.0) ∙ new_at m.pc own.0 in
        let is : is_right other pc l.line ≡ true =
        ap (is_right other pc) names.0.is
        ∙ and_from (is_new other pc (label_at m.pc)) (leads_well other pc (relabel m.operation) && nat_le (advance pc (relabel m.operation)) 65535) new
        (and_from (leads_well other pc (relabel m.operation)) (nat_le (advance pc (relabel m.operation)) 65535) leads (le-leb (advance pc (relabel m.operation)) 65535 (omega (arith, there, room)))) in
        cond-true (is_right other pc l.line) (if is_head l.line then mislabelled (steps ++ tail) 0 (steps ++ tail) else mislabelled other (place_behind pc l.line) (steps ++ tail)) (Some l.number) is
        ∙ cond-false (is_head l.line) (mislabelled (steps ++ tail) 0 (steps ++ tail)) (mislabelled other (place_behind pc l.line) (steps ++ tail)) (ap is_head names.0.is)
        ∙ ap (λ (n : ℕ). mislabelled other n (steps ++ tail)) behind
        ∙ steps_right version (pc + size_at pc m.operation) m.after last ms steps tail each.1 linked.2 names.1 same.1 own.1 right

    -- the labels of the lines of the exception table are there
    abbrev pub AreThere : List Guard → Type 0
    AreThere guards = AllByRecursion (λ (g : Guard). (has_label body g.from && (has_label body g.to && has_label body g.handler)) ≡ true) guards

    pub guards_right : (pc : ℕ) (guards : List Guard) (lines tail : List Numbered) → AllZip RenamesGuard guards lines → SameBounds other guards → AreThere guards → mislabelled other pc tail ≡ None → mislabelled other pc (lines ++ tail) ≡ None
    guards_right pc [] [] tail names same are right = right
    guards_right pc [] (l ∷ lines) tail names same are right = absurd names
    guards_right pc (g ∷ guards) [] tail names same are right = absurd names
    guards_right pc (g ∷ guards) (l ∷ lines) tail names same are right =
        let is : is_right other pc l.line ≡ true =
        ap (is_right other pc) names.0.is
        ∙ ap (λ (p : Option ℕ). is_some p && (has_label other (renamed g.to) && has_label other (renamed g.handler))) same.0.0
        ∙ ap (λ (p : Option ℕ). has_label body g.from && (is_some p && has_label other (renamed g.handler))) same.0.1.0
        ∙ ap (λ (p : Option ℕ). has_label body g.from && (has_label body g.to && is_some p)) same.0.1.1.0
        ∙ are.0 in
        cond-true (is_right other pc l.line) (if is_head l.line then mislabelled (lines ++ tail) 0 (lines ++ tail) else mislabelled other (place_behind pc l.line) (lines ++ tail)) (Some l.number) is
        ∙ cond-false (is_head l.line) (mislabelled (lines ++ tail) 0 (lines ++ tail)) (mislabelled other (place_behind pc l.line) (lines ++ tail)) (ap is_head names.0.is)
        ∙ ap (λ (n : ℕ). mislabelled other n (lines ++ tail)) (ap (place_behind pc) names.0.is)
        ∙ guards_right pc guards lines tail names.1 same.1 are.1 right

    -- they make no instruction
    pub guards_pass : (version pc : ℕ) (pool : List PoolEntry) (guards : List Guard) (lines tail : List Numbered) → AllZip RenamesGuard guards lines → steps_made version other pc tail pool ≡ Ok (pool, []) → steps_made version other pc (lines ++ tail) pool ≡ Ok (pool, [])
    guards_pass version pc pool [] [] tail names none = none
    guards_pass version pc pool [] (l ∷ lines) tail names none = absurd names
    guards_pass version pc pool (g ∷ guards) [] tail names none = absurd names
    guards_pass version pc pool (g ∷ guards) (l ∷ lines) tail names none =
        ap (λ (o : Option Line). steps_made version other pc (record { number = l.number; line = o } ∷ (lines ++ tail)) pool) names.0.is
        ∙ ap (λ (r : Making (List ℕ)). r >>= (λ (more : List PoolEntry × List ℕ). let k : Making (List ℕ) = Ok (more.0, more.1) in k)) (guards_pass version pc pool guards lines tail names.1 none)

    -- nor is anything made from a method's end on
    pub end_passes : (version pc : ℕ) (pool : List PoolEntry) (e : Numbered) (rest : List Numbered) → e.line ≡ Some Line.End → steps_made version other pc (e ∷ rest) pool ≡ Ok (pool, [])
    end_passes version pc pool e rest is = cond-true (is_end e.line) (Ok (pool, [])) _ (ap is_end is)

    pub end_enters : (count : ℕ) (pool : List PoolEntry) (e : Numbered) (rest : List Numbered) → e.line ≡ Some Line.End → entries_made other count (e ∷ rest) pool ≡ Ok (pool, [])
    end_enters count pool e rest is = cond-true (is_end e.line) (Ok (pool, [])) _ (ap is_end is)
