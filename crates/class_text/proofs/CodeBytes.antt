-- Code that is made of lines is of bytes.
use Rattle.std.proofs.Common.{◌≡◌, ℕ, zero, suc, ◌<◌, ◌≤◌, ◌%◌, ◌/◌, true, List, [], ◌∷◌, ◌++◌, length, take, refl, ap, ◌∙◌, arith, ℤ, pos, ◌+ℤ◌, ◌-ℤ◌}
use Rattle.std.specs.Int.{w32, to_be_bytes, cast_unsigned}
use Rattle.std.specs.List.{AllByRecursion, flat_map}
use Rattle.std.proofs.lemmas.Bool.{and_parts, and_from, lt-ltb}
use Rattle.std.proofs.lemmas.List.Folds.{list_all-append}
use Rattle.opcode_table.specs.Bytes.{IsBytes, IsBytes-rest}
use Rattle.opcode_table.specs.Placed.{spelling_fits}
use Rattle.opcode_table.specs.Spelling.{spelling, s4_bytes}
use Rattle.class_file.specs.Range.{is_u1, are_bytes}
use Rattle.class_lines.specs.declared.line.Operation.{Operation}
use Rattle.class_lines.specs.declared.line.Case.{Case}
use Rattle.class_lines.specs.Words.{Text}
use Rattle.class_text.specs.declared.numbered.Numbered.{Numbered}
use Rattle.class_text.specs.Labels.{padding, place_of, distance, leads_well}
use Rattle.class_lines.specs.Lines.{is_operation}
use Rattle.class_text.specs.Bytes.{fitting, zeros, place_bytes, switch_bytes, table_bytes, case_bytes, cases_bytes, operation_bytes}
use Rattle.class_text.specs.Meaning.{insn_of}
use Rattle.class_text.proofs.Insns.{HasIndex, AreNear, IsNoSwitch, operation_spelled}
use Rattle.class_text.proofs.Steps.{Made, IsMade, bytes_of, indexed}

each_byte : (bytes : List ℕ) → IsBytes bytes → are_bytes bytes ≡ true
each_byte [] fits = refl
each_byte (b ∷ bytes) fits = and_from (is_u1 b) (are_bytes bytes) (lt-ltb b 256 (fits 0)) (each_byte bytes (IsBytes-rest b bytes fits))

both_bytes : (xs ys : List ℕ) → are_bytes xs ≡ true → are_bytes ys ≡ true → are_bytes (xs ++ ys) ≡ true
both_bytes xs ys h k = list_all-append is_u1 xs ys ∙ and_from (are_bytes xs) (are_bytes ys) h k

byte_first : (b : ℕ) (bytes : List ℕ) → b < 256 → are_bytes bytes ≡ true → are_bytes (b ∷ bytes) ≡ true
byte_first b bytes lt h = and_from (is_u1 b) (are_bytes bytes) (lt-ltb b 256 lt) h

number_bytes : (n : ℕ) → are_bytes (to_be_bytes w32 n) ≡ true
number_bytes n =
    byte_first (n / 16777216 % 256) (n / 65536 % 256 ∷ n / 256 % 256 ∷ n % 256 ∷ []) (omega arith)
    (byte_first (n / 65536 % 256) (n / 256 % 256 ∷ n % 256 ∷ []) (omega arith)
    (byte_first (n / 256 % 256) (n % 256 ∷ []) (omega arith)
    (byte_first (n % 256) [] (omega arith) refl)))

word_bytes : (z : ℤ) → are_bytes (s4_bytes z) ≡ true
word_bytes z = number_bytes (cast_unsigned w32 z)

taken_bytes : (n : ℕ) (bytes : List ℕ) → are_bytes bytes ≡ true → are_bytes (take n bytes) ≡ true
taken_bytes zero bytes h = refl
taken_bytes (suc n) [] h = refl
taken_bytes (suc n) (b ∷ bytes) h = let p = and_parts (is_u1 b) (are_bytes bytes) h in and_from (is_u1 b) (are_bytes (take n bytes)) p.0 (taken_bytes n bytes p.1)

each_of : {X : Type 0} (f : X → List ℕ) → ((x : X) → are_bytes (f x) ≡ true) → (xs : List X) → are_bytes (flat_map f xs) ≡ true
each_of f h [] = refl
each_of f h (x ∷ xs) = both_bytes (f x) (flat_map f xs) (h x) (each_of f h xs)

way_bytes : (body : List Numbered) (pc : ℕ) (label : Text) → are_bytes (place_bytes body pc label) ≡ true
way_bytes body pc label = word_bytes (fitting 2147483647 (distance pc (place_of label 0 body)))

head_bytes : (body : List Numbered) (pc op : ℕ) (default : Text) → op < 256 → are_bytes (switch_bytes body pc op default) ≡ true
head_bytes body pc op default lt = both_bytes (op ∷ zeros pc) (place_bytes body pc default) (byte_first op (zeros pc) lt (taken_bytes (padding pc) (0 ∷ 0 ∷ 0 ∷ []) refl)) (way_bytes body pc default)

table_are : (body : List Numbered) (pc : ℕ) (low : ℤ) (labels : List Text) → are_bytes (table_bytes body pc low labels) ≡ true
unfolding table_bytes
table_are body pc low labels =
    let high : ℤ = fitting 2147483647 (low +ℤ pos (length labels) -ℤ pos 1) in
    both_bytes (s4_bytes low) (s4_bytes high ++ flat_map (place_bytes body pc) labels) (word_bytes low)
    (both_bytes (s4_bytes high) (flat_map (place_bytes body pc) labels) (word_bytes high) (each_of (place_bytes body pc) (way_bytes body pc) labels))

cases_are : (body : List Numbered) (pc : ℕ) (cases : List Case) → are_bytes (cases_bytes body pc cases) ≡ true
cases_are body pc cases =
    let count : ℤ = fitting 2147483647 (pos (length cases)) in
    both_bytes (s4_bytes count) (flat_map (case_bytes body pc) cases) (word_bytes count)
    (each_of (case_bytes body pc) (λ (c : Case). both_bytes (s4_bytes c.key) (place_bytes body pc c.label) (word_bytes c.key) (way_bytes body pc c.label)) cases)

single_bytes : (body : List Numbered) (pc index : ℕ) (o : Operation) → is_operation o ≡ true → leads_well body pc o ≡ true → HasIndex index o → pc ≤ 65535 → AreNear body → IsNoSwitch o → are_bytes (operation_bytes body pc index o) ≡ true
single_bytes body pc index o form leads has le near alone =
    let s = operation_spelled body pc index o form leads has le near alone in
    ap are_bytes s.bytes ∙ each_byte (spelling (insn_of body pc index o)) (spelling_fits (insn_of body pc index o) s.valid)

operation_are : (body : List Numbered) (pc index : ℕ) (o : Operation) → is_operation o ≡ true → leads_well body pc o ≡ true → HasIndex index o → pc ≤ 65535 → AreNear body → are_bytes (operation_bytes body pc index o) ≡ true
operation_are body pc index (Operation.TableSwitch low labels default) form leads has le near =
    both_bytes (switch_bytes body pc 170 default) (table_bytes body pc low labels) (head_bytes body pc 170 default (omega arith)) (table_are body pc low labels)
operation_are body pc index (Operation.LookupSwitch cases default) form leads has le near =
    both_bytes (switch_bytes body pc 171 default) (cases_bytes body pc cases) (head_bytes body pc 171 default (omega arith)) (cases_are body pc cases)
operation_are body pc index (Operation.Plain op) form leads has le near = single_bytes body pc index (Operation.Plain op) form leads has le near tt
operation_are body pc index (Operation.Bipush value) form leads has le near = single_bytes body pc index (Operation.Bipush value) form leads has le near tt
operation_are body pc index (Operation.Sipush value) form leads has le near = single_bytes body pc index (Operation.Sipush value) form leads has le near tt
operation_are body pc index (Operation.Local op local) form leads has le near = single_bytes body pc index (Operation.Local op local) form leads has le near tt
operation_are body pc index (Operation.Iinc local by) form leads has le near = single_bytes body pc index (Operation.Iinc local by) form leads has le near tt
operation_are body pc index (Operation.Constant op constant) form leads has le near = single_bytes body pc index (Operation.Constant op constant) form leads has le near tt
operation_are body pc index (Operation.Long n) form leads has le near = single_bytes body pc index (Operation.Long n) form leads has le near tt
operation_are body pc index (Operation.Double bits) form leads has le near = single_bytes body pc index (Operation.Double bits) form leads has le near tt
operation_are body pc index (Operation.Member op class name descriptor) form leads has le near = single_bytes body pc index (Operation.Member op class name descriptor) form leads has le near tt
operation_are body pc index (Operation.Class op class) form leads has le near = single_bytes body pc index (Operation.Class op class) form leads has le near tt
operation_are body pc index (Operation.NewArray kind) form leads has le near = single_bytes body pc index (Operation.NewArray kind) form leads has le near tt
operation_are body pc index (Operation.Multi class dims) form leads has le near = single_bytes body pc index (Operation.Multi class dims) form leads has le near tt
operation_are body pc index (Operation.Branch op to) form leads has le near = single_bytes body pc index (Operation.Branch op to) form leads has le near tt

pub code_bytes : (version : ℕ) (body : List Numbered) (ms : List Made) → AreNear body → AllByRecursion (IsMade version body) ms → are_bytes (bytes_of body ms) ≡ true
code_bytes version body [] near each = refl
code_bytes version body (m ∷ ms) near each =
    let room = each.0.room in
    both_bytes (operation_bytes body m.pc m.index m.operation) (bytes_of body ms)
    (operation_are body m.pc m.index m.operation each.0.form each.0.leads (indexed version body m each.0).has (omega arith) near) (code_bytes version body ms near each.1)
