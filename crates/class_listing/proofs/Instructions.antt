-- An instruction of a class that came from lines is written as its line was, with the labels of places.
use Rattle.std.proofs.Common.{◌≡◌, ℕ, zero, suc, ◌+◌, ◌-◌, ◌^◌, ◌<◌, ◌≤◌, Bool, true, false, ◌&&◌, List, [], ◌∷◌, ◌++◌, length, map, Option, Some, None, refl, sym, ap, subst, ◌∙◌, arith, inl, inr, ℤ, pos, negsuc, ◌+ℤ◌}
use Rattle.std.specs.Prelude.{if◌then◌else◌, ◌==◌, ◌||◌, nat_le, nat_lt, int_lt, option_and_then}
use Rattle.std.specs.List.{AllByRecursion, list_all}
use Rattle.std.proofs.lemmas.Bool.{and_parts, and_from, and_right, lt-leb, le-leb, lt-ltb, leb-true, ltb-true, ne_eqb, eqb-true, cases_eq}
use Rattle.std.proofs.lemmas.List.{map-append, length-map}
use Rattle.opcode_table.specs.declared.insn.Insn.{Insn}
use Rattle.opcode_table.specs.Decoding.{table_place, switch_default, table_low, table_count, table_offset, pair_count, pair_key, pair_offset}
use Rattle.class_file.specs.declared.pool.PoolEntry.{PoolEntry}
use Rattle.class_file.specs.declared.pool.PoolEntry.TheVariants as entry
use Rattle.class_file.specs.Pool.{Reference, entry_at, as_class, as_string, as_field, field_at, as_method, method_at}
use Rattle.class_file.specs.Code.{numbered, offsets}
use Rattle.class_file.specs.Text.{within, dimensions}
use Rattle.class_lines.specs.declared.line.Operation.{Operation}
use Rattle.class_lines.specs.declared.line.Constant.{Constant}
use Rattle.class_lines.specs.declared.line.Case.{Case}
use Rattle.class_lines.specs.Words.{Text, fits}
use Rattle.class_lines.specs.Lines.{is_integer, is_constant, has_form, is_branch_form, is_member_type, is_class_op, are_cases, is_operation, are_characters, has_text_targets}
use Rattle.class_lines.proofs.WordKinds.{type_kind, member_kind, field_kind, method_kind, label_kind}
use Rattle.class_lines.proofs.LinesRead.{either_of}
use Rattle.class_text.proofs.NumberedLines.{NumberedLine as Numbered}
use Rattle.class_text.specs.Labels.{place_of, distance}
use Rattle.class_text.specs.Bytes.{argument_slots}
use Rattle.class_text.specs.Meaning.{insn_of, labels_of, HasKeys, NamesConstant, NamesMember, Names, StandsIn}
use Rattle.class_text.proofs.Numbers.{back}
use Rattle.class_text.proofs.Relabelled.{place_or, renamed, renamed_case, relabel}
use Rattle.class_listing.specs.Names.{shown, class_shown, interface_method_at, as_interface_method, label}
use Rattle.class_listing.specs.Steps.{no_constant, string_constant, class_constant, constant_of, wide_constant_of, member_of, pool_operation, target, case_at, operation_of}
use Rattle.class_listing.proofs.Labels.{label_of, label_is, apart, label_fits, label_characters}
use Rattle.class_listing.proofs.Shown.{word_shown, text_is, class_is}

-- ---- constants

above : (low high b : ℕ) → high ≤ b → within low high b ≡ false
above low high b h = and_right (nat_le low b) (nat_lt b high) (lt-leb (suc b) high (omega arith))

inside : (low high b : ℕ) → low ≤ b → b < high → within low high b ≡ true
inside low high b l h = and_from (nat_le low b) (nat_lt b high) (le-leb low b l) (lt-ltb b high h)

string_is : (pool : List PoolEntry) (o : Option PoolEntry) (text : Text) → option_and_then (as_string pool) o ≡ Some text → constant_of pool o ≡ Constant.Text text
string_is pool (Some (entry.String t)) text h = ap string_constant h
string_is pool (Some _) text h = absurd cc
string_is pool None text h = absurd cc

class_constant_is : (pool : List PoolEntry) (o : Option PoolEntry) (class : Text) → is_constant (Constant.Class class) ≡ true → option_and_then (as_class pool) o ≡ Some class → constant_of pool o ≡ Constant.Class class
class_constant_is pool (Some (entry.Class n)) class is h =
    ap class_constant (text_is type_kind pool n class (and_parts (fits type_kind class) _ is).0 h) ∙ ap (λ (t : Bool). if t then Constant.Class class else no_constant) is
class_constant_is pool (Some _) class is h = absurd cc
class_constant_is pool None class is h = absurd cc

constant_is : (pool : List PoolEntry) (index : ℕ) (c : Constant) → is_constant c ≡ true → NamesConstant pool index c → constant_of pool (entry_at pool index) ≡ c
constant_is pool index (Constant.Int n) is names = ap (constant_of pool) names
constant_is pool index (Constant.Float bits) is names = ap (constant_of pool) names
constant_is pool index (Constant.Text text) is names = string_is pool (entry_at pool index) text names
constant_is pool index (Constant.Class class) is names = class_constant_is pool (entry_at pool index) class is names

pushed_is : (pool : List PoolEntry) (op index : ℕ) (c : Constant) → ((op == 18 || op == 19) && is_constant c) ≡ true → NamesConstant pool index c → pool_operation pool op index ≡ Operation.Constant op c
pushed_is pool op index c h names =
    let p = and_parts (op == 18 || op == 19) (is_constant c) h in
    let is = constant_is pool index c p.1 names in
    let Goal : ℕ → Type 0 = λ n. pool_operation pool n index ≡ Operation.Constant n c in
    elim (either_of (op == 18) (op == 19) p.0) [
      | inl e ↦ subst Goal (sym (eqb-true op 18 e)) (ap (Operation.Constant 18) is)
      | inr e ↦ subst Goal (sym (eqb-true op 19 e)) (ap (Operation.Constant 19) is)
    ]

-- ---- members

abbrev reference : Text → Text → Text → Reference
reference class name descriptor = record { class = class; member = record { name = name; descriptor = descriptor } }

type_shown : (op : ℕ) (descriptor : Text) → is_member_type op descriptor ≡ true → shown (Some descriptor) ≡ descriptor
type_shown op descriptor h =
    elim (either_of (within 178 182 op && fits field_kind descriptor) (within 182 186 op && fits method_kind descriptor) h) [
      | inl f ↦ word_shown field_kind descriptor (and_parts (within 178 182 op) (fits field_kind descriptor) f).1
      | inr f ↦ word_shown method_kind descriptor (and_parts (within 182 186 op) (fits method_kind descriptor) f).1
    ]

shown_member : (op : ℕ) (class name descriptor : Text) → is_operation (Operation.Member op class name descriptor) ≡ true → member_of op (Some (reference class name descriptor)) ≡ Operation.Member op class name descriptor
shown_member op class name descriptor h =
    let p = and_parts (fits type_kind class) (fits member_kind name && is_member_type op descriptor) h in
    let q = and_parts (fits member_kind name) (is_member_type op descriptor) p.1 in
    ap (λ (c : Text). Operation.Member op c (shown (Some name)) (shown (Some descriptor))) (word_shown type_kind class p.0)
    ∙ ap (λ (n : Text). Operation.Member op class n (shown (Some descriptor))) (word_shown member_kind name q.0)
    ∙ ap (Operation.Member op class name) (type_shown op descriptor q.1)

abbrev kind_of : Bool → Bool → ℕ → ℕ → PoolEntry
kind_of field interface class member = if field then entry.Fieldref class member else (if interface then entry.InterfaceMethodref class member else entry.Methodref class member)

field_insn : (pool : List PoolEntry) (op index : ℕ) (r : Reference) → 178 ≤ op → op < 182 → NamesMember pool index op r → pool_operation pool op index ≡ member_of op (Some r)
field_insn pool op index r low high n =
    let kind : entry_at pool index ≡ Some (entry.Fieldref n.class n.member) = n.at ∙ ap (λ (t : Bool). Some (kind_of t (op == 185) n.class n.member)) (le-leb op 181 (omega arith)) in
    let found : field_at pool index ≡ Some r = ap (option_and_then (as_field pool)) kind ∙ n.names in
    let first : pool_operation pool op index ≡ member_of op (field_at pool index) = rw (above 18 20 op (omega arith), ne_eqb op 20 (λ e. omega arith), inside 178 182 op low high) refl in
    first ∙ ap (member_of op) found

method_insn : (pool : List PoolEntry) (op index : ℕ) (r : Reference) → 182 ≤ op → op < 185 → NamesMember pool index op r → pool_operation pool op index ≡ member_of op (Some r)
method_insn pool op index r low high n =
    let kind : entry_at pool index ≡ Some (entry.Methodref n.class n.member) =
    n.at ∙ ap (λ (t : Bool). Some (kind_of t (op == 185) n.class n.member)) (lt-leb op 181 (omega arith)) ∙ ap (λ (t : Bool). Some (kind_of false t n.class n.member)) (ne_eqb op 185 (λ e. omega arith)) in
    let found : method_at pool index ≡ Some r = ap (option_and_then (as_method pool)) kind ∙ n.names in
    let first : pool_operation pool op index ≡ member_of op (method_at pool index) = rw (above 18 20 op (omega arith), ne_eqb op 20 (λ e. omega arith), above 178 182 op low, inside 182 185 op low high) refl in
    first ∙ ap (member_of op) found

interface_insn : (pool : List PoolEntry) (index : ℕ) (r : Reference) → NamesMember pool index 185 r → member_of 185 (interface_method_at pool index) ≡ member_of 185 (Some r)
interface_insn pool index r n = ap (member_of 185) (ap (option_and_then (as_interface_method pool)) n.at ∙ n.names)

-- ---- classes

class_op_high : (op : ℕ) (class : Text) → is_class_op op class ≡ true → 187 ≤ op
class_op_high op class h =
    elim (either_of (op == 187) ((op == 189 && nat_lt (dimensions class) 255) || within 192 194 op) h) [
      | inl e ↦ let is = eqb-true op 187 e in omega arith
      | inr more ↦ elim (either_of (op == 189 && nat_lt (dimensions class) 255) (within 192 194 op) more) [
        | inl array ↦ let is = eqb-true op 189 (and_parts (op == 189) (nat_lt (dimensions class) 255) array).0 in omega arith
        | inr checks ↦ let low = leb-true 192 op (and_parts (nat_le 192 op) (nat_lt op 194) checks).0 in omega arith
      ]
    ]

class_insn : (pool : List PoolEntry) (op index : ℕ) → 187 ≤ op → pool_operation pool op index ≡ Operation.Class op (class_shown pool index)
class_insn pool op index low = rw (above 18 20 op (omega arith), ne_eqb op 20 (λ e. omega arith), above 178 182 op (omega arith), above 182 185 op (omega arith)) refl

-- ---- lists by numbers

numbered_map : {X Y : Type 0} (f : X → Y) (n : ℕ) (g : ℕ → X) → map f (numbered n g) ≡ numbered n (λ i. f (g i))
numbered_map f zero g = refl
numbered_map f (suc n) g = map-append f (numbered n g) (g n ∷ []) ∙ ap (λ l. l ++ f (g n) ∷ []) (numbered_map f n g)

parts : {X : Type 0} (x y : X) (xs ys : List X) → ◌≡◌ {A = List X} (x ∷ xs) (y ∷ ys) → (x ≡ y) × (xs ≡ ys)
parts x y xs ys e = (cc, cc)

same_cases : (f : Text → Text) (ps cases : List Case) → map (λ (c : Case). c.key) ps ≡ map (λ (c : Case). c.key) cases → map (λ (c : Case). c.label) ps ≡ map f (map (λ (c : Case). c.label) cases)
    → ps ≡ map (λ (c : Case). let k : Case = record { key = c.key; label = f c.label } in k) cases
same_cases f [] [] ks ls = refl
same_cases f [] (c ∷ cases) ks ls = absurd cc
same_cases f (p ∷ ps) [] ks ls = absurd cc
same_cases f (p ∷ ps) (c ∷ cases) ks ls =
    let k = parts p.key c.key (map (λ (c : Case). c.key) ps) (map (λ (c : Case). c.key) cases) ks in
    let l = parts p.label (f c.label) (map (λ (c : Case). c.label) ps) (map f (map (λ (c : Case). c.label) cases)) ls in
    let rest : List Case → List Case = map (λ (c : Case). let k : Case = record { key = c.key; label = f c.label } in k) in
    ap (λ (x : ℤ). let q : Case = record { key = x; label = p.label } in q ∷ ps) k.0
    ∙ ap (λ (x : Text). let q : Case = record { key = c.key; label = x } in q ∷ ps) l.0
    ∙ ap (λ (t : List Case). let q : Case = record { key = c.key; label = f c.label } in q ∷ t) (same_cases f ps cases k.1 l.1)

-- ---- instructions

module _ (marks : ℕ → Bool) (body : List Numbered) where
  abbrev again : Text → Text
  again name = renamed label_of apart marks body name

  abbrev pub relabelled : Operation → Operation
  relabelled o = relabel label_of apart marks body o

  pub place_label : (name : Text) (place : ℕ) → place_of name 0 body ≡ Some place → place ≤ 65535 → again name ≡ label (pos place)
  place_label name place is le = ap (λ (o : Option ℕ). label_of (place_or o)) is ∙ label_is place le

  target_is : (pc : ℕ) (name : Text) → StandsIn body name → target pc (distance pc (place_of name 0 body)) ≡ again name
  target_is pc name s = ap (λ (o : Option ℕ). target pc (distance pc o)) s.1 ∙ ap label (back pc s.0) ∙ sym (place_label name s.0 s.1 s.2)

  targets_are : (pc : ℕ) (names : List Text) → AllByRecursion (StandsIn body) names → map (target pc) (map (λ name. distance pc (place_of name 0 body)) names) ≡ map again names
  targets_are pc [] there = refl
  targets_are pc (name ∷ names) there =
      ap (λ (t : Text). t ∷ map (target pc) (map (λ name. distance pc (place_of name 0 body)) names)) (target_is pc name there.0) ∙ ap (λ (l : List Text). again name ∷ l) (targets_are pc names there.1)

  table_is : (code : List ℕ) (pc table : ℕ) (low : ℤ) (labels : List Text) (default : Text) → AllByRecursion (StandsIn body) (default ∷ labels) → offsets code (Insn.TableSwitch table) ≡ map (λ name. distance pc (place_of name 0 body)) (default ∷ labels) → table_low code table ≡ low
      → operation_of [] code pc (Insn.TableSwitch table) ≡ relabelled (Operation.TableSwitch low labels default)
  table_is code pc table low labels default there leads keys =
      let all : map (target pc) (offsets code (Insn.TableSwitch table)) ≡ map again (default ∷ labels) = ap (map (target pc)) leads ∙ targets_are pc (default ∷ labels) there in
      let p = parts (target pc (switch_default code table)) (again default) (map (target pc) (numbered (table_count code table) (table_offset code table))) (map again labels) all in
      let count : ℕ = table_count code table in
      ap (λ (n : ℤ). Operation.TableSwitch n (numbered count (λ i. target pc (table_offset code table i))) (target pc (switch_default code table))) keys
      ∙ ap (λ (l : List Text). Operation.TableSwitch low l (target pc (switch_default code table))) (sym (numbered_map (target pc) count (table_offset code table)) ∙ p.1)
      ∙ ap (Operation.TableSwitch low (map again labels)) p.0

  lookup_is : (code : List ℕ) (pc table : ℕ) (cases : List Case) (default : Text) → AllByRecursion (StandsIn body) (default ∷ map (λ (c : Case). c.label) cases) → offsets code (Insn.LookupSwitch table) ≡ map (λ name. distance pc (place_of name 0 body)) (default ∷ map (λ (c : Case). c.label) cases)
      → numbered (pair_count code table) (pair_key code table) ≡ map (λ (c : Case). c.key) cases → operation_of [] code pc (Insn.LookupSwitch table) ≡ relabelled (Operation.LookupSwitch cases default)
  lookup_is code pc table cases default there leads keys =
      let labels : List Text = map (λ (c : Case). c.label) cases in
      let all : map (target pc) (offsets code (Insn.LookupSwitch table)) ≡ map again (default ∷ labels) = ap (map (target pc)) leads ∙ targets_are pc (default ∷ labels) there in
      let count : ℕ = pair_count code table in
      let p = parts (target pc (switch_default code table)) (again default) (map (target pc) (numbered count (pair_offset code table))) (map again labels) all in
      let ps : List Case = numbered count (case_at code pc table) in
      let ks : map (λ (c : Case). c.key) ps ≡ map (λ (c : Case). c.key) cases = numbered_map (λ (c : Case). c.key) count (case_at code pc table) ∙ keys in
      let ls : map (λ (c : Case). c.label) ps ≡ map again labels = numbered_map (λ (c : Case). c.label) count (case_at code pc table) ∙ sym (numbered_map (target pc) count (pair_offset code table)) ∙ p.1 in
      ap (λ (l : List Case). Operation.LookupSwitch l (target pc (switch_default code table))) (same_cases again ps cases ks ls)
      ∙ ap (Operation.LookupSwitch (map (renamed_case label_of apart marks body) cases)) p.0

  member_is : (pool : List PoolEntry) (code : List ℕ) (pc op index : ℕ) (class name descriptor : Text) → is_operation (Operation.Member op class name descriptor) ≡ true → NamesMember pool index op (reference class name descriptor)
      → operation_of pool code pc (insn_of body pc index (Operation.Member op class name descriptor)) ≡ Operation.Member op class name descriptor
  member_is pool code pc op index class name descriptor h n =
      let p = and_parts (fits type_kind class) (fits member_kind name && is_member_type op descriptor) h in
      let t = (and_parts (fits member_kind name) (is_member_type op descriptor) p.1).1 in
      let r : Reference = reference class name descriptor in
      let plain : (op == 185) ≡ false → operation_of pool code pc (insn_of body pc index (Operation.Member op class name descriptor)) ≡ pool_operation pool op index =
      λ e. ap (λ (b : Bool). operation_of pool code pc (if b then Insn.Interface index (argument_slots descriptor) 0 else Insn.Pool op index)) e in
      elim (either_of (within 178 182 op && fits field_kind descriptor) (within 182 186 op && fits method_kind descriptor) t) [
        | inl f ↦
            let w = and_parts (nat_le 178 op) (nat_lt op 182) (and_parts (within 178 182 op) (fits field_kind descriptor) f).0 in
            let low = leb-true 178 op w.0 in let high = ltb-true op 182 w.1 in
            plain (ne_eqb op 185 (λ e. omega arith)) ∙ field_insn pool op index r low high n ∙ shown_member op class name descriptor h
        | inr f ↦
            let w = and_parts (nat_le 182 op) (nat_lt op 186) (and_parts (within 182 186 op) (fits method_kind descriptor) f).0 in
            let low = leb-true 182 op w.0 in let high = ltb-true op 186 w.1 in
            elim (cases_eq op 185) [
              | inl e ↦
                  subst (λ (k : ℕ). is_operation (Operation.Member k class name descriptor) ≡ true → NamesMember pool index k r → operation_of pool code pc (insn_of body pc index (Operation.Member k class name descriptor)) ≡ Operation.Member k class name descriptor) (sym e)
                  (λ h n. interface_insn pool index r n ∙ shown_member 185 class name descriptor h) h n
              | inr ne ↦ plain (ne_eqb op 185 ne) ∙ method_insn pool op index r low (omega (arith, ne)) n ∙ shown_member op class name descriptor h
            ]
      ]

  -- it is written as its line, with other labels
  pub operation_is : (pool : List PoolEntry) (code : List ℕ) (pc index : ℕ) (o : Operation) → is_operation o ≡ true → Names pool index o → AllByRecursion (StandsIn body) (labels_of o)
      → offsets code (insn_of body pc index o) ≡ map (λ name. distance pc (place_of name 0 body)) (labels_of o) → HasKeys code pc o → operation_of pool code pc (insn_of body pc index o) ≡ relabelled o
  operation_is pool code pc index (Operation.Plain op) h names there leads keys = refl
  operation_is pool code pc index (Operation.Bipush value) h names there leads keys = refl
  operation_is pool code pc index (Operation.Sipush value) h names there leads keys = refl
  operation_is pool code pc index (Operation.Local op local) h names there leads keys = refl
  operation_is pool code pc index (Operation.Iinc local by) h names there leads keys = refl
  operation_is pool code pc index (Operation.Constant op constant) h names there leads keys = pushed_is pool op index constant h names
  operation_is pool code pc index (Operation.Long n) h names there leads keys = ap wide_constant_of names
  operation_is pool code pc index (Operation.Double bits) h names there leads keys = ap wide_constant_of names
  operation_is pool code pc index (Operation.Member op class name descriptor) h names there leads keys = member_is pool code pc op index class name descriptor h names
  operation_is pool code pc index (Operation.Class op class) h names there leads keys =
      let p = and_parts (fits type_kind class) (is_class_op op class) h in
      class_insn pool op index (class_op_high op class p.1) ∙ ap (Operation.Class op) (class_is type_kind pool index class p.0 names)
  operation_is pool code pc index (Operation.NewArray array) h names there leads keys = refl
  operation_is pool code pc index (Operation.Multi class dims) h names there leads keys =
      ap (λ (c : Text). Operation.Multi c dims) (class_is type_kind pool index class (and_parts (fits type_kind class) _ h).0 names)
  operation_is pool code pc index (Operation.Branch op to) h names there leads keys = ap (Operation.Branch op) (target_is pc to there.0)
  operation_is pool code pc index (Operation.TableSwitch low labels default) h names there leads keys = table_is code pc (table_place pc) low labels default there leads keys
  operation_is pool code pc index (Operation.LookupSwitch cases default) h names there leads keys = lookup_is code pc (table_place pc) cases default there leads keys

  -- ---- its form

  again_fits : (name : Text) → StandsIn body name → fits label_kind (again name) ≡ true
  again_fits name s = subst (λ (t : Text). fits label_kind t ≡ true) (sym (place_label name s.0 s.1 s.2)) (label_fits s.0 s.2)

  again_characters : (name : Text) → StandsIn body name → are_characters (again name) ≡ true
  again_characters name s = subst (λ (t : Text). are_characters t ≡ true) (sym (place_label name s.0 s.1 s.2)) (label_characters s.0 s.2)

  all_again : (test : Text → Bool) → ((name : Text) → StandsIn body name → test (again name) ≡ true) → (names : List Text) → AllByRecursion (StandsIn body) names → list_all test (map again names) ≡ true
  all_again test each [] there = refl
  all_again test each (name ∷ names) there = and_from (test (again name)) (list_all test (map again names)) (each name there.0) (all_again test each names there.1)

  cases_again : (key : ℤ) (cases : List Case) → are_cases key cases ≡ true → AllByRecursion (StandsIn body) (map (λ (c : Case). c.label) cases) → are_cases key (map (renamed_case label_of apart marks body) cases) ≡ true
  cases_again key [] h there = refl
  cases_again key (c ∷ cases) h there =
      let p = and_parts (int_lt key c.key) (is_integer (2 ^ 31 - 1) c.key && (fits label_kind c.label && are_cases c.key cases)) h in
      let q = and_parts (is_integer (2 ^ 31 - 1) c.key) (fits label_kind c.label && are_cases c.key cases) p.1 in
      let r = and_parts (fits label_kind c.label) (are_cases c.key cases) q.1 in
      let rest : Bool = are_cases c.key (map (renamed_case label_of apart marks body) cases) in
      and_from (int_lt key c.key) (is_integer (2 ^ 31 - 1) c.key && (fits label_kind (again c.label) && rest)) p.0
      (and_from (is_integer (2 ^ 31 - 1) c.key) (fits label_kind (again c.label) && rest) q.0
      (and_from (fits label_kind (again c.label)) rest (again_fits c.label there.0) (cases_again c.key cases r.1 there.1)))

  cases_characters : (cases : List Case) → AllByRecursion (StandsIn body) (map (λ (c : Case). c.label) cases) → list_all (λ (c : Case). are_characters c.label) (map (renamed_case label_of apart marks body) cases) ≡ true
  cases_characters [] there = refl
  cases_characters (c ∷ cases) there =
      and_from (are_characters (again c.label)) (list_all (λ (c : Case). are_characters c.label) (map (renamed_case label_of apart marks body) cases)) (again_characters c.label there.0) (cases_characters cases there.1)

  pub form_again : (o : Operation) → is_operation o ≡ true → AllByRecursion (StandsIn body) (labels_of o) → is_operation (relabelled o) ≡ true
  form_again (Operation.Branch op to) h there =
      let p = and_parts (has_form op is_branch_form) (fits label_kind to) h in and_from (has_form op is_branch_form) (fits label_kind (again to)) p.0 (again_fits to there.0)
  form_again (Operation.TableSwitch low labels default) h there =
      let few : ℕ → Bool = λ n. nat_lt 0 n && int_lt (low +ℤ pos n) (pos (2 ^ 31 + 1)) in
      let l = and_parts (is_integer (2 ^ 31 - 1) low) (list_all (fits label_kind) labels && (fits label_kind default && few (length labels))) h in
      let ls = and_parts (list_all (fits label_kind) labels) (fits label_kind default && few (length labels)) l.1 in
      let d = and_parts (fits label_kind default) (few (length labels)) ls.1 in
      and_from (is_integer (2 ^ 31 - 1) low) (list_all (fits label_kind) (map again labels) && (fits label_kind (again default) && few (length (map again labels)))) l.0
      (and_from (list_all (fits label_kind) (map again labels)) (fits label_kind (again default) && few (length (map again labels))) (all_again (fits label_kind) again_fits labels there.1)
      (and_from (fits label_kind (again default)) (few (length (map again labels))) (again_fits default there.0) (ap few (length-map labels again) ∙ d.1)))
  form_again (Operation.LookupSwitch cases default) h there =
      let p = and_parts (are_cases (negsuc (2 ^ 31)) cases) (fits label_kind default) h in
      and_from (are_cases (negsuc (2 ^ 31)) (map (renamed_case label_of apart marks body) cases)) (fits label_kind (again default)) (cases_again (negsuc (2 ^ 31)) cases p.0 there.1) (again_fits default there.0)
  form_again (Operation.Plain op) h there = h
  form_again (Operation.Bipush value) h there = h
  form_again (Operation.Sipush value) h there = h
  form_again (Operation.Local op local) h there = h
  form_again (Operation.Iinc local by) h there = h
  form_again (Operation.Constant op constant) h there = h
  form_again (Operation.Long n) h there = h
  form_again (Operation.Double bits) h there = h
  form_again (Operation.Member op class name descriptor) h there = h
  form_again (Operation.Class op class) h there = h
  form_again (Operation.NewArray array) h there = h
  form_again (Operation.Multi class dims) h there = h

  pub targets_again : (o : Operation) → AllByRecursion (StandsIn body) (labels_of o) → has_text_targets (relabelled o) ≡ true
  targets_again (Operation.Branch op to) there = again_characters to there.0
  targets_again (Operation.TableSwitch low labels default) there =
      and_from (list_all are_characters (map again labels)) (are_characters (again default)) (all_again are_characters again_characters labels there.1) (again_characters default there.0)
  targets_again (Operation.LookupSwitch cases default) there =
      and_from (list_all (λ (c : Case). are_characters c.label) (map (renamed_case label_of apart marks body) cases)) (are_characters (again default)) (cases_characters cases there.1) (again_characters default there.0)
  targets_again (Operation.Plain op) there = refl
  targets_again (Operation.Bipush value) there = refl
  targets_again (Operation.Sipush value) there = refl
  targets_again (Operation.Local op local) there = refl
  targets_again (Operation.Iinc local by) there = refl
  targets_again (Operation.Constant op constant) there = refl
  targets_again (Operation.Long n) there = refl
  targets_again (Operation.Double bits) there = refl
  targets_again (Operation.Member op class name descriptor) there = refl
  targets_again (Operation.Class op class) there = refl
  targets_again (Operation.NewArray array) there = refl
  targets_again (Operation.Multi class dims) there = refl
