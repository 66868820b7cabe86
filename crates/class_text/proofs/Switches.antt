-- The bytes of a switch are decoded as its instruction (JVMS 6.4), and lead where its labels stand.
use Rattle.std.proofs.Common.{◌≡◌, ℕ, zero, suc, ◌+◌, ◌-◌, ◌*◌, ◌^◌, ◌<◌, ◌≤◌, Bool, true, false, ltb, List, [], ◌∷◌, ◌++◌, length, get_or, drop, take, map, refl, sym, ap, ◌∙◌, arith, subst, append_assoc, add-one, length-append, ℤ, pos, negsuc, ◌+ℤ◌, ◌-ℤ◌, Ok}
use Rattle.std.specs.Prelude.{FitsSigned, int_lt, unsigned_abs}
use Rattle.std.specs.Int.{w32, from_be_bytes, cast_signed}
use Rattle.std.specs.List.{AllByRecursion, flat_map, list_all}
use Rattle.std.proofs.lemmas.List.{drop-drop, length-drop, length-take, length-map, take_all}
use Rattle.std.proofs.lemmas.Bool.{le-ltb, and_parts, and_from}
use Rattle.std.proofs.lemmas.Int.{ints}
use Rattle.std.proofs.Math.Seq.{drop-append_seam, take-suc}
use Rattle.opcode_table.specs.declared.insn.Insn.{Insn}
use Rattle.opcode_table.specs.Table.{opcode}
use Rattle.opcode_table.specs.Decoding.{Decoded, decoded, instruction, table_place, word_at, table_low, table_high, table_count, table_offset, table_length, pair_number, pair_count, pair_key, pair_offset, lookup_length, switch_default, each_below, ascends_at, keys_ascend, table_switch, lookup_switch}
use Rattle.opcode_table.specs.Spelling.{s4_bytes}
use Rattle.opcode_table.specs.Bytes.{s4_again}
use Rattle.class_file.specs.Code.{numbered, offsets}
use Rattle.class_lines.specs.declared.line.Operation.{Operation}
use Rattle.class_lines.specs.declared.line.Case.{Case}
use Rattle.class_lines.specs.Words.{Text, fits}
use Rattle.class_lines.specs.Lines.{is_integer, are_cases, is_operation}
use Rattle.class_lines.proofs.LineForms.{table_form, lookup_form, cases_form}
use Rattle.class_text.specs.declared.numbered.Numbered.{Numbered}
use Rattle.class_text.specs.Labels.{padding, place_of, has_label, distance, leads_well}
use Rattle.class_text.specs.Bytes.{place_bytes, zeros, table_bytes, case_bytes, cases_bytes, operation_bytes}
use Rattle.class_text.proofs.Numbers.{fits_4, fitting_is, integer_from}
use Rattle.class_text.proofs.Insns.{AreNear, reaches as label_reaches}

-- ---- bytes that stand at a place

-- the bytes stand in the code from the place on
pub record At (code : List ℕ) (p : ℕ) (bytes : List ℕ) : Type 0 where
  pub rest : List ℕ
  pub is : drop p code ≡ bytes ++ rest

pub at_first : (code : List ℕ) (p : ℕ) (xs ys : List ℕ) → At code p (xs ++ ys) → At code p xs
at_first code p xs ys a = record { rest = ys ++ a.rest; is = a.is ∙ append_assoc xs ys a.rest }

pub at_second : (code : List ℕ) (p : ℕ) (xs ys : List ℕ) → At code p (xs ++ ys) → At code (p + length xs) ys
at_second code p xs ys a = record {
  rest = a.rest;
  is = sym (drop-drop (length xs) p code) ∙ ap (drop (length xs)) (a.is ∙ append_assoc xs ys a.rest) ∙ drop-append_seam xs (ys ++ a.rest);
}

pub at_room : (code : List ℕ) (p : ℕ) (bytes : List ℕ) → At code p bytes → 0 < length bytes → p + length bytes ≤ length code
at_room code p bytes a some = omega (arith, length-drop p code, (simp length-append at (ap length a.is)))

-- ---- numbers of four bytes

abbrev pub words : List ℤ → List ℕ
words numbers = flat_map s4_bytes numbers

abbrev pub Fit : List ℤ → Type 0
Fit ns = AllByRecursion (FitsSigned w32) ns

word_here : (code : List ℕ) (p : ℕ) (z : ℤ) (more : List ℕ) → At code p (s4_bytes z ++ more) → FitsSigned w32 z → word_at code p ≡ z
word_here code p z more a fits = ap (λ (l : List ℕ). cast_signed w32 (from_be_bytes w32 (take 4 l))) a.is ∙ s4_again z fits

pub words_length : (ns : List ℤ) → length (words ns) ≡ 4 * length ns
words_length [] = refl
words_length (z ∷ ns) = omega (arith, length-append (s4_bytes z) (words ns), words_length ns)

pub word_in : (code : List ℕ) (p : ℕ) (ns : List ℤ) (i : ℕ) → At code p (words ns) → Fit ns → i < length ns → word_at code (p + 4 * i) ≡ get_or ns i (pos 0)
word_in code p [] i a fit lt = absurd (omega arith)
word_in code p (z ∷ ns) zero a fit lt = (let e : p + 4 * 0 ≡ p = omega arith in ap (word_at code) e) ∙ word_here code p z (words ns) a fit.0
word_in code p (z ∷ ns) (suc i) a fit lt =
    (let e : p + 4 * suc i ≡ p + 4 + 4 * i = omega arith in ap (word_at code) e)
    ∙ word_in code (p + 4) ns i (at_second code p (s4_bytes z) (words ns) a) fit.1 (omega arith)

-- ---- lists by number

numbered_take : {X : Type 0} (f : ℕ → X) (xs : List X) (d : X) → ((i : ℕ) → i < length xs → f i ≡ get_or xs i d) → (n : ℕ) → n ≤ length xs → numbered n f ≡ take n xs
numbered_take f xs d each zero le = refl
numbered_take f xs d each (suc n) le =
    ap (λ l. l ++ f n ∷ []) (numbered_take f xs d each n (omega arith))
    ∙ ap (λ x. take n xs ++ x ∷ []) (each n (omega arith))
    ∙ sym (take-suc xs n d (omega arith))

pub numbered_is : {X : Type 0} (f : ℕ → X) (xs : List X) (d : X) (n : ℕ) → n ≡ length xs → ((i : ℕ) → i < length xs → f i ≡ get_or xs i d) → numbered n f ≡ xs
numbered_is f xs d n is each = numbered_take f xs d each n (omega arith) ∙ take_all n xs (omega arith)

each_all : (n : ℕ) (test : ℕ → Bool) → ((i : ℕ) → i < n → test i ≡ true) → each_below n test ≡ true
each_all zero test each = refl
each_all (suc n) test each = and_from (each_below n test) (test n) (each_all n test (λ i lt. each i (omega arith))) (each n (omega arith))

-- ---- switches

starts_table : (code : List ℕ) (pc : ℕ) (rest : List ℕ) → drop pc code ≡ 170 ∷ rest → decoded code pc ≡ table_switch code pc (table_place pc)
unfolding decoded opcode
starts_table code pc rest is = ap (instruction code pc) is

starts_lookup : (code : List ℕ) (pc : ℕ) (rest : List ℕ) → drop pc code ≡ 171 ∷ rest → decoded code pc ≡ lookup_switch code pc (table_place pc)
unfolding decoded opcode
starts_lookup code pc rest is = ap (instruction code pc) is

is_table : (code : List ℕ) (pc table : ℕ) → table + 12 ≤ length code → int_lt (table_high code table) (table_low code table) ≡ false → table + table_length code table ≤ length code
    → table_switch code pc table ≡ Ok (Insn.TableSwitch table, table + table_length code table - pc)
is_table code pc table header order room =
    let h : ltb (length code) (table + 12) ≡ false = le-ltb (length code) (table + 12) header in
    let r : ltb (length code) (table + table_length code table) ≡ false = le-ltb (length code) (table + table_length code table) room in
    rw (h, order, r) refl

is_lookup : (code : List ℕ) (pc table : ℕ) → table + 8 ≤ length code → int_lt (pair_number code table) (pos 0) ≡ false → table + lookup_length code table ≤ length code → keys_ascend code table ≡ true
    → lookup_switch code pc table ≡ Ok (Insn.LookupSwitch table, table + lookup_length code table - pc)
is_lookup code pc table header count room order =
    let h : ltb (length code) (table + 8) ≡ false = le-ltb (length code) (table + 8) header in
    let r : ltb (length code) (table + lookup_length code table) ≡ false = le-ltb (length code) (table + lookup_length code table) room in
    rw (h, count, r, order) refl

-- what is read of the instruction at pc
pub record Reads (code : List ℕ) (pc : ℕ) (found : Insn) (size : ℕ) (offs : List ℤ) : Type 0 where
  pub decodes : decoded code pc ≡ Ok (found, size)
  pub leads : offsets code found ≡ offs

-- the opcode and the zeros behind it end where the table begins
padded : (pc op : ℕ) → pc + length (op ∷ zeros pc) ≡ table_place pc
padded pc op = omega (arith, length-take (padding pc) (let z : List ℕ = 0 ∷ 0 ∷ 0 ∷ [] in z))

table_at : (code : List ℕ) (pc op : ℕ) (table : List ℕ) → At code pc ((op ∷ zeros pc) ++ table) → At code (table_place pc) table
table_at code pc op table a = subst (λ (n : ℕ). At code n table) (padded pc op) (at_second code pc (op ∷ zeros pc) table a)

up : (low : ℤ) (n : ℕ) → 0 < n → int_lt (low +ℤ pos n -ℤ pos 1) low ≡ false
up low n some = grind (arith, ints)

span : (low : ℤ) (n : ℕ) → 0 < n → unsigned_abs ((low +ℤ pos n -ℤ pos 1) -ℤ low) + 1 ≡ n
span low n some = grind (arith, ints)

pub record ReadsTable (code : List ℕ) (pc : ℕ) (low default : ℤ) (offs : List ℤ) : Type 0 where
  pub reads : Reads code pc (Insn.TableSwitch (table_place pc)) (table_place pc + (12 + 4 * length offs) - pc) (default ∷ offs)
  pub lowest : table_low code (table_place pc) ≡ low

table_reads : (code : List ℕ) (pc : ℕ) (low default : ℤ) (offs : List ℤ) → At code pc ((170 ∷ zeros pc) ++ words (default ∷ low ∷ (low +ℤ pos (length offs) -ℤ pos 1) ∷ offs))
    → 0 < length offs → Fit (default ∷ low ∷ (low +ℤ pos (length offs) -ℤ pos 1) ∷ offs) → ReadsTable code pc low default offs
table_reads code pc low default offs a some fit =
    let t : ℕ = table_place pc in
    let ns : List ℤ = default ∷ low ∷ (low +ℤ pos (length offs) -ℤ pos 1) ∷ offs in
    let w : At code t (words ns) = table_at code pc 170 (words ns) a in
    let room : t + length (words ns) ≤ length code = at_room code t (words ns) w (omega (arith, words_length ns)) in
    let long : length (words ns) ≡ 12 + 4 * length offs = omega (arith, words_length ns) in
    let first : word_at code (t + 0) ≡ default = word_in code t ns 0 w fit (omega arith) in
    let here : switch_default code t ≡ default = (let e : t ≡ t + 0 = omega arith in ap (word_at code) e) ∙ first in
    let lowest : table_low code t ≡ low = word_in code t ns 1 w fit (omega arith) in
    let highest : table_high code t ≡ low +ℤ pos (length offs) -ℤ pos 1 = word_in code t ns 2 w fit (omega arith) in
    let counted : table_count code t ≡ length offs =
    ap (λ (h : ℤ). unsigned_abs (h -ℤ table_low code t) + 1) highest ∙ ap (λ (l : ℤ). unsigned_abs ((low +ℤ pos (length offs) -ℤ pos 1) -ℤ l) + 1) lowest ∙ span low (length offs) some in
    let size : table_length code t ≡ 12 + 4 * length offs = ap (λ (n : ℕ). 12 + 4 * n) counted in
    let order : int_lt (table_high code t) (table_low code t) ≡ false =
    ap (λ (h : ℤ). int_lt h (table_low code t)) highest ∙ ap (λ (l : ℤ). int_lt (low +ℤ pos (length offs) -ℤ pos 1) l) lowest ∙ up low (length offs) some in
    record {
      reads = record {
        decodes = starts_table code pc _ a.is ∙ is_table code pc t (omega arith) order (omega arith) ∙ ap (λ (n : ℕ). let r : Decoded = Ok (Insn.TableSwitch t, t + n - pc) in r) size;
        leads =
            ap (λ (z : ℤ). z ∷ numbered (table_count code t) (table_offset code t)) here
            ∙ ap (λ (l : List ℤ). default ∷ l) (numbered_is (table_offset code t) offs (pos 0) (table_count code t) counted
            (λ i lt. (let e : t + 12 + 4 * i ≡ t + 4 * suc (suc (suc i)) = omega arith in ap (word_at code) e) ∙ word_in code t ns (suc (suc (suc i))) w fit (omega arith)));
      };
      lowest = lowest;
    }

-- ---- lookupswitch

-- a key and a distance each
abbrev pub pairs : List ℤ → List ℤ → List ℤ
pairs (k ∷ keys) (o ∷ offs) = k ∷ o ∷ pairs keys offs
pairs _ _ = []

pairs_length : (keys offs : List ℤ) → length offs ≡ length keys → length (pairs keys offs) ≡ 2 * length keys
pairs_length [] offs same = refl
pairs_length (k ∷ keys) [] same = absurd (omega arith)
pairs_length (k ∷ keys) (o ∷ offs) same = omega (arith, pairs_length keys offs (omega arith))

pairs_key : (keys offs : List ℤ) (i : ℕ) → length offs ≡ length keys → i < length keys → get_or (pairs keys offs) (2 * i) (pos 0) ≡ get_or keys i (pos 0)
pairs_key [] offs i same lt = absurd (omega arith)
pairs_key (k ∷ keys) [] i same lt = absurd (omega arith)
pairs_key (k ∷ keys) (o ∷ offs) zero same lt = refl
pairs_key (k ∷ keys) (o ∷ offs) (suc i) same lt =
    (let e : 2 * suc i ≡ suc (suc (2 * i)) = omega arith in ap (λ (n : ℕ). get_or (pairs (k ∷ keys) (o ∷ offs)) n (pos 0)) e) ∙ pairs_key keys offs i (omega arith) (omega arith)

pairs_offset : (keys offs : List ℤ) (i : ℕ) → length offs ≡ length keys → i < length keys → get_or (pairs keys offs) (suc (2 * i)) (pos 0) ≡ get_or offs i (pos 0)
pairs_offset [] offs i same lt = absurd (omega arith)
pairs_offset (k ∷ keys) [] i same lt = absurd (omega arith)
pairs_offset (k ∷ keys) (o ∷ offs) zero same lt = refl
pairs_offset (k ∷ keys) (o ∷ offs) (suc i) same lt =
    (let e : suc (2 * suc i) ≡ suc (suc (suc (2 * i))) = omega arith in ap (λ (n : ℕ). get_or (pairs (k ∷ keys) (o ∷ offs)) n (pos 0)) e) ∙ pairs_offset keys offs i (omega arith) (omega arith)

pairs_fit : (keys offs : List ℤ) → Fit keys → Fit offs → Fit (pairs keys offs)
pairs_fit [] offs f g = tt
pairs_fit (k ∷ keys) [] f g = tt
pairs_fit (k ∷ keys) (o ∷ offs) f g = (f.0, (g.0, pairs_fit keys offs f.1 g.1))

-- each key is above the one before
abbrev Rise : ℤ → List ℤ → Type 0
Rise key [] = Unit {0}
Rise key (k ∷ keys) = (int_lt key k ≡ true) × Rise k keys

rise_at : (key : ℤ) (keys : List ℤ) (i : ℕ) → Rise key keys → i + 1 < length keys → int_lt (get_or keys i (pos 0)) (get_or keys (suc i) (pos 0)) ≡ true
rise_at key [] i up lt = absurd (omega arith)
rise_at key (a ∷ []) i up lt = absurd (omega arith)
rise_at key (a ∷ b ∷ keys) zero up lt = up.1.0
rise_at key (a ∷ b ∷ keys) (suc i) up lt = rise_at a (b ∷ keys) i up.1 (omega arith)

natural : (n : ℕ) → int_lt (pos n) (pos 0) ≡ false
natural n = grind (arith, ints)

pub record ReadsPairs (code : List ℕ) (pc : ℕ) (keys : List ℤ) (default : ℤ) (offs : List ℤ) : Type 0 where
  pub reads : Reads code pc (Insn.LookupSwitch (table_place pc)) (table_place pc + (8 + 8 * length keys) - pc) (default ∷ offs)
  pub with_keys : numbered (pair_count code (table_place pc)) (pair_key code (table_place pc)) ≡ keys

lookup_reads : (code : List ℕ) (pc : ℕ) (first : ℤ) (keys : List ℤ) (default : ℤ) (offs : List ℤ) → At code pc ((171 ∷ zeros pc) ++ words (default ∷ pos (length keys) ∷ pairs keys offs))
    → length offs ≡ length keys → Rise first keys → FitsSigned w32 default → FitsSigned w32 (pos (length keys)) → Fit keys → Fit offs → ReadsPairs code pc keys default offs
lookup_reads code pc from keys default offs a all up fit-d fit-n fit-k fit-o =
    let t : ℕ = table_place pc in
    let ns : List ℤ = default ∷ pos (length keys) ∷ pairs keys offs in
    let fit : Fit ns = (fit-d, (fit-n, pairs_fit keys offs fit-k fit-o)) in
    let w : At code t (words ns) = table_at code pc 171 (words ns) a in
    let much : length (pairs keys offs) ≡ 2 * length keys = pairs_length keys offs all in
    let room : t + length (words ns) ≤ length code = at_room code t (words ns) w (omega (arith, words_length ns)) in
    let long : length (words ns) ≡ 8 + 8 * length keys = omega (arith, words_length ns) in
    let first : word_at code (t + 0) ≡ default = word_in code t ns 0 w fit (omega arith) in
    let here : switch_default code t ≡ default = (let e : t ≡ t + 0 = omega arith in ap (word_at code) e) ∙ first in
    let number : pair_number code t ≡ pos (length keys) = word_in code t ns 1 w fit (omega arith) in
    let counted : pair_count code t ≡ length keys = ap unsigned_abs number in
    let size : lookup_length code t ≡ 8 + 8 * length keys = ap (λ (n : ℕ). 8 + 8 * n) counted in
    let key : (i : ℕ) → i < length keys → pair_key code t i ≡ get_or keys i (pos 0) =
    λ i lt. (let e : t + 8 + 8 * i ≡ t + 4 * suc (suc (2 * i)) = omega arith in ap (word_at code) e) ∙ word_in code t ns (suc (suc (2 * i))) w fit (omega arith) ∙ pairs_key keys offs i all lt in
    let order : keys_ascend code t ≡ true =
    each_all (pair_count code t - 1) (λ i. ascends_at code t i) (λ i lt.
    let e : i + 1 ≡ suc i = add-one i in
    ap (λ (k : ℤ). int_lt k (pair_key code t (i + 1))) (key i (omega arith)) ∙ ap (λ (k : ℤ). int_lt (get_or keys i (pos 0)) k) (key (i + 1) (omega arith) ∙ ap (λ (n : ℕ). get_or keys n (pos 0)) e) ∙ rise_at from keys i up (omega arith)) in
    let sign : int_lt (pair_number code t) (pos 0) ≡ false = ap (λ (n : ℤ). int_lt n (pos 0)) number ∙ natural (length keys) in
    record {
      reads = record {
        decodes = starts_lookup code pc _ a.is ∙ is_lookup code pc t (omega arith) sign (omega arith) order ∙ ap (λ (n : ℕ). let r : Decoded = Ok (Insn.LookupSwitch t, t + n - pc) in r) size;
        leads =
            ap (λ (z : ℤ). z ∷ numbered (pair_count code t) (pair_offset code t)) here
            ∙ ap (λ (l : List ℤ). default ∷ l) (numbered_is (pair_offset code t) offs (pos 0) (pair_count code t) (omega arith)
            (λ i lt. (let e : t + 12 + 8 * i ≡ t + 4 * suc (suc (suc (2 * i))) = omega arith in ap (word_at code) e) ∙ word_in code t ns (suc (suc (suc (2 * i)))) w fit (omega arith) ∙ pairs_offset keys offs i all (omega arith)));
      };
      with_keys = numbered_is (pair_key code t) keys (pos 0) (pair_count code t) counted key;
    }

-- ---- the switches of operations

module _ (body : List Numbered) (pc : ℕ) (le : pc ≤ 65535) (near : AreNear body) where
  -- the way to a label
  abbrev pub way : Text → ℤ
  way name = distance pc (place_of name 0 body)

  way_fits : (name : Text) → has_label body name ≡ true → FitsSigned w32 (way name)
  way_fits name h = fits_4 (way name) (label_reaches body pc name le near h)

  way_bytes : (name : Text) → has_label body name ≡ true → place_bytes body pc name ≡ s4_bytes (way name)
  way_bytes name h = ap s4_bytes (fitting_is 2147483647 (way name) (label_reaches body pc name le near h))

  ways_bytes : (names : List Text) → list_all (has_label body) names ≡ true → flat_map (place_bytes body pc) names ≡ words (map way names)
  ways_bytes [] h = refl
  ways_bytes (name ∷ names) h =
      let p = and_parts (has_label body name) (list_all (has_label body) names) h in
      ap (λ (l : List ℕ). l ++ flat_map (place_bytes body pc) names) (way_bytes name p.0) ∙ ap (λ (l : List ℕ). s4_bytes (way name) ++ l) (ways_bytes names p.1)

  ways_fit : (names : List Text) → list_all (has_label body) names ≡ true → Fit (map way names)
  ways_fit [] h = tt
  ways_fit (name ∷ names) h = let p = and_parts (has_label body name) (list_all (has_label body) names) h in (way_fits name p.0, ways_fit names p.1)

  high_fits : (low : ℤ) (n : ℕ) → is_integer (2 ^ 31 - 1) low ≡ true → 0 < n → int_lt (low +ℤ pos n) (pos (2 ^ 31 + 1)) ≡ true → is_integer 2147483647 (low +ℤ pos n -ℤ pos 1) ≡ true
  high_fits low n h some below =
      integer_from 2147483647 (low +ℤ pos n -ℤ pos 1) (grind (arith, ints)) (let fits = fits_4 low h in grind (arith, ints))

  -- those of a tableswitch
  pub table_stands : (code : List ℕ) (index : ℕ) (low : ℤ) (labels : List Text) (default : Text) → is_operation (Operation.TableSwitch low labels default) ≡ true → leads_well body pc (Operation.TableSwitch low labels default) ≡ true
      → At code pc (operation_bytes body pc index (Operation.TableSwitch low labels default)) → ReadsTable code pc low (way default) (map way labels)
  unfolding table_bytes
  table_stands code index low labels default h leads a =
      let p = table_form low labels default h in
      let t = and_parts (has_label body default) (list_all (has_label body) labels) leads in
      let some : 0 < length labels = p.1 in
      let high : ℤ = low +ℤ pos (length labels) -ℤ pos 1 in
      let fits-h = high_fits low (length labels) p.0 some p.2 in
      let same : length (map way labels) ≡ length labels = length-map labels way in
      let head : List ℕ = 170 ∷ zeros pc in
      let spelled : operation_bytes body pc index (Operation.TableSwitch low labels default) ≡ head ++ words (way default ∷ low ∷ high ∷ map way labels) =
      append_assoc head (place_bytes body pc default) (table_bytes body pc low labels)
      ∙ ap (λ (l : List ℕ). head ++ (l ++ table_bytes body pc low labels)) (way_bytes default t.0)
      ∙ ap (λ (z : ℤ). head ++ (s4_bytes (way default) ++ (s4_bytes low ++ (s4_bytes z ++ flat_map (place_bytes body pc) labels)))) (fitting_is 2147483647 high fits-h)
      ∙ ap (λ (l : List ℕ). head ++ (s4_bytes (way default) ++ (s4_bytes low ++ (s4_bytes high ++ l)))) (ways_bytes labels t.1) in
      let here : At code pc (head ++ words (way default ∷ low ∷ (low +ℤ pos (length (map way labels)) -ℤ pos 1) ∷ map way labels)) =
      subst (λ (n : ℕ). At code pc (head ++ words (way default ∷ low ∷ (low +ℤ pos n -ℤ pos 1) ∷ map way labels))) (sym same) (subst (At code pc) spelled a) in
      let fit : Fit (way default ∷ low ∷ (low +ℤ pos (length (map way labels)) -ℤ pos 1) ∷ map way labels) =
      subst (λ (n : ℕ). Fit (way default ∷ low ∷ (low +ℤ pos n -ℤ pos 1) ∷ map way labels)) (sym same) (way_fits default t.0, (fits_4 low p.0, (fits_4 high fits-h, ways_fit labels t.1))) in
      table_reads code pc low (way default) (map way labels) here (omega arith) fit

  -- ---- cases

  abbrev pub keys_of : List Case → List ℤ
  keys_of cases = map (λ (c : Case). c.key) cases

  abbrev pub ways_of : List Case → List ℤ
  ways_of cases = map (λ (c : Case). way c.label) cases

  cases_bytes_are : (cases : List Case) → list_all (λ (c : Case). has_label body c.label) cases ≡ true → flat_map (case_bytes body pc) cases ≡ words (pairs (keys_of cases) (ways_of cases))
  cases_bytes_are [] h = refl
  cases_bytes_are (c ∷ cases) h =
      let p = and_parts (has_label body c.label) (list_all (λ (c : Case). has_label body c.label) cases) h in
      append_assoc (s4_bytes c.key) (place_bytes body pc c.label) (flat_map (case_bytes body pc) cases)
      ∙ ap (λ (l : List ℕ). s4_bytes c.key ++ (l ++ flat_map (case_bytes body pc) cases)) (way_bytes c.label p.0)
      ∙ ap (λ (l : List ℕ). s4_bytes c.key ++ (s4_bytes (way c.label) ++ l)) (cases_bytes_are cases p.1)

  cases_ways_fit : (cases : List Case) → list_all (λ (c : Case). has_label body c.label) cases ≡ true → Fit (ways_of cases)
  cases_ways_fit [] h = tt
  cases_ways_fit (c ∷ cases) h = let p = and_parts (has_label body c.label) (list_all (λ (c : Case). has_label body c.label) cases) h in (way_fits c.label p.0, cases_ways_fit cases p.1)

  keys_fit : (key : ℤ) (cases : List Case) → are_cases key cases ≡ true → Fit (keys_of cases)
  keys_fit key [] h = tt
  keys_fit key (c ∷ cases) h = let p = cases_form key c cases h in (fits_4 c.key p.1, keys_fit c.key cases p.2)

  keys_rise : (key : ℤ) (cases : List Case) → are_cases key cases ≡ true → Rise key (keys_of cases)
  keys_rise key [] h = tt
  keys_rise key (c ∷ cases) h = let p = cases_form key c cases h in (p.0, keys_rise c.key cases p.2)

  count_fits : (n : ℕ) → n ≤ 65535 → is_integer 2147483647 (pos n) ≡ true
  count_fits n h = integer_from 2147483647 (pos n) (grind (arith, ints)) (grind (arith, ints))

  -- those of a lookupswitch
  pub lookup_stands : (code : List ℕ) (index : ℕ) (cases : List Case) (default : Text) → is_operation (Operation.LookupSwitch cases default) ≡ true → leads_well body pc (Operation.LookupSwitch cases default) ≡ true → length cases ≤ 65535
      → At code pc (operation_bytes body pc index (Operation.LookupSwitch cases default)) → ReadsPairs code pc (keys_of cases) (way default) (ways_of cases)
  lookup_stands code index cases default h leads few a =
      let p = lookup_form cases default h in
      let t = and_parts (has_label body default) (list_all (λ (c : Case). has_label body c.label) cases) leads in
      let same : length (keys_of cases) ≡ length cases = length-map cases (λ (c : Case). c.key) in
      let same' : length (ways_of cases) ≡ length cases = length-map cases (λ (c : Case). way c.label) in
      let small = count_fits (length cases) few in
      let head : List ℕ = 171 ∷ zeros pc in
      let spelled : operation_bytes body pc index (Operation.LookupSwitch cases default) ≡ head ++ words (way default ∷ pos (length cases) ∷ pairs (keys_of cases) (ways_of cases)) =
      append_assoc head (place_bytes body pc default) (cases_bytes body pc cases)
      ∙ ap (λ (l : List ℕ). head ++ (l ++ cases_bytes body pc cases)) (way_bytes default t.0)
      ∙ ap (λ (z : ℤ). head ++ (s4_bytes (way default) ++ (s4_bytes z ++ flat_map (case_bytes body pc) cases))) (fitting_is 2147483647 (pos (length cases)) small)
      ∙ ap (λ (l : List ℕ). head ++ (s4_bytes (way default) ++ (s4_bytes (pos (length cases)) ++ l))) (cases_bytes_are cases t.1) in
      let here : At code pc (head ++ words (way default ∷ pos (length (keys_of cases)) ∷ pairs (keys_of cases) (ways_of cases))) =
      subst (λ (n : ℕ). At code pc (head ++ words (way default ∷ pos n ∷ pairs (keys_of cases) (ways_of cases)))) (sym same) (subst (At code pc) spelled a) in
      lookup_reads code pc (negsuc (2 ^ 31)) (keys_of cases) (way default) (ways_of cases) here (omega arith) (keys_rise (negsuc (2 ^ 31)) cases p)
      (way_fits default t.0) (subst (λ (n : ℕ). FitsSigned w32 (pos n)) (sym same) (fits_4 (pos (length cases)) small)) (keys_fit (negsuc (2 ^ 31)) cases p) (cases_ways_fit cases t.1)
