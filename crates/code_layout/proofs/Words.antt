-- Numbers of four bytes that stand in code, and the tables of switches made of them.
use Rattle.std.proofs.Common.{◌≡◌, ℕ, zero, suc, ◌+◌, ◌-◌, ◌*◌, ◌^◌, ◌<◌, ◌≤◌, Bool, true, false, ltb, not, cond, List, [], ◌∷◌, ◌++◌, length, get_or, drop, take, map, replicate, refl, sym, ap, ◌∙◌, arith, subst, append_assoc, add-one, length-append, ℤ, pos, ◌+ℤ◌, ◌-ℤ◌, Ok, Err, inl, inr}
use Rattle.std.specs.Prelude.{FitsSigned, Option, Some, int_lt, ◌<ℤ◌, unsigned_abs}
use Rattle.std.specs.Int.{w32, from_be_bytes, cast_signed}
use Rattle.std.specs.List.{AllByRecursion}
use Rattle.std.proofs.lemmas.List.{drop-drop, length-drop, length-replicate, take_all}
use Rattle.std.proofs.lemmas.Bool.{le-ltb, and_from}
use Rattle.std.proofs.lemmas.Int.{ints}
use Rattle.std.proofs.Math.Seq.{drop-append_seam, take-suc}
use Rattle.opcode_table.specs.declared.insn.Insn.{Insn}
use Rattle.opcode_table.specs.declared.fault.CodeFault.{CodeFault}
use Rattle.opcode_table.specs.declared.fault.CodeFault.TheVariants.{Cut, Switch}
use Rattle.opcode_table.specs.Table.{opcode}
use Rattle.opcode_table.specs.Decoding.{Decoded, decoded, instruction, by_form, operands, table_place, word_at, table_low, table_high, table_count, table_offset, table_length, pair_number, pair_count, pair_key, pair_offset, lookup_length, switch_default, each_below, ascends_at, keys_ascend, reaches, table_switch, lookup_switch}
use Rattle.opcode_table.specs.Spelling.{s4_bytes}
use Rattle.opcode_table.specs.Bytes.{s4_again}
use Rattle.class_file.specs.Code.{numbered, offsets}
use Rattle.code_layout.specs.Apart.{keys_of}
use Rattle.code_layout.specs.Blocks.{Ascend, Count}
use Rattle.code_layout.specs.Spelled.{padding, words, table_bytes, pairs_bytes, lookup_bytes}

-- ---- bytes that stand at a place

-- the bytes stand in the code from the place on
pub record At (code : List ℕ) (p : ℕ) (bytes : List ℕ) : Type 0 where
  pub rest : List ℕ
  pub is : drop p code ≡ bytes ++ rest

pub at_first : (code : List ℕ) (p : ℕ) (xs ys : List ℕ) → At code p (xs ++ ys) → At code p xs
at_first code p xs ys a = record { rest = ys ++ a.rest; is = a.is ∙ append_assoc xs ys a.rest }

pub at_second : (code : List ℕ) (p : ℕ) (xs ys : List ℕ) → At code p (xs ++ ys) → At code (p + length xs) ys
at_second code p xs ys a = record {
  rest = a.rest;
  is = sym (drop-drop (length xs) p code) ∙ ap (drop (length xs)) (a.is ∙ append_assoc xs ys a.rest) ∙ drop-append_seam xs (ys ++ a.rest);
}

pub at_room : (code : List ℕ) (p : ℕ) (bytes : List ℕ) → At code p bytes → 0 < length bytes → p + length bytes ≤ length code
at_room code p bytes a some = omega (arith, length-drop p code, simp length-append at (ap length a.is))

-- ---- numbers of four bytes

abbrev pub Fit : List ℤ → Type 0
Fit ns = AllByRecursion (FitsSigned w32) ns

word_here : (code : List ℕ) (p : ℕ) (z : ℤ) (more : List ℕ) → At code p (s4_bytes z ++ more) → FitsSigned w32 z → word_at code p ≡ z
word_here code p z more a fits = ap (λ (l : List ℕ). cast_signed w32 (from_be_bytes w32 (take 4 l))) a.is ∙ s4_again z fits

pub words_length : (ns : List ℤ) → length (words ns) ≡ 4 * length ns
words_length [] = refl
words_length (z ∷ ns) = omega (arith, length-append (s4_bytes z) (words ns), words_length ns)

pub word_in : (code : List ℕ) (p : ℕ) (ns : List ℤ) (i : ℕ) → At code p (words ns) → Fit ns → i < length ns → word_at code (p + 4 * i) ≡ get_or ns i (pos 0)
word_in code p [] i a fit lt = absurd (omega arith)
word_in code p (z ∷ ns) zero a fit lt = (let e : p + 4 * 0 ≡ p = omega arith in ap (word_at code) e) ∙ word_here code p z (words ns) a fit.0
word_in code p (z ∷ ns) (suc i) a fit lt =
    (let e : p + 4 * suc i ≡ p + 4 + 4 * i = omega arith in ap (word_at code) e)
    ∙ word_in code (p + 4) ns i (at_second code p (s4_bytes z) (words ns) a) fit.1 (omega arith)

-- ---- lists by number

numbered_take : {X : Type 0} (f : ℕ → X) (xs : List X) (d : X) → ((i : ℕ) → i < length xs → f i ≡ get_or xs i d) → (n : ℕ) → n ≤ length xs → numbered n f ≡ take n xs
numbered_take f xs d each zero le = refl
numbered_take f xs d each (suc n) le =
    ap (λ l. l ++ f n ∷ []) (numbered_take f xs d each n (omega arith))
    ∙ ap (λ x. take n xs ++ x ∷ []) (each n (omega arith))
    ∙ sym (take-suc xs n d (omega arith))

pub numbered_is : {X : Type 0} (f : ℕ → X) (xs : List X) (d : X) (n : ℕ) → n ≡ length xs → ((i : ℕ) → i < length xs → f i ≡ get_or xs i d) → numbered n f ≡ xs
numbered_is f xs d n is each = numbered_take f xs d each n (omega arith) ∙ take_all n xs (omega arith)

numbered_same : {X : Type 0} (f g : ℕ → X) (n m : ℕ) → n ≡ m → ((i : ℕ) → i < m → f i ≡ g i) → numbered n f ≡ numbered m g
numbered_same f g zero zero is each = refl
numbered_same f g zero (suc m) is each = absurd (omega arith)
numbered_same f g (suc n) zero is each = absurd (omega arith)
numbered_same f g (suc n) (suc m) is each =
    let e : n ≡ m = omega arith in
    ap (λ l. l ++ f n ∷ []) (numbered_same f g n m e (λ i lt. each i (omega arith)))
    ∙ ap (λ x. numbered m g ++ x ∷ []) (ap f e ∙ each m (omega arith))

each_all : (n : ℕ) (test : ℕ → Bool) → ((i : ℕ) → i < n → test i ≡ true) → each_below n test ≡ true
each_all zero test each = refl
each_all (suc n) test each = and_from (each_below n test) (test n) (each_all n test (λ i lt. each i (omega arith))) (each n (omega arith))

-- ---- tableswitch

starts_table : (code : List ℕ) (pc : ℕ) (rest : List ℕ) → drop pc code ≡ 170 ∷ rest → decoded code pc ≡ table_switch code pc (table_place pc)
unfolding decoded opcode
starts_table code pc rest is = ap (instruction code pc) is

starts_lookup : (code : List ℕ) (pc : ℕ) (rest : List ℕ) → drop pc code ≡ 171 ∷ rest → decoded code pc ≡ lookup_switch code pc (table_place pc)
unfolding decoded opcode
starts_lookup code pc rest is = ap (instruction code pc) is

is_table : (code : List ℕ) (pc table : ℕ) → table + 12 ≤ length code → int_lt (table_high code table) (table_low code table) ≡ false → table + table_length code table ≤ length code
    → table_switch code pc table ≡ Ok (Insn.TableSwitch table, table + table_length code table - pc)
is_table code pc table header order room =
    let h : ltb (length code) (table + 12) ≡ false = le-ltb (length code) (table + 12) header in
    let r : ltb (length code) (table + table_length code table) ≡ false = le-ltb (length code) (table + table_length code table) room in
    rw (h, order, r) refl

is_lookup : (code : List ℕ) (pc table : ℕ) → table + 8 ≤ length code → int_lt (pair_number code table) (pos 0) ≡ false → table + lookup_length code table ≤ length code → keys_ascend code table ≡ true
    → lookup_switch code pc table ≡ Ok (Insn.LookupSwitch table, table + lookup_length code table - pc)
is_lookup code pc table header count room order =
    let h : ltb (length code) (table + 8) ≡ false = le-ltb (length code) (table + 8) header in
    let r : ltb (length code) (table + lookup_length code table) ≡ false = le-ltb (length code) (table + lookup_length code table) room in
    rw (h, count, r, order) refl

up : (low : ℤ) (n : ℕ) → int_lt (low +ℤ pos n) low ≡ false
up low n = grind (arith, ints)

span : (low : ℤ) (n : ℕ) → unsigned_abs ((low +ℤ pos n) -ℤ low) ≡ n
span low n = grind (arith, ints)

-- what is read of the table of a switch at pc
pub record Reads (code : List ℕ) (pc : ℕ) (found : Insn) (size : ℕ) (keys offs : List ℤ) : Type 0 where
  pub decodes : decoded code pc ≡ Ok (found, size)
  pub with_keys : keys_of code found ≡ keys
  pub leads : offsets code found ≡ offs

padded : (pc : ℕ) → length (170 ∷ padding pc) ≡ table_place pc - pc
padded pc = omega (arith, length-replicate (table_place pc - (pc + 1)) (let z : ℕ = 0 in z))

table_at : (code : List ℕ) (pc op : ℕ) (table : List ℕ) → At code pc (op ∷ padding pc ++ table) → At code (table_place pc) table
table_at code pc op table a =
    let e : pc + length (op ∷ padding pc) ≡ table_place pc = omega (arith, padded pc) in
    subst (λ (n : ℕ). At code n table) e (at_second code pc (op ∷ padding pc) table a)

pub table_reads : (code : List ℕ) (pc : ℕ) (low : ℤ) (keys : List ℤ) (default : ℤ) (offs : List ℤ) → At code pc (170 ∷ padding pc ++ table_bytes (low ∷ keys) (default ∷ offs))
    → length offs ≡ length (low ∷ keys) → Count (low ∷ keys) → Fit (default ∷ low ∷ (low +ℤ pos (length keys)) ∷ offs)
    → Reads code pc (Insn.TableSwitch (table_place pc)) (table_place pc + (12 + 4 * length (low ∷ keys)) - pc) (low ∷ keys) (default ∷ offs)
table_reads code pc low keys default offs a all count fit =
    let t : ℕ = table_place pc in
    let ns : List ℤ = default ∷ low ∷ (low +ℤ pos (length keys)) ∷ offs in
    let w : At code t (words ns) = table_at code pc 170 (words ns) a in
    let room : t + length (words ns) ≤ length code = at_room code t (words ns) w (omega (arith, words_length ns)) in
    let long : length (words ns) ≡ 12 + 4 * length (low ∷ keys) = omega (arith, words_length ns) in
    let first : word_at code (t + 0) ≡ default = word_in code t ns 0 w fit (omega arith) in
    let here : switch_default code t ≡ default = (let e : t ≡ t + 0 = omega arith in ap (word_at code) e) ∙ first in
    let lowest : table_low code t ≡ low = word_in code t ns 1 w fit (omega arith) in
    let highest : table_high code t ≡ low +ℤ pos (length keys) = word_in code t ns 2 w fit (omega arith) in
    let counted : table_count code t ≡ length (low ∷ keys) =
    ap (λ (n : ℕ). n + 1) (ap (λ (h : ℤ). unsigned_abs (h -ℤ table_low code t)) highest ∙ ap (λ (l : ℤ). unsigned_abs ((low +ℤ pos (length keys)) -ℤ l)) lowest ∙ span low (length keys)) ∙ add-one (length keys) in
    let size : table_length code t ≡ 12 + 4 * length (low ∷ keys) = ap (λ (n : ℕ). 12 + 4 * n) counted in
    let order : int_lt (table_high code t) (table_low code t) ≡ false =
    ap (λ (h : ℤ). int_lt h (table_low code t)) highest ∙ ap (λ (l : ℤ). int_lt (low +ℤ pos (length keys)) l) lowest ∙ up low (length keys) in
    record {
      decodes = starts_table code pc _ a.is ∙ is_table code pc t (omega arith) order (omega arith) ∙ ap (λ (n : ℕ). let r : Decoded = Ok (Insn.TableSwitch t, t + n - pc) in r) size;
      with_keys = numbered_same (λ i. table_low code t +ℤ pos i) (λ i. low +ℤ pos i) (table_count code t) (length (low ∷ keys)) counted (λ i lt. ap (λ (l : ℤ). l +ℤ pos i) lowest) ∙ sym count;
      leads =
          ap (λ (z : ℤ). z ∷ numbered (table_count code t) (table_offset code t)) here
          ∙ ap (λ (l : List ℤ). default ∷ l) (numbered_is (table_offset code t) offs (pos 0) (table_count code t) (omega arith)
          (λ i lt. (let e : t + 12 + 4 * i ≡ t + 4 * suc (suc (suc i)) = omega arith in ap (word_at code) e) ∙ word_in code t ns (suc (suc (suc i))) w fit (omega arith)));
    }

-- ---- lookupswitch

abbrev pairs : List ℤ → List ℤ → List ℤ
pairs (k ∷ keys) (o ∷ offs) = k ∷ o ∷ pairs keys offs
pairs _ _ = []

pairs_words : (keys offs : List ℤ) → pairs_bytes keys offs ≡ words (pairs keys offs)
pairs_words [] offs = refl
pairs_words (k ∷ keys) [] = refl
pairs_words (k ∷ keys) (o ∷ offs) = ap (λ (l : List ℕ). s4_bytes k ++ (s4_bytes o ++ l)) (pairs_words keys offs)

pairs_length : (keys offs : List ℤ) → length offs ≡ length keys → length (pairs keys offs) ≡ 2 * length keys
pairs_length [] offs same = refl
pairs_length (k ∷ keys) [] same = absurd (omega arith)
pairs_length (k ∷ keys) (o ∷ offs) same = omega (arith, pairs_length keys offs (omega arith))

pairs_key : (keys offs : List ℤ) (i : ℕ) → length offs ≡ length keys → i < length keys → get_or (pairs keys offs) (2 * i) (pos 0) ≡ get_or keys i (pos 0)
pairs_key [] offs i same lt = absurd (omega arith)
pairs_key (k ∷ keys) [] i same lt = absurd (omega arith)
pairs_key (k ∷ keys) (o ∷ offs) zero same lt = refl
pairs_key (k ∷ keys) (o ∷ offs) (suc i) same lt =
    (let e : 2 * suc i ≡ suc (suc (2 * i)) = omega arith in ap (λ (n : ℕ). get_or (pairs (k ∷ keys) (o ∷ offs)) n (pos 0)) e) ∙ pairs_key keys offs i (omega arith) (omega arith)

pairs_offset : (keys offs : List ℤ) (i : ℕ) → length offs ≡ length keys → i < length keys → get_or (pairs keys offs) (suc (2 * i)) (pos 0) ≡ get_or offs i (pos 0)
pairs_offset [] offs i same lt = absurd (omega arith)
pairs_offset (k ∷ keys) [] i same lt = absurd (omega arith)
pairs_offset (k ∷ keys) (o ∷ offs) zero same lt = refl
pairs_offset (k ∷ keys) (o ∷ offs) (suc i) same lt =
    (let e : suc (2 * suc i) ≡ suc (suc (suc (2 * i))) = omega arith in ap (λ (n : ℕ). get_or (pairs (k ∷ keys) (o ∷ offs)) n (pos 0)) e) ∙ pairs_offset keys offs i (omega arith) (omega arith)

pairs_fit : (keys offs : List ℤ) → Fit keys → Fit offs → Fit (pairs keys offs)
pairs_fit [] offs f g = tt
pairs_fit (k ∷ keys) [] f g = tt
pairs_fit (k ∷ keys) (o ∷ offs) f g = (f.0, (g.0, pairs_fit keys offs f.1 g.1))

is_below : (a b : ℤ) → a <ℤ b → int_lt a b ≡ true
is_below a b lt = grind (arith, ints)

ascend_at : (keys : List ℤ) (i : ℕ) → Ascend keys → i + 1 < length keys → int_lt (get_or keys i (pos 0)) (get_or keys (suc i) (pos 0)) ≡ true
ascend_at [] i up lt = absurd (omega arith)
ascend_at (a ∷ []) i up lt = absurd (omega arith)
ascend_at (a ∷ b ∷ keys) zero up lt = is_below a b up.0
ascend_at (a ∷ b ∷ keys) (suc i) up lt = ascend_at (b ∷ keys) i up.1 (omega arith)

natural : (n : ℕ) → int_lt (pos n) (pos 0) ≡ false
natural n = grind (arith, ints)

pub lookup_reads : (code : List ℕ) (pc : ℕ) (keys : List ℤ) (default : ℤ) (offs : List ℤ) → At code pc (171 ∷ padding pc ++ lookup_bytes keys (default ∷ offs))
    → length offs ≡ length keys → Ascend keys → FitsSigned w32 default → FitsSigned w32 (pos (length keys)) → Fit keys → Fit offs
    → Reads code pc (Insn.LookupSwitch (table_place pc)) (table_place pc + (8 + 8 * length keys) - pc) keys (default ∷ offs)
lookup_reads code pc keys default offs a all up fit-d fit-n fit-k fit-o =
    let t : ℕ = table_place pc in
    let ns : List ℤ = default ∷ pos (length keys) ∷ pairs keys offs in
    let fit : Fit ns = (fit-d, (fit-n, pairs_fit keys offs fit-k fit-o)) in
    let b : At code pc (171 ∷ padding pc ++ words ns) =
    subst (λ (l : List ℕ). At code pc (171 ∷ padding pc ++ (s4_bytes default ++ (s4_bytes (pos (length keys)) ++ l)))) (pairs_words keys offs) a in
    let w : At code t (words ns) = table_at code pc 171 (words ns) b in
    let much : length (pairs keys offs) ≡ 2 * length keys = pairs_length keys offs all in
    let room : t + length (words ns) ≤ length code = at_room code t (words ns) w (omega (arith, words_length ns)) in
    let long : length (words ns) ≡ 8 + 8 * length keys = omega (arith, words_length ns) in
    let first : word_at code (t + 0) ≡ default = word_in code t ns 0 w fit (omega arith) in
    let here : switch_default code t ≡ default = (let e : t ≡ t + 0 = omega arith in ap (word_at code) e) ∙ first in
    let number : pair_number code t ≡ pos (length keys) = word_in code t ns 1 w fit (omega arith) in
    let counted : pair_count code t ≡ length keys = ap unsigned_abs number in
    let size : lookup_length code t ≡ 8 + 8 * length keys = ap (λ (n : ℕ). 8 + 8 * n) counted in
    let key : (i : ℕ) → i < length keys → pair_key code t i ≡ get_or keys i (pos 0) =
    λ i lt. (let e : t + 8 + 8 * i ≡ t + 4 * suc (suc (2 * i)) = omega arith in ap (word_at code) e) ∙ word_in code t ns (suc (suc (2 * i))) w fit (omega arith) ∙ pairs_key keys offs i all lt in
    let order : keys_ascend code t ≡ true =
    each_all (pair_count code t - 1) (λ i. ascends_at code t i) (λ i lt.
    let e : i + 1 ≡ suc i = add-one i in
    ap (λ (k : ℤ). int_lt k (pair_key code t (i + 1))) (key i (omega arith)) ∙ ap (λ (k : ℤ). int_lt (get_or keys i (pos 0)) k) (key (i + 1) (omega arith) ∙ ap (λ (n : ℕ). get_or keys n (pos 0)) e) ∙ ascend_at keys i up (omega arith)) in
    let sign : int_lt (pair_number code t) (pos 0) ≡ false = ap (λ (n : ℤ). int_lt n (pos 0)) number ∙ natural (length keys) in
    record {
      decodes = starts_lookup code pc _ a.is ∙ is_lookup code pc t (omega arith) sign (omega arith) order ∙ ap (λ (n : ℕ). let r : Decoded = Ok (Insn.LookupSwitch t, t + n - pc) in r) size;
      with_keys = numbered_is (pair_key code t) keys (pos 0) (pair_count code t) (omega arith) key;
      leads =
          ap (λ (z : ℤ). z ∷ numbered (pair_count code t) (pair_offset code t)) here
          ∙ ap (λ (l : List ℤ). default ∷ l) (numbered_is (pair_offset code t) offs (pos 0) (pair_count code t) (omega arith)
          (λ i lt. (let e : t + 12 + 8 * i ≡ t + 4 * suc (suc (suc (2 * i))) = omega arith in ap (word_at code) e) ∙ word_in code t ns (suc (suc (suc (2 * i)))) w fit (omega arith) ∙ pairs_offset keys offs i all (omega arith)));
    }
