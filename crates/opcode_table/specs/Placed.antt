-- Each instruction that is valid stands in some code.
use Rattle.std.proofs.Common.{◌≡◌, ℕ, zero, suc, ◌+◌, ◌-◌, ◌/◌, ◌%◌, ◌^◌, ◌<◌, ◌≤◌, Bool, true, false, List, [], ◌∷◌, ◌++◌, length, take, drop, replicate, ltb, lit<, Option, Some, None, Ok, refl, sym, ap, subst, ◌∙◌, inl, inr, arith}
use Rattle.std.specs.Prelude.{ℤ, pos, slice_get}
use Rattle.std.specs.Int.{w8, w16, w32, to_be_bytes, from_be_bytes, cast_signed, cast_unsigned}
use Rattle.std.proofs.lemmas.Bool.{cases_lt, le-ltb}
use Rattle.std.proofs.lemmas.List.{drop_at, drop-drop, length-append, length-replicate, append-nil}
use Rattle.opcode_table.specs.declared.insn.Insn.{Insn}
use Rattle.opcode_table.specs.declared.form.Form.{Form}
use Rattle.opcode_table.specs.Table.{opcode, opcodes, joined, form_in, form_of}
use Rattle.opcode_table.specs.Decoding.{decoded, instruction, word_at, table_place, table_switch, lookup_switch}
use Rattle.opcode_table.specs.Spelling.{spelling, u2_bytes, s1_bytes, s2_bytes, s4_bytes, local_bytes, increment_bytes, pool_bytes, branch_bytes, IsInsn, IsSingle, IsTablePlace, FitsLocal, FitsIncrement, FitsPool, FitsBranch}
use Rattle.opcode_table.specs.Bytes.{IsBytes, cast_below_8}
use Rattle.opcode_table.specs.DecodedAgain.{decoded_where_spelled, local_form}

-- the instruction stands in some code
pub record StandsSomewhere (i : Insn) : Type 0 where
  pub code : List ℕ
  pub pc : ℕ
  pub size : ℕ
  pub bytes : IsBytes code
  pub stands : decoded code pc ≡ Ok (i, size)

-- ---- switches

-- a tableswitch from 0 to 0, each offset 0
abbrev table_bytes : List ℕ
table_bytes = 170 ∷ replicate 19 0

abbrev lookup_bytes : List ℕ
lookup_bytes = 171 ∷ replicate 11 0

zeros_then : (k : ℕ) (bytes : List ℕ) → IsBytes bytes → IsBytes (replicate k 0 ++ bytes)
zeros_then zero bytes fits i = fits i
zeros_then (suc k) bytes fits zero = omega arith
zeros_then (suc k) bytes fits (suc i) = zeros_then k bytes fits i

drop_past : (k n m : ℕ) (bytes : List ℕ) → m ≡ k + n → drop m (replicate k 0 ++ bytes) ≡ drop n bytes
drop_past k n m bytes e = rw (e, ← drop-drop) (ap (drop n) (drop_at (replicate k 0) bytes k (length-replicate k 0)))

-- ---- a switch at the place behind k bytes 0, its table at t

word_is : (k n place : ℕ) (bytes : List ℕ) → place ≡ k + n → word_at (replicate k 0 ++ bytes) place ≡ word_at bytes n
word_is k n place bytes e = ap (λ (t : List ℕ). cast_signed w32 (from_be_bytes w32 (take 4 t))) (drop_past k n place bytes e)

table_at : (code : List ℕ) (pc table : ℕ) → table + 16 ≤ length code → word_at code (table + 4) ≡ pos 0 → word_at code (table + 8) ≡ pos 0 → table_switch code pc table ≡ Ok (Insn.TableSwitch table, table + 16 - pc)
table_at code pc table room low high =
    let header : ltb (length code) (table + 12) ≡ false = le-ltb _ _ (omega arith) in
    let whole : ltb (length code) (table + 16) ≡ false = le-ltb _ _ room in
    rw (high, low, header, whole) refl

lookup_at : (code : List ℕ) (pc table : ℕ) → table + 8 ≤ length code → word_at code (table + 4) ≡ pos 0 → lookup_switch code pc table ≡ Ok (Insn.LookupSwitch table, table + 8 - pc)
lookup_at code pc table room count =
    let header : ltb (length code) (table + 8) ≡ false = le-ltb _ _ room in
    rw (count, header) refl

table_placed : (k : ℕ) → k % 4 ≡ 0 → decoded (replicate k 0 ++ table_bytes) k ≡ Ok (Insn.TableSwitch (k + 4), k + 4 + 16 - k)
unfolding decoded opcode
table_placed k even =
    let code = replicate k 0 ++ table_bytes in
    let place : table_place k ≡ k + 4 = omega arith in
    let len : length code ≡ k + 20 = length-append (replicate k 0) table_bytes ∙ ap (λ (n : ℕ). n + 20) (length-replicate k 0) in
    ap (instruction code k) (drop_past k 0 k table_bytes (omega arith))
    ∙ ap (table_switch code k) place
    ∙ table_at code k (k + 4) (omega (arith, len)) (word_is k 8 (k + 4 + 4) table_bytes (omega arith)) (word_is k 12 (k + 4 + 8) table_bytes (omega arith))

lookup_placed : (k : ℕ) → k % 4 ≡ 0 → decoded (replicate k 0 ++ lookup_bytes) k ≡ Ok (Insn.LookupSwitch (k + 4), k + 4 + 8 - k)
unfolding decoded opcode
lookup_placed k even =
    let code = replicate k 0 ++ lookup_bytes in
    let place : table_place k ≡ k + 4 = omega arith in
    let len : length code ≡ k + 12 = length-append (replicate k 0) lookup_bytes ∙ ap (λ (n : ℕ). n + 12) (length-replicate k 0) in
    ap (instruction code k) (drop_past k 0 k lookup_bytes (omega arith))
    ∙ ap (lookup_switch code k) place
    ∙ lookup_at code k (k + 4) (omega (arith, len)) (word_is k 8 (k + 4 + 4) lookup_bytes (omega arith))

zeros_fit : (n : ℕ) → IsBytes (replicate n 0)
zeros_fit zero i = omega arith
zeros_fit (suc n) zero = omega arith
zeros_fit (suc n) (suc i) = zeros_fit n i

cons_fits : (a : ℕ) (rest : List ℕ) → a < 256 → IsBytes rest → IsBytes (a ∷ rest)
cons_fits a rest p fits zero = p
cons_fits a rest p fits (suc i) = fits i

nil_fits : IsBytes []
nil_fits i = omega arith

table_somewhere : (table : ℕ) → IsTablePlace table → StandsSomewhere (Insn.TableSwitch table)
table_somewhere table place =
    let k = table - 4 in
    let back : k + 4 ≡ table = omega (arith, place.0, place.1) in
    record {
      code = replicate k 0 ++ table_bytes;
      pc = k;
      size = k + 4 + 16 - k;
      bytes = zeros_then k table_bytes (cons_fits 170 (replicate 19 0) (lit< tt) (zeros_fit 19));
      stands = subst (λ (t : ℕ). decoded (replicate k 0 ++ table_bytes) k ≡ Ok (Insn.TableSwitch t, k + 4 + 16 - k)) back (table_placed k (omega (arith, place.0, place.1)));
    }

lookup_somewhere : (table : ℕ) → IsTablePlace table → StandsSomewhere (Insn.LookupSwitch table)
lookup_somewhere table place =
    let k = table - 4 in
    let back : k + 4 ≡ table = omega (arith, place.0, place.1) in
    record {
      code = replicate k 0 ++ lookup_bytes;
      pc = k;
      size = k + 4 + 8 - k;
      bytes = zeros_then k lookup_bytes (cons_fits 171 (replicate 11 0) (lit< tt) (zeros_fit 11));
      stands = subst (λ (t : ℕ). decoded (replicate k 0 ++ lookup_bytes) k ≡ Ok (Insn.LookupSwitch t, k + 4 + 8 - k)) back (lookup_placed k (omega (arith, place.0, place.1)));
    }

-- ---- the bytes of the others

-- an opcode is a byte
past_end : {X : Type 0} (xs : List (Option X)) (i : ℕ) → length xs ≤ i → joined (slice_get xs i) ≡ None
past_end [] i le = refl
past_end (x ∷ xs) zero le = absurd (omega arith)
past_end (x ∷ xs) (suc i) le = past_end xs i (omega arith)

no_opcode : (op : ℕ) → 202 ≤ op → form_of op ≡ None
unfolding opcode
no_opcode op le = ap form_in (past_end opcodes op le)

form_byte : (op : ℕ) (form : Form) → form_of op ≡ Some form → op < 256
form_byte op form is =
    elim (cases_lt op 202) [
      | inl lt ↦ omega arith
      | inr le ↦ (let none = no_opcode op le in absurd cc)
    ]

two_fit : (n : ℕ) → IsBytes (to_be_bytes w16 n)
two_fit n = cons_fits (n / 256 % 256) (n % 256 ∷ []) (omega arith) (cons_fits (n % 256) [] (omega arith) nil_fits)

four_fit : (n : ℕ) → IsBytes (to_be_bytes w32 n)
four_fit n =
    cons_fits (n / 16777216 % 256) (n / 65536 % 256 ∷ n / 256 % 256 ∷ n % 256 ∷ []) (omega arith)
    (cons_fits (n / 65536 % 256) (n / 256 % 256 ∷ n % 256 ∷ []) (omega arith) (two_fit n))

append_fits : (xs ys : List ℕ) → IsBytes xs → IsBytes ys → IsBytes (xs ++ ys)
append_fits [] ys fits fits' = fits'
append_fits (x ∷ xs) ys fits fits' = cons_fits x (xs ++ ys) (fits 0) (append_fits xs ys (λ i. fits (suc i)) fits')

one_fit : (a : ℕ) → a < 256 → IsBytes (a ∷ [])
one_fit a p = cons_fits a [] p nil_fits

local_fits : (op index : ℕ) (wide : Bool) → FitsLocal (form_of op) index wide → IsBytes (local_bytes op index wide)
local_fits op index false fits =
    let is = local_form (form_of op) index false fits in
    let small : index < 2 ^ 8 = subst (λ (found : Option Form). FitsLocal found index false) is fits in
    cons_fits op (index ∷ []) (form_byte op Form.Local is) (one_fit index (omega arith))
local_fits op index true fits =
    cons_fits 196 (op ∷ u2_bytes index) (lit< tt) (cons_fits op (u2_bytes index) (form_byte op Form.Local (local_form (form_of op) index true fits)) (two_fit index))

increment_fits : (index : ℕ) (by : ℤ) (wide : Bool) → FitsIncrement index by wide → IsBytes (increment_bytes index by wide)
increment_fits index by false fits = cons_fits 132 (index ∷ s1_bytes by) (lit< tt) (cons_fits index (s1_bytes by) (omega (arith, fits.0)) (one_fit (cast_unsigned w8 by) (omega (arith, cast_below_8 by fits.1))))
increment_fits index by true fits = cons_fits 196 (132 ∷ u2_bytes index ++ s2_bytes by) (lit< tt) (cons_fits 132 (u2_bytes index ++ s2_bytes by) (lit< tt) (append_fits (u2_bytes index) (s2_bytes by) (two_fit index) (two_fit (cast_unsigned w16 by))))

pool_fits : (op index : ℕ) (found : Option Form) → form_of op ≡ found → FitsPool found index → IsBytes (op ∷ pool_bytes found index)
pool_fits op index (Some Form.NarrowPool) is fits = cons_fits op (index ∷ []) (form_byte op Form.NarrowPool is) (one_fit index (omega (arith, fits)))
pool_fits op index (Some Form.Pool) is fits = cons_fits op (u2_bytes index) (form_byte op Form.Pool is) (two_fit index)
pool_fits op index _ is fits = absurd fits

branch_fits : (op : ℕ) (offset : ℤ) (found : Option Form) → form_of op ≡ found → FitsBranch found offset → IsBytes (op ∷ branch_bytes found offset)
branch_fits op offset (Some Form.Branch) is fits = cons_fits op (s2_bytes offset) (form_byte op Form.Branch is) (two_fit (cast_unsigned w16 offset))
branch_fits op offset (Some Form.WideBranch) is fits = cons_fits op (s4_bytes offset) (form_byte op Form.WideBranch is) (four_fit (cast_unsigned w32 offset))
branch_fits op offset _ is fits = absurd fits

-- A spelling is bytes.
pub spelling_fits : (i : Insn) → IsInsn i → IsBytes (spelling i)
unfolding spelling
spelling_fits (Insn.Plain op) valid = one_fit op (form_byte op Form.Plain valid)
spelling_fits (Insn.Bipush value) valid = cons_fits 16 (s1_bytes value) (lit< tt) (one_fit (cast_unsigned w8 value) (omega (arith, cast_below_8 value valid)))
spelling_fits (Insn.Sipush value) valid = cons_fits 17 (s2_bytes value) (lit< tt) (two_fit (cast_unsigned w16 value))
spelling_fits (Insn.Local op index wide) valid = local_fits op index wide valid
spelling_fits (Insn.Iinc index by wide) valid = increment_fits index by wide valid
spelling_fits (Insn.Pool op index) valid = pool_fits op index (form_of op) refl valid
spelling_fits (Insn.Interface index count last) valid = cons_fits 185 (u2_bytes index ++ count ∷ last ∷ []) (lit< tt) (append_fits (u2_bytes index) (count ∷ last ∷ []) (two_fit index) (cons_fits count (last ∷ []) (omega (arith, valid.1)) (one_fit last (omega (arith, valid.2)))))
spelling_fits (Insn.NewArray kind) valid = cons_fits 188 (kind ∷ []) (lit< tt) (one_fit kind (omega (arith, valid)))
spelling_fits (Insn.Multi index dims) valid = cons_fits 197 (u2_bytes index ++ dims ∷ []) (lit< tt) (append_fits (u2_bytes index) (dims ∷ []) (two_fit index) (one_fit dims (omega (arith, valid.1))))
spelling_fits (Insn.Branch op offset) valid = branch_fits op offset (form_of op) refl valid
spelling_fits (Insn.TableSwitch table) valid = nil_fits
spelling_fits (Insn.LookupSwitch table) valid = nil_fits

single_somewhere : (i : Insn) → IsInsn i → IsSingle i → StandsSomewhere i
single_somewhere i valid single = record {
  code = spelling i;
  pc = 0;
  size = length (spelling i);
  bytes = spelling_fits i valid;
  stands = decoded_where_spelled (spelling i) 0 i [] (sym (append-nil (spelling i))) valid single;
}

-- The valid instructions are those that stand in some code: with `decoded_stands`, exactly those.
pub valid_stands : (i : Insn) → IsInsn i → StandsSomewhere i
valid_stands (Insn.Plain op) valid = single_somewhere (Insn.Plain op) valid tt
valid_stands (Insn.Bipush value) valid = single_somewhere (Insn.Bipush value) valid tt
valid_stands (Insn.Sipush value) valid = single_somewhere (Insn.Sipush value) valid tt
valid_stands (Insn.Local op index wide) valid = single_somewhere (Insn.Local op index wide) valid tt
valid_stands (Insn.Iinc index by wide) valid = single_somewhere (Insn.Iinc index by wide) valid tt
valid_stands (Insn.Pool op index) valid = single_somewhere (Insn.Pool op index) valid tt
valid_stands (Insn.Interface index count last) valid = single_somewhere (Insn.Interface index count last) valid tt
valid_stands (Insn.NewArray kind) valid = single_somewhere (Insn.NewArray kind) valid tt
valid_stands (Insn.Multi index dims) valid = single_somewhere (Insn.Multi index dims) valid tt
valid_stands (Insn.Branch op offset) valid = single_somewhere (Insn.Branch op offset) valid tt
valid_stands (Insn.TableSwitch table) valid = table_somewhere table valid
valid_stands (Insn.LookupSwitch table) valid = lookup_somewhere table valid
