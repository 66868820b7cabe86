-- A row whose bytes stand at its place stands there.
use Rattle.std.proofs.Common.{◌≡◌, ℕ, zero, suc, ◌+◌, ◌-◌, ◌*◌, ◌^◌, ◌<◌, ◌≤◌, Bool, true, false, not, cond, eqb, ◌&&◌, ◌||◌, List, [], ◌∷◌, ◌++◌, length, get_or, drop, take, map, refl, sym, ap, ◌∙◌, arith, subst, append-nil, add-one, length-append, ℤ, pos, negsuc, ◌+ℤ◌, ◌-ℤ◌, Ok, Err, inl, inr}
use Rattle.std.specs.Prelude.{FitsSigned, Option, Some, None, int_lt, slice_get}
use Rattle.std.specs.Int.{w16, w32}
use Rattle.std.specs.List.{AllByRecursion}
use Rattle.std.proofs.lemmas.List.{length-map, length-replicate}
use Rattle.std.proofs.lemmas.Bool.{cases_lt, agree_below, agree_below_at, and_from, or_parts}
use Rattle.std.proofs.lemmas.Int.{ints}
use Rattle.opcode_table.specs.declared.insn.Insn.{Insn}
use Rattle.opcode_table.specs.declared.form.Form.{Form}
use Rattle.opcode_table.specs.Table.{Opcode, opcodes, opcode, joined, form_in, form_of}
use Rattle.opcode_table.specs.Decoding.{Decoded, decoded, table_place}
use Rattle.opcode_table.specs.Spelling.{spelling, branch_bytes, FitsBranch, IsBranchForm, IsInsn, IsSingle, IsShaped}
use Rattle.opcode_table.specs.DecodedAgain.{decoded_where_spelled}
use Rattle.class_file.specs.Code.{offsets, numbered}
use Rattle.code_layout.specs.declared.method_code.Jump.{Jump}
use Rattle.code_layout.specs.declared.row.Row.{Row}
use Rattle.code_layout.specs.Apart.{keys_of}
use Rattle.code_layout.specs.Blocks.{HasJump, Leads, Count}
use Rattle.code_layout.specs.Places.{goto, goto_w, wide_jump, is_test, opposite, is_short_form, is_short, narrow_size, branch_size, behind_insn, behind, passes, is_far_insn, is_far}
use Rattle.code_layout.specs.Laid.{bare, branch, Stands, StandsOver, StandsWidened, StandsWide, RowStands}
use Rattle.code_layout.specs.Spelled.{IsRow, padding, words, table_bytes, pairs_bytes, lookup_bytes, narrow_bytes, widened_bytes_by, widened_bytes, distance, row_bytes}
use Rattle.code_layout.proofs.Words.{At, at_first, at_second, at_room, Fit, Reads, words_length, table_reads, lookup_reads}

-- ---- opcodes of branches

past_end : {X : Type 0} (xs : List (Option X)) (i : ℕ) → length xs ≤ i → joined (slice_get xs i) ≡ None
past_end [] i le = refl
past_end (x ∷ xs) zero le = absurd (omega arith)
past_end (x ∷ xs) (suc i) le = past_end xs i (omega arith)

no_opcode : (op : ℕ) → 202 ≤ op → form_of op ≡ None
unfolding opcode
no_opcode op le = ap form_in (past_end opcodes op le)

short_byte : (op : ℕ) → is_short op ≡ true → op < 256
short_byte op is =
    elim (cases_lt op 202) [
      | inl lt ↦ omega arith
      | inr le ↦ (let none = ap is_short_form (no_opcode op le) in absurd cc)
    ]

implied : (a b : Bool) → (not a || b) ≡ true → a ≡ true → b ≡ true
implied true b h is = h
implied false b h is = absurd cc

opposites : agree_below (λ op. not (is_short op && is_test op) || is_short (opposite op)) (λ op. true) 256 ≡ true
unfolding opcode
opposites = refl

-- the opposite of a test has two bytes of offset too
opposite_short : (op : ℕ) → is_short op ≡ true → is_test op ≡ true → is_short (opposite op) ≡ true
opposite_short op short test =
    implied (is_short op && is_test op) (is_short (opposite op))
    (agree_below_at (λ op. not (is_short op && is_test op) || is_short (opposite op)) (λ op. true) 256 op opposites (short_byte op short))
    (and_from (is_short op) (is_test op) short test)

short_form : (found : Option Form) → is_short_form found ≡ true → found ≡ Some Form.Branch
short_form (Some Form.Branch) is = refl
short_form _ is = absurd cc

goto_w_form : form_of goto_w ≡ Some Form.WideBranch
unfolding opcode
goto_w_form = refl

jump_form : (b : Bool) → form_of (cond b 200 201) ≡ Some Form.WideBranch
unfolding opcode
jump_form true = refl
jump_form false = refl

-- ---- lengths

short_length : (op : ℕ) (offset : ℤ) → form_of op ≡ Some Form.Branch → length (spelling (Insn.Branch op offset)) ≡ 3
unfolding spelling
short_length op offset is = ap (λ (found : Option Form). length (op ∷ branch_bytes found offset)) is

long_length : (op : ℕ) (offset : ℤ) → form_of op ≡ Some Form.WideBranch → length (spelling (Insn.Branch op offset)) ≡ 5
unfolding spelling
long_length op offset is = ap (λ (found : Option Form). length (op ∷ branch_bytes found offset)) is

form_length : (op : ℕ) (offset : ℤ) (found : Option Form) → IsBranchForm found → length (op ∷ branch_bytes found offset) ≡ cond (is_short_form found) 3 5
form_length op offset (Some Form.Branch) is = refl
form_length op offset (Some Form.WideBranch) is = refl
form_length op offset _ is = absurd is

branch_length : (op : ℕ) (offset : ℤ) → IsBranchForm (form_of op) → length (spelling (Insn.Branch op offset)) ≡ narrow_size op
unfolding spelling
branch_length op offset is = form_length op offset (form_of op) is

padding_length : (op pc : ℕ) (bytes : List ℕ) → pc + length (op ∷ padding pc ++ bytes) ≡ table_place pc + length bytes
padding_length op pc bytes = omega (arith, length-append (padding pc) bytes, length-replicate (table_place pc - (pc + 1)) (let z : ℕ = 0 in z))

table_length : (pc op : ℕ) (keys offs : List ℤ) → Count keys → length offs ≡ length keys + 1 → pc + length (op ∷ padding pc ++ table_bytes keys offs) ≡ table_place pc + (12 + 4 * length keys)
table_length pc op [] offs count all = absurd count
table_length pc op (low ∷ keys) [] count all = absurd (omega arith)
table_length pc op (low ∷ keys) (d ∷ offs) count all =
    omega (arith, padding_length op pc (words (d ∷ low ∷ (low +ℤ pos (length keys)) ∷ offs)), words_length (d ∷ low ∷ (low +ℤ pos (length keys)) ∷ offs))

pairs_bytes_length : (keys offs : List ℤ) → length offs ≡ length keys → length (pairs_bytes keys offs) ≡ 8 * length keys
pairs_bytes_length [] offs all = refl
pairs_bytes_length (k ∷ keys) [] all = absurd (omega arith)
pairs_bytes_length (k ∷ keys) (o ∷ offs) all = omega (arith, pairs_bytes_length keys offs (omega arith))

lookup_length : (pc op : ℕ) (keys offs : List ℤ) → length offs ≡ length keys + 1 → pc + length (op ∷ padding pc ++ lookup_bytes keys offs) ≡ table_place pc + (8 + 8 * length keys)
lookup_length pc op keys [] all = absurd (omega arith)
lookup_length pc op keys (d ∷ offs) all = omega (arith, padding_length op pc (lookup_bytes keys (d ∷ offs)), pairs_bytes_length keys offs (omega arith))

-- the bytes of a row that is not widened reach to the place behind it
pub narrow_length : (pc : ℕ) (i : Insn) (jump : Jump ℕ) (offs : List ℤ) → Leads i jump → length offs ≡ length jump.to → pc + length (narrow_bytes pc i jump.keys offs) ≡ behind_insn false pc i (length jump.keys)
narrow_length pc (Insn.Plain op) jump offs leads all = refl
narrow_length pc (Insn.Bipush value) jump offs leads all = refl
narrow_length pc (Insn.Sipush value) jump offs leads all = refl
narrow_length pc (Insn.Local op index wide) jump offs leads all = refl
narrow_length pc (Insn.Iinc index by wide) jump offs leads all = refl
narrow_length pc (Insn.Pool op index) jump offs leads all = refl
narrow_length pc (Insn.Interface index count last) jump offs leads all = refl
narrow_length pc (Insn.NewArray code) jump offs leads all = refl
narrow_length pc (Insn.Multi index dims) jump offs leads all = refl
narrow_length pc (Insn.Branch op offset) jump offs leads all = ap (λ (n : ℕ). pc + n) (branch_length op (get_or offs 0 (pos 0)) leads.0)
narrow_length pc (Insn.TableSwitch table) jump offs leads all = let h = leads.1.1 in table_length pc 170 jump.keys offs leads.1.0 (omega arith)
narrow_length pc (Insn.LookupSwitch table) jump offs leads all = let h = leads.1.1 in lookup_length pc 171 jump.keys offs (omega arith)

widened_length_by : (b : Bool) (pc op : ℕ) (d : ℤ) → is_test op ≡ b → is_short op ≡ true → pc + length (widened_bytes_by b op d) ≡ pc + cond b 8 5
widened_length_by true pc op d test short =
    let is = short_form (form_of (opposite op)) (opposite_short op short test) in
    omega (arith, length-append (spelling (Insn.Branch (opposite op) (pos 8))) (spelling (Insn.Branch goto_w (d -ℤ pos 3))), short_length (opposite op) (pos 8) is, long_length goto_w (d -ℤ pos 3) goto_w_form)
widened_length_by false pc op d test short = ap (λ (n : ℕ). pc + n) (long_length (wide_jump op) d (jump_form (eqb op goto)))

abbrev pub is_short_insn : Insn → Bool
is_short_insn (Insn.Branch op offset) = is_short op
is_short_insn _ = false

pub widened_length : (pc : ℕ) (i : Insn) (keys : ℕ) (d : ℤ) → is_short_insn i ≡ true → pc + length (widened_bytes i d) ≡ behind_insn true pc i keys
widened_length pc (Insn.Branch op offset) keys d short = widened_length_by (is_test op) pc op d refl short
widened_length pc _ keys d short = absurd cc

-- ---- distances

back : (a b : ℕ) → pos a +ℤ (pos b -ℤ pos a) ≡ pos b
back a b = grind (arith, ints)

back_over : (a b : ℕ) → pos (a + 3) +ℤ ((pos b -ℤ pos a) -ℤ pos 3) ≡ pos b
back_over a b = grind (arith, ints)

over_next : (a b : ℕ) → b ≡ a + 8 → pos a +ℤ pos 8 ≡ pos b
over_next a b is = grind (arith, ints)

fits_32 : (a b : ℕ) → a < 2 ^ 16 → b < 2 ^ 16 → FitsSigned w32 (pos a -ℤ pos b)
fits_32 a b p q = grind (arith, ints)

fits_over : (a b : ℕ) → a < 2 ^ 16 → b < 2 ^ 16 → FitsSigned w32 ((pos a -ℤ pos b) -ℤ pos 3)
fits_over a b p q = grind (arith, ints)

fits_16 : (d : ℤ) → passes d ≡ false → FitsSigned w16 d
fits_16 (pos n) h = grind (arith, ints)
fits_16 (negsuc n) h = grind (arith, ints)

all_back : (place : ℕ → ℕ) (i : ℕ) (to : List ℕ) → map (λ offset. pos (place i) +ℤ offset) (map (distance place i) to) ≡ map pos (map place to)
all_back place i [] = refl
all_back place i (t ∷ to) =
    ap (λ (z : ℤ). z ∷ map (λ offset. pos (place i) +ℤ offset) (map (distance place i) to)) (back (place i) (place t))
    ∙ ap (λ (l : List ℤ). pos (place t) ∷ l) (all_back place i to)

all_fit : (place : ℕ → ℕ) (i count : ℕ) (to : List ℕ) → ((j : ℕ) → j ≤ count → place j < 2 ^ 16) → i ≤ count → AllByRecursion (λ (t : ℕ). t ≤ count) to → Fit (map (distance place i) to)
all_fit place i count [] small le all = tt
all_fit place i count (t ∷ to) small le all = (fits_32 (place t) (place i) (small t all.0) (small i le), all_fit place i count to small le all.1)

-- the last key of a tableswitch
last_of : (xs : List ℤ) (y : ℤ) → Fit (xs ++ y ∷ []) → FitsSigned w32 y
last_of [] y fit = fit.0
last_of (x ∷ xs) y fit = last_of xs y fit.1

last_fits : (keys : List ℤ) → Count keys → Fit keys → FitsSigned w32 (get_or keys 0 (pos 0) +ℤ pos (length keys - 1))
last_fits [] count fit = absurd count
last_fits (low ∷ keys) count fit =
    let e : length keys ≡ length (low ∷ keys) - 1 = omega arith in
    subst (λ (n : ℕ). FitsSigned w32 (low +ℤ pos n)) e (last_of (numbered (length keys) (λ i. low +ℤ pos i)) (low +ℤ pos (length keys)) (subst Fit count fit))

count_fits : (n : ℕ) → n < 2 ^ 16 → FitsSigned w32 (pos n)
count_fits n lt = omega arith

-- ---- what stands

single_stands : (code : List ℕ) (pc next : ℕ) (found i : Insn) (keys : List ℤ) (targets : List ℕ) → At code pc (spelling found) → IsInsn found → IsSingle found → bare found ≡ bare i → keys_of code found ≡ keys
    → map (λ offset. pos pc +ℤ offset) (offsets code found) ≡ map pos targets → pc + length (spelling found) ≡ next → Stands code pc next i keys targets
single_stands code pc next found i keys targets a valid single same keys_are leads falls = record {
  found = found;
  size = length (spelling found);
  decodes = decoded_where_spelled code pc found a.rest a.is valid single;
  same = same;
  with_keys = keys_are;
  leads = leads;
  falls = falls;
}

plain_stands : (code : List ℕ) (pc next : ℕ) (i : Insn) (place : ℕ → ℕ) (jump : Jump ℕ) → At code pc (spelling i) → IsInsn i → IsSingle i → keys_of code i ≡ [] → offsets code i ≡ [] → (jump.keys ≡ []) × (jump.to ≡ []) → pc + length (spelling i) ≡ next
    → Stands code pc next i jump.keys (map place jump.to)
plain_stands code pc next i place jump a valid single no_keys no_offsets none falls =
    single_stands code pc next i i jump.keys (map place jump.to) a valid single refl (no_keys ∙ sym none.0)
    (ap (map (λ offset. pos pc +ℤ offset)) no_offsets ∙ ap (λ (l : List ℕ). map pos (map place l)) (sym none.1)) falls

fits_form : (found : Option Form) (d : ℤ) → IsBranchForm found → (is_short_form found && passes d) ≡ false → FitsSigned w32 d → FitsBranch found d
fits_form (Some Form.Branch) d is near fits = fits_16 d near
fits_form (Some Form.WideBranch) d is near fits = fits
fits_form _ d is near fits = absurd is

module _ (code : List ℕ) (place : ℕ → ℕ) (count : ℕ) (small : (j : ℕ) → j ≤ count → place j < 2 ^ 16) (i : ℕ) (within : i ≤ count) where
  branch_stands : (op : ℕ) (offset : ℤ) (keys : List ℤ) (to : List ℕ) → At code (place i) (spelling (Insn.Branch op (get_or (map (distance place i) to) 0 (pos 0)))) → IsBranchForm (form_of op) → keys ≡ [] → length to ≡ 1
      → AllByRecursion (λ (t : ℕ). t ≤ count) to → is_far_insn place i (Insn.Branch op offset) to ≡ false → place (i + 1) ≡ place i + narrow_size op
      → Stands code (place i) (place (i + 1)) (Insn.Branch op offset) keys (map place to)
  branch_stands op offset keys [] a form none one all near next = absurd (omega arith)
  branch_stands op offset keys (t ∷ []) a form none one all near next =
      let d : ℤ = pos (place t) -ℤ pos (place i) in
      single_stands code (place i) (place (i + 1)) (Insn.Branch op d) (Insn.Branch op offset) keys (place t ∷ []) a
      (fits_form (form_of op) d form near (fits_32 (place t) (place i) (small t all.0) (small i within))) tt refl (sym none)
      (ap (λ (z : ℤ). z ∷ []) (back (place i) (place t)))
      (omega (arith, branch_length op d form))
  branch_stands op offset keys (t ∷ u ∷ to) a form none one all near next = absurd (omega arith)

  reads_stands : (found insn : Insn) (next size : ℕ) (keys : List ℤ) (to : List ℕ) → Reads code (place i) found size keys (map (distance place i) to) → bare found ≡ bare insn → place i + size ≡ next → Stands code (place i) next insn keys (map place to)
  reads_stands found insn next size keys to r same falls = record {
    found = found;
    size = size;
    decodes = r.decodes;
    same = same;
    with_keys = r.with_keys;
    leads = ap (map (λ offset. pos (place i) +ℤ offset)) r.leads ∙ all_back place i to;
    falls = falls;
  }

  past : (pc : ℕ) → pc < table_place pc
  past pc = omega arith

  table_stands : (table : ℕ) (keys : List ℤ) (to : List ℕ) → At code (place i) (170 ∷ padding (place i) ++ table_bytes keys (map (distance place i) to)) → Count keys → length to ≡ length keys + 1 → Fit keys → (last : FitsSigned w32 (get_or keys 0 (pos 0) +ℤ pos (length keys - 1)))
      → AllByRecursion (λ (t : ℕ). t ≤ count) to → place (i + 1) ≡ table_place (place i) + (12 + 4 * length keys)
      → Stands code (place i) (place (i + 1)) (Insn.TableSwitch table) keys (map place to)
  table_stands table [] to a counted long fit last all next = absurd counted
  table_stands table (low ∷ keys) [] a counted long fit last all next = absurd (omega arith)
  table_stands table (low ∷ keys) (t ∷ to) a counted long fit last all next =
      let offs = map (distance place i) to in
      let fits = all_fit place i count (t ∷ to) small within all in
      let e : length (low ∷ keys) - 1 ≡ length keys = omega arith in
      let high : FitsSigned w32 (low +ℤ pos (length keys)) = subst (λ (n : ℕ). FitsSigned w32 (low +ℤ pos n)) e last in
      reads_stands (Insn.TableSwitch (table_place (place i))) (Insn.TableSwitch table) (place (i + 1)) _ (low ∷ keys) (t ∷ to)
      (table_reads code (place i) low keys (distance place i t) offs a (omega (arith, length-map to (distance place i))) counted (fits.0, (fit.0, (high, fits.1)))) refl
      (omega (arith, past (place i)))

  lookup_stands : (table : ℕ) (keys : List ℤ) (to : List ℕ) → At code (place i) (171 ∷ padding (place i) ++ lookup_bytes keys (map (distance place i) to)) → HasJump (Insn.LookupSwitch table) (record { keys = keys; to = to }) → Fit keys → FitsSigned w32 (pos (length keys))
      → AllByRecursion (λ (t : ℕ). t ≤ count) to → place (i + 1) ≡ table_place (place i) + (8 + 8 * length keys)
      → Stands code (place i) (place (i + 1)) (Insn.LookupSwitch table) keys (map place to)
  lookup_stands table keys [] a has fit number all next = let h = has.1 in absurd (omega arith)
  lookup_stands table keys (t ∷ to) a has fit number all next =
      let h = has.1 in
      let offs = map (distance place i) to in
      let fits = all_fit place i count (t ∷ to) small within all in
      reads_stands (Insn.LookupSwitch (table_place (place i))) (Insn.LookupSwitch table) (place (i + 1)) _ keys (t ∷ to)
      (lookup_reads code (place i) keys (distance place i t) offs a (omega (arith, length-map to (distance place i))) has.0 fits.0 number fit fits.1) refl
      (omega (arith, past (place i)))

  plain_row : (insn : Insn) (jump : Jump ℕ) → At code (place i) (spelling insn) → IsInsn insn → IsSingle insn → keys_of code insn ≡ [] → offsets code insn ≡ [] → (jump.keys ≡ []) × (jump.to ≡ []) → place (i + 1) ≡ place i + length (spelling insn)
      → Stands code (place i) (place (i + 1)) insn jump.keys (map place jump.to)
  plain_row insn jump a valid single no_keys no_offsets none next = plain_stands code (place i) (place (i + 1)) insn place jump a valid single no_keys no_offsets none (sym next)

  narrow_stands : (insn : Insn) (jump : Jump ℕ) → At code (place i) (narrow_bytes (place i) insn jump.keys (map (distance place i) jump.to)) → Leads insn jump → Fit jump.keys → AllByRecursion (λ (t : ℕ). t ≤ count) jump.to
      → is_far_insn place i insn jump.to ≡ false → place (i + 1) ≡ behind_insn false (place i) insn (length jump.keys) → place (i + 1) < 2 ^ 16 → Stands code (place i) (place (i + 1)) insn jump.keys (map place jump.to)
  narrow_stands (Insn.Plain op) jump a leads fit all near next end = plain_row (Insn.Plain op) jump a leads.0 tt refl refl leads.1 next
  narrow_stands (Insn.Bipush value) jump a leads fit all near next end = plain_row (Insn.Bipush value) jump a leads.0 tt refl refl leads.1 next
  narrow_stands (Insn.Sipush value) jump a leads fit all near next end = plain_row (Insn.Sipush value) jump a leads.0 tt refl refl leads.1 next
  narrow_stands (Insn.Local op index wide) jump a leads fit all near next end = plain_row (Insn.Local op index wide) jump a leads.0 tt refl refl leads.1 next
  narrow_stands (Insn.Iinc index by wide) jump a leads fit all near next end = plain_row (Insn.Iinc index by wide) jump a leads.0 tt refl refl leads.1 next
  narrow_stands (Insn.Pool op index) jump a leads fit all near next end = plain_row (Insn.Pool op index) jump a leads.0 tt refl refl leads.1 next
  narrow_stands (Insn.Interface index n last) jump a leads fit all near next end = plain_row (Insn.Interface index n last) jump a leads.0 tt refl refl leads.1 next
  narrow_stands (Insn.NewArray kind) jump a leads fit all near next end = plain_row (Insn.NewArray kind) jump a leads.0 tt refl refl leads.1 next
  narrow_stands (Insn.Multi index dims) jump a leads fit all near next end = plain_row (Insn.Multi index dims) jump a leads.0 tt refl refl leads.1 next
  narrow_stands (Insn.Branch op offset) jump a leads fit all near next end = branch_stands op offset jump.keys jump.to a leads.0 leads.1.0 leads.1.1 all near next
  narrow_stands (Insn.TableSwitch table) jump a leads fit all near next end =
      table_stands table jump.keys jump.to a leads.1.0 leads.1.1 fit (last_fits jump.keys leads.1.0 fit) all next
  narrow_stands (Insn.LookupSwitch table) jump a leads fit all near next end =
      lookup_stands table jump.keys jump.to a leads.1 fit (count_fits (length jump.keys) (omega (arith, past (place i)))) all next

  widened_stands_by : (b : Bool) (op t : ℕ) → is_test op ≡ b → is_short op ≡ true → At code (place i) (widened_bytes_by b op (distance place i t)) → t ≤ count → place (i + 1) ≡ place i + cond b 8 5
      → StandsWidened b code (place i) (place (i + 1)) op (place t ∷ [])
  widened_stands_by true op t test short a le next =
      let opp : form_of (opposite op) ≡ Some Form.Branch = short_form (form_of (opposite op)) (opposite_short op short test) in
      let d : ℤ = distance place i t in
      let first : List ℕ = spelling (Insn.Branch (opposite op) (pos 8)) in
      let second : List ℕ = spelling (Insn.Branch goto_w (d -ℤ pos 3)) in
      let three : length first ≡ 3 = short_length (opposite op) (pos 8) opp in
      let eight : FitsSigned w16 (pos 8) = omega arith in
      let there : At code (place i + 3) second = subst (λ (n : ℕ). At code (place i + n) second) three (at_second code (place i) first second a) in
      record {
        test = single_stands code (place i) (place i + 3) (Insn.Branch (opposite op) (pos 8)) (branch (opposite op)) [] (place (i + 1) ∷ []) (at_first code (place i) first second a)
            (subst (λ (found : Option Form). FitsBranch found (pos 8)) (sym opp) eight) tt refl refl (ap (λ (z : ℤ). z ∷ []) (over_next (place i) (place (i + 1)) next)) (ap (λ (n : ℕ). place i + n) three);
        over = single_stands code (place i + 3) (place (i + 1)) (Insn.Branch goto_w (d -ℤ pos 3)) (branch goto_w) [] (place t ∷ []) there
            (subst (λ (found : Option Form). FitsBranch found (d -ℤ pos 3)) (sym goto_w_form) (fits_over (place t) (place i) (small t le) (small i within))) tt refl refl (ap (λ (z : ℤ). z ∷ []) (back_over (place i) (place t)))
            (omega (arith, long_length goto_w (d -ℤ pos 3) goto_w_form));
      }
  widened_stands_by false op t test short a le next =
      let form : form_of (wide_jump op) ≡ Some Form.WideBranch = jump_form (eqb op goto) in
      let d : ℤ = distance place i t in
      single_stands code (place i) (place (i + 1)) (Insn.Branch (wide_jump op) d) (branch (wide_jump op)) [] (place t ∷ []) a
      (subst (λ (found : Option Form). FitsBranch found d) (sym form) (fits_32 (place t) (place i) (small t le) (small i within))) tt refl refl (ap (λ (z : ℤ). z ∷ []) (back (place i) (place t)))
      (omega (arith, long_length (wide_jump op) d form))

  branch_widened : (op : ℕ) (offset : ℤ) (keys : List ℤ) (to : List ℕ) → is_short op ≡ true → At code (place i) (widened_bytes (Insn.Branch op offset) (distance place i (get_or to 0 0))) → length to ≡ 1 → AllByRecursion (λ (t : ℕ). t ≤ count) to
      → place (i + 1) ≡ place i + branch_size true op → StandsWide code (place i) (place (i + 1)) (Insn.Branch op offset) (map place to)
  branch_widened op offset keys [] short a one all next = absurd (omega arith)
  branch_widened op offset keys (t ∷ []) short a one all next = widened_stands_by (is_test op) op t refl short a all.0 next
  branch_widened op offset keys (t ∷ u ∷ to) short a one all next = absurd (omega arith)

  widened_stands : (insn : Insn) (jump : Jump ℕ) → At code (place i) (widened_bytes insn (distance place i (get_or jump.to 0 0))) → Leads insn jump → AllByRecursion (λ (t : ℕ). t ≤ count) jump.to → is_short_insn insn ≡ true
      → place (i + 1) ≡ behind_insn true (place i) insn (length jump.keys) → StandsWide code (place i) (place (i + 1)) insn (map place jump.to)
  widened_stands (Insn.Branch op offset) jump a leads all short next = branch_widened op offset jump.keys jump.to short a leads.1.1 all next
  widened_stands _ jump a leads all short next = absurd cc

  pub row_stands : (w : Bool) (row : Row) → At code (place i) (row_bytes place i w row) → IsRow count row → Fit row.jump.keys → (w ≡ true → is_short_insn row.insn ≡ true) → (w ≡ false → is_far place i row ≡ false)
      → place (i + 1) ≡ behind w (place i) row → place (i + 1) < 2 ^ 16 → RowStands code place i w row
  row_stands true row a is fit short near next end = widened_stands row.insn row.jump a is.leads is.within (short refl) next
  row_stands false row a is fit short near next end = narrow_stands row.insn row.jump a is.leads fit is.within (near refl) next end
