-- What is decoded stands there, spelled as its bytes are.
use Rattle.std.proofs.Common.{◌≡◌, ℕ, ◌+◌, ◌-◌, ◌<◌, ◌≤◌, Bool, true, false, cond, not, ltb, List, [], ◌∷◌, ◌++◌, length, take, drop, Option, Some, None, Ok, Err, refl, sym, ap, subst, ◌∙◌, arith}
use Rattle.std.specs.Prelude.{ℤ, pos, ◌≤ℤ◌, int_lt, IfOk}
use Rattle.std.proofs.lemmas.Bool.{ltb-false, not-true, not-false}
use Rattle.std.proofs.lemmas.List.{get_or-drop, length-drop, length-take}
use Rattle.std.proofs.lemmas.Int.{ints}
use Rattle.opcode_table.specs.declared.insn.Insn.{Insn}
use Rattle.opcode_table.specs.declared.form.Form.{Form}
use Rattle.opcode_table.specs.declared.fault.CodeFault.{CodeFault}
use Rattle.opcode_table.specs.declared.fault.CodeFault.TheVariants.{Cut, Switch}
use Rattle.opcode_table.specs.Table.{form_of}
use Rattle.opcode_table.specs.Decoding.{Decoded, u2, s1, s2, s4, table_place, table_low, table_high, table_length, pair_number, lookup_length, keys_ascend, reaches, one_byte, two_bytes, three_bytes, four_bytes, table_switch, lookup_switch, widened, after_wide, operands, by_form, instruction, decoded}
use Rattle.opcode_table.specs.Spelling.{spelling, u2_bytes, pool_bytes, branch_bytes, IsInsn, IsSingle, HasSwitch, Stands, IsTablePlace, HasTable, HasPairs, FitsLocal, FitsPool, FitsBranch}
use Rattle.opcode_table.specs.Bytes.{IsBytes, IsBytes-rest, u2_spelled, u2_below, s1_spelled, s1_fits, s2_spelled, s2_fits, s4_spelled, s4_fits}
use Rattle.opcode_table.specs.Forms.{bipush_only, sipush_only, iinc_only, invokeinterface_only, newarray_only, multianewarray_only, wide_only}

-- what is known of an instruction of n bytes that stands at the front of bytes
pub record Found (code bytes : List ℕ) (i : Insn) (n : ℕ) : Type 0 where
  pub some : 0 < n
  pub within : n ≤ length bytes
  pub valid : IsInsn i
  pub spelled : IsSingle i → take n bytes ≡ spelling i
  pub switch : HasSwitch code i

abbrev FoundIn : List ℕ → List ℕ → Insn × ℕ → Type 0
FoundIn code bytes x = Found code bytes x.0 x.1

abbrev done : Insn × ℕ → Decoded
done x = Ok x

ok_is : (x y : Insn × ℕ) → done x ≡ done y → x ≡ y
ok_is x y e = cc

-- from what was made to what was given
along : (code bytes : List ℕ) (x y : Insn × ℕ) → done x ≡ done y → FoundIn code bytes x → FoundIn code bytes y
along code bytes x y e found = subst (FoundIn code bytes) (ok_is x y e) found

guard : (b : Bool) (fault : CodeFault) (rest : Decoded) (x : Insn × ℕ) → cond b (Err fault) rest ≡ done x → (b ≡ false) × (rest ≡ done x)
guard true fault rest x e = absurd cc
guard false fault rest x e = (refl, e)

guard_last : (b : Bool) (fault : CodeFault) (rest : Decoded) (x : Insn × ℕ) → cond b rest (Err fault) ≡ done x → (b ≡ true) × (rest ≡ done x)
guard_last true fault rest x e = (refl, e)
guard_last false fault rest x e = absurd cc

-- ---- one to four bytes, behind the bytes that `whole` puts before them

one_step : (code : List ℕ) (pc used : ℕ) (whole : List ℕ → List ℕ) (bytes : List ℕ) (made : ℕ → Insn) (x : Insn × ℕ) → IsBytes bytes → one_byte pc used bytes made ≡ done x → ((a : ℕ) (rest : List ℕ) → a < 256 → FoundIn code (whole (a ∷ rest)) (made a, used + 1)) → FoundIn code (whole bytes) x
one_step code pc used whole [] made x fits e next = absurd cc
one_step code pc used whole (a ∷ rest) made x fits e next = along code (whole (a ∷ rest)) (made a, used + 1) x e (next a rest (fits 0))

two_step : (code : List ℕ) (pc used : ℕ) (whole : List ℕ → List ℕ) (bytes : List ℕ) (made : ℕ → ℕ → Insn) (x : Insn × ℕ) → IsBytes bytes → two_bytes pc used bytes made ≡ done x → ((a b : ℕ) (rest : List ℕ) → a < 256 → b < 256 → FoundIn code (whole (a ∷ b ∷ rest)) (made a b, used + 2)) → FoundIn code (whole bytes) x
two_step code pc used whole (a ∷ b ∷ rest) made x fits e next = along code (whole (a ∷ b ∷ rest)) (made a b, used + 2) x e (next a b rest (fits 0) (fits 1))
two_step code pc used whole _ made x fits e next = absurd cc

three_step : (code : List ℕ) (pc used : ℕ) (whole : List ℕ → List ℕ) (bytes : List ℕ) (made : ℕ → ℕ → ℕ → Insn) (x : Insn × ℕ) → IsBytes bytes → three_bytes pc used bytes made ≡ done x → ((a b c : ℕ) (rest : List ℕ) → a < 256 → b < 256 → c < 256 → FoundIn code (whole (a ∷ b ∷ c ∷ rest)) (made a b c, used + 3)) → FoundIn code (whole bytes) x
three_step code pc used whole (a ∷ b ∷ c ∷ rest) made x fits e next = along code (whole (a ∷ b ∷ c ∷ rest)) (made a b c, used + 3) x e (next a b c rest (fits 0) (fits 1) (fits 2))
three_step code pc used whole _ made x fits e next = absurd cc

four_step : (code : List ℕ) (pc used : ℕ) (whole : List ℕ → List ℕ) (bytes : List ℕ) (made : ℕ → ℕ → ℕ → ℕ → Insn) (x : Insn × ℕ) → IsBytes bytes → four_bytes pc used bytes made ≡ done x → ((a b c d : ℕ) (rest : List ℕ) → a < 256 → b < 256 → c < 256 → d < 256 → FoundIn code (whole (a ∷ b ∷ c ∷ d ∷ rest)) (made a b c d, used + 4)) → FoundIn code (whole bytes) x
four_step code pc used whole (a ∷ b ∷ c ∷ d ∷ rest) made x fits e next = along code (whole (a ∷ b ∷ c ∷ d ∷ rest)) (made a b c d, used + 4) x e (next a b c d rest (fits 0) (fits 1) (fits 2) (fits 3))
four_step code pc used whole _ made x fits e next = absurd cc

-- ---- each form

bipush_found : (code : List ℕ) (op a : ℕ) (rest : List ℕ) → op ≡ 16 → a < 256 → Found code (op ∷ a ∷ rest) (Insn.Bipush (s1 a)) 2
unfolding spelling
bipush_found code op a rest is p = record { some = omega arith; within = omega arith; valid = s1_fits a p; spelled = λ _. rw (is, s1_spelled a p) refl; switch = tt }

sipush_found : (code : List ℕ) (op a b : ℕ) (rest : List ℕ) → op ≡ 17 → a < 256 → b < 256 → Found code (op ∷ a ∷ b ∷ rest) (Insn.Sipush (s2 a b)) 3
unfolding spelling
sipush_found code op a b rest is p q = record { some = omega arith; within = omega arith; valid = s2_fits a b p q; spelled = λ _. rw is (ap (λ (t : List ℕ). 17 ∷ t) (sym (s2_spelled a b p q))); switch = tt }

local_found : (code : List ℕ) (op a : ℕ) (rest : List ℕ) → form_of op ≡ Some Form.Local → a < 256 → Found code (op ∷ a ∷ rest) (Insn.Local op a false) 2
unfolding spelling
local_found code op a rest is p = record { some = omega arith; within = omega arith; valid = subst (λ (found : Option Form). FitsLocal found a false) (sym is) p; spelled = λ _. refl; switch = tt }

iinc_found : (code : List ℕ) (op a b : ℕ) (rest : List ℕ) → op ≡ 132 → a < 256 → b < 256 → Found code (op ∷ a ∷ b ∷ rest) (Insn.Iinc a (s1 b) false) 3
unfolding spelling
iinc_found code op a b rest is p q = record { some = omega arith; within = omega arith; valid = (p, s1_fits b q); spelled = λ _. rw is (ap (λ (t : List ℕ). 132 ∷ a ∷ t) (sym (s1_spelled b q))); switch = tt }

ldc_found : (code : List ℕ) (op a : ℕ) (rest : List ℕ) → form_of op ≡ Some Form.NarrowPool → a < 256 → Found code (op ∷ a ∷ rest) (Insn.Pool op a) 2
unfolding spelling
ldc_found code op a rest is p = record { some = omega arith; within = omega arith; valid = subst (λ (found : Option Form). FitsPool found a) (sym is) p; spelled = λ _. ap (λ (found : Option Form). op ∷ pool_bytes found a) (sym is); switch = tt }

pool_found : (code : List ℕ) (op a b : ℕ) (rest : List ℕ) → form_of op ≡ Some Form.Pool → a < 256 → b < 256 → Found code (op ∷ a ∷ b ∷ rest) (Insn.Pool op (u2 a b)) 3
unfolding spelling
pool_found code op a b rest is p q = record { some = omega arith; within = omega arith; valid = subst (λ (found : Option Form). FitsPool found (u2 a b)) (sym is) (u2_below a b p q); spelled = λ _. ap (λ (t : List ℕ). op ∷ t) (sym (u2_spelled a b p q)) ∙ ap (λ (found : Option Form). op ∷ pool_bytes found (u2 a b)) (sym is); switch = tt }

interface_found : (code : List ℕ) (op a b c d : ℕ) (rest : List ℕ) → op ≡ 185 → a < 256 → b < 256 → c < 256 → d < 256 → Found code (op ∷ a ∷ b ∷ c ∷ d ∷ rest) (Insn.Interface (u2 a b) c d) 5
unfolding spelling
interface_found code op a b c d rest is p q r s = record { some = omega arith; within = omega arith; valid = (u2_below a b p q, r, s); spelled = λ _. rw is (ap (λ (t : List ℕ). 185 ∷ t ++ c ∷ d ∷ []) (sym (u2_spelled a b p q))); switch = tt }

newarray_found : (code : List ℕ) (op a : ℕ) (rest : List ℕ) → op ≡ 188 → a < 256 → Found code (op ∷ a ∷ rest) (Insn.NewArray a) 2
unfolding spelling
newarray_found code op a rest is p = record { some = omega arith; within = omega arith; valid = p; spelled = λ _. rw is refl; switch = tt }

multi_found : (code : List ℕ) (op a b c : ℕ) (rest : List ℕ) → op ≡ 197 → a < 256 → b < 256 → c < 256 → Found code (op ∷ a ∷ b ∷ c ∷ rest) (Insn.Multi (u2 a b) c) 4
unfolding spelling
multi_found code op a b c rest is p q r = record { some = omega arith; within = omega arith; valid = (u2_below a b p q, r); spelled = λ _. rw is (ap (λ (t : List ℕ). 197 ∷ t ++ c ∷ []) (sym (u2_spelled a b p q))); switch = tt }

branch_found : (code : List ℕ) (op a b : ℕ) (rest : List ℕ) → form_of op ≡ Some Form.Branch → a < 256 → b < 256 → Found code (op ∷ a ∷ b ∷ rest) (Insn.Branch op (s2 a b)) 3
unfolding spelling
branch_found code op a b rest is p q = record { some = omega arith; within = omega arith; valid = subst (λ (found : Option Form). FitsBranch found (s2 a b)) (sym is) (s2_fits a b p q); spelled = λ _. ap (λ (t : List ℕ). op ∷ t) (sym (s2_spelled a b p q)) ∙ ap (λ (found : Option Form). op ∷ branch_bytes found (s2 a b)) (sym is); switch = tt }

wide_branch_found : (code : List ℕ) (op a b c d : ℕ) (rest : List ℕ) → form_of op ≡ Some Form.WideBranch → a < 256 → b < 256 → c < 256 → d < 256 → Found code (op ∷ a ∷ b ∷ c ∷ d ∷ rest) (Insn.Branch op (s4 a b c d)) 5
unfolding spelling
wide_branch_found code op a b c d rest is p q r s = record { some = omega arith; within = omega arith; valid = subst (λ (found : Option Form). FitsBranch found (s4 a b c d)) (sym is) (s4_fits a b c d p q r s); spelled = λ _. ap (λ (t : List ℕ). op ∷ t) (sym (s4_spelled a b c d p q r s)) ∙ ap (λ (found : Option Form). op ∷ branch_bytes found (s4 a b c d)) (sym is); switch = tt }

wide_local_found : (code : List ℕ) (w op a b : ℕ) (rest : List ℕ) → w ≡ 196 → form_of op ≡ Some Form.Local → a < 256 → b < 256 → Found code (w ∷ op ∷ a ∷ b ∷ rest) (Insn.Local op (u2 a b) true) 4
unfolding spelling
wide_local_found code w op a b rest wide is p q = record { some = omega arith; within = omega arith; valid = subst (λ (found : Option Form). FitsLocal found (u2 a b) true) (sym is) (u2_below a b p q); spelled = λ _. rw wide (ap (λ (t : List ℕ). 196 ∷ op ∷ t) (sym (u2_spelled a b p q))); switch = tt }

wide_iinc_found : (code : List ℕ) (w op a b c d : ℕ) (rest : List ℕ) → w ≡ 196 → op ≡ 132 → a < 256 → b < 256 → c < 256 → d < 256 → Found code (w ∷ op ∷ a ∷ b ∷ c ∷ d ∷ rest) (Insn.Iinc (u2 a b) (s2 c d) true) 6
unfolding spelling
wide_iinc_found code w op a b c d rest wide is p q r s = record { some = omega arith; within = omega arith; valid = (u2_below a b p q, s2_fits c d r s); spelled = λ _. rw (wide, is) (ap (λ (t : List ℕ). 196 ∷ 132 ∷ t ++ c ∷ d ∷ []) (sym (u2_spelled a b p q)) ∙ ap (λ (t : List ℕ). 196 ∷ 132 ∷ u2_bytes (u2 a b) ++ t) (sym (s2_spelled c d r s))); switch = tt }

-- ---- switches

reached : (code : List ℕ) (place size : ℕ) → not (reaches code place size) ≡ false → place + size ≤ length code
reached code place size h = ltb-false (length code) (place + size) (not-true (ltb (length code) (place + size)) (not-false (not (ltb (length code) (place + size))) h))

not_below : (a b : ℤ) → int_lt a b ≡ false → b ≤ℤ a
not_below a b h = grind (arith, ints)

place_is : (pc : ℕ) → IsTablePlace (table_place pc)
place_is pc = (omega arith, omega arith)

table_found : (code : List ℕ) (pc : ℕ) (x : Insn × ℕ) → table_switch code pc (table_place pc) ≡ done x → FoundIn code (drop pc code) x
table_found code pc x e =
    let table = table_place pc in
    let header = guard (not (reaches code table 12)) (Cut pc) (cond (int_lt (table_high code table) (table_low code table)) (Err (Switch pc)) (cond (not (reaches code table (table_length code table))) (Err (Cut pc)) (done (Insn.TableSwitch table, table + table_length code table - pc)))) x e in
    let order = guard (int_lt (table_high code table) (table_low code table)) (Switch pc) (cond (not (reaches code table (table_length code table))) (Err (Cut pc)) (done (Insn.TableSwitch table, table + table_length code table - pc))) x header.1 in
    let room = guard (not (reaches code table (table_length code table))) (Cut pc) (done (Insn.TableSwitch table, table + table_length code table - pc)) x order.1 in
    let long : table + table_length code table ≤ length code = reached code table (table_length code table) room.0 in
    let there : HasTable code table = record { header = reached code table 12 header.0; order = not_below (table_high code table) (table_low code table) order.0; room = long } in
    let past : pc < table = omega arith in
    along code (drop pc code) (Insn.TableSwitch table, table + table_length code table - pc) x room.1
    (record { some = omega arith; within = omega (arith, length-drop pc code); valid = place_is pc; spelled = λ single. absurd single; switch = there })

lookup_found : (code : List ℕ) (pc : ℕ) (x : Insn × ℕ) → lookup_switch code pc (table_place pc) ≡ done x → FoundIn code (drop pc code) x
lookup_found code pc x e =
    let table = table_place pc in
    let last : Decoded = done (Insn.LookupSwitch table, table + lookup_length code table - pc) in
    let sorted : Decoded = cond (keys_ascend code table) last (Err (Switch pc)) in
    let long : Decoded = cond (not (reaches code table (lookup_length code table))) (Err (Cut pc)) sorted in
    let header = guard (not (reaches code table 8)) (Cut pc) (cond (int_lt (pair_number code table) (pos 0)) (Err (Switch pc)) long) x e in
    let count = guard (int_lt (pair_number code table) (pos 0)) (Switch pc) long x header.1 in
    let room = guard (not (reaches code table (lookup_length code table))) (Cut pc) sorted x count.1 in
    let order = guard_last (keys_ascend code table) (Switch pc) last x room.1 in
    let fits : table + lookup_length code table ≤ length code = reached code table (lookup_length code table) room.0 in
    let there : HasPairs code table = record { header = reached code table 8 header.0; count = not_below (pair_number code table) (pos 0) count.0; room = fits; order = order.0 } in
    let past : pc < table = omega arith in
    along code (drop pc code) (Insn.LookupSwitch table, table + lookup_length code table - pc) x order.1
    (record { some = omega arith; within = omega (arith, length-drop pc code); valid = place_is pc; spelled = λ single. absurd single; switch = there })

-- ---- all forms

widened_found : (code : List ℕ) (pc w op : ℕ) (found : Option Form) (bytes : List ℕ) (x : Insn × ℕ) → w ≡ 196 → op < 256 → form_of op ≡ found → IsBytes bytes → widened pc op found bytes ≡ done x → FoundIn code (w ∷ op ∷ bytes) x
widened_found code pc w op (Some Form.Local) bytes x wide byte is fits e = two_step code pc 2 (λ t. w ∷ op ∷ t) bytes (λ a b. Insn.Local op (u2 a b) true) x fits e (λ a b rest p q. wide_local_found code w op a b rest wide is p q)
widened_found code pc w op (Some Form.Increment) bytes x wide byte is fits e = four_step code pc 2 (λ t. w ∷ op ∷ t) bytes (λ a b c d. Insn.Iinc (u2 a b) (s2 c d) true) x fits e (λ a b c d rest p q r s. wide_iinc_found code w op a b c d rest wide (iinc_only op byte is) p q r s)
widened_found code pc w op _ bytes x wide byte is fits e = absurd cc

after_wide_found : (code : List ℕ) (pc w : ℕ) (bytes : List ℕ) (x : Insn × ℕ) → w ≡ 196 → IsBytes bytes → after_wide pc bytes ≡ done x → FoundIn code (w ∷ bytes) x
after_wide_found code pc w [] x wide fits e = absurd cc
after_wide_found code pc w (op ∷ bytes) x wide fits e = widened_found code pc w op (form_of op) bytes x wide (fits 0) refl (IsBytes-rest op bytes fits) e

plain_found : (code : List ℕ) (op : ℕ) (bytes : List ℕ) → form_of op ≡ Some Form.Plain → Found code (op ∷ bytes) (Insn.Plain op) 1
unfolding spelling
plain_found code op bytes is = record { some = omega arith; within = omega arith; valid = is; spelled = λ _. refl; switch = tt }

operands_found : (code : List ℕ) (pc op : ℕ) (form : Form) (bytes : List ℕ) (x : Insn × ℕ) → drop pc code ≡ op ∷ bytes → op < 256 → IsBytes bytes → form_of op ≡ Some form → operands code pc op form bytes ≡ done x → FoundIn code (op ∷ bytes) x
operands_found code pc op Form.Plain bytes x at byte fits is e = along code (op ∷ bytes) (Insn.Plain op, 1) x e (plain_found code op bytes is)
operands_found code pc op Form.Byte bytes x at byte fits is e = one_step code pc 1 (λ t. op ∷ t) bytes (λ a. Insn.Bipush (s1 a)) x fits e (λ a rest p. bipush_found code op a rest (bipush_only op byte is) p)
operands_found code pc op Form.Short bytes x at byte fits is e = two_step code pc 1 (λ t. op ∷ t) bytes (λ a b. Insn.Sipush (s2 a b)) x fits e (λ a b rest p q. sipush_found code op a b rest (sipush_only op byte is) p q)
operands_found code pc op Form.Local bytes x at byte fits is e = one_step code pc 1 (λ t. op ∷ t) bytes (λ a. Insn.Local op a false) x fits e (λ a rest p. local_found code op a rest is p)
operands_found code pc op Form.Increment bytes x at byte fits is e = two_step code pc 1 (λ t. op ∷ t) bytes (λ a b. Insn.Iinc a (s1 b) false) x fits e (λ a b rest p q. iinc_found code op a b rest (iinc_only op byte is) p q)
operands_found code pc op Form.NarrowPool bytes x at byte fits is e = one_step code pc 1 (λ t. op ∷ t) bytes (λ a. Insn.Pool op a) x fits e (λ a rest p. ldc_found code op a rest is p)
operands_found code pc op Form.Pool bytes x at byte fits is e = two_step code pc 1 (λ t. op ∷ t) bytes (λ a b. Insn.Pool op (u2 a b)) x fits e (λ a b rest p q. pool_found code op a b rest is p q)
operands_found code pc op Form.Interface bytes x at byte fits is e = four_step code pc 1 (λ t. op ∷ t) bytes (λ a b c d. Insn.Interface (u2 a b) c d) x fits e (λ a b c d rest p q r s. interface_found code op a b c d rest (invokeinterface_only op byte is) p q r s)
operands_found code pc op Form.ArrayCode bytes x at byte fits is e = one_step code pc 1 (λ t. op ∷ t) bytes (λ a. Insn.NewArray a) x fits e (λ a rest p. newarray_found code op a rest (newarray_only op byte is) p)
operands_found code pc op Form.Dimensions bytes x at byte fits is e = three_step code pc 1 (λ t. op ∷ t) bytes (λ a b c. Insn.Multi (u2 a b) c) x fits e (λ a b c rest p q r. multi_found code op a b c rest (multianewarray_only op byte is) p q r)
operands_found code pc op Form.Branch bytes x at byte fits is e = two_step code pc 1 (λ t. op ∷ t) bytes (λ a b. Insn.Branch op (s2 a b)) x fits e (λ a b rest p q. branch_found code op a b rest is p q)
operands_found code pc op Form.WideBranch bytes x at byte fits is e = four_step code pc 1 (λ t. op ∷ t) bytes (λ a b c d. Insn.Branch op (s4 a b c d)) x fits e (λ a b c d rest p q r s. wide_branch_found code op a b c d rest is p q r s)
operands_found code pc op Form.TableSwitch bytes x at byte fits is e = subst (λ (t : List ℕ). FoundIn code t x) at (table_found code pc x e)
operands_found code pc op Form.LookupSwitch bytes x at byte fits is e = subst (λ (t : List ℕ). FoundIn code t x) at (lookup_found code pc x e)
operands_found code pc op Form.Wide bytes x at byte fits is e = after_wide_found code pc op bytes x (wide_only op byte is) fits e

by_form_found : (code : List ℕ) (pc op : ℕ) (found : Option Form) (bytes : List ℕ) (x : Insn × ℕ) → drop pc code ≡ op ∷ bytes → op < 256 → IsBytes bytes → form_of op ≡ found → by_form code pc op found bytes ≡ done x → FoundIn code (op ∷ bytes) x
by_form_found code pc op None bytes x at byte fits is e = absurd cc
by_form_found code pc op (Some form) bytes x at byte fits is e = operands_found code pc op form bytes x at byte fits is e

instruction_found : (code : List ℕ) (pc : ℕ) (bytes : List ℕ) (x : Insn × ℕ) → drop pc code ≡ bytes → IsBytes bytes → instruction code pc bytes ≡ done x → FoundIn code bytes x
instruction_found code pc [] x at fits e = absurd cc
instruction_found code pc (op ∷ bytes) x at fits e = by_form_found code pc op (form_of op) bytes x at (fits 0) (IsBytes-rest op bytes fits) refl e

-- An instruction that is decoded stands there.
pub decoded_stands : (code : List ℕ) (pc : ℕ) (i : Insn) (n : ℕ) → IsBytes code → decoded code pc ≡ Ok (i, n) → Stands code pc i n
unfolding decoded
decoded_stands code pc i n fits e =
    let found = instruction_found code pc (drop pc code) (i, n) refl (λ k. rw get_or-drop (fits (pc + k))) e in
    record { some = found.some; within = omega (arith, found.some, found.within, length-drop pc code); valid = found.valid; spelled = found.spelled; size = λ single. omega (arith, ap length (found.spelled single), length-take n (drop pc code), found.within); switch = found.switch }

pub answer_stands : (code : List ℕ) (pc : ℕ) (r : Decoded) → IsBytes code → r ≡ decoded code pc → IfOk r (λ found. Stands code pc found.0 found.1)
answer_stands code pc (Ok found) fits e = decoded_stands code pc found.0 found.1 fits (sym e)
answer_stands code pc (Err fault) fits e = tt
