-- Rows whose bytes are laid one behind the other stand at their places.
use Rattle.std.proofs.Common.{◌≡◌, ℕ, zero, suc, ◌+◌, ◌-◌, ◌*◌, ◌^◌, ◌<◌, ◌≤◌, Bool, true, false, not, cond, ◌&&◌, ◌||◌, List, [], ◌∷◌, ◌++◌, length, get_or, drop, map, refl, sym, ap, ◌∙◌, arith, subst, append-nil, add-one, length-append, ◌⊎◌, inl, inr, pos, ◌-ℤ◌}
use Rattle.std.specs.Prelude.{Option, Some, None, slice_get}
use Rattle.std.specs.List.{AllByRecursion}
use Rattle.std.proofs.lemmas.List.{length-map}
use Rattle.std.proofs.lemmas.Bool.{and_parts}
use Rattle.opcode_table.specs.declared.insn.Insn.{Insn}
use Rattle.code_layout.specs.declared.method_code.Jump.{Jump}
use Rattle.code_layout.specs.declared.row.Row.{Row}
use Rattle.code_layout.specs.Blocks.{Leads}
use Rattle.code_layout.specs.Places.{is_test, is_short, behind_insn, behind, first_wide, other_wide, place_from, place_of, end_of, passes, is_far_insn, is_far, widen_from, widen, after_rounds, AreWidened}
use Rattle.code_layout.specs.Laid.{RowStands}
use Rattle.code_layout.specs.Spelled.{distance, narrow_bytes, widened_bytes, row_bytes, bytes_from, bytes_of, IsRow, AreRows}
use Rattle.code_layout.proofs.Rising.{place_first, place_next, place_at_most}
use Rattle.code_layout.proofs.Words.{At, at_first, at_second, Fit}
use Rattle.code_layout.proofs.Standing.{is_short_insn, narrow_length, widened_length, row_stands}

-- ---- lists

pub some_at : {X : Type 0} (xs : List X) (i : ℕ) (x : X) → slice_get xs i ≡ Some x → (i < length xs) × (x ≡ get_or xs i x)
some_at [] i x is = absurd cc
some_at (y ∷ xs) zero x is = (omega arith, cc)
some_at (y ∷ xs) (suc i) x is = let h = some_at xs i x is in (omega (arith, h.0), h.1)

pub holds_at : {X : Type 0} (P : X → Type 0) (xs : List X) (i : ℕ) (x : X) → AllByRecursion P xs → slice_get xs i ≡ Some x → P x
holds_at P [] i x all is = absurd cc
holds_at P (y ∷ xs) zero x all is = let e : y ≡ x = cc in subst P e all.0
holds_at P (y ∷ xs) (suc i) x all is = holds_at P xs i x all.1 is

or_true : (a b : Bool) → (a || b) ≡ true → (a ≡ true) ⊎ (b ≡ true)
or_true true b is = inl refl
or_true false b is = inr is

-- ---- what holds of the widened rows

pub record Keeps (place : ℕ → ℕ) (i : ℕ) (w : Bool) (row : Row) : Type 0 where
  pub short : w ≡ true → is_short_insn row.insn ≡ true
  pub near : w ≡ false → is_far place i row ≡ false

abbrev pub AreKept : (ℕ → ℕ) → ℕ → List Row → List Bool → Type 0
AreKept place i [] wide = Unit {0}
AreKept place i (row ∷ rows) wide = Keeps place i (first_wide wide) row × AreKept place (i + 1) rows (other_wide wide)

-- only branches with two bytes of offset are wide
abbrev pub AreShort : List Row → List Bool → Type 0
AreShort [] wide = Unit {0}
AreShort (row ∷ rows) wide = (first_wide wide ≡ true → is_short_insn row.insn ≡ true) × AreShort rows (other_wide wide)

none_short : (rows : List Row) → AreShort rows (map (λ row. false) rows)
none_short [] = tt
none_short (row ∷ rows) = (λ is. absurd cc, none_short rows)

far_short : (place : ℕ → ℕ) (i : ℕ) (insn : Insn) (to : List ℕ) → is_far_insn place i insn to ≡ true → is_short_insn insn ≡ true
far_short place i (Insn.Branch op offset) to is = (and_parts (is_short op) (passes (pos (place (get_or to 0 0)) -ℤ pos (place i))) is).0
far_short place i _ to is = absurd cc

widen_short : (place : ℕ → ℕ) (i : ℕ) (rows : List Row) (wide : List Bool) → AreShort rows wide → AreShort rows (widen_from place i rows wide)
widen_short place i [] wide are = tt
widen_short place i (row ∷ rows) wide are = (
  λ is. elim (or_true (first_wide wide) (is_far place i row) is) [ inl w ↦ are.0 w | inr far ↦ far_short place i row.insn row.jump.to far ],
  widen_short place (i + 1) rows (other_wide wide) are.1,
)

rounds_short : (rows : List Row) (n : ℕ) → AreShort rows (after_rounds rows n)
rounds_short rows zero = none_short rows
rounds_short rows (suc n) = widen_short (place_of rows (after_rounds rows n)) 0 rows (after_rounds rows n) (rounds_short rows n)

pub widened_short : (rows : List Row) (wide : List Bool) → AreWidened rows wide → AreShort rows wide
widened_short rows wide are = subst (AreShort rows) (sym are.reached) (rounds_short rows are.rounds)

settled_near : (w far : Bool) → (w || far) ≡ w → w ≡ false → far ≡ false
settled_near true far same off = absurd cc
settled_near false far same off = same

kept_from : (place : ℕ → ℕ) (i : ℕ) (rows : List Row) (wide : List Bool) → AreShort rows wide → widen_from place i rows wide ≡ wide → AreKept place i rows wide
kept_from place i [] wide short settled = tt
kept_from place i (row ∷ rows) [] short settled = absurd cc
kept_from place i (row ∷ rows) (w ∷ wide) short settled =
    let first : (w || is_far place i row) ≡ w = cc in
    let others : widen_from place (i + 1) rows wide ≡ wide = cc in
    (record { short = short.0; near = settled_near w (is_far place i row) first }, kept_from place (i + 1) rows wide short.1 others)

pub widened_kept : (rows : List Row) (wide : List Bool) → AreWidened rows wide → AreKept (place_of rows wide) 0 rows wide
widened_kept rows wide are = kept_from (place_of rows wide) 0 rows wide (widened_short rows wide are) are.settled

first_is : (wide : List Bool) → first_wide wide ≡ get_or wide 0 false
first_is [] = refl
first_is (w ∷ wide) = refl

other_is : (wide : List Bool) (j : ℕ) → get_or (other_wide wide) j false ≡ get_or wide (suc j) false
other_is [] j = refl
other_is (w ∷ wide) j = refl

keeps_at : (place : ℕ → ℕ) (i : ℕ) (rows : List Row) (wide : List Bool) (j n : ℕ) (w : Bool) (row : Row) → AreKept place i rows wide → slice_get rows j ≡ Some row → n ≡ i + j → w ≡ get_or wide j false → Keeps place n w row
keeps_at place i [] wide j n w row kept is at flag = absurd cc
keeps_at place i (r ∷ rows) wide zero n w row kept is at flag =
    let e : r ≡ row = cc in let here : i ≡ n = omega arith in let f : first_wide wide ≡ w = first_is wide ∙ sym flag in
    subst (λ (m : ℕ). Keeps place m w row) here (subst (λ (v : Bool). Keeps place i v row) f (subst (Keeps place i (first_wide wide)) e kept.0))
keeps_at place i (r ∷ rows) wide (suc j) n w row kept is at flag = keeps_at place (i + 1) rows (other_wide wide) j n w row kept.1 is (omega arith) (flag ∙ sym (other_is wide j))

-- ---- bytes of rows

row_length : (place : ℕ → ℕ) (i : ℕ) (w : Bool) (row : Row) → Leads row.insn row.jump → (w ≡ true → is_short_insn row.insn ≡ true) → place i + length (row_bytes place i w row) ≡ behind w (place i) row
row_length place i true row leads short = widened_length (place i) row.insn (length row.jump.keys) (distance place i (get_or row.jump.to 0 0)) (short refl)
row_length place i false row leads short = narrow_length (place i) row.insn row.jump (map (distance place i) row.jump.to) leads (length-map row.jump.to (distance place i))

-- from row i on, which stands at pc, the places are those of the rows
abbrev Follows : (ℕ → ℕ) → ℕ → ℕ → List Row → List Bool → Type 0
Follows place i pc rows wide = (k : ℕ) → place (i + k) ≡ place_from pc rows wide k

follows_next : (place : ℕ → ℕ) (i pc : ℕ) (row : Row) (rows : List Row) (wide : List Bool) → Follows place i pc (row ∷ rows) wide → Follows place (i + 1) (behind (first_wide wide) pc row) rows (other_wide wide)
follows_next place i pc row rows wide follows k = (let e : i + 1 + k ≡ i + suc k = omega arith in ap place e) ∙ follows (suc k)

follows_here : (place : ℕ → ℕ) (i pc : ℕ) (rows : List Row) (wide : List Bool) → Follows place i pc rows wide → place i ≡ pc
follows_here place i pc rows wide follows = (let e : i ≡ i + 0 = omega arith in ap place e) ∙ follows 0 ∙ place_first pc rows wide

module _ (place : ℕ → ℕ) (count : ℕ) where
  row_reaches : (i pc : ℕ) (w : Bool) (row : Row) → place i ≡ pc → IsRow count row → (w ≡ true → is_short_insn row.insn ≡ true) → pc + length (row_bytes place i w row) ≡ behind w pc row
  row_reaches i pc w row here is short = subst (λ (p : ℕ). p + length (row_bytes place i w row) ≡ behind w p row) here (row_length place i w row is.leads short)

  bytes_end : (i pc : ℕ) (rows : List Row) (wide : List Bool) → Follows place i pc rows wide → AllByRecursion (IsRow count) rows → AreShort rows wide → pc + length (bytes_from place i rows wide) ≡ place_from pc rows wide (length rows)
  bytes_end i pc [] wide follows all short = refl
  bytes_end i pc (row ∷ rows) wide follows all short =
      let here = row_reaches i pc (first_wide wide) row (follows_here place i pc (row ∷ rows) wide follows) all.0 short.0 in
      let next = bytes_end (i + 1) (behind (first_wide wide) pc row) rows (other_wide wide) (follows_next place i pc row rows wide follows) all.1 short.1 in
      omega (arith, length-append (row_bytes place i (first_wide wide) row) (bytes_from place (i + 1) rows (other_wide wide)))

  row_at : (code : List ℕ) (i pc : ℕ) (rows : List Row) (wide : List Bool) (j n : ℕ) (w : Bool) (row : Row) → At code pc (bytes_from place i rows wide) → Follows place i pc rows wide → AllByRecursion (IsRow count) rows → AreShort rows wide
      → slice_get rows j ≡ Some row → n ≡ i + j → w ≡ get_or wide j false → At code (place n) (row_bytes place n w row)
  row_at code i pc [] wide j n w row a follows all short is at flag = absurd cc
  row_at code i pc (r ∷ rows) wide zero n w row a follows all short is at flag =
      let e : r ≡ row = cc in let same : i ≡ n = omega arith in let f : first_wide wide ≡ w = first_is wide ∙ sym flag in
      let here : pc ≡ place i = sym (follows_here place i pc (r ∷ rows) wide follows) in
      let first : At code pc (row_bytes place i (first_wide wide) r) = at_first code pc (row_bytes place i (first_wide wide) r) (bytes_from place (i + 1) rows (other_wide wide)) a in
      subst (λ (m : ℕ). At code (place m) (row_bytes place m w row)) same
      (subst (λ (v : Bool). At code (place i) (row_bytes place i v row)) f
      (subst (λ (q : Row). At code (place i) (row_bytes place i (first_wide wide) q)) e
      (subst (λ (p : ℕ). At code p (row_bytes place i (first_wide wide) r)) here first)))
  row_at code i pc (r ∷ rows) wide (suc j) n w row a follows all short is at flag =
      let reach = row_reaches i pc (first_wide wide) r (follows_here place i pc (r ∷ rows) wide follows) all.0 short.0 in
      let behind_it : At code (pc + length (row_bytes place i (first_wide wide) r)) (bytes_from place (i + 1) rows (other_wide wide)) = at_second code pc (row_bytes place i (first_wide wide) r) (bytes_from place (i + 1) rows (other_wide wide)) a in
      row_at code (i + 1) (behind (first_wide wide) pc r) rows (other_wide wide) j n w row
      (subst (λ (p : ℕ). At code p (bytes_from place (i + 1) rows (other_wide wide))) reach behind_it)
      (follows_next place i pc r rows wide follows) all.1 short.1 is (omega arith) (flag ∙ sym (other_is wide j))

module _ (rows : List Row) (wide : List Bool) (are : AreRows rows) (widened : AreWidened rows wide) where
  own_places : Follows (place_of rows wide) 0 0 rows wide
  own_places k = let e : 0 + k ≡ k = omega arith in ap (place_of rows wide) e

  pub laid_length : length (bytes_of rows wide) ≡ end_of rows wide
  laid_length = omega (arith, bytes_end (place_of rows wide) (length rows) 0 0 rows wide own_places are (widened_short rows wide widened))

  pub rows_stand : (code : List ℕ) → code ≡ bytes_of rows wide → end_of rows wide < 2 ^ 16 → AllByRecursion (λ (r : Row). Fit r.jump.keys) rows
      → (i : ℕ) (row : Row) → slice_get rows i ≡ Some row → RowStands code (place_of rows wide) i (get_or wide i false) row
  rows_stand code is small fit i row at =
      let place = place_of rows wide in
      let w = get_or wide i false in
      let there = some_at rows i row at in
      let within : i < length rows = there.0 in
      let keeps = keeps_at place 0 rows wide i i w row (widened_kept rows wide widened) at (omega arith) refl in
      let each : (j : ℕ) → j ≤ length rows → place j < 2 ^ 16 = λ j le. omega (arith, place_at_most 0 rows wide j (length rows) le) in
      let whole : At code 0 (bytes_of rows wide) = record { rest = []; is = is ∙ sym (append-nil (bytes_of rows wide)) } in
      let next : place (i + 1) ≡ behind w (place i) row = ap place (add-one i) ∙ place_next 0 rows wide i row within there.1 in
      row_stands code place (length rows) each i (omega arith) w row
      (row_at place (length rows) code 0 0 rows wide i i w row whole own_places are (widened_short rows wide widened) at (omega arith) refl)
      (holds_at (IsRow (length rows)) rows i row are at) (holds_at (λ (r : Row). Fit r.jump.keys) rows i row fit at) keeps.short keeps.near next (each (i + 1) (omega arith))
