-- Rows of a layout that is settled can be put, and their bytes are those of the layout.
use Rattle.std.proofs.Common.{◌≡◌, ℕ, zero, suc, ◌+◌, ◌-◌, ◌*◌, ◌^◌, ◌<◌, ◌≤◌, Bool, true, false, List, [], ◌∷◌, ◌++◌, length, map, get_or, take, drop, Option, Some, None, arith, refl, sym, ap, subst, ◌∙◌, add-one, append_assoc, append-nil, ℤ, pos, negsuc, inl, inr}
use Rattle.std.specs.Prelude.{◌||◌, ◌&&◌, ◌-ℤ◌, FitsSigned, int_lt}
use Rattle.std.specs.Int.{w16, w32}
use Rattle.std.specs.List.{AllByRecursion}
use Rattle.std.proofs.lemmas.Bool.{cases_lt}
use Rattle.std.proofs.lemmas.Int.{ints}
use Rattle.opcode_table.specs.declared.insn.Insn.{Insn}
use Rattle.opcode_table.specs.declared.insn.Insn.TheVariants as insn
use Rattle.opcode_table.specs.declared.form.Form.{Form}
use Rattle.opcode_table.specs.Table.{form_of}
use Rattle.opcode_table.specs.Decoding.{table_place}
use Rattle.opcode_table.specs.Spelling.{FitsBranch, IsBranchForm}
use Rattle.code_layout.specs.declared.method_code.Jump.{Jump}
use Rattle.code_layout.specs.declared.row.Row.{Row}
use Rattle.code_layout.specs.Blocks.{Leads, HasJump}
use Rattle.code_layout.specs.Places.{is_short, is_short_form, passes, is_far_insn, is_far, behind, behind_insn, first_wide, other_wide, widen_from, widen, place_of, place_from, end_of, AreWidened}
use Rattle.code_layout.specs.Spelled.{IsRow, AreRows, ArePlaces, place_in, IsShortInsn, IsReached, CanStand, distance, row_bytes, narrow_bytes, widened_bytes, bytes_from, bytes_of}
use Rattle.code_layout.proofs.Placing.{first_is, other_is, place_step}
use Rattle.code_layout.proofs.Rising.{place_at_most}
use Rattle.code_layout.proofs.Rounds.{far_agrees, wide_is_short}

-- ---- an element of a list of which all are so

pub all_at : {A : Type 0} (P : A → Type 0) (xs : List A) (i : ℕ) (x : A) → AllByRecursion P xs → i < length xs → x ≡ get_or xs i x → P x
all_at P [] i x all lt is = absurd (omega arith)
all_at P (y ∷ xs) zero x all lt is = subst P (sym is) all.0
all_at P (y ∷ xs) (suc i) x all lt is = all_at P xs i x all.1 (omega arith) is

past : (xs : List ℕ) (k : ℕ) → length xs ≤ k → get_or xs k 0 ≡ 0
past [] k le = refl
past (x ∷ xs) zero le = absurd (omega arith)
past (x ∷ xs) (suc k) le = past xs k (omega arith)

-- ---- places are small

module _ (rows : List Row) (wide : List Bool) (places : List ℕ) (laid : ArePlaces rows wide places) (small : end_of rows wide < 2 ^ 16) where
  pub places_small : (k : ℕ) → place_in places k < 2 ^ 16
  places_small k =
      elim (cases_lt k (length rows + 1)) [
        | inl within ↦ (let e = laid.each k (omega arith) in let le = place_at_most 0 rows wide k (length rows) (omega arith) in omega arith)
        | inr beyond ↦ (let c = laid.count in let e = past places k (omega arith) in omega arith)
      ]

  keys_of_insn : (w : Bool) (pc : ℕ) (found : Insn) (jump : Jump ℕ) → HasJump found jump → behind_insn w pc found (length jump.keys) < 2 ^ 16 → length jump.keys < 2 ^ 16
  keys_of_insn w pc (insn.TableSwitch table) jump has lt = omega arith
  keys_of_insn w pc (insn.LookupSwitch table) jump has lt = omega arith
  keys_of_insn w pc _ jump has lt = let none = ap length has.0 in omega arith

  keys_few : (i : ℕ) (row : Row) → i < length rows → row ≡ get_or rows i row → HasJump row.insn row.jump → length row.jump.keys < 2 ^ 16
  keys_few i row lt is has =
      let step = place_step rows wide i row lt is in
      let le = place_at_most 0 rows wide (i + 1) (length rows) (omega arith) in
      keys_of_insn (get_or wide i false) (place_of rows wide i) row.insn row.jump has (omega arith)

-- ---- what isn't widened fits

widen_at : (place : ℕ → ℕ) (n : ℕ) (rows : List Row) (wide : List Bool) (i : ℕ) (row : Row) → i < length rows → row ≡ get_or rows i row → get_or (widen_from place n rows wide) i false ≡ (get_or wide i false || is_far place (n + i) row)
widen_at place n [] wide i row lt is = absurd (omega arith)
widen_at place n (r ∷ rows) wide zero row lt is =
    ap (λ (w : Bool). w || is_far place n r) (first_is wide) ∙ ap (λ (q : Row). get_or wide 0 false || is_far place n q) (sym is)
    ∙ ap (λ (k : ℕ). get_or wide 0 false || is_far place k row) (let e : n ≡ n + 0 = omega arith in e)
widen_at place n (r ∷ rows) wide (suc i) row lt is =
    widen_at place (n + 1) rows (other_wide wide) i row (omega arith) is
    ∙ ap (λ (w : Bool). w || is_far place (n + 1 + i) row) (other_is wide i)
    ∙ ap (λ (k : ℕ). get_or wide (suc i) false || is_far place k row) (let e : n + 1 + i ≡ n + suc i = omega arith in e)

not_far : (w far : Bool) → (w || far) ≡ w → w ≡ false → far ≡ false
not_far true far same is = absurd cc
not_far false far same is = same

settled_at : (rows : List Row) (wide : List Bool) (i : ℕ) (row : Row) → widen rows wide ≡ wide → i < length rows → row ≡ get_or rows i row → get_or wide i false ≡ false → is_far (place_of rows wide) i row ≡ false
settled_at rows wide i row settled lt is w =
    let at = widen_at (place_of rows wide) 0 rows wide i row lt is in
    let same : 0 + i ≡ i = omega arith in
    not_far (get_or wide i false) (is_far (place_of rows wide) i row)
    (ap (λ (k : ℕ). get_or wide i false || is_far (place_of rows wide) k row) (sym same) ∙ sym at ∙ ap (λ (l : List Bool). get_or l i false) settled) w

near_fits : (d : ℤ) → passes d ≡ false → FitsSigned w16 d
near_fits (pos n) near = grind (arith, ints)
near_fits (negsuc n) near = grind (arith, ints)

form_fits : (found : Option Form) (d : ℤ) → (is_short_form found && passes d) ≡ false → IsBranchForm found → FitsSigned w32 d → FitsBranch found d
form_fits (Some Form.Branch) d near form fits = near_fits d near
form_fits (Some Form.WideBranch) d near form fits = fits
form_fits _ d near form fits = absurd form

reaches : (place : ℕ → ℕ) (i : ℕ) (found : Insn) (jump : Jump ℕ) → Leads found jump → is_far_insn place i found jump.to ≡ false → FitsSigned w32 (distance place i (get_or jump.to 0 0)) → IsReached false found (distance place i (get_or jump.to 0 0))
reaches place i (insn.Branch op offset) jump leads far fits = form_fits (form_of op) (distance place i (get_or jump.to 0 0)) far leads.0 fits
reaches place i _ jump leads far fits = tt

small_distance : (a b : ℕ) → a < 2 ^ 16 → b < 2 ^ 16 → FitsSigned w32 (pos a -ℤ pos b)
small_distance a b p q = omega (arith, ints)

reached_by : (w : Bool) (found : Insn) (d : ℤ) → (w ≡ true → IsShortInsn found) → (w ≡ false → IsReached false found d) → IsReached w found d
reached_by true found d wide narrow = wide refl
reached_by false found d wide narrow = narrow refl

pub can_stand : (rows : List Row) (wide : List Bool) (places : List ℕ) (i : ℕ) (row : Row) → AreRows rows → AreWidened rows wide → ArePlaces rows wide places → end_of rows wide < 2 ^ 16 → i < length rows → row ≡ get_or rows i row → CanStand places i (get_or wide i false) row
can_stand rows wide places i row all widened laid small lt is =
    let valid = all_at (IsRow (length rows)) rows i row all lt is in
    let count = laid.count in
    let same : length rows ≡ length places - 1 = omega arith in
    let far : is_far (place_in places) i row ≡ is_far (place_of rows wide) i row = far_agrees (place_in places) (place_of rows wide) (length rows) laid.each i row.insn row.jump.to (omega arith) valid.within in
    record {
      valid = subst (λ (n : ℕ). IsRow n row) same valid;
      there = omega arith;
      small = places_small rows wide places laid small;
      few = keys_few rows wide places laid small i row lt is valid.leads.1;
      reached = reached_by (get_or wide i false) row.insn (distance (place_in places) i (get_or row.jump.to 0 0)) (wide_is_short rows wide i row widened lt is)
          (λ w. reaches (place_in places) i row.insn row.jump valid.leads (far ∙ settled_at rows wide i row widened.settled lt is w) (small_distance _ _ (places_small rows wide places laid small (get_or row.jump.to 0 0)) (places_small rows wide places laid small i)));
    }

-- ---- the bytes of rows, one row more

module _ (place : ℕ → ℕ) where
  bytes_end : (n i : ℕ) (rows : List Row) (wide : List Bool) (row : Row) → i < length rows → row ≡ get_or rows i row → bytes_from place n (take (suc i) rows) wide ≡ bytes_from place n (take i rows) wide ++ row_bytes place (n + i) (get_or wide i false) row
  bytes_end n i [] wide row lt is = absurd (omega arith)
  bytes_end n zero (r ∷ rows) wide row lt is =
      append-nil (row_bytes place n (first_wide wide) r)
      ∙ ap (λ (w : Bool). row_bytes place n w r) (first_is wide)
      ∙ ap (λ (q : Row). row_bytes place n (get_or wide 0 false) q) (sym is)
      ∙ ap (λ (k : ℕ). row_bytes place k (get_or wide 0 false) row) (let e : n ≡ n + 0 = omega arith in e)
  bytes_end n (suc i) (r ∷ rows) wide row lt is =
      ap (λ (l : List ℕ). row_bytes place n (first_wide wide) r ++ l)
      (bytes_end (n + 1) i rows (other_wide wide) row (omega arith) is
      ∙ ap (λ (w : Bool). bytes_from place (n + 1) (take i rows) (other_wide wide) ++ row_bytes place (n + 1 + i) w row) (other_is wide i)
      ∙ ap (λ (k : ℕ). bytes_from place (n + 1) (take i rows) (other_wide wide) ++ row_bytes place k (get_or wide (suc i) false) row) (let e : n + 1 + i ≡ n + suc i = omega arith in e))
      ∙ sym (append_assoc (row_bytes place n (first_wide wide) r) (bytes_from place (n + 1) (take i rows) (other_wide wide)) (row_bytes place (n + suc i) (get_or wide (suc i) false) row))

  pub bytes_more : (i : ℕ) (rows : List Row) (wide : List Bool) (row : Row) (out out' : List ℕ) → i < length rows → row ≡ get_or rows i row → out ≡ bytes_from place 0 (take i rows) wide → out' ≡ out ++ row_bytes place i (get_or wide i false) row → out' ≡ bytes_from place 0 (take (i + 1) rows) wide
  bytes_more i rows wide row out out' lt is so_far more =
      more ∙ ap (λ (l : List ℕ). l ++ row_bytes place i (get_or wide i false) row) so_far
      ∙ ap (λ (k : ℕ). bytes_from place 0 (take i rows) wide ++ row_bytes place k (get_or wide i false) row) (let e : i ≡ 0 + i = omega arith in e)
      ∙ sym (bytes_end 0 i rows wide row lt is)
      ∙ ap (λ (k : ℕ). bytes_from place 0 (take k rows) wide) (let e : suc i ≡ i + 1 = omega arith in e)

-- ---- places that agree give the same bytes

module _ (f g : ℕ → ℕ) (count : ℕ) (agree : (k : ℕ) → k ≤ count → f k ≡ g k) where
  distance_agrees : (i to : ℕ) → i ≤ count → to ≤ count → distance f i to ≡ distance g i to
  distance_agrees i to le le' = let a = agree i le in let b = agree to le' in rw (a, b) refl

  distances_agree : (i : ℕ) (to : List ℕ) → i ≤ count → AllByRecursion (λ (t : ℕ). t ≤ count) to → map (distance f i) to ≡ map (distance g i) to
  distances_agree i [] le all = refl
  distances_agree i (t ∷ to) le all = ap (λ (z : ℤ). z ∷ map (distance f i) to) (distance_agrees i t le all.0) ∙ ap (λ (l : List ℤ). distance g i t ∷ l) (distances_agree i to le all.1)

  first_within : (to : List ℕ) → AllByRecursion (λ (t : ℕ). t ≤ count) to → get_or to 0 0 ≤ count
  first_within [] all = omega arith
  first_within (t ∷ to) all = all.0

  row_agrees : (i : ℕ) (w : Bool) (row : Row) → i ≤ count → IsRow count row → row_bytes f i w row ≡ row_bytes g i w row
  row_agrees i true row le valid = ap (widened_bytes row.insn) (distance_agrees i (get_or row.jump.to 0 0) le (first_within row.jump.to valid.within))
  row_agrees i false row le valid =
      ap (λ (pc : ℕ). narrow_bytes pc row.insn row.jump.keys (map (distance f i) row.jump.to)) (agree i le)
      ∙ ap (λ (l : List ℤ). narrow_bytes (g i) row.insn row.jump.keys l) (distances_agree i row.jump.to le valid.within)

  bytes_agree : (n : ℕ) (rows : List Row) (wide : List Bool) → n + length rows ≤ count → AllByRecursion (IsRow count) rows → bytes_from f n rows wide ≡ bytes_from g n rows wide
  bytes_agree n [] wide le all = refl
  bytes_agree n (r ∷ rows) wide le all =
      ap (λ (l : List ℕ). l ++ bytes_from f (n + 1) rows (other_wide wide)) (row_agrees n (first_wide wide) r (omega arith) all.0)
      ∙ ap (λ (l : List ℕ). row_bytes g n (first_wide wide) r ++ l) (bytes_agree (n + 1) rows (other_wide wide) (omega arith) all.1)

pub bytes_are : (rows : List Row) (wide : List Bool) (places : List ℕ) → AreRows rows → ArePlaces rows wide places → bytes_from (place_in places) 0 rows wide ≡ bytes_of rows wide
bytes_are rows wide places all laid = bytes_agree (place_in places) (place_of rows wide) (length rows) laid.each 0 rows wide (omega arith) all
