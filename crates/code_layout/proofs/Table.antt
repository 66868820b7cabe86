-- The table of numbers grows by an instruction.
use Rattle.std.proofs.Common.{◌≡◌, ℕ, zero, suc, ◌+◌, ◌<◌, ◌≤◌, Bool, true, false, eqb, ltb, cond, ◌||◌, List, [], ◌∷◌, ◌++◌, length, replicate, Option, Some, None, refl, sym, ap, ◌∙◌, arith, inl, inr}
use Rattle.std.specs.Prelude.{slice_get}
use Rattle.std.specs.List.{list_any, AllByRecursion}
use Rattle.std.proofs.lemmas.List.Sums.{sum_by-append}
use Rattle.std.proofs.lemmas.Bool.{cases_order, ne_eqb, eq-eqb, lt-ltb, le-ltb}
use Rattle.opcode_table.specs.Table.{joined}
use Rattle.class_file.specs.Code.{Placed, is_start}
use Rattle.code_layout.specs.Apart.{number_of}
use Rattle.code_layout.specs.Numbers.{start_number, start_by}

-- ---- rows

row_front : (xs ys : List (Option ℕ)) (place : ℕ) → place < length xs → start_by (xs ++ ys) place ≡ start_by xs place
row_front [] ys place lt = absurd (omega arith)
row_front (x ∷ xs) ys zero lt = refl
row_front (x ∷ xs) ys (suc place) lt = row_front xs ys place (omega arith)

row_here : (xs ys : List (Option ℕ)) (n : Option ℕ) → start_by (xs ++ n ∷ ys) (length xs) ≡ n
row_here [] ys n = refl
row_here (x ∷ xs) ys n = row_here xs ys n

no_row : (m place : ℕ) → start_by (replicate m None) place ≡ None
no_row zero place = refl
no_row (suc m) zero = refl
no_row (suc m) (suc place) = no_row m place

row_behind : (xs : List (Option ℕ)) (n : Option ℕ) (m place : ℕ) → length xs < place → start_by (xs ++ n ∷ replicate m None) place ≡ None
row_behind [] n m zero lt = absurd (omega arith)
row_behind [] n m (suc place) lt = no_row m place
row_behind (x ∷ xs) n m zero lt = absurd (omega arith)
row_behind (x ∷ xs) n m (suc place) lt = row_behind xs n m place (omega arith)

-- ---- instructions before a place

abbrev pub AreBefore : ℕ → List Placed → Type 0
AreBefore pc insns = AllByRecursion (λ (p : Placed). p.pc < pc) insns

pub before_later : (insns : List Placed) (pc pc' : ℕ) → pc ≤ pc' → AreBefore pc insns → AreBefore pc' insns
before_later [] pc pc' le all = tt
before_later (p ∷ insns) pc pc' le all = let lt = all.0 in (omega arith, before_later insns pc pc' le all.1)

pub before_more : (insns : List Placed) (p : Placed) (pc : ℕ) → AreBefore pc insns → p.pc < pc → AreBefore pc (insns ++ p ∷ [])
before_more [] p pc all lt = (lt, tt)
before_more (q ∷ insns) p pc all lt = (all.0, before_more insns p pc all.1 lt)

pub no_start : (insns : List Placed) (pc place : ℕ) → AreBefore pc insns → pc ≤ place → is_start insns place ≡ false
no_start [] pc place all le = refl
no_start (p ∷ insns) pc place all le =
    let lt = all.0 in let e : eqb p.pc place ≡ false = ne_eqb p.pc place (λ is. omega arith) in rw e (no_start insns pc place all.1 le)

abbrev pub one_before : ℕ → Placed → ℕ
one_before place p = cond (ltb p.pc place) 1 0

-- one more in front
pub number_cons : (p : Placed) (insns : List Placed) (place : ℕ) → number_of (p ∷ insns) place ≡ one_before place p + number_of insns place
number_cons p insns place = sum_by-append (one_before place) (p ∷ []) insns ∙ ap (λ n. n + number_of insns place) (omega arith)

pub number_of_all : (insns : List Placed) (pc place : ℕ) → AreBefore pc insns → pc ≤ place → number_of insns place ≡ length insns
number_of_all [] pc place all le = refl
number_of_all (p ∷ insns) pc place all le =
    let lt = all.0 in let e : ltb p.pc place ≡ true = lt-ltb p.pc place (omega arith) in let rest = number_of_all insns pc place all.1 le in number_cons p insns place ∙ rw e (omega (arith, rest))

or_nothing : (b : Bool) → (b || false) ≡ b
or_nothing true = refl
or_nothing false = refl

or_yes : (b : Bool) → (b || true) ≡ true
or_yes true = refl
or_yes false = refl

or_both : (a b c : Bool) → (a || (b || c)) ≡ ((a || b) || c)
or_both true b c = refl
or_both false b c = refl

start_more : (insns : List Placed) (p : Placed) (place : ℕ) → is_start (insns ++ p ∷ []) place ≡ (is_start insns place || eqb p.pc place)
start_more [] p place = or_nothing (eqb p.pc place)
start_more (q ∷ insns) p place = ap (λ b. eqb q.pc place || b) (start_more insns p place) ∙ or_both (eqb q.pc place) (is_start insns place) (eqb p.pc place)

number_more : (insns : List Placed) (p : Placed) (place : ℕ) → number_of (insns ++ p ∷ []) place ≡ number_of insns place + one_before place p
number_more insns p place = sum_by-append (one_before place) insns (p ∷ []) ∙ ap (λ n. number_of insns place + n) (omega arith)

started : Bool → ℕ → Option ℕ
started b n = cond b (Some n) None

number_before : (insns : List Placed) (p : Placed) (place : ℕ) → place < p.pc → start_number (insns ++ p ∷ []) place ≡ start_number insns place
unfolding started
number_before insns p place lt =
    let e : eqb p.pc place ≡ false = ne_eqb p.pc place (λ is. omega arith) in
    let l : ltb p.pc place ≡ false = le-ltb p.pc place (omega arith) in
    let n : number_of (insns ++ p ∷ []) place ≡ number_of insns place = let m = number_more insns p place in simp l at m ∙ omega arith in
    let b : is_start (insns ++ p ∷ []) place ≡ is_start insns place = start_more insns p place ∙ ap (λ b. is_start insns place || b) e ∙ or_nothing (is_start insns place) in
    ap (λ b. started b (number_of (insns ++ p ∷ []) place)) b ∙ ap (started (is_start insns place)) n

number_here : (insns : List Placed) (p : Placed) → AreBefore p.pc insns → start_number (insns ++ p ∷ []) p.pc ≡ Some (length insns)
unfolding started
number_here insns p all =
    let e : eqb p.pc p.pc ≡ true = eq-eqb p.pc p.pc refl in
    let l : ltb p.pc p.pc ≡ false = le-ltb p.pc p.pc (omega arith) in
    let m = number_more insns p p.pc in
    let before = number_of_all insns p.pc p.pc all (omega arith) in
    let n : number_of (insns ++ p ∷ []) p.pc ≡ length insns = simp l at m ∙ omega arith in
    let b : is_start (insns ++ p ∷ []) p.pc ≡ true = start_more insns p p.pc ∙ ap (λ b. is_start insns p.pc || b) e ∙ or_yes (is_start insns p.pc) in
    ap (λ b. started b (number_of (insns ++ p ∷ []) p.pc)) b ∙ ap Some n

number_behind : (insns : List Placed) (p : Placed) (place : ℕ) → AreBefore p.pc insns → p.pc < place → start_number (insns ++ p ∷ []) place ≡ None
unfolding started
number_behind insns p place all lt =
    let e : eqb p.pc place ≡ false = ne_eqb p.pc place (λ is. omega arith) in
    let b : is_start (insns ++ p ∷ []) place ≡ false = start_more insns p place ∙ ap (λ b. is_start insns place || b) e ∙ or_nothing (is_start insns place) ∙ no_start insns p.pc place all (omega arith) in
    ap (λ b. started b (number_of (insns ++ p ∷ []) place)) b

-- the table has the next instruction's number at its place, and no other in its bytes
pub table_more : (insns : List Placed) (p : Placed) (numbers : List (Option ℕ)) (m place : ℕ) → length numbers ≡ p.pc → AreBefore p.pc insns → ((k : ℕ) → start_by numbers k ≡ start_number insns k)
    → start_by (numbers ++ Some (length insns) ∷ replicate m None) place ≡ start_number (insns ++ p ∷ []) place
table_more insns p numbers m place rows all each =
    elim (cases_order place p.pc) [
      | inl e ↦ ap (λ (k : ℕ). start_by (numbers ++ Some (length insns) ∷ replicate m None) k) (e ∙ sym rows) ∙ row_here numbers (replicate m None) (Some (length insns)) ∙ sym (number_here insns p all) ∙ ap (λ (k : ℕ). start_number (insns ++ p ∷ []) k) (sym e)
      | inr (inl lt) ↦ row_front numbers (Some (length insns) ∷ replicate m None) place (omega arith) ∙ each place ∙ sym (number_before insns p place lt)
      | inr (inr lt) ↦ row_behind numbers (Some (length insns)) m place (omega arith) ∙ sym (number_behind insns p place all lt)
    ]
