-- Which row an instruction of a block is, and that the rule of widening ends in one way alone.
use Rattle.std.proofs.Common.{◌≡◌, ℕ, zero, suc, ◌+◌, ◌-◌, ◌*◌, ◌<◌, ◌≤◌, List, [], ◌∷◌, ◌++◌, length, Bool, map, refl, sym, ap, ◌∙◌, arith, subst, inl, inr}
use Rattle.std.specs.Prelude.{Option, Some, None, slice_get}
use Rattle.std.specs.List.{AllByRecursion}
use Rattle.std.proofs.lemmas.Bool.{cases_lt}
use Rattle.opcode_table.specs.declared.insn.Insn.{Insn}
use Rattle.code_layout.specs.declared.method_code.Jump.{Jump}
use Rattle.code_layout.specs.declared.block.Block.{Block}
use Rattle.code_layout.specs.declared.block.BlockTarget.{BlockTarget}
use Rattle.code_layout.specs.declared.row.Row.{Row}
use Rattle.code_layout.specs.Blocks.{Leads, IsBlock, start_of, target_row, row_in, rows_of, rows_from, rows}
use Rattle.code_layout.specs.Places.{end_of, widen, after_rounds, AreWidened}
use Rattle.code_layout.specs.Laid.{most_bytes, switches, IsLength}
use Rattle.code_layout.proofs.Starts.{zip_lengths}
use Rattle.code_layout.proofs.Layable.{rows_of_length, length_most}

-- ---- positions

front_at : {X : Type 0} (xs ys : List X) (i : ℕ) (x : X) → slice_get xs i ≡ Some x → slice_get (xs ++ ys) i ≡ Some x
front_at [] ys i x is = absurd cc
front_at (z ∷ xs) ys zero x is = is
front_at (z ∷ xs) ys (suc i) x is = front_at xs ys i x is

back_at : {X : Type 0} (xs ys : List X) (n i : ℕ) → n ≡ length xs + i → slice_get (xs ++ ys) n ≡ slice_get ys i
back_at [] ys n i is = let e : n ≡ i = omega arith in ap (slice_get ys) e
back_at (z ∷ xs) ys zero i is = absurd (omega arith)
back_at (z ∷ xs) ys (suc n) i is = back_at xs ys n i (omega arith)

row_of_at : (all : List Block) (start : ℕ) (labels : List ℕ) (insns : List Insn) (jumps : List (Jump BlockTarget)) (p : ℕ) (i : Insn) (j : Jump BlockTarget) → slice_get insns p ≡ Some i → slice_get jumps p ≡ Some j
    → slice_get (rows_of (target_row all start labels) insns jumps) p ≡ Some (row_in all start labels i j)
row_of_at all start labels [] jumps p i j is at = absurd cc
row_of_at all start labels (x ∷ insns) [] p i j is at = absurd cc
row_of_at all start labels (x ∷ insns) (y ∷ jumps) zero i j is at =
    let e : x ≡ i = cc in let f : y ≡ j = cc in
    ap (λ (a : Insn). let o : Option Row = Some (row_in all start labels a y) in o) e ∙ ap (λ (b : Jump BlockTarget). let o : Option Row = Some (row_in all start labels i b) in o) f
row_of_at all start labels (x ∷ insns) (y ∷ jumps) (suc p) i j is at = row_of_at all start labels insns jumps p i j is at

position_from : (n : ℕ) (all : List Block) (start : ℕ) (blocks : List Block) (k p : ℕ) (b : Block) (i : Insn) (j : Jump BlockTarget) → AllByRecursion (IsBlock n) blocks → slice_get blocks k ≡ Some b → slice_get b.insns p ≡ Some i → slice_get b.targets p ≡ Some j
    → slice_get (rows_from all start blocks) (start_of blocks k + p) ≡ Some (row_in all (start + start_of blocks k) b.labels i j)
position_from n all start [] k p b i j are at is to = absurd cc
position_from n all start (c ∷ blocks) zero p b i j are at is to =
    let e : b ≡ c = cc in
    let is' : slice_get c.insns p ≡ Some i = ap (λ (x : Block). slice_get x.insns p) (sym e) ∙ is in
    let to' : slice_get c.targets p ≡ Some j = ap (λ (x : Block). slice_get x.targets p) (sym e) ∙ to in
    let z : 0 + p ≡ p = omega arith in let s : start ≡ start + 0 = omega arith in
    ap (slice_get (rows_from all start (c ∷ blocks))) z
    ∙ front_at (rows_of (target_row all start c.labels) c.insns c.targets) (rows_from all (start + length c.insns) blocks) p (row_in all start c.labels i j) (row_of_at all start c.labels c.insns c.targets p i j is' to')
    ∙ ap (λ (x : Block). let o : Option Row = Some (row_in all start x.labels i j) in o) (sym e)
    ∙ ap (λ (m : ℕ). let o : Option Row = Some (row_in all m b.labels i j) in o) s
position_from n all start (c ∷ blocks) (suc k) p b i j are at is to =
    let f = target_row all start c.labels in
    let long = rows_of_length f c.insns c.targets (zip_lengths Leads c.insns c.targets are.0.insns) in
    let s : start + length c.insns + start_of blocks k ≡ start + (length c.insns + start_of blocks k) = omega arith in
    back_at (rows_of f c.insns c.targets) (rows_from all (start + length c.insns) blocks) (length c.insns + start_of blocks k + p) (start_of blocks k + p) (omega arith)
    ∙ position_from n all (start + length c.insns) blocks k p b i j are.1 at is to
    ∙ ap (λ (m : ℕ). let o : Option Row = Some (row_in all m b.labels i j) in o) s

-- the instruction at a position of a block is the row behind the block's start by so many
pub position : (blocks : List Block) (k p : ℕ) (b : Block) (i : Insn) (j : Jump BlockTarget) → AllByRecursion (IsBlock (length blocks)) blocks → slice_get blocks k ≡ Some b → slice_get b.insns p ≡ Some i → slice_get b.targets p ≡ Some j
    → slice_get (rows blocks) (start_of blocks k + p) ≡ Some (row_in blocks (start_of blocks k) b.labels i j)
position blocks k p b i j are at is to =
    let z : 0 + start_of blocks k ≡ start_of blocks k = omega arith in
    position_from (length blocks) blocks 0 blocks k p b i j are at is to ∙ ap (λ (m : ℕ). let o : Option Row = Some (row_in blocks m b.labels i j) in o) z

-- ---- one end

module _ (rows : List Row) where
  stays : (n k m : ℕ) → m ≡ n + k → widen rows (after_rounds rows n) ≡ after_rounds rows n → after_rounds rows m ≡ after_rounds rows n
  stays n zero m is settled = let e : m ≡ n = omega arith in ap (after_rounds rows) e
  stays n (suc k) zero is settled = absurd (omega arith)
  stays n (suc k) (suc m) is settled = ap (widen rows) (stays n k m (omega arith) settled) ∙ settled

  settled_at : (wide : List Bool) (n : ℕ) → wide ≡ after_rounds rows n → widen rows wide ≡ wide → widen rows (after_rounds rows n) ≡ after_rounds rows n
  settled_at wide n is settled = ap (widen rows) (sym is) ∙ settled ∙ is

  pub one_end : (a b : List Bool) → AreWidened rows a → AreWidened rows b → a ≡ b
  one_end a b x y =
      elim (cases_lt x.rounds y.rounds) [
        | inl lt ↦ x.reached ∙ sym (stays x.rounds (y.rounds - x.rounds) y.rounds (omega arith) (settled_at a x.rounds x.reached x.settled)) ∙ sym y.reached
        | inr le ↦ x.reached ∙ stays y.rounds (x.rounds - y.rounds) x.rounds (omega arith) (settled_at b y.rounds y.reached y.settled) ∙ sym y.reached
      ]

pub one_length : (blocks : List Block) (n m : ℕ) → IsLength blocks n → IsLength blocks m → n ≡ m
one_length blocks n m a b = a.is ∙ ap (end_of (rows blocks)) (one_end (rows blocks) a.wide b.wide a.widened b.widened) ∙ sym b.is

pub length_short : (blocks : List Block) (n : ℕ) → IsLength blocks n → n ≤ most_bytes blocks + 3 * switches blocks
length_short blocks n a = omega (arith, a.is, length_most blocks a.wide a.widened)
