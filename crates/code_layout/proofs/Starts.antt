-- The numbers of the blocks' first rows.
use Rattle.std.proofs.Common.{◌≡◌, ℕ, zero, suc, ◌+◌, ◌<◌, ◌≤◌, List, [], ◌∷◌, ◌++◌, length, get_or, drop, map, refl, sym, ap, ◌∙◌, arith, append_assoc, append-nil, add-one, length-append, inl, inr, subst, ℤ}
use Rattle.std.proofs.Math.Seq.{drop-cons, get_or-append_seam}
use Rattle.std.proofs.Math.ListN.{get_or-append}
use Rattle.std.proofs.lemmas.Bool.{cases_eq}
use Rattle.std.specs.Prelude.{Option, Some, FitsSigned}
use Rattle.std.specs.Int.{w32}
use Rattle.code_layout.specs.Spelled.{HaveKeys}
use Rattle.std.specs.List.{AllZip, AllByRecursion}
use Rattle.opcode_table.specs.declared.insn.Insn.{Insn}
use Rattle.code_layout.specs.declared.method_code.Jump.{Jump}
use Rattle.code_layout.specs.declared.block.Block.{Block}
use Rattle.code_layout.specs.declared.block.BlockTarget.{BlockTarget}
use Rattle.code_layout.specs.declared.row.Row.{Row}
use Rattle.class_file.specs.declared.types.ExceptionEntry.{ExceptionEntry}
use Rattle.code_layout.specs.Laid.{own_entry, own_entries_from}
use Rattle.code_layout.specs.Blocks.{start_of, row_count, target_row, rows_of, rows_from, rows}

pub start_next : (blocks : List Block) (k : ℕ) (b : Block) → k < length blocks → get_or blocks k b ≡ b → start_of blocks (k + 1) ≡ start_of blocks k + length b.insns
start_next [] k b lt at = absurd (omega arith)
start_next (c ∷ []) zero b lt at = ap (λ (x : Block). length x.insns + 0) at ∙ omega arith
start_next (c ∷ d ∷ blocks) zero b lt at = ap (λ (x : Block). length x.insns + 0) at ∙ omega arith
start_next (c ∷ blocks) (suc k) b lt at =
    let h = start_next blocks k b (omega arith) at in
    let e : suc k + 1 ≡ suc (k + 1) = omega arith in
    ap (start_of (c ∷ blocks)) e ∙ (let g : length c.insns + start_of blocks (k + 1) ≡ length c.insns + start_of blocks k + length b.insns = omega (arith, h) in g)

pub start_zero : (blocks : List Block) → start_of blocks 0 ≡ 0
start_zero [] = refl
start_zero (b ∷ blocks) = refl

pub start_below : (blocks : List Block) (k : ℕ) → start_of blocks k ≤ row_count blocks
start_below [] k = omega arith
start_below (b ∷ blocks) zero = omega arith
start_below (b ∷ blocks) (suc k) = omega (arith, start_below blocks k)

pub start_rises : (blocks : List Block) (i j : ℕ) → i ≤ j → start_of blocks i ≤ start_of blocks j
start_rises [] i j le = omega arith
start_rises (b ∷ blocks) zero j le = omega arith
start_rises (b ∷ blocks) (suc i) zero le = absurd (omega arith)
start_rises (b ∷ blocks) (suc i) (suc j) le = omega (arith, start_rises blocks i j (omega arith))

pub start_all : (blocks : List Block) (k : ℕ) → length blocks ≤ k → start_of blocks k ≡ row_count blocks
start_all [] k le = refl
start_all (b ∷ blocks) zero le = absurd (omega arith)
start_all (b ∷ blocks) (suc k) le = ap (λ (n : ℕ). length b.insns + n) (start_all blocks k (omega arith))

pub start_within : (blocks : List Block) (k : ℕ) (b : Block) → k < length blocks → get_or blocks k b ≡ b → start_of blocks k + length b.insns ≤ row_count blocks
start_within blocks k b lt at = omega (arith, start_next blocks k b lt at, start_below blocks (k + 1))

-- one more start
pub starts_more : (blocks : List Block) (s s' : List ℕ) (k next : ℕ) → length s ≡ k + 1 → ((j : ℕ) → j ≤ k → get_or s j 0 ≡ start_of blocks j) → next ≡ start_of blocks (k + 1) → s' ≡ s ++ next ∷ []
    → (length s' ≡ k + 1 + 1) × ((j : ℕ) → j ≤ k + 1 → get_or s' j 0 ≡ start_of blocks j)
starts_more blocks s s' k next count each is more = (
  omega (arith, simp length-append at (ap length more)),
  λ j le. ap (λ (l : List ℕ). get_or l j 0) more ∙ elim (cases_eq j (k + 1)) [
    | inl e ↦ (let at : get_or (s ++ next ∷ []) (length s) 0 ≡ next = get_or-append_seam s next [] 0 in let l : j ≡ length s = omega arith in ap (λ (n : ℕ). get_or (s ++ next ∷ []) n 0) l ∙ at ∙ is ∙ ap (start_of blocks) (sym e))
    | inr ne ↦ (let lt : j < length s = omega arith in get_or-append s (next ∷ []) 0 j lt ∙ each j (omega arith))
  ],
)

pub all_at : {X : Type 0} (P : X → Type 0) (xs : List X) (i : ℕ) (x : X) → AllByRecursion P xs → i < length xs → x ≡ get_or xs i x → P x
all_at P [] i x all lt is = absurd (omega arith)
all_at P (y ∷ xs) zero x all lt is = subst P (sym is) all.0
all_at P (y ∷ xs) (suc i) x all lt is = all_at P xs i x all.1 (omega arith) is

pub zip_lengths : {X Y : Type 0} (R : X → Y → Type 0) (xs : List X) (ys : List Y) → AllZip R xs ys → length ys ≡ length xs
zip_lengths R [] [] all = refl
zip_lengths R [] (y ∷ ys) all = absurd all
zip_lengths R (x ∷ xs) [] all = absurd all
zip_lengths R (x ∷ xs) (y ∷ ys) all = omega (arith, zip_lengths R xs ys all.1)

-- the rows that are left, with the next one in front
rows_step : (f : BlockTarget → ℕ) (insns : List Insn) (jumps : List (Jump BlockTarget)) (i : ℕ) (x : Insn) (j : Jump BlockTarget) → i < length insns → i < length jumps → j ≡ get_or jumps i j
    → rows_of f (drop i insns) (drop i jumps) ≡ record { insn = get_or insns i x; jump = record { keys = j.keys; to = map f j.to } } ∷ rows_of f (drop (suc i) insns) (drop (suc i) jumps)
rows_step f [] jumps i x j lt lt' is = absurd (omega arith)
rows_step f (y ∷ insns) [] i x j lt lt' is = absurd (omega arith)
rows_step f (y ∷ insns) (k ∷ jumps) zero x j lt lt' is =
    ap (λ (q : Jump BlockTarget). let r : List Row = record { insn = y; jump = record { keys = q.keys; to = map f q.to } } ∷ rows_of f insns jumps in r) (sym is)
rows_step f (y ∷ insns) (k ∷ jumps) (suc i) x j lt lt' is = rows_step f insns jumps i x j (omega arith) (omega arith) is

jump_is : (j : Jump ℕ) (keys : List ℤ) (to : List ℕ) → j.keys ≡ keys → j.to ≡ to → j ≡ record { keys = keys; to = to }
jump_is j keys to k t = ap (λ (x : List ℤ). let m : Jump ℕ = record { keys = x; to = j.to } in m) k ∙ ap (λ (y : List ℕ). let m : Jump ℕ = record { keys = keys; to = y } in m) t

-- one more row in front of those that are left
pub rows_more : (f : BlockTarget → ℕ) (insns : List Insn) (jumps : List (Jump BlockTarget)) (i : ℕ) (x : Insn) (j : Jump BlockTarget) (given : Jump ℕ) (done done' whole : List Row) → i < length insns → i < length jumps → j ≡ get_or jumps i j
    → given.keys ≡ j.keys → given.to ≡ map f j.to → done' ≡ done ++ record { insn = get_or insns i x; jump = given } ∷ []
    → done ++ rows_of f (drop i insns) (drop i jumps) ≡ whole → done' ++ rows_of f (drop (i + 1) insns) (drop (i + 1) jumps) ≡ whole
rows_more f insns jumps i x j given done done' whole lt lt' is keys to more before =
    let row : Row = record { insn = get_or insns i x; jump = given } in
    let rest : List Row = rows_of f (drop (suc i) insns) (drop (suc i) jumps) in
    let n : i + 1 ≡ suc i = add-one i in
    ap (λ (l : List Row). l ++ rows_of f (drop (i + 1) insns) (drop (i + 1) jumps)) more
    ∙ ap (λ (m : ℕ). (done ++ row ∷ []) ++ rows_of f (drop m insns) (drop m jumps)) n
    ∙ append_assoc done (row ∷ []) rest
    ∙ ap (λ (q : Jump ℕ). let l : List Row = done ++ record { insn = get_or insns i x; jump = q } ∷ rest in l) (jump_is given j.keys (map f j.to) keys to)
    ∙ ap (λ (l : List Row). done ++ l) (sym (rows_step f insns jumps i x j lt lt' is)) ∙ before

blocks_step : (all : List Block) (start : ℕ) (blocks : List Block) (i : ℕ) (b : Block) → i < length blocks → b ≡ get_or blocks i b
    → rows_from all start (drop i blocks) ≡ rows_of (target_row all start b.labels) b.insns b.targets ++ rows_from all (start + length b.insns) (drop (suc i) blocks)
blocks_step all start blocks i b lt is =
    ap (rows_from all start) (drop-cons blocks i b lt)
    ∙ ap (λ (q : Block). rows_from all start (q ∷ drop (suc i) blocks)) (sym is)

-- one more block's rows in front of those that are left
pub blocks_more : (blocks : List Block) (i start : ℕ) (b : Block) (done done' whole : List Row) → i < length blocks → b ≡ get_or blocks i b → start ≡ start_of blocks i
    → done' ≡ done ++ rows_of (target_row blocks start b.labels) b.insns b.targets
    → done ++ rows_from blocks (start_of blocks i) (drop i blocks) ≡ whole → done' ++ rows_from blocks (start_of blocks (i + 1)) (drop (i + 1) blocks) ≡ whole
blocks_more blocks i start b done done' whole lt is at more before =
    let here : List Row = rows_of (target_row blocks start b.labels) b.insns b.targets in
    let next : start_of blocks (i + 1) ≡ start + length b.insns = start_next blocks i b lt (sym is) ∙ ap (λ (n : ℕ). n + length b.insns) (sym at) in
    ap (λ (l : List Row). l ++ rows_from blocks (start_of blocks (i + 1)) (drop (i + 1) blocks)) more
    ∙ ap (λ (m : ℕ). (done ++ here) ++ rows_from blocks m (drop (i + 1) blocks)) next
    ∙ ap (λ (m : ℕ). (done ++ here) ++ rows_from blocks (start + length b.insns) (drop m blocks)) (add-one i)
    ∙ append_assoc done here (rows_from blocks (start + length b.insns) (drop (suc i) blocks))
    ∙ ap (λ (l : List Row). done ++ l) (sym (blocks_step blocks start blocks i b lt is))
    ∙ ap (λ (m : ℕ). done ++ rows_from blocks m (drop i blocks)) at ∙ before

pub blocks_first : (blocks : List Block) (done : List Row) → done ≡ [] → done ++ rows_from blocks (start_of blocks 0) blocks ≡ rows blocks
blocks_first blocks done is = ap (λ (l : List Row). l ++ rows_from blocks (start_of blocks 0) blocks) is ∙ ap (λ (m : ℕ). rows_from blocks m blocks) (start_zero blocks)

-- ---- keys

pub no_keys : (rows : List Row) → rows ≡ [] → HaveKeys rows
no_keys rows is = subst HaveKeys (sym is) tt

keys_append : (rows : List Row) (row : Row) → HaveKeys rows → AllByRecursion (FitsSigned w32) row.jump.keys → HaveKeys (rows ++ row ∷ [])
keys_append [] row have here = (here, tt)
keys_append (r ∷ rows) row have here = (have.0, keys_append rows row have.1 here)

pub keys_more : (rows rows' : List Row) (insn : Insn) (jump : Jump ℕ) → HaveKeys rows → AllByRecursion (FitsSigned w32) jump.keys → rows' ≡ rows ++ record { insn = insn; jump = jump } ∷ [] → HaveKeys rows'
keys_more rows rows' insn jump have here more = subst HaveKeys (sym more) (keys_append rows (record { insn = insn; jump = jump }) have here)

-- ---- own entries

own_step : (place : ℕ → ℕ) (all : List Block) (start : ℕ) (blocks : List Block) (i : ℕ) (b : Block) → i < length blocks → b ≡ get_or blocks i b
    → own_entries_from place all start (drop i blocks) ≡ map (own_entry place all start b.labels) b.entries ++ own_entries_from place all (start + length b.insns) (drop (suc i) blocks)
own_step place all start blocks i b lt is =
    ap (own_entries_from place all start) (drop-cons blocks i b lt)
    ∙ ap (λ (q : Block). own_entries_from place all start (q ∷ drop (suc i) blocks)) (sym is)

-- one more block's entries in front of those that are left
pub own_entries_more : (place : ℕ → ℕ) (blocks : List Block) (i start : ℕ) (b : Block) (done done' whole : List ExceptionEntry) → i < length blocks → b ≡ get_or blocks i b → start ≡ start_of blocks i
    → done' ≡ done ++ map (own_entry place blocks start b.labels) b.entries
    → done ++ own_entries_from place blocks (start_of blocks i) (drop i blocks) ≡ whole → done' ++ own_entries_from place blocks (start_of blocks (i + 1)) (drop (i + 1) blocks) ≡ whole
own_entries_more place blocks i start b done done' whole lt is at more before =
    let here : List ExceptionEntry = map (own_entry place blocks start b.labels) b.entries in
    let next : start_of blocks (i + 1) ≡ start + length b.insns = start_next blocks i b lt (sym is) ∙ ap (λ (n : ℕ). n + length b.insns) (sym at) in
    ap (λ (l : List ExceptionEntry). l ++ own_entries_from place blocks (start_of blocks (i + 1)) (drop (i + 1) blocks)) more
    ∙ ap (λ (m : ℕ). (done ++ here) ++ own_entries_from place blocks m (drop (i + 1) blocks)) next
    ∙ ap (λ (m : ℕ). (done ++ here) ++ own_entries_from place blocks (start + length b.insns) (drop m blocks)) (add-one i)
    ∙ append_assoc done here (own_entries_from place blocks (start + length b.insns) (drop (suc i) blocks))
    ∙ ap (λ (l : List ExceptionEntry). done ++ l) (sym (own_step place blocks start blocks i b lt is))
    ∙ ap (λ (m : ℕ). done ++ own_entries_from place blocks m (drop i blocks)) at ∙ before

pub own_first : (place : ℕ → ℕ) (blocks : List Block) (done : List ExceptionEntry) → done ≡ [] → done ++ own_entries_from place blocks (start_of blocks 0) blocks ≡ own_entries_from place blocks 0 blocks
own_first place blocks done is =
    ap (λ (l : List ExceptionEntry). l ++ own_entries_from place blocks (start_of blocks 0) blocks) is ∙ ap (λ (m : ℕ). own_entries_from place blocks m blocks) (start_zero blocks)
