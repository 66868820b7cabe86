-- The rows of blocks that may be laid out.
use Rattle.std.proofs.Common.{◌≡◌, ℕ, zero, suc, ◌+◌, ◌-◌, ◌*◌, ◌^◌, ◌<◌, ◌≤◌, Bool, true, false, not, cond, List, [], ◌∷◌, ◌++◌, length, get_or, take, drop, map, refl, sym, ap, ◌∙◌, arith, subst, add-one, length-append, inl, inr}
use Rattle.std.specs.Prelude.{Option, Some, None, slice_get}
use Rattle.std.specs.List.{AllByRecursion, AllZip}
use Rattle.std.proofs.lemmas.List.{length-map}
use Rattle.opcode_table.specs.declared.insn.Insn.{Insn}
use Rattle.opcode_table.specs.Decoding.{table_place}
use Rattle.class_file.specs.declared.types.ExceptionEntry.{ExceptionEntry}
use Rattle.class_file.specs.declared.types.LineRow.{LineRow}
use Rattle.class_file.specs.declared.types.VariableRow.{VariableRow}
use Rattle.class_file.specs.declared.types.CodeAttribute.{CodeAttribute}
use Rattle.class_file.specs.declared.types.CodeContent.{CodeContent}
use Rattle.class_file.specs.declared.types.CodeContent.TheVariants as content
use Rattle.code_layout.specs.declared.method_code.Jump.{Jump}
use Rattle.code_layout.specs.declared.method_code.CodeEntry.{CodeEntry}
use Rattle.code_layout.specs.declared.method_code.Line.{Line}
use Rattle.code_layout.specs.declared.method_code.LineTable.{LineTable}
use Rattle.code_layout.specs.declared.method_code.Variable.{Variable}
use Rattle.code_layout.specs.declared.method_code.VariableTable.{VariableTable}
use Rattle.code_layout.specs.declared.block.Block.{Block}
use Rattle.code_layout.specs.declared.block.BlockEntry.{BlockEntry}
use Rattle.code_layout.specs.declared.block.BlockTarget.{BlockTarget}
use Rattle.code_layout.specs.declared.block.BlockTarget.TheVariants as target
use Rattle.code_layout.specs.declared.row.Row.{Row}
use Rattle.code_layout.specs.Blocks.{HasJump, Leads, IsTargetOf, IsEntryOf, IsBlock, range_limit, start_of, target_row, rows_of, rows_from, rows, row_count}
use Rattle.code_layout.specs.Places.{is_test, is_short, branch_size, narrow_size, widened_size, behind_insn, behind, first_wide, other_wide, place_from, place_of, end_of, AreWidened, most_bytes_insn, is_switch}
use Rattle.code_layout.specs.Laid.{old_place, bound_place, own_entry, own_entries_from, old_entry, entries_of, line_row, variable_row, line_attribute, variable_attribute, attributes_of, most_bytes_of, most_bytes, switches_of, switches}
use Rattle.code_layout.specs.Spelled.{IsRow, AreRows, ArePlaces, AreSmall, place_in}
use Rattle.code_layout.proofs.Starts.{start_below, zip_lengths}
use Rattle.code_layout.proofs.Rising.{place_at_most}
use Rattle.code_layout.proofs.Standing.{is_short_insn}
use Rattle.code_layout.proofs.Laying.{AreShort, widened_short}

-- ---- how many rows there are

pub rows_of_length : (f : BlockTarget → ℕ) (insns : List Insn) (jumps : List (Jump BlockTarget)) → length jumps ≡ length insns → length (rows_of f insns jumps) ≡ length insns
rows_of_length f [] jumps all = refl
rows_of_length f (i ∷ insns) [] all = absurd (omega arith)
rows_of_length f (i ∷ insns) (j ∷ jumps) all = omega (arith, rows_of_length f insns jumps (omega arith))

rows_from_length : (n : ℕ) (all : List Block) (start : ℕ) (blocks : List Block) → AllByRecursion (IsBlock n) blocks → length (rows_from all start blocks) ≡ row_count blocks
rows_from_length n all start [] are = refl
rows_from_length n all start (b ∷ blocks) are =
    let f = target_row all start b.labels in
    omega (arith, length-append (rows_of f b.insns b.targets) (rows_from all (start + length b.insns) blocks), rows_of_length f b.insns b.targets (zip_lengths Leads b.insns b.targets are.0.insns), rows_from_length n all (start + length b.insns) blocks are.1)

pub rows_length : (blocks : List Block) → AllByRecursion (IsBlock (length blocks)) blocks → length (rows blocks) ≡ row_count blocks
rows_length blocks are = rows_from_length (length blocks) blocks 0 blocks are

-- ---- the rows are well

all_append : {X : Type 0} (P : X → Type 0) (xs ys : List X) → AllByRecursion P xs → AllByRecursion P ys → AllByRecursion P (xs ++ ys)
all_append P [] ys all more = more
all_append P (x ∷ xs) ys all more = (all.0, all_append P xs ys all.1 more)

mapped_leads : (f : BlockTarget → ℕ) (i : Insn) (j : Jump BlockTarget) → Leads i j → Leads i (let m : Jump ℕ = record { keys = j.keys; to = map f j.to } in m)
mapped_leads f (Insn.Plain op) j leads = (leads.0, (leads.1.0, ap (map f) leads.1.1))
mapped_leads f (Insn.Bipush value) j leads = (leads.0, (leads.1.0, ap (map f) leads.1.1))
mapped_leads f (Insn.Sipush value) j leads = (leads.0, (leads.1.0, ap (map f) leads.1.1))
mapped_leads f (Insn.Local op index wide) j leads = (leads.0, (leads.1.0, ap (map f) leads.1.1))
mapped_leads f (Insn.Iinc index by wide) j leads = (leads.0, (leads.1.0, ap (map f) leads.1.1))
mapped_leads f (Insn.Pool op index) j leads = (leads.0, (leads.1.0, ap (map f) leads.1.1))
mapped_leads f (Insn.Interface index count last) j leads = (leads.0, (leads.1.0, ap (map f) leads.1.1))
mapped_leads f (Insn.NewArray code) j leads = (leads.0, (leads.1.0, ap (map f) leads.1.1))
mapped_leads f (Insn.Multi index dims) j leads = (leads.0, (leads.1.0, ap (map f) leads.1.1))
mapped_leads f (Insn.Branch op offset) j leads = (leads.0, (leads.1.0, length-map j.to f ∙ leads.1.1))
mapped_leads f (Insn.TableSwitch table) j leads = (leads.0, (leads.1.0, length-map j.to f ∙ leads.1.1))
mapped_leads f (Insn.LookupSwitch table) j leads = (leads.0, (leads.1.0, length-map j.to f ∙ leads.1.1))

label_within : (labels : List ℕ) (most l : ℕ) → AllByRecursion (λ (position : ℕ). position ≤ most) labels → l < length labels → get_or labels l 0 ≤ most
label_within [] most l all lt = absurd (omega arith)
label_within (p ∷ labels) most zero all lt = all.0
label_within (p ∷ labels) most (suc l) all lt = label_within labels most l all.1 (omega arith)

pub target_within : (all : List Block) (start : ℕ) (b : Block) (t : BlockTarget) → start + length b.insns ≤ row_count all → AllByRecursion (λ (position : ℕ). position ≤ length b.insns) b.labels → IsTargetOf (length all) b t → target_row all start b.labels t ≤ row_count all
target_within all start b (target.Label l) le labels there = omega (arith, label_within b.labels (length b.insns) l labels there)
target_within all start b (target.Old n) le labels there = start_below all n
target_within all start b target.Miss le labels there = absurd there

targets_within : (all : List Block) (start : ℕ) (b : Block) (to : List BlockTarget) → start + length b.insns ≤ row_count all → AllByRecursion (λ (position : ℕ). position ≤ length b.insns) b.labels → AllByRecursion (IsTargetOf (length all) b) to
    → AllByRecursion (λ (t : ℕ). t ≤ row_count all) (map (target_row all start b.labels) to)
targets_within all start b [] le labels there = tt
targets_within all start b (t ∷ to) le labels there = (target_within all start b t le labels there.0, targets_within all start b to le labels there.1)

block_rows : (all : List Block) (start : ℕ) (b : Block) (insns : List Insn) (jumps : List (Jump BlockTarget)) → start + length b.insns ≤ row_count all → AllByRecursion (λ (position : ℕ). position ≤ length b.insns) b.labels → AllZip Leads insns jumps
    → AllByRecursion (λ (j : Jump BlockTarget). AllByRecursion (IsTargetOf (length all) b) j.to) jumps → AllByRecursion (IsRow (row_count all)) (rows_of (target_row all start b.labels) insns jumps)
block_rows all start b [] jumps le labels leads there = tt
block_rows all start b (i ∷ insns) [] le labels leads there = tt
block_rows all start b (i ∷ insns) (j ∷ jumps) le labels leads there = (
  record { leads = mapped_leads (target_row all start b.labels) i j leads.0; within = targets_within all start b j.to le labels there.0 },
  block_rows all start b insns jumps le labels leads.1 there.1,
)

rows_are : (all : List Block) (start : ℕ) (blocks : List Block) → start + row_count blocks ≡ row_count all → AllByRecursion (IsBlock (length all)) blocks → AllByRecursion (IsRow (row_count all)) (rows_from all start blocks)
rows_are all start [] sum are = tt
rows_are all start (b ∷ blocks) sum are =
    all_append (IsRow (row_count all)) (rows_of (target_row all start b.labels) b.insns b.targets) (rows_from all (start + length b.insns) blocks)
    (block_rows all start b b.insns b.targets (omega arith) are.0.labels are.0.insns are.0.targets)
    (rows_are all (start + length b.insns) blocks (omega arith) are.1)

pub are_rows : (blocks : List Block) → AllByRecursion (IsBlock (length blocks)) blocks → AreRows (rows blocks)
are_rows blocks are = subst (λ (n : ℕ). AllByRecursion (IsRow n) (rows blocks)) (sym (rows_length blocks are)) (rows_are blocks 0 blocks (omega arith) are)

-- ---- how long they are at most

abbrev most_rows : List Row → ℕ
most_rows [] = 0
most_rows (row ∷ rows) = most_bytes_insn row.insn (length row.jump.keys) + most_rows rows

abbrev switch_rows : List Row → ℕ
switch_rows [] = 0
switch_rows (row ∷ rows) = cond (is_switch row.insn) 1 0 + switch_rows rows

narrow_most : (short test : Bool) → cond short 3 5 ≤ cond short (cond test 8 5) 5
narrow_most true true = omega arith
narrow_most true false = omega arith
narrow_most false test = omega arith

branch_most : (w : Bool) (pc op : ℕ) → (w ≡ true → is_short op ≡ true) → pc + branch_size w op ≤ pc + cond (is_short op) (widened_size op) 5 + 3 * 0
branch_most true pc op short = let e = short refl in rw e (omega arith)
branch_most false pc op short = omega (arith, narrow_most (is_short op) (is_test op))

padded_most : (pc : ℕ) → table_place pc ≤ pc + 4
padded_most pc = omega arith

behind_most : (w : Bool) (pc : ℕ) (i : Insn) (keys : ℕ) → (w ≡ true → is_short_insn i ≡ true) → behind_insn w pc i keys ≤ pc + most_bytes_insn i keys + 3 * cond (is_switch i) 1 0
behind_most w pc (Insn.Plain op) keys short = omega arith
behind_most w pc (Insn.Bipush value) keys short = omega arith
behind_most w pc (Insn.Sipush value) keys short = omega arith
behind_most w pc (Insn.Local op index wide) keys short = omega arith
behind_most w pc (Insn.Iinc index by wide) keys short = omega arith
behind_most w pc (Insn.Pool op index) keys short = omega arith
behind_most w pc (Insn.Interface index count last) keys short = omega arith
behind_most w pc (Insn.NewArray code) keys short = omega arith
behind_most w pc (Insn.Multi index dims) keys short = omega arith
behind_most w pc (Insn.Branch op offset) keys short = branch_most w pc op short
behind_most w pc (Insn.TableSwitch table) keys short = omega (arith, padded_most pc)
behind_most w pc (Insn.LookupSwitch table) keys short = omega (arith, padded_most pc)

end_most : (pc : ℕ) (rows : List Row) (wide : List Bool) → AreShort rows wide → place_from pc rows wide (length rows) ≤ pc + most_rows rows + 3 * switch_rows rows
end_most pc [] wide short = omega arith
end_most pc (row ∷ rows) wide short =
    omega (arith, behind_most (first_wide wide) pc row.insn (length row.jump.keys) short.0, end_most (behind (first_wide wide) pc row) rows (other_wide wide) short.1)

most_append : (xs ys : List Row) → most_rows (xs ++ ys) ≡ most_rows xs + most_rows ys
most_append [] ys = omega arith
most_append (x ∷ xs) ys = omega (arith, most_append xs ys)

switch_append : (xs ys : List Row) → switch_rows (xs ++ ys) ≡ switch_rows xs + switch_rows ys
switch_append [] ys = omega arith
switch_append (x ∷ xs) ys = omega (arith, switch_append xs ys)

most_of : (f : BlockTarget → ℕ) (insns : List Insn) (jumps : List (Jump BlockTarget)) → most_rows (rows_of f insns jumps) ≡ most_bytes_of insns jumps
most_of f [] jumps = refl
most_of f (i ∷ insns) [] = refl
most_of f (i ∷ insns) (j ∷ jumps) = ap (λ (n : ℕ). most_bytes_insn i (length j.keys) + n) (most_of f insns jumps)

switch_of : (f : BlockTarget → ℕ) (insns : List Insn) (jumps : List (Jump BlockTarget)) → switch_rows (rows_of f insns jumps) ≤ switches_of insns
switch_of f [] jumps = omega arith
switch_of f (i ∷ insns) [] = omega arith
switch_of f (i ∷ insns) (j ∷ jumps) = omega (arith, switch_of f insns jumps)

most_from : (all : List Block) (start : ℕ) (blocks : List Block) → most_rows (rows_from all start blocks) ≡ most_bytes blocks
most_from all start [] = refl
most_from all start (b ∷ blocks) =
    let f = target_row all start b.labels in
    omega (arith, most_append (rows_of f b.insns b.targets) (rows_from all (start + length b.insns) blocks), most_of f b.insns b.targets, most_from all (start + length b.insns) blocks)

switch_from : (all : List Block) (start : ℕ) (blocks : List Block) → switch_rows (rows_from all start blocks) ≤ switches blocks
switch_from all start [] = omega arith
switch_from all start (b ∷ blocks) =
    let f = target_row all start b.labels in
    omega (arith, switch_append (rows_of f b.insns b.targets) (rows_from all (start + length b.insns) blocks), switch_of f b.insns b.targets, switch_from all (start + length b.insns) blocks)

pub length_most : (blocks : List Block) (wide : List Bool) → AreWidened (rows blocks) wide → end_of (rows blocks) wide ≤ most_bytes blocks + 3 * switches blocks
length_most blocks wide widened = omega (arith, end_most 0 (rows blocks) wide (widened_short (rows blocks) wide widened), most_from blocks 0 blocks, switch_from blocks 0 blocks)

-- ---- tables by one map of places and by another

map_same : {X Y : Type 0} (f g : X → Y) (xs : List X) → ((x : X) → f x ≡ g x) → map f xs ≡ map g xs
map_same f g [] same = refl
map_same f g (x ∷ xs) same = ap (λ y. y ∷ map f xs) (same x) ∙ ap (λ ys. g x ∷ ys) (map_same f g xs same)

entry_is : (s s' e e' h h' c : ℕ) → s ≡ s' → e ≡ e' → h ≡ h' → (let x : ExceptionEntry = record { start = s; end = e; handler = h; catch_type = c } in x) ≡ record { start = s'; end = e'; handler = h'; catch_type = c }
entry_is s s' e e' h h' c p q r =
    ap (λ (n : ℕ). let x : ExceptionEntry = record { start = n; end = e; handler = h; catch_type = c } in x) p
    ∙ ap (λ (n : ℕ). let x : ExceptionEntry = record { start = s'; end = n; handler = h; catch_type = c } in x) q
    ∙ ap (λ (n : ℕ). let x : ExceptionEntry = record { start = s'; end = e'; handler = n; catch_type = c } in x) r

module _ (f g : ℕ → ℕ) (blocks : List Block) (agree : (i : ℕ) → i ≤ row_count blocks → f i ≡ g i) where
  old_same : (n : ℕ) → old_place f blocks n ≡ old_place g blocks n
  old_same n = agree (start_of blocks n) (start_below blocks n)

  bound_same : (start n : ℕ) (old : Bool) (b : Block) → start + length b.insns ≤ row_count blocks → n ≤ cond old (length blocks) (length b.insns) → bound_place f blocks start old n ≡ bound_place g blocks start old n
  bound_same start n true b le within = old_same n
  bound_same start n false b le within = agree (start + n) (omega arith)

  limit_is : (old : Bool) (b : Block) (n : ℕ) → n ≤ range_limit (length blocks) b old → n ≤ cond old (length blocks) (length b.insns)
  limit_is true b n le = le
  limit_is false b n le = le

  own_same : (start : ℕ) (b : Block) (entries : List BlockEntry) → start + length b.insns ≤ row_count blocks → AllByRecursion (λ (position : ℕ). position ≤ length b.insns) b.labels → AllByRecursion (IsEntryOf (length blocks) b) entries
      → map (own_entry f blocks start b.labels) entries ≡ map (own_entry g blocks start b.labels) entries
  own_same start b [] le labels are = refl
  own_same start b (e ∷ entries) le labels are =
      let here : own_entry f blocks start b.labels e ≡ own_entry g blocks start b.labels e =
      entry_is _ _ _ _ _ _ e.catch_type (bound_same start e.start e.old_range b le (limit_is e.old_range b e.start are.0.start)) (bound_same start e.end e.old_range b le (limit_is e.old_range b e.end are.0.end))
      (agree (target_row blocks start b.labels e.handler) (target_within blocks start b e.handler le labels are.0.handler)) in
      ap (λ (x : ExceptionEntry). x ∷ map (own_entry f blocks start b.labels) entries) here
      ∙ ap (λ (l : List ExceptionEntry). own_entry g blocks start b.labels e ∷ l) (own_same start b entries le labels are.1)

  own_from_same : (start : ℕ) (others : List Block) → start + row_count others ≡ row_count blocks → AllByRecursion (IsBlock (length blocks)) others → own_entries_from f blocks start others ≡ own_entries_from g blocks start others
  own_from_same start [] sum are = refl
  own_from_same start (b ∷ others) sum are =
      ap (λ (l : List ExceptionEntry). l ++ own_entries_from f blocks (start + length b.insns) others) (own_same start b b.entries (omega arith) are.0.labels are.0.entries)
      ∙ ap (λ (l : List ExceptionEntry). map (own_entry g blocks start b.labels) b.entries ++ l) (own_from_same (start + length b.insns) others (omega arith) are.1)

  old_entry_same : (e : CodeEntry) → old_entry f blocks e ≡ old_entry g blocks e
  old_entry_same e = entry_is _ _ _ _ _ _ e.catch_type (old_same e.start) (old_same e.end) (old_same e.handler)

  pub entries_same : (entries : List CodeEntry) → AllByRecursion (IsBlock (length blocks)) blocks → entries_of f blocks entries ≡ entries_of g blocks entries
  entries_same entries are =
      ap (λ (l : List ExceptionEntry). l ++ map (old_entry f blocks) entries) (own_from_same 0 blocks (omega arith) are)
      ∙ ap (λ (l : List ExceptionEntry). own_entries_from g blocks 0 blocks ++ l) (map_same (old_entry f blocks) (old_entry g blocks) entries old_entry_same)

  line_same : (row : Line) → line_row f blocks row ≡ line_row g blocks row
  line_same row = ap (λ (n : ℕ). let r : LineRow = record { start = n; line = row.line } in r) (old_same row.start)

  variable_same : (row : Variable) → variable_row f blocks row ≡ variable_row g blocks row
  variable_same row =
      ap (λ (n : ℕ). let r : VariableRow = record { start = n; length = old_place f blocks row.end - n; name = row.name; descriptor = row.descriptor; index = row.index } in r) (old_same row.start)
      ∙ ap (λ (n : ℕ). let r : VariableRow = record { start = old_place g blocks row.start; length = n - old_place g blocks row.start; name = row.name; descriptor = row.descriptor; index = row.index } in r) (old_same row.end)

  line_table_same : (t : LineTable) → line_attribute f blocks t ≡ line_attribute g blocks t
  line_table_same t = ap (λ (l : List LineRow). let a : CodeAttribute = record { name = t.name; content = content.LineNumberTable l } in a) (map_same (line_row f blocks) (line_row g blocks) t.rows line_same)

  variable_table_same : (t : VariableTable) → variable_attribute f blocks t ≡ variable_attribute g blocks t
  variable_table_same t =
      ap (λ (l : List VariableRow). let a : CodeAttribute = record { name = t.name; content = cond t.generic (content.LocalVariableTypeTable l) (content.LocalVariableTable l) } in a)
      (map_same (variable_row f blocks) (variable_row g blocks) t.rows variable_same)

  pub attributes_same : (lines : List LineTable) (variables : List VariableTable) → attributes_of f blocks lines variables ≡ attributes_of g blocks lines variables
  attributes_same lines variables =
      ap (λ (l : List CodeAttribute). l ++ map (variable_attribute f blocks) variables) (map_same (line_attribute f blocks) (line_attribute g blocks) lines line_table_same)
      ∙ ap (λ (l : List CodeAttribute). map (line_attribute g blocks) lines ++ l) (map_same (variable_attribute f blocks) (variable_attribute g blocks) variables variable_table_same)
