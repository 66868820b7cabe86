use Rattle.std.proofs.Common.{ℕ, ◌<◌, ◌≤◌, sym, ap, ◌∙◌, subst, Some, rules}
use Rattle.std.specs.Int.{w32}
use Rattle.std.specs.Prelude.{FitsSigned}
use Rattle.std.proofs.lemmas.Int.{to_z-of_z}
use Rattle.opcode_table.specs.Decoding.{table_count, table_offset}
use Rattle.machine_code.proofs.Numbered.{get_numbered, get_numbered_past}
use Rattle.machine_code.proofs.targets.range_offset.Goals as goal

pub returns-then-i-table_count : goal.returns-then-i-table_count
returns-then-i-table_count c =
    let within = subst (λ (n : ℕ). c.args.i < n) c.table_count.ensures c.if-i-table_count.true in
    let fits : FitsSigned w32 c.table_offset.result = search rules in
    ap Some (to_z-of_z w32 c.table_offset.result fits ∙ c.table_offset.ensures)
    ∙ sym (get_numbered (table_count c.args.code.now c.args.table) (table_offset c.args.code.now c.args.table) c.args.i within)

pub returns-else-i-table_count : goal.returns-else-i-table_count
returns-else-i-table_count c =
    let past = subst (λ (n : ℕ). n ≤ c.args.i) c.table_count.ensures c.if-i-table_count.false in
    sym (get_numbered_past (table_count c.args.code.now c.args.table) (table_offset c.args.code.now c.args.table) c.args.i past)
