use Rattle.std.proofs.Common.{ℕ, ◌<◌, ◌≤◌, sym, ap, ◌∙◌, subst, Some, rules}
use Rattle.std.specs.Int.{w32}
use Rattle.std.specs.Prelude.{FitsSigned}
use Rattle.std.proofs.lemmas.Int.{to_z-of_z}
use Rattle.opcode_table.specs.Decoding.{pair_count, pair_offset}
use Rattle.machine_code.proofs.Numbered.{get_numbered, get_numbered_past}
use Rattle.machine_code.proofs.targets.pairs_offset.Goals as goal

pub returns-then-i-pair_count : goal.returns-then-i-pair_count
returns-then-i-pair_count c =
    let within = subst (λ (n : ℕ). c.args.i < n) c.pair_count.ensures c.if-i-pair_count.true in
    let fits : FitsSigned w32 c.pair_offset.result = search rules in
    ap Some (to_z-of_z w32 c.pair_offset.result fits ∙ c.pair_offset.ensures)
    ∙ sym (get_numbered (pair_count c.args.code.now c.args.table) (pair_offset c.args.code.now c.args.table) c.args.i within)

pub returns-else-i-pair_count : goal.returns-else-i-pair_count
returns-else-i-pair_count c =
    let past = subst (λ (n : ℕ). n ≤ c.args.i) c.pair_count.ensures c.if-i-pair_count.false in
    sym (get_numbered_past (pair_count c.args.code.now c.args.table) (pair_offset c.args.code.now c.args.table) c.args.i past)
