use Rattle.std.proofs.Common.{◌∙◌, arith}
use Rattle.std.specs.Int.{w32}
use Rattle.std.proofs.lemmas.Int.{to_z-of_z}
use Rattle.opcode_table.specs.Decoding.{pair_count, pair_offset}
use Rattle.class_rules.proofs.Numbered.{leads_further, leads_astray, leads_whole}
use Rattle.class_rules.proofs.targets.pairs_lead_well.Goals as goal

pub returns-then-not-is_start_from : goal.returns-then-not-is_start_from
returns-then-not-is_start_from c = λ insns marked.
    leads_astray insns c.args.pc (pair_offset c.args.code.now c.args.table) c.loop-i.i _ c.is_start_from.result (to_z-of_z w32 c.pair_offset.result (record { sfits = c.pair_offset.type_inv }) ∙ c.pair_offset.ensures) (c.is_start_from.ensures insns marked)
    (pair_count c.args.code.now c.args.table) (omega arith) c.if-not-is_start_from.true

pub loop-i-preserved : goal.loop-i-preserved
loop-i-preserved c = λ insns marked.
    leads_further insns c.args.pc (pair_offset c.args.code.now c.args.table) c.loop-i.i _ c.is_start_from.result (to_z-of_z w32 c.pair_offset.result (record { sfits = c.pair_offset.type_inv }) ∙ c.pair_offset.ensures) (c.is_start_from.ensures insns marked)
    c.if-not-is_start_from.false (c.loop-i.invariant insns marked)

pub returns : goal.returns
returns c = λ insns marked. leads_whole insns c.args.pc (pair_offset c.args.code.now c.args.table) c.loop-i.i (pair_count c.args.code.now c.args.table) (omega arith) (c.loop-i.invariant insns marked)
