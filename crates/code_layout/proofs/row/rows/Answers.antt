use Rattle.std.proofs.Common.{◌≡◌, ◌∙◌, arith, sym, ap, ℕ, length, refl}
use Rattle.code_layout.proofs.Starts.{start_within, start_all, blocks_first, blocks_more, no_keys}
use Rattle.std.specs.Prelude.{◌<◌, get_or}
use Rattle.code_layout.specs.Blocks.{start_of, row_count}
use Rattle.code_layout.proofs.row.rows.Goals as goal

pub loop-i-init : goal.loop-i-init
loop-i-init c = (no_keys c.new-all.result.items c.new-all.ensures.items, blocks_first c.args.blocks.now c.new-all.result.items c.new-all.ensures.items)

pub add_rows-requires-clause-small : goal.add_rows-requires-clause-small
add_rows-requires-clause-small c =
    let within = start_within c.args.blocks.now c.loop-i.i c.index-blocks-i.result (omega arith) (sym c.index-blocks-i.is) in
    let here = c.requires.starts.each c.loop-i.i (omega arith) in
    let last = c.requires.starts.each (length c.args.blocks.now) (omega arith) ∙ start_all c.args.blocks.now (length c.args.blocks.now) (omega arith) in
    let fits = (c.type_inv.starts (length c.args.blocks.now)).fits in
    omega arith

pub loop-i-preserved : goal.loop-i-preserved
loop-i-preserved c =
    (c.in_ok-add_rows.ensures.fit, blocks_more c.args.blocks.now c.loop-i.i _ c.index-blocks-i.result c.loop-i.all.items _ _ (omega arith) c.index-blocks-i.is (c.requires.starts.each c.loop-i.i (omega arith)) c.in_ok-add_rows.ensures.rows c.loop-i.invariant.1)
