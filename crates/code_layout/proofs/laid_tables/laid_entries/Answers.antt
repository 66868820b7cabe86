use Rattle.std.proofs.Common.{◌∙◌, arith, sym, length}
use Rattle.code_layout.specs.Spelled.{place_in}
use Rattle.code_layout.proofs.Starts.{start_within, start_all, own_first, own_entries_more}
use Rattle.code_layout.proofs.laid_tables.laid_entries.Goals as goal

pub loop-i-init : goal.loop-i-init
loop-i-init c = own_first (place_in c.args.places.now) c.args.blocks.now c.new-laid.result.items c.new-laid.ensures.items

pub add_own-requires-clause-few : goal.add_own-requires-clause-few
add_own-requires-clause-few c =
    let last = c.requires.starts.each (length c.args.blocks.now) (omega arith) ∙ start_all c.args.blocks.now (length c.args.blocks.now) (omega arith) in
    let fits = (c.type_inv.starts (length c.args.blocks.now)).fits in
    omega arith

pub add_own-requires-clause-there : goal.add_own-requires-clause-there
add_own-requires-clause-there c =
    let within = start_within c.args.blocks.now c.loop-i.i c.index-blocks-i.result (omega arith) (sym c.index-blocks-i.is) in
    let here = c.requires.starts.each c.loop-i.i (omega arith) in
    omega arith

pub loop-i-preserved : goal.loop-i-preserved
loop-i-preserved c =
    own_entries_more (place_in c.args.places.now) c.args.blocks.now c.loop-i.i _ c.index-blocks-i.result c.loop-i.laid.items _ _ (omega arith) c.index-blocks-i.is (c.requires.starts.each c.loop-i.i (omega arith)) c.in_ok-add_own.ensures c.loop-i.invariant
