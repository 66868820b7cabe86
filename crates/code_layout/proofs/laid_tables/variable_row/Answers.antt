use Rattle.std.proofs.Common.{arith}
use Rattle.code_layout.specs.Blocks.{start_of}
use Rattle.code_layout.proofs.Starts.{start_rises, start_below}
use Rattle.code_layout.proofs.laid_tables.variable_row.Goals as goal

pub overflow_sub-result : goal.overflow_sub-result
overflow_sub-result c =
    let blocks = c.args.blocks.now in
    let row = c.args.row.now in
    let rise = c.requires.places.rise (start_of blocks row.start) (start_of blocks row.end) (start_rises blocks row.start row.end c.requires.is.order) (start_below blocks row.end) in
    omega (arith, rise, c.old_place-start.ensures, c.old_place-end.ensures)
