use Rattle.std.proofs.Common.{sym, ◌∙◌, arith}
use Rattle.machine_fields.proofs.TypeParts.{arrays_less, arrays_more, arrays_same}
use Rattle.machine_fields.proofs.types.is_below.Goals as goal

pub returns-then-low-high : goal.returns-then-low-high
returns-then-low-high c distinct = sym (arrays_less c.args.world.now.heads c.args.low.dims c.args.high.dims c.args.low.base c.args.high.base c.if-low-high.true)

pub returns-then-high-low : goal.returns-then-high-low
returns-then-high-low c distinct = c.takes_arrays.ensures ∙ sym (arrays_more c.args.world.now.heads c.args.low.dims c.args.high.dims c.args.low.base c.args.high.base c.if-high-low.true)

pub returns : goal.returns
returns c distinct = c.is_base_below.ensures distinct ∙ sym (arrays_same c.args.world.now.heads c.args.low.dims c.args.high.dims c.args.low.base c.args.high.base (omega arith))
