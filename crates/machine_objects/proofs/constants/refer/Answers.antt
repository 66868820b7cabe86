use Rattle.machine_objects.proofs.ConstantMoves.{refer_moves}
use Rattle.machine_objects.proofs.constants.refer.Goals as goal

pub returns-clause-moves : goal.returns-clause-moves
returns-clause-moves c =
    refer_moves c.args.world.now c.requires.runnable c.args.state.now c.args.units.now c.literal.new.heap c.in_ok-at.at c.in_ok-at.ensures.ok c.literal.ensures.names c.in_ok-at.ensures.filled
    c.give_next.new.state c.give_next.result c.give_next.ensures.moves
