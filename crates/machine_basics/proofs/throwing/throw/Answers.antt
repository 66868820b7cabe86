use Rattle.std.proofs.Common.{subst}
use Rattle.machine_basics.proofs.Thrown.{Tells, no_throwable, throwable}
use Rattle.machine_basics.proofs.Restored.{if_ok}
use Rattle.machine_basics.proofs.throwing.throw.Goals as goal

pub returns-then-not-is_throwable-clause-moves : goal.returns-then-not-is_throwable-clause-moves
returns-then-not-is_throwable-clause-moves c =
    no_throwable c.args.world.now c.args.state.now c.args.state.now c.args.x (subst (Tells c.args.world.now c.args.state.now c.args.x) c.if-not-is_throwable.true c.is_throwable.ensures.below)

pub returns-clause-moves : goal.returns-clause-moves
returns-clause-moves c =
    if_ok _ _ c.raise.result
    (λ step moves. throwable c.args.world.now c.args.state.now c.raise.new.state c.args.x step (subst (Tells c.args.world.now c.args.state.now c.args.x) c.if-not-is_throwable.false c.is_throwable.ensures.below) moves)
    c.raise.ensures.moves
