use Rattle.std.proofs.Common.{sym, subst, arith}
use Rattle.machine_invocations.proofs.Initialised.{Pends, pends_first, pends_next, pends_top, pends_end}
use Rattle.machine_invocations.proofs.initialisers.pending.Goals as goal

pub upward-init : goal.upward-init
upward-init c =
    subst (Pends c.args.world.now c.args.begun.now c.args.class.0 0 c.args.class.0) (sym c.new-frames.ensures.items) (pends_first c.args.world.now c.args.begun.now c.args.class.0 c.requires.class)

pub upward-preserved : goal.upward-preserved
upward-preserved c =
    pends_next c.args.world.now c.args.begun.now c.args.class.0 c.upward._turn c.upward.at.0 c.upward.frames.items c.add_pending.new.frames.items c.upward.invariant c.in_ok-add_pending.ensures (omega arith)
    c.in-Some.above.0 c.in-Some.ensures.within c.in-Some.ensures.next

pub returns-in-None : goal.returns-in-None
returns-in-None c =
    pends_top c.args.world.now c.args.begun.now c.args.class.0 c.upward._turn c.upward.at.0 c.upward.frames.items c.add_pending.new.frames.items c.upward.invariant c.in_ok-add_pending.ensures (omega arith) c.in-None.ensures.next

pub returns : goal.returns
returns c = pends_end c.args.world.now c.args.begun.now c.args.class.0 c.upward._turn c.upward.at.0 c.upward.frames.items c.upward.invariant (omega arith)
