use Rattle.std.proofs.Common.{◌+◌, sym, ◌∙◌, subst, arith}
use Rattle.machine_invocations.proofs.Marking.{Marks, AreMarked, marks_first, marks_next, marks_top, marks_end, has_marked}
use Rattle.machine_invocations.proofs.initialisers.mark.Goals as goal
use Rattle.machine_invocations.proofs.initialisers.mark.Goals.{In-None}

pub upward-init : goal.upward-init
upward-init c = marks_first c.args.world.now c.requires.runnable.program.different c.args.begun.now c.args.class.0 c.requires.class c.requires.begun

pub set-requires : goal.set-requires
set-requires c = let len = c.upward.invariant.len in let within = c.upward.invariant.within in omega arith

pub upward-preserved : goal.upward-preserved
upward-preserved c =
    let k = c.args.world.now in
    subst (Marks k c.args.begun.now c.args.class.0 (c.upward._turn + 1) c.in-Some.above.0) (sym c.set.ensures)
    (marks_next k c.requires.runnable.program.different c.args.begun.now c.args.class.0 c.upward._turn c.upward.at.0 c.upward.begun c.upward.invariant (omega arith) c.in-Some.above.0 c.in-Some.ensures.within c.in-Some.ensures.next)

top : (c : In-None) → AreMarked c.args.world.now c.args.begun.now c.args.class.0 c.set.new.self
top c =
    let k = c.args.world.now in
    subst (AreMarked k c.args.begun.now c.args.class.0) (sym c.set.ensures)
    (marks_top k c.requires.runnable.program.different c.args.begun.now c.args.class.0 c.upward._turn c.upward.at.0 c.upward.begun c.upward.invariant (omega arith) c.in-None.ensures.next)

pub returns-in-None-clause-len : goal.returns-in-None-clause-len
returns-in-None-clause-len c = (top c).len ∙ sym c.requires.begun

pub returns-in-None-clause-marked : goal.returns-in-None-clause-marked
returns-in-None-clause-marked c others has = has_marked c.args.world.now c.requires.runnable.program.different c.args.begun.now c.args.class.0 c.set.new.self others (top c) has

pub returns-clause-len : goal.returns-clause-len
returns-clause-len c = c.upward.invariant.len ∙ sym c.requires.begun

pub returns-clause-marked : goal.returns-clause-marked
returns-clause-marked c others has =
    let k = c.args.world.now in
    has_marked k c.requires.runnable.program.different c.args.begun.now c.args.class.0 c.upward.begun others
    (marks_end k c.requires.runnable.program.different c.args.begun.now c.args.class.0 c.upward._turn c.upward.at.0 c.upward.begun c.upward.invariant (omega arith)) has
