use Rattle.std.specs.Prelude.{◌≡◌, true, false}
use Rattle.std.proofs.Common.{sym, ◌∙◌, arith}
use Rattle.machine_invokes.proofs.Climbing.{climbs_first, climbs_next, climbs_top, climbs_end}
use Rattle.machine_invokes.proofs.begun.have_begun.Goals as goal

pub upward-init : goal.upward-init
upward-init c = climbs_first c.args.world.now c.args.begun.now c.args.class.0 c.requires.class

pub upward-preserved : goal.upward-preserved
upward-preserved c =
    climbs_next c.args.world.now c.args.begun.now c.args.class.0 c.upward._turn c.upward.at.0 c.upward.invariant c.in-Some.above.0 (omega arith) (sym c.has_begun.ensures ∙ c.if-not-has_begun.false) c.in-Some.ensures.within c.in-Some.ensures.next

pub returns-then-not-has_begun : goal.returns-then-not-has_begun
returns-then-not-has_begun c isnt = absurd (let e : false ≡ true = isnt in cc)

pub returns-in-None : goal.returns-in-None
returns-in-None c is =
    climbs_top c.args.world.now c.args.begun.now c.args.class.0 c.upward._turn c.upward.at.0 c.upward.invariant (omega arith) (sym c.has_begun.ensures ∙ c.if-not-has_begun.false) c.in-None.ensures.next

pub returns : goal.returns
returns c is = climbs_end c.args.world.now c.args.begun.now c.args.class.0 c.upward._turn c.upward.at.0 c.upward.invariant (omega arith)
