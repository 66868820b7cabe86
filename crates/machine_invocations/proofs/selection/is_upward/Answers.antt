use Rattle.std.proofs.Common.{sym, ◌∙◌, arith}
use Rattle.machine_invocations.proofs.Upward.{look_goes_on}
use Rattle.machine_invocations.proofs.selection.is_upward.Goals as goal

pub upward-preserved : goal.upward-preserved
upward-preserved c =
    look_goes_on c.args.world.now.heads c.args.name.now c.args.from.0 c.upward._turn c.upward.at.0 c.upward.invariant c.in-Some.above.0 (omega arith) c.in-Some.ensures.within (sym c.is_named.ensures ∙ c.if-is_named.false) c.in-Some.ensures.next
