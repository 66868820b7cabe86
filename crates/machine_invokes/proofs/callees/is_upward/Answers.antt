use Rattle.std.specs.Str.{bytes_eq}
use Rattle.std.proofs.Common.{sym, ◌∙◌, ap, arith}
use Rattle.machine_invokes.proofs.Rising.{rises_first, rises_found, rises_next, rises_top, rises_end}
use Rattle.machine_invokes.proofs.callees.is_upward.Goals as goal

pub upward-init : goal.upward-init
upward-init c = rises_first c.args.world.now.heads c.args.name.now c.args.class.0 c.requires

pub returns-then-are_same : goal.returns-then-are_same
returns-then-are_same c =
    rises_found c.args.world.now.heads c.args.name.now c.args.class.0 c.upward._turn c.upward.at.0 c.upward.invariant (omega arith)
    (ap (bytes_eq c.args.name.now) (sym c.class_name.ensures) ∙ sym c.are_same.ensures ∙ c.if-are_same.true)

pub upward-preserved : goal.upward-preserved
upward-preserved c =
    rises_next c.args.world.now.heads c.args.name.now c.args.class.0 c.upward._turn c.upward.at.0 c.upward.invariant c.in-Some.above.0 (omega arith) c.in-Some.ensures.within
    (ap (bytes_eq c.args.name.now) (sym c.class_name.ensures) ∙ sym c.are_same.ensures ∙ c.if-are_same.false) c.in-Some.ensures.next

pub returns-in-None : goal.returns-in-None
returns-in-None c =
    rises_top c.args.world.now.heads c.args.name.now c.args.class.0 c.upward._turn c.upward.at.0 c.upward.invariant (omega arith)
    (ap (bytes_eq c.args.name.now) (sym c.class_name.ensures) ∙ sym c.are_same.ensures ∙ c.if-are_same.false) c.in-None.ensures.next

pub returns : goal.returns
returns c = rises_end c.args.world.now.heads c.args.name.now c.args.class.0 c.upward._turn c.upward.at.0 c.upward.invariant (omega arith)
