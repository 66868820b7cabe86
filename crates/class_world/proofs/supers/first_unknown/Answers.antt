use Rattle.std.proofs.Common.{sym, ◌∙◌}
use Rattle.class_world.specs.Tables.{is_unknown}
use Rattle.class_world.proofs.Named.{found_here, found_later}
use Rattle.class_world.proofs.supers.first_unknown.Goals as goal

pub returns-then-is_unknown : goal.returns-then-is_unknown
returns-then-is_unknown c =
    found_here (is_unknown c.args.names.now) c.args.wanted.now c.loop-name.name-index c.name-item.result c.loop-name-test.true c.name-item.is c.loop-name.invariant (sym c.is_unknown.ensures ∙ c.if-is_unknown.true)

pub loop-name-preserved : goal.loop-name-preserved
loop-name-preserved c =
    found_later (is_unknown c.args.names.now) c.args.wanted.now c.loop-name.name-index c.name-item.result c.loop-name-test.true c.name-item.is c.loop-name.invariant (sym c.is_unknown.ensures ∙ c.if-is_unknown.false)
