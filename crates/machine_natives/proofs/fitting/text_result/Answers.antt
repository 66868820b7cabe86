use Rattle.std.proofs.Common.{sym, ◌∙◌}
use Rattle.machine_natives.proofs.Fits.{text_lacks, text_comes}
use Rattle.machine_natives.proofs.fitting.text_result.Goals as goal

pub returns-then-not-branch-clause-comes : goal.returns-then-not-branch-clause-comes
returns-then-not-branch-clause-comes c = text_lacks c.args.world.now c.args.heap.now c.args.descriptor.now c.args.units.now (sym c.if-not-branch.true ∙ c.in_ok-takes_text.ensures)

pub returns-clause-comes : goal.returns-clause-comes
returns-clause-comes c = text_comes c.args.world.now c.args.heap.now c.make_string.new.heap c.args.descriptor.now c.args.units.now c.in_ok-at.at (sym c.if-not-branch.false ∙ c.in_ok-takes_text.ensures) c.in_ok-at.ensures.within c.in_ok-at.ensures.made
