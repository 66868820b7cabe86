use Rattle.std.proofs.lemmas.Result.{IfOk-weaker}
use Rattle.machine_rules.proofs.RuledWork.{whole_still}
use Rattle.machine_rules.proofs.ruling.with_arguments.Goals as goal

pub returns-in-Substring-clause-filled : goal.returns-in-Substring-clause-filled
returns-in-Substring-clause-filled c =
    IfOk-weaker c.part_of.result _ _ (λ work fills. whole_still c.args.world.now c.args.heap.now c.part_of.new.heap c.requires.library fills) c.part_of.ensures.filled
