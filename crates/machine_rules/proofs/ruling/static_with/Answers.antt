use Rattle.std.proofs.lemmas.Result.{IfOk-weaker}
use Rattle.machine_rules.proofs.RuledWork.{whole_still, unchanged}
use Rattle.machine_rules.proofs.ruling.static_with.Goals as goal

pub returns-in-ValueOf-clause-filled : goal.returns-in-ValueOf-clause-filled
returns-in-ValueOf-clause-filled c =
    IfOk-weaker c.value_of.result _ _ (λ work fills. whole_still c.args.world.now c.args.heap.now c.value_of.new.heap c.requires.library fills) c.value_of.ensures.filled

pub returns-in-Exit-clause-changes : goal.returns-in-Exit-clause-changes
returns-in-Exit-clause-changes c = unchanged c.args.heap.now c.exit.result

pub returns-in-HashOf-clause-changes : goal.returns-in-HashOf-clause-changes
returns-in-HashOf-clause-changes c = unchanged c.args.heap.now c.hash_of.result
