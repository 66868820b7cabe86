use Rattle.std.proofs.Common.{sym, ◌∙◌, Bool, subst}
use Rattle.machine_rules.specs.Exceptions.{TellsCause}
use Rattle.machine_rules.proofs.ExceptionWork.{both_set}
use Rattle.machine_rules.proofs.exceptions.set_message_and_cause.Goals as goal

pub returns-clause-work : goal.returns-clause-work
returns-clause-work c =
    let k = c.args.world.now in
    let things = c.args.heap.now in
    both_set k things c.args.at c.args.text c.requires.text c.args.cause c.write_reference.new.heap c.write_reference-2.new.heap (sym c.is_text.ensures ∙ c.if-not-is_text.false)
    (subst (λ (b : Bool). TellsCause k things c.args.cause b) c.if-not-is_cause.false c.is_cause.ensures)
    c.write_reference.ensures.written c.write_reference.ensures.names c.write_reference-2.ensures.written
