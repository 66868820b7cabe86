use Rattle.std.proofs.Common.{sym, ◌∙◌}
use Rattle.machine_rules.proofs.ExceptionWork.{message_misused, message_set}
use Rattle.machine_rules.proofs.exceptions.set_message.Goals as goal

pub returns-then-not-is_text-clause-work : goal.returns-then-not-is_text-clause-work
returns-then-not-is_text-clause-work c =
    message_misused c.args.world.now c.args.heap.now c.args.at c.args.text c.requires.text (sym c.is_text.ensures ∙ c.if-not-is_text.true)

pub returns-clause-work : goal.returns-clause-work
returns-clause-work c =
    message_set c.args.world.now c.args.heap.now c.args.at c.args.text c.requires.text c.write_reference.new.heap (sym c.is_text.ensures ∙ c.if-not-is_text.false) c.write_reference.ensures.written
