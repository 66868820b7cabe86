use Rattle.std.specs.Prelude.{Some}
use Rattle.class_machine.specs.LibraryCalls as calls
use Rattle.machine_values.specs.Standing.{held}
use Rattle.machine_rules.specs.Waiting.{wait_of}
use Rattle.std.proofs.lemmas.Result.{IfOk-weaker}
use Rattle.machine_rules.proofs.Asked.{message_resumed, waiting}
use Rattle.machine_rules.proofs.RuledWork.{somewhere}
use Rattle.machine_rules.proofs.asking.message_ruled.Goals as goal

pub returns-in-Message-clause-work : goal.returns-in-Message-clause-work
returns-in-Message-clause-work c =
    IfOk-weaker c.resume.result _ _ (λ work done.
    message_resumed c.args.world.now c.args.heap.now c.args.x c.args.to c.message-value.result c.args.rule c.resume.new.heap work c.in-Message.is c.message-value.ensures.reads (somewhere c.args.world.now c.args.heap.now (λ s ns w. calls.resume (wait_of s ns (waiting (Some c.args.x) c.args.to)) (held s.heads ns c.message-value.result) w) c.resume.new.heap work done))
    c.resume.ensures.work
