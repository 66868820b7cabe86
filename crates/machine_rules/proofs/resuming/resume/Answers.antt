use Rattle.std.proofs.Common.{sym, ◌∙◌}
use Rattle.std.proofs.lemmas.Result.{IfOk-weaker}
use Rattle.class_machine.specs.LibraryCalls as calls
use Rattle.machine_values.specs.Standing.{held}
use Rattle.machine_rules.specs.Waiting.{wait_of}
use Rattle.machine_rules.specs.declared.work.Work.TheVariants.{Misuses}
use Rattle.machine_rules.proofs.Resumed.{resumed_string, resumed_null, resumed_object, resumed_other}
use Rattle.machine_rules.proofs.RuledWork.{anywhere}
use Rattle.machine_rules.proofs.resuming.resume.Goals as goal

pub returns-in-Null-clause-work : goal.returns-in-Null-clause-work
returns-in-Null-clause-work c =
    let k = c.args.world.now in
    let things = c.args.heap.now in
    IfOk-weaker c.finish_wait.result _ _ (λ work done. anywhere k things (λ s ns w. calls.resume (wait_of s ns c.args.wait.now) (held s.heads ns c.args.value) w) c.finish_wait.new.heap work (resumed_null k things c.args.wait.now c.args.value c.finish_wait.new.heap work c.in-Null.is done)) c.finish_wait.ensures.work

pub returns-then-is_string-clause-work : goal.returns-then-is_string-clause-work
returns-then-is_string-clause-work c =
    let k = c.args.world.now in
    let things = c.args.heap.now in
    IfOk-weaker c.finish_wait-then-is_string.result _ _ (λ work done.
    anywhere k things (λ s ns w. calls.resume (wait_of s ns c.args.wait.now) (held s.heads ns c.args.value) w) c.finish_wait-then-is_string.new.heap work
    (resumed_string k things c.args.wait.now c.args.value c.in-Reference.at c.finish_wait-then-is_string.new.heap work c.in-Reference.is c.requires.value (sym c.is_string.ensures ∙ c.if-is_string.true) done))
    c.finish_wait-then-is_string.ensures.work

pub returns-else-is_string-clause-work : goal.returns-else-is_string-clause-work
returns-else-is_string-clause-work c =
    let k = c.args.world.now in
    let things = c.args.heap.now in
    anywhere k things (λ s ns w. calls.resume (wait_of s ns c.args.wait.now) (held s.heads ns c.args.value) w) things Misuses (resumed_object k things c.args.wait.now c.args.value c.in-Reference.at c.in-Reference.is (sym c.is_string.ensures ∙ c.if-is_string.false))

pub returns-in_default-clause-work : goal.returns-in_default-clause-work
returns-in_default-clause-work c =
    let k = c.args.world.now in
    let things = c.args.heap.now in
    anywhere k things (λ s ns w. calls.resume (wait_of s ns c.args.wait.now) (held s.heads ns c.args.value) w) things Misuses (resumed_other k things c.args.wait.now c.args.value c.requires.value c.in_default.not-Null c.in_default.not-Reference)
