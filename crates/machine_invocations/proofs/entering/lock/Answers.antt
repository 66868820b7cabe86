use Rattle.std.proofs.Common.{◌≡◌, refl, sym, ◌∙◌, subst, length}
use Rattle.std.specs.Prelude.{nat_lt, true}
use Rattle.std.proofs.lemmas.Bool.{lt-ltb}
use Rattle.class_machine.specs.World.{enter_monitor}
use Rattle.machine_values.specs.Standing.{name_of}
use Rattle.machine_requests.specs.Monitors.{with_monitors}
use Rattle.machine_requests.specs.Replies.{IsLonger}
use Rattle.machine_requests.proofs.NewArrays.{longer_same}
use Rattle.machine_invocations.proofs.Begun.{on_err}
use Rattle.machine_invocations.proofs.Forgotten.{forgotten, locks_nothing}
use Rattle.machine_invocations.proofs.Locked.{seen_there, distinct_in, unlocked, locked, entered_shares}
use Rattle.machine_invocations.proofs.entering.lock.Goals as goal

pub returns-then-not-is_synchronized-clause-ok : goal.returns-then-not-is_synchronized-clause-ok
returns-then-not-is_synchronized-clause-ok c callee sees =
    unlocked c.args.world.now c.args.heap.now c.args.monitors.now callee c.args.receiver (sym (c.is_synchronized.ensures callee sees) ∙ c.if-not-is_synchronized.true)

pub returns-in_err-at-clause-err : goal.returns-in_err-at-clause-err
returns-in_err-at-clause-err c = on_err c.from_residual.result (locks_nothing c.args.world.now c.args.heap.now c.args.monitors.now c.locked_object.new.heap c.args.monitors.now c.in_err-at.ensures.err refl)

pub returns-in-Err-clause-names : goal.returns-in-Err-clause-names
returns-in-Err-clause-names c =
    subst (IsLonger c.args.heap.now) (sym (forgotten c.args.heap.now c.locked_object.new.heap c.truncate.new.self c.count-count.result c.locked_object.ensures.adds c.count-count.ensures.count c.count-count.ensures.contents c.truncate.ensures.names c.truncate.ensures.contents))
    (longer_same c.args.heap.now)

pub returns-in-Err-clause-err : goal.returns-in-Err-clause-err
returns-in-Err-clause-err c =
    let heap = forgotten c.args.heap.now c.locked_object.new.heap c.truncate.new.self c.count-count.result c.locked_object.ensures.adds c.count-count.ensures.count c.count-count.ensures.contents c.truncate.ensures.names c.truncate.ensures.contents in
    locks_nothing c.args.world.now c.args.heap.now c.args.monitors.now c.truncate.new.self c.enter_monitor.new.monitors heap c.in-Err.ensures.same

pub returns-in-Err-clause-heap : goal.returns-in-Err-clause-heap
returns-in-Err-clause-heap c =
    forgotten c.args.heap.now c.locked_object.new.heap c.truncate.new.self c.count-count.result c.locked_object.ensures.adds c.count-count.ensures.count c.count-count.ensures.contents c.truncate.ensures.names c.truncate.ensures.contents

pub returns-in-Err-clause-monitors : goal.returns-in-Err-clause-monitors
returns-in-Err-clause-monitors c = c.in-Err.ensures.same

pub returns-in-Ok-clause-ok : goal.returns-in-Ok-clause-ok
returns-in-Ok-clause-ok c callee sees =
    let k = c.args.world.now in
    let heap = c.locked_object.new.heap in
    let within : nat_lt c.in_ok-at.at.0 (length heap.names) ≡ true = lt-ltb c.in_ok-at.at.0 (length heap.names) c.in_ok-at.ensures.within in
    locked k c.args.heap.now heap c.args.monitors.now c.enter_monitor.new.monitors callee c.args.receiver c.in_ok-at.at (sym (c.is_synchronized.ensures callee sees) ∙ c.if-not-is_synchronized.false) within (c.in_ok-at.ensures.ok callee sees)
    (λ m others w is same shares.
    entered_shares m.setting heap (with_monitors others c.enter_monitor.new.monitors) w (enter_monitor w (name_of m.setting.heads heap.names c.in_ok-at.at)) c.in-Ok._entered
    (c.in-Ok.ensures.ok heap others same within m.setting w (distinct_in k m is) shares))
