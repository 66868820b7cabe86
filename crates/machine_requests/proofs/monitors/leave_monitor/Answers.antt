use Rattle.std.proofs.Common.{◌≡◌, ◌+◌, length, slice_index, ℕ, ◌-◌, List, slice_set, sym, ◌∙◌, ap, subst, arith}
use Rattle.std.specs.Prelude.{Option, Some}
use Rattle.class_machine.specs.Effect.{LeaveMonitor}
use Rattle.machine_values.specs.declared.values.Ref.{Ref}
use Rattle.machine_values.specs.States.{is_known_object}
use Rattle.machine_requests.specs.declared.reply.Reply.TheVariants.{Done}
use Rattle.machine_requests.specs.Monitors.{with_monitors}
use Rattle.machine_requests.specs.Replies.{IsAnswer, object}
use Rattle.machine_requests.proofs.Counts.{left_once}
use Rattle.machine_requests.proofs.monitors.leave_monitor.Goals as goal

pub returns : goal.returns
returns c things others same known =
    let at = c.in-Some.at in
    let count = c.count_of-count.result - 1 in
    let some : slice_index others.monitors at.0 ≡ count + 1 = ap (λ (l : List ℕ). slice_index l at.0) same ∙ sym c.count_of-count.ensures ∙ omega (arith, c.if-count-eq0.false) in
    let answer = left_once things others at count (sym (ap (is_known_object (length things.names)) c.in-Some.is) ∙ known) (some ∙ omega arith) in
    subst (λ (a : Option Ref). IsAnswer things others (λ s names. LeaveMonitor (object s names a)) things (with_monitors others c.set.new.self) Done) (sym c.in-Some.is)
    (subst (λ (ms : List ℕ). IsAnswer things others (λ s names. LeaveMonitor (object s names (Some at))) things (with_monitors others ms) Done)
    (ap (λ (l : List ℕ). slice_set l at.0 count) same ∙ sym c.set.ensures) answer)
