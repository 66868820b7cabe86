use Rattle.std.proofs.Common.{◌+◌, length, slice_index, ℕ, List, slice_set, sym, ◌∙◌, ap, subst, arith}
use Rattle.std.specs.Prelude.{Option, Some}
use Rattle.class_machine.specs.Effect.{EnterMonitor}
use Rattle.machine_values.specs.declared.values.Ref.{Ref}
use Rattle.machine_values.specs.States.{is_known_object}
use Rattle.machine_requests.specs.declared.reply.Reply.TheVariants.{Done}
use Rattle.machine_requests.specs.Monitors.{HasSameCounts, with_monitors}
use Rattle.machine_requests.specs.Replies.{IsAnswer, object}
use Rattle.machine_requests.proofs.Counts.{entered_once, still_reached, on_err}
use Rattle.machine_requests.proofs.monitors.enter_monitor.Goals as goal

pub returns-clause-ok : goal.returns-clause-ok
returns-clause-ok c things others same known =
    let at = c.in-Some.at in
    let mid = c.reach.new.monitors in
    let counts : HasSameCounts others.monitors mid = λ n. c.in_ok-reach.ensures.counts n ∙ sym (ap (λ (l : List ℕ). slice_index l n) same) in
    let answer = entered_once things others at mid (sym (ap (is_known_object (length things.names)) c.in-Some.is) ∙ known) counts c.in_ok-reach.ensures.reached (omega (arith, c.in_ok-reach.ensures.within, ap length same)) in
    subst (λ (a : Option Ref). IsAnswer things others (λ s names. EnterMonitor (object s names a)) things (with_monitors others c.set.new.self) Done) (sym c.in-Some.is)
    (subst (λ (ms : List ℕ). IsAnswer things others (λ s names. EnterMonitor (object s names (Some at))) things (with_monitors others ms) Done)
    (ap (λ (n : ℕ). slice_set mid at.0 (n + 1)) (ap (λ (l : List ℕ). slice_index l at.0) same ∙ sym c.count_of-count.ensures) ∙ sym c.set.ensures) answer)

pub returns-in_err-reach-clause-err : goal.returns-in_err-reach-clause-err
returns-in_err-reach-clause-err c = on_err c.from_residual.result _ (λ things others same known.
    let at = c.in-Some.at in
    let mid = c.reach.new.monitors in
    let counts : HasSameCounts others.monitors mid = λ n. c.in_err-reach.ensures.counts n ∙ sym (ap (λ (l : List ℕ). slice_index l n) same) in
    still_reached things others at mid (sym (ap (is_known_object (length things.names)) c.in-Some.is) ∙ known) counts (omega (arith, c.in_err-reach.ensures.within, ap length same)))
