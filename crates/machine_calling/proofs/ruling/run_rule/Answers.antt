use Rattle.std.proofs.Common.{◌≡◌, Bool, List, sym, ap, ◌∙◌, subst}
use Rattle.std.specs.Prelude.{map}
use Rattle.std.specs.Option.{option_map}
use Rattle.std.proofs.lemmas.Result.{IfOk-weaker}
use Rattle.machine_values.specs.declared.values.Value.{Value}
use Rattle.machine_values.specs.Standing.{name_of, held}
use Rattle.machine_rules.specs.Library.{HasLibrary}
use Rattle.machine_rules.specs.Ruling as rules
use Rattle.machine_rules.specs.Works.{DoesWhole}
use Rattle.machine_natives.proofs.Onward.{with_heap_formed}
use Rattle.machine_calling.specs.Working.{RanWith}
use Rattle.machine_calling.specs.Ran.{constructs}
use Rattle.machine_calling.proofs.AtWork.{stands_at_work}
use Rattle.machine_calling.proofs.Worked.{rule_ran}
use Rattle.machine_calling.proofs.Refused.{on_err_from, rule_refused, rule_restored}
use Rattle.machine_calling.proofs.ruling.run_rule.Goals as goal

pub by_rule-requires-clause-library : goal.by_rule-requires-clause-library
unfolding HasLibrary
by_rule-requires-clause-library c = c.requires.runnable.library

pub finish-requires-clause-there : goal.finish-requires-clause-there
finish-requires-clause-there c =
    stands_at_work c.args.world.now c.args.state.now c.by_rule.new.heap c.args.rule c.args.call.now.receiver c.as_slice-arguments.result.now c.in_ok-work.work c.by_rule.ensures.names c.in_ok-work.ensures.work c.in_ok-work.ensures.filled c.requires.there

pub returns-clause-ran : goal.returns-clause-ran
returns-clause-ran c =
    let k = c.args.world.now in
    let old = c.args.state.now in
    let new = c.finish.new.state in
    let call = c.args.call.now in
    let heap = c.by_rule.new.heap in
    let does = subst (λ (vs : List Value). DoesWhole k old.heap (λ s names w. rules.ruled s.classes w c.args.rule (option_map (name_of s.heads names) call.receiver) (map (held s.heads names) vs)) heap c.in_ok-work.work) c.as_slice-arguments.ensures.value c.in_ok-work.ensures.work in
    IfOk-weaker c.finish.result _ _ (λ ran h left callee r plain has room.
    rule_ran k old new heap c.args.rule call c.in_ok-work.work c.by_rule.ensures.names does c.in_ok-work.ensures.filled c.in_ok-work.ensures.changes left callee r plain has room ran
    (subst (λ (b : Bool). RanWith k (record old { heap = heap }) new b c.in_ok-work.work ran) c.constructs.ensures h)) c.finish.ensures.ran

pub returns-clause-err : goal.returns-clause-err
returns-clause-err c =
    on_err_from c.finish.result
    (λ h. rule_refused c.args.world.now c.args.state.now c.finish.new.state c.by_rule.new.heap c.count-count.result c.count-count.ensures.count c.count-count.ensures.contents c.in_ok-work.work c.in_ok-work.ensures.changes h)
    c.finish.ensures.err

pub returns-clause-same : goal.returns-clause-same
returns-clause-same c =
    on_err_from c.finish.result
    (λ h. rule_restored c.args.world.now c.args.state.now c.finish.new.state c.by_rule.new.heap c.count-count.result c.count-count.ensures.count c.count-count.ensures.contents c.in_ok-work.work c.in_ok-work.ensures.changes h)
    c.finish.ensures.same
