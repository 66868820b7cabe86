use Rattle.std.proofs.Common.{map, sym, subst}
use Rattle.std.specs.Prelude.{Option, Some, None, IfOk}
use Rattle.std.specs.Option.{option_map}
use Rattle.std.proofs.lemmas.Result.{IfOk-weaker}
use Rattle.machine_values.specs.declared.values.Ref.{Ref}
use Rattle.machine_values.specs.Standing.{name_of, held}
use Rattle.machine_rules.specs.Ruling.{ruled}
use Rattle.machine_rules.specs.Works.{DoesWhole}
use Rattle.machine_rules.proofs.RuledWork.{anywhere_whole}
use Rattle.machine_rules.proofs.ruling.by_rule.Goals as goal

pub returns-in-None-clause-work : goal.returns-in-None-clause-work
returns-in-None-clause-work c =
    let k = c.args.world.now in
    let things = c.args.heap.now in
    subst (λ (o : Option Ref). IfOk c.by_static_rule.result (λ work. DoesWhole k things (λ s ns w. ruled s.classes w c.args.rule (option_map (name_of s.heads ns) o) (map (held s.heads ns) c.args.given.now)) c.by_static_rule.new.heap work)) (sym c.in-None.is)
    (IfOk-weaker c.by_static_rule.result _ _ (λ work done. anywhere_whole k things (λ s ns w. ruled s.classes w c.args.rule (option_map (name_of s.heads ns) None) (map (held s.heads ns) c.args.given.now)) c.by_static_rule.new.heap work done) c.by_static_rule.ensures.work)

pub returns-in-Some-clause-work : goal.returns-in-Some-clause-work
returns-in-Some-clause-work c =
    let k = c.args.world.now in
    let things = c.args.heap.now in
    subst (λ (o : Option Ref). IfOk c.by_object_rule.result (λ work. DoesWhole k things (λ s ns w. ruled s.classes w c.args.rule (option_map (name_of s.heads ns) o) (map (held s.heads ns) c.args.given.now)) c.by_object_rule.new.heap work)) (sym c.in-Some.is)
    (IfOk-weaker c.by_object_rule.result _ _ (λ work done. anywhere_whole k things (λ s ns w. ruled s.classes w c.args.rule (option_map (name_of s.heads ns) (Some c.in-Some.at)) (map (held s.heads ns) c.args.given.now)) c.by_object_rule.new.heap work done) c.by_object_rule.ensures.work)
