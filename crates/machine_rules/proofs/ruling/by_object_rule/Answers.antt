use Rattle.std.proofs.Common.{List, [], ◌∷◌, map, sym, ◌∙◌, ap, subst, arith}
use Rattle.std.specs.Prelude.{IfOk, slice_get}
use Rattle.std.specs.Option.{unwrap_or}
use Rattle.std.proofs.lemmas.Result.{IfOk-weaker}
use Rattle.class_machine.specs.LibraryCalls as calls
use Rattle.machine_values.specs.declared.values.Value.{Value}
use Rattle.machine_values.specs.declared.values.Value.TheVariants.{Null}
use Rattle.machine_values.specs.Standing.{name_of, held}
use Rattle.machine_rules.specs.Fields.{AreWhole}
use Rattle.machine_rules.specs.Works.{Does}
use Rattle.machine_rules.proofs.RuledWork.{whole_still, one_there, two_there, three_misused}
use Rattle.machine_rules.proofs.ruling.by_object_rule.Goals as goal

pub returns-in-empty-clause-filled : goal.returns-in-empty-clause-filled
returns-in-empty-clause-filled c =
    IfOk-weaker c.on_object.result _ _ (λ work fills. whole_still c.args.world.now c.args.heap.now c.on_object.new.heap c.requires.library fills) c.on_object.ensures.filled

pub returns-in-len1-clause-work : goal.returns-in-len1-clause-work
returns-in-len1-clause-work c =
    let k = c.args.world.now in
    let things = c.args.heap.now in
    subst (λ (l : List Value). IfOk c.with_argument.result (λ work. AreWhole k things → Does k things (λ s ns w. calls.by_rule s.classes w c.args.rule (name_of s.heads ns c.args.at) (map (held s.heads ns) l)) c.with_argument.new.heap work))
    (ap (λ (v : Value). v ∷ []) c.only.ensures ∙ sym (one_there c.args.given.now (omega arith) (omega arith))) c.with_argument.ensures.work

pub returns-in-len2-clause-work : goal.returns-in-len2-clause-work
returns-in-len2-clause-work c =
    let k = c.args.world.now in
    let things = c.args.heap.now in
    subst (λ (l : List Value). IfOk c.with_arguments.result (λ work. AreWhole k things → Does k things (λ s ns w. calls.by_rule s.classes w c.args.rule (name_of s.heads ns c.args.at) (map (held s.heads ns) l)) c.with_arguments.new.heap work))
    (ap (λ (v : Value). v ∷ c.second.result ∷ []) c.first.ensures ∙ ap (λ (u : Value). unwrap_or (slice_get c.args.given.now 0) Null ∷ u ∷ []) c.second.ensures ∙ sym (two_there c.args.given.now (omega arith) (omega arith))) c.with_arguments.ensures.work

pub returns-in_default-clause-work : goal.returns-in_default-clause-work
returns-in_default-clause-work c whole = three_misused c.args.world.now c.args.heap.now c.args.at c.args.rule c.args.given.now (omega arith)
