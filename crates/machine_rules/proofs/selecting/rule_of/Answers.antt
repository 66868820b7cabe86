use Rattle.std.proofs.Common.{ap, sym, ◌∙◌}
use Rattle.std.specs.Prelude.{slice_get}
use Rattle.class_heads.specs.Numbers.{method_counts}
use Rattle.class_heads.specs.Searches.{MemberPlace, in_class}
use Rattle.machine_code.specs.NumberLaws.{one_numbered}
use Rattle.machine_rules.specs.Selecting.{rule_in}
use Rattle.machine_rules.proofs.Selection.{given_rule, library_rule_is}
use Rattle.machine_rules.proofs.selecting.rule_of.Goals as goal

pub returns-in-Some : goal.returns-in-Some
returns-in-Some c place m numbered seen =
    let k = c.args.world.now in
    let found = c.method_at-position.result in
    let same = one_numbered (method_counts k.heads) c.args.method.0 (in_class found.0.0 found.1) place c.method_at-position.ensures.member numbered in
    given_rule k place m c.in-Some.field-0.now seen (c.in-Some.ensures ∙ ap (λ (p : MemberPlace). slice_get k.files p.class) same)

pub returns-in-None : goal.returns-in-None
returns-in-None c place m numbered seen =
    let k = c.args.world.now in
    let found = c.method_at-position.result in
    let same = one_numbered (method_counts k.heads) c.args.method.0 (in_class found.0.0 found.1) place c.method_at-position.ensures.member numbered in
    library_rule_is k place m c.head.result.now c.rule_in.result seen (c.in-None.ensures ∙ ap (λ (p : MemberPlace). slice_get k.files p.class) same)
    (sym (ap (λ (p : MemberPlace). slice_get k.heads p.class) same) ∙ c.head.ensures)
    (c.rule_in.ensures ∙ ap (λ (p : MemberPlace). rule_in c.head.result.now p.position) same)
