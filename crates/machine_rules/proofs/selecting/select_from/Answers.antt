use Rattle.std.proofs.Common.{ap, sym, ◌∙◌, subst}
use Rattle.std.specs.Prelude.{Option}
use Rattle.std.specs.Option.{option_map}
use Rattle.class_heads.specs.Numbers.{number_of, method_counts}
use Rattle.class_heads.specs.Searches.{in_class}
use Rattle.machine_rules.specs.Selecting.{named_type, IsSelected}
use Rattle.machine_rules.specs.declared.selecting.Selected.{Selected}
use Rattle.machine_rules.proofs.Selection.{declared_numbered, none_selected, some_selected}
use Rattle.machine_rules.proofs.selecting.select_from.Goals as goal

pub returns-in_err-method : goal.returns-in_err-method
returns-in_err-method c distinct d =
    let k = c.args.world.now in
    let place = c.args.declarer.0 in
    let member = named_type c.args.name.now c.args.descriptor.now in
    subst (λ (o : Option Selected). IsSelected k c.args.class.now member o) (sym c.from_residual-in_err-method.ensures)
    (none_selected k c.args.class.now place member c.in_ok-runtime.runtime.0 d (sym c.in_ok-runtime.ensures.place)
    (c.in_err-method.ensures.number (in_class place d.position)
    (declared_numbered k place member c.in_ok-declared.declared.0 d (c.in_ok-declared.ensures.number ∙ ap (option_map (λ position. number_of (method_counts k.heads) (in_class place position))) d.declared))))

pub returns : goal.returns
returns c distinct d =
    let k = c.args.world.now in
    let place = c.args.declarer.0 in
    let member = named_type c.args.name.now c.args.descriptor.now in
    some_selected k c.args.class.now place member c.in_ok-runtime.runtime.0 d c.in_ok-method.method c.rule_of.result c.as_selected.result (sym c.in_ok-runtime.ensures.place)
    (c.in_ok-method.ensures.number (in_class place d.position)
    (declared_numbered k place member c.in_ok-declared.declared.0 d (c.in_ok-declared.ensures.number ∙ ap (option_map (λ position. number_of (method_counts k.heads) (in_class place position))) d.declared)))
    c.rule_of.ensures c.as_selected.ensures
