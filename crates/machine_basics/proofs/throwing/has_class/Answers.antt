use Rattle.std.specs.Prelude.{◌≡◌, is_some, Option, Some}
use Rattle.std.proofs.Common.{rules, sym, ◌∙◌, ap}
use Rattle.class_heads.specs.Hierarchy.{place_of, is_subtype}
use Rattle.class_machine.specs.Values.{class_of, throwable_class}
use Rattle.machine_values.specs.declared.names.Name.{Name}
use Rattle.machine_values.specs.Standing.{name_in}
use Rattle.machine_basics.proofs.Thrown.{is_some_number, fit_there, no_literal, no_class_object}
use Rattle.machine_basics.proofs.throwing.has_class.Goals as goal

pub returns-in-Made-clause-there : goal.returns-in-Made-clause-there
returns-in-Made-clause-there c = λ yes.
    let heads = c.args.world.now.heads in
    ap (λ (o : Option Name). is_some (place_of heads (class_of (name_in heads o)))) (c.name.ensures ∙ ap Some c.in-Made.is) ∙ c.has_made_class.ensures.there yes

pub returns-in-Made-clause-missing : goal.returns-in-Made-clause-missing
returns-in-Made-clause-missing c = λ none distinct fit.
    let heads = c.args.world.now.heads in
    let there = c.name.ensures ∙ ap Some c.in-Made.is in
    ap (λ (o : Option Name). is_subtype heads (class_of (name_in heads o)) throwable_class) there
    ∙ c.has_made_class.ensures.missing none distinct (fit_there heads c.args.heap.now.names c.args.at.0 distinct fit c.in-Made.maker c.in-Made.field-1 there)

pub returns-in-Literal-clause-missing : goal.returns-in-Literal-clause-missing
returns-in-Literal-clause-missing c = λ none distinct fit.
    let tested : is_some c.class_named.result ≡ c.is_some.result = search rules in
    no_literal c.args.world.now.heads c.args.heap.now.names c.args.at.0 distinct fit c.in-Literal.field-0 (c.name.ensures ∙ ap Some c.in-Literal.is)
    (sym (ap is_some c.class_named.ensures.place) ∙ is_some_number c.class_named.result ∙ tested ∙ none)

pub returns-in-ClassObject-clause-missing : goal.returns-in-ClassObject-clause-missing
returns-in-ClassObject-clause-missing c = λ none distinct fit.
    let tested : is_some c.class_named-in-ClassObject.result ≡ c.is_some-in-ClassObject.result = search rules in
    no_class_object c.args.world.now.heads c.args.heap.now.names c.args.at.0 distinct fit c.in-ClassObject.field-0 (c.name.ensures ∙ ap Some c.in-ClassObject.is)
    (sym (ap is_some c.class_named-in-ClassObject.ensures.place) ∙ is_some_number c.class_named-in-ClassObject.result ∙ tested ∙ none)
