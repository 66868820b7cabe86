use Rattle.std.specs.Prelude.{◌≡◌, is_some}
use Rattle.std.proofs.Common.{rules, sym, ◌∙◌, ap}
use Rattle.class_heads.specs.Hierarchy.{place_of}
use Rattle.machine_basics.proofs.Thrown.{is_some_number, no_class, no_array}
use Rattle.machine_basics.proofs.throwing.has_made_class.Goals as goal

pub returns-in-Class-clause-missing : goal.returns-in-Class-clause-missing
returns-in-Class-clause-missing c = λ none distinct fit.
    let heads = c.args.world.now.heads in
    let tested : is_some c.class_named.result ≡ c.is_some.result = search rules in
    no_class heads distinct c.args.maker.now fit c.in-Class.class c.in-Class.is
    (ap (λ n. is_some (place_of heads n)) (sym c.class_name.ensures) ∙ sym (ap is_some c.class_named.ensures.place) ∙ is_some_number c.class_named.result ∙ tested ∙ none)

pub returns-in-Array-clause-missing : goal.returns-in-Array-clause-missing
returns-in-Array-clause-missing c = λ none distinct fit. no_array c.args.world.now.heads distinct c.args.maker.now fit c.in-Array.field-0 c.in-Array.is
