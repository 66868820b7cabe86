use Rattle.std.proofs.Common.{length, sym, ap, ◌∙◌}
use Rattle.std.proofs.lemmas.Bool.{ltb-true}
use Rattle.machine_values.specs.declared.names.Maker.{Maker}
use Rattle.machine_values.specs.Standing.{maker_name}
use Rattle.machine_requests.specs.Telling.{is_fit_maker}
use Rattle.machine_invocations.specs.Methods.{members_in}
use Rattle.machine_invocations.proofs.Names.{class_has_members}
use Rattle.machine_invocations.proofs.search.class_of_maker.Goals as goal

pub returns-then-class-classes-clause-place : goal.returns-then-class-classes-clause-place
returns-then-class-classes-clause-place c distinct fit =
    let k = c.args.world.now in
    sym (ap (λ (m : Maker). members_in k (maker_name k.heads m)) c.in-Class.is
    ∙ class_has_members k c.in-Class.class.0 distinct (ltb-true c.in-Class.class.0 (length k.heads) (sym (ap (is_fit_maker (length k.heads)) c.in-Class.is) ∙ fit)))
