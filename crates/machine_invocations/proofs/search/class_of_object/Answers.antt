use Rattle.std.proofs.Common.{sym, ap, ◌∙◌}
use Rattle.std.specs.Prelude.{Option}
use Rattle.class_machine.specs.Values.{class_of}
use Rattle.machine_values.specs.declared.names.Name.{Name}
use Rattle.machine_values.specs.Standing.{name_in}
use Rattle.machine_requests.specs.TellingLaws.{fit_at}
use Rattle.machine_invocations.specs.Methods.{members_in}
use Rattle.machine_invocations.proofs.search.class_of_object.Goals as goal

pub returns-clause-place : goal.returns-clause-place
returns-clause-place c distinct fit =
    let k = c.args.world.now in
    c.class_of_name.ensures.place distinct (fit_at k.heads distinct c.args.heap.now.names c.args.at.0 c.name.result.now fit c.name.ensures)
    ∙ sym (ap (λ (o : Option Name). members_in k (class_of (name_in k.heads o))) c.name.ensures)
