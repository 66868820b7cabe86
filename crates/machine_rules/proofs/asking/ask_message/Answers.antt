use Rattle.std.proofs.Common.{◌∙◌, subst}
use Rattle.std.specs.Prelude.{codes, Some}
use Rattle.class_machine.specs.LibraryCalls.{no_parameters}
use Rattle.machine_requests.specs.Telling.{AreDistinct}
use Rattle.machine_rules.specs.declared.selecting.Selected.{Selected}
use Rattle.machine_rules.specs.Selecting.{IsSelected}
use Rattle.machine_rules.proofs.Asked.{bare_message}
use Rattle.machine_rules.proofs.asking.ask_message.Goals as goal

pub returns-in-Some-Bare-clause-work : goal.returns-in-Some-Bare-clause-work
returns-in-Some-Bare-clause-work c =
    let k = c.args.world.now in
    let class = c.as_slice.result.now in
    bare_message k c.args.heap.now c.args.x c.args.to class (c.as_slice.ensures.value ∙ c.in_ok-class.ensures) c.in-Some-Bare.method
    (subst (λ (x : Selected). AreDistinct k.heads → IsSelected k class (no_parameters (codes "getMessage")) (Some x)) c.in-Some-Bare.field-0-is c.in-Some-Bare.ensures) c.requires.x c.requires.to
