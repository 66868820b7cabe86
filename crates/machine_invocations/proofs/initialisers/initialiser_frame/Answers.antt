use Rattle.std.proofs.Common.{ap, ◌∙◌, replicate}
use Rattle.class_machine.specs.ClassFiles.{Place}
use Rattle.class_machine.specs.Turn.{Entry}
use Rattle.machine_values.specs.declared.values.Local.TheVariants.{Unset}
use Rattle.machine_invocations.proofs.Initialised.{new_frame}
use Rattle.machine_invocations.proofs.initialisers.initialiser_frame.Goals as goal

pub returns : goal.returns
returns c k has =
    new_frame k c.args.class c.args.method c.args.code c.in_ok-operands.operands c.in_ok-locals.locals has
    (c.in_ok-operands.ensures.room ∙ ap (λ (e : Entry Place). e.room) (c.entry-entry.ensures has.method.name)) c.in_ok-operands.ensures.empty
    (c.in_ok-locals.ensures ∙ ap (λ (e : Entry Place). replicate e.locals Unset) (c.entry-entry.ensures has.method.name))
