use Rattle.std.proofs.Common.{sym, ◌∙◌, ap, subst}
use Rattle.std.specs.Prelude.{Some, None, IfOk, length}
use Rattle.std.proofs.lemmas.Bool.{ltb-true}
use Rattle.class_machine.specs.LibraryCalls as calls
use Rattle.machine_values.specs.declared.frames.Destination.{Destination}
use Rattle.machine_values.specs.States.{is_known_destination}
use Rattle.machine_rules.specs.declared.work.Work.TheVariants.{Results}
use Rattle.machine_rules.specs.Finishing.{destination_of}
use Rattle.machine_rules.specs.Works.{Does}
use Rattle.machine_rules.proofs.Finished.{printed_done}
use Rattle.std.proofs.lemmas.Result.{IfOk-weaker}
use Rattle.machine_rules.proofs.Filling.{plain_still}
use Rattle.machine_rules.proofs.RuledWork.{same_longer}
use Rattle.machine_rules.proofs.finishing.finish_units.Goals as goal

pub returns-in_ok-event-in-Prints-clause-work : goal.returns-in_ok-event-in-Prints-clause-work
returns-in_ok-event-in-Prints-clause-work c =
    let k = c.args.world.now in
    let things = c.args.heap.now in
    subst (λ (to : Destination). Does k things (λ s ns w. calls.finish_units (destination_of s ns to) c.args.units.now w) things (Results (Some c.in_ok-event-in-Prints.event) None)) (sym c.in-Prints.is)
    (printed_done k things c.args.units.now c.in-Prints.line c.in_ok-event-in-Prints.event c.in_ok-event-in-Prints.ensures)

pub append_and_give-requires : goal.append_and_give-requires
append_and_give-requires c = ltb-true c.in-Appends.buffer.0 (length c.args.heap.now.names) (sym (ap (is_known_destination (length c.args.heap.now.names)) c.in-Appends.is) ∙ c.requires.to)

pub returns-in-Appends-clause-work : goal.returns-in-Appends-clause-work
returns-in-Appends-clause-work c =
    let k = c.args.world.now in
    let things = c.args.heap.now in
    subst (λ (to : Destination). IfOk c.append_and_give.result (λ work. Does k things (λ s ns w. calls.finish_units (destination_of s ns to) c.args.units.now w) c.append_and_give.new.heap work)) (sym c.in-Appends.is)
    (IfOk-weaker c.append_and_give.result _ _ (λ work done. done k) c.append_and_give.ensures.work)

pub returns-in-Gives-clause-work : goal.returns-in-Gives-clause-work
returns-in-Gives-clause-work c =
    let k = c.args.world.now in
    let things = c.args.heap.now in
    subst (λ (to : Destination). IfOk c.give_text.result (λ work. Does k things (λ s ns w. calls.finish_units (destination_of s ns to) c.args.units.now w) c.give_text.new.heap work)) (sym c.in-Gives.is)
    c.give_text.ensures.work

pub returns-in-Appends-clause-filled : goal.returns-in-Appends-clause-filled
returns-in-Appends-clause-filled c = IfOk-weaker c.append_and_give.result _ _ (λ work plain. plain_still c.args.world.now c.args.heap.now c.append_and_give.new.heap plain) c.append_and_give.ensures.filled

pub returns-in-Appends-clause-names : goal.returns-in-Appends-clause-names
returns-in-Appends-clause-names c = same_longer c.args.heap.now c.append_and_give.new.heap c.append_and_give.ensures.names
