use Rattle.std.proofs.Common.{sym, subst}
use Rattle.std.specs.Prelude.{Some, None, IfOk}
use Rattle.class_machine.specs.LibraryCalls as calls
use Rattle.machine_values.specs.declared.frames.Destination.{Destination}
use Rattle.machine_rules.specs.declared.work.Work.TheVariants.{Results}
use Rattle.machine_rules.specs.Finishing.{destination_of}
use Rattle.machine_rules.specs.Works.{Does}
use Rattle.machine_rules.proofs.Finished.{made_printed}
use Rattle.machine_rules.proofs.finishing.finish_made.Goals as goal

pub returns-in_ok-make_string-in-Prints-clause-work : goal.returns-in_ok-make_string-in-Prints-clause-work
returns-in_ok-make_string-in-Prints-clause-work c =
    let k = c.args.world.now in
    let things = c.args.heap.now in
    subst (λ (to : Destination). Does k things (λ s ns w. calls.finish_made (destination_of s ns to) w (Some c.args.units.now)) c.make_string.new.heap (Results (Some c.in_ok-event-in-Prints.event) None)) (sym c.in-Prints.is)
    (made_printed k things c.args.units.now c.in-Prints.line c.in_ok-event-in-Prints.event c.make_string.new.heap c.in_ok-make_string-in-Prints.field-0 c.in_ok-event-in-Prints.ensures c.in_ok-make_string-in-Prints.ensures.made)

pub returns-in-Appends-clause-work : goal.returns-in-Appends-clause-work
returns-in-Appends-clause-work c =
    let k = c.args.world.now in
    let things = c.args.heap.now in
    subst (λ (to : Destination). IfOk c.make_and_append.result (λ work. Does k things (λ s ns w. calls.finish_made (destination_of s ns to) w (Some c.args.units.now)) c.make_and_append.new.heap work)) (sym c.in-Appends.is)
    c.make_and_append.ensures.work

pub returns-in-Gives-clause-work : goal.returns-in-Gives-clause-work
returns-in-Gives-clause-work c =
    let k = c.args.world.now in
    let things = c.args.heap.now in
    subst (λ (to : Destination). IfOk c.give_text.result (λ work. Does k things (λ s ns w. calls.finish_made (destination_of s ns to) w (Some c.args.units.now)) c.give_text.new.heap work)) (sym c.in-Gives.is)
    c.give_text.ensures.work
