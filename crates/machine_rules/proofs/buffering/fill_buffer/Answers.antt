use Rattle.std.proofs.Common.{sym, ◌∙◌, subst, List, ℕ}
use Rattle.std.specs.Prelude.{Some, None}
use Rattle.class_machine.specs.declared.kinds.Fault.{Fault}
use Rattle.machine_rules.specs.declared.work.Work.TheVariants.{Results, Faults, Misuses}
use Rattle.machine_rules.specs.Finishing.{Sets}
use Rattle.machine_rules.proofs.Giving.{fault_done, misuse_done}
use Rattle.machine_rules.proofs.BufferWork.{fill_done, units_set, fill_misused}
use Rattle.machine_rules.proofs.buffering.fill_buffer.Goals as goal

pub returns-in-Nothing-clause-work : goal.returns-in-Nothing-clause-work
returns-in-Nothing-clause-work c =
    let k = c.args.world.now in
    let things = c.args.heap.now in
    fill_done k things c.args.at c.args.text (Some None) things (Faults Fault.NullPointer) c.requires.text (sym c.in-Nothing.ensures) (fault_done k things Fault.NullPointer)

pub returns-in-Other-clause-work : goal.returns-in-Other-clause-work
returns-in-Other-clause-work c =
    let k = c.args.world.now in
    let things = c.args.heap.now in
    fill_done k things c.args.at c.args.text None things Misuses c.requires.text (sym c.in-Other.ensures) (misuse_done k things)

pub fill-requires-clause-text : goal.fill-requires-clause-text
fill-requires-clause-text c = sym c.has_text.ensures ∙ c.if-not-has_text.false

pub returns-then-not-has_text-clause-work : goal.returns-then-not-has_text-clause-work
returns-then-not-has_text-clause-work c =
    let k = c.args.world.now in
    let things = c.args.heap.now in
    fill_done k things c.args.at c.args.text (Some (Some c.in-Units.units.now)) things Misuses c.requires.text (sym c.in-Units.ensures)
    (fill_misused k things c.args.at c.in-Units.units.now c.requires.at (sym c.has_text.ensures ∙ c.if-not-has_text.true))

pub returns-clause-work : goal.returns-clause-work
returns-clause-work c =
    let k = c.args.world.now in
    let things = c.args.heap.now in
    fill_done k things c.args.at c.args.text (Some (Some c.in-Units.units.now)) c.fill.new.heap (Results None None) c.requires.text (sym c.in-Units.ensures)
    (units_set k things c.args.at c.in-Units.units.now c.requires.at c.fill.new.heap (sym c.has_text.ensures ∙ c.if-not-has_text.false)
    (subst (λ (l : List ℕ). Sets things c.args.at l c.fill.new.heap) (c.as_slice.ensures.value ∙ c.in_ok-units-in-Units.ensures.items) c.in_ok-fill.ensures.ok))
