use Rattle.std.proofs.Common.{ℕ, List, ◌++◌, ap, sym, ◌∙◌, subst}
use Rattle.std.specs.Prelude.{Some, None}
use Rattle.std.proofs.lemmas.Result.{IfOk-weaker}
use Rattle.class_machine.specs.declared.kinds.Fault.{Fault}
use Rattle.class_machine.specs.LibraryCalls as calls
use Rattle.machine_rules.specs.declared.work.Work.TheVariants.{Faults, Misuses}
use Rattle.machine_rules.specs.Works.{Does}
use Rattle.machine_rules.proofs.Giving.{fault_done, misuse_done}
use Rattle.machine_rules.proofs.StringWork.{concat_done}
use Rattle.machine_rules.proofs.Filling.{kept_still}
use Rattle.machine_rules.proofs.strings.concat.Goals as goal

pub returns-in-Nothing-clause-work : goal.returns-in-Nothing-clause-work
returns-in-Nothing-clause-work c =
    let k = c.args.world.now in
    let things = c.args.heap.now in
    concat_done k things c.args.at c.args.other (Some None) things (Faults Fault.NullPointer) c.requires.at c.requires.other (sym c.in-Nothing.ensures) (fault_done k things Fault.NullPointer)

pub returns-in-Other-clause-work : goal.returns-in-Other-clause-work
returns-in-Other-clause-work c =
    let k = c.args.world.now in
    let things = c.args.heap.now in
    concat_done k things c.args.at c.args.other None things Misuses c.requires.at c.requires.other (sym c.in-Other.ensures) (misuse_done k things)

pub returns-clause-work : goal.returns-clause-work
returns-clause-work c =
    let k = c.args.world.now in
    let things = c.args.heap.now in
    IfOk-weaker c.give_text.result _ _ (λ work done.
    concat_done k things c.args.at c.args.other (Some (Some c.in-Units.more.now)) c.give_text.new.heap work c.requires.at c.requires.other (sym c.in-Units.ensures)
    (subst (λ (l : List ℕ). Does k things (λ s ns w. calls.new_text l w) c.give_text.new.heap work)
    (c.as_slice.ensures.value ∙ c.in_ok-all-in-Units.ensures ∙ ap (λ (l : List ℕ). l ++ c.in-Units.more.now) c.units_at.ensures) done))
    c.give_text.ensures.work

pub returns-in-Nothing-clause-filled : goal.returns-in-Nothing-clause-filled
returns-in-Nothing-clause-filled c = kept_still c.args.world.now c.args.heap.now

pub returns-in-Other-clause-filled : goal.returns-in-Other-clause-filled
returns-in-Other-clause-filled c = kept_still c.args.world.now c.args.heap.now
