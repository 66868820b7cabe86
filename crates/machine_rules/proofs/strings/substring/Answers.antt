use Rattle.std.proofs.Common.{ℕ, List, ap, sym, ◌∙◌, ◌≡◌, subst}
use Rattle.std.specs.Prelude.{Option, Some, None, ℤ}
use Rattle.std.specs.Int.{w32}
use mir.Val.{to_z, of_z, SFits}
use Rattle.std.proofs.lemmas.Int.{to_z-of_z}
use Rattle.std.proofs.lemmas.Result.{IfOk-weaker}
use Rattle.class_machine.specs.declared.kinds.Fault.{Fault}
use Rattle.class_machine.specs.LibraryCalls as calls
use Rattle.machine_rules.specs.declared.work.Work.TheVariants.{Faults}
use Rattle.machine_rules.specs.Texts.{part_in}
use Rattle.machine_rules.specs.Works.{Does}
use Rattle.machine_rules.proofs.Giving.{fault_done}
use Rattle.machine_rules.proofs.StringWork.{part_done}
use Rattle.machine_rules.proofs.Filling.{kept_still}
use Rattle.machine_rules.proofs.strings.substring.Goals as goal

as_passed : (units kept : List ℕ) (begin end : ℤ) (part : Option (List ℕ)) → SFits w32 begin → SFits w32 end → units ≡ kept → part ≡ part_in units (to_z w32 (of_z w32 begin)) (to_z w32 (of_z w32 end)) → part_in kept begin end ≡ part
as_passed units kept begin end part b e same is =
    ap (λ (l : List ℕ). part_in l begin end) (sym same)
    ∙ ap (λ (i : ℤ). part_in units i end) (sym (to_z-of_z w32 begin b))
    ∙ ap (λ (i : ℤ). part_in units (to_z w32 (of_z w32 begin)) i) (sym (to_z-of_z w32 end e)) ∙ sym is

pub returns-in-None-clause-work : goal.returns-in-None-clause-work
returns-in-None-clause-work c =
    let k = c.args.world.now in
    let things = c.args.heap.now in
    part_done k things c.args.at c.args.begin c.args.end None things (Faults Fault.StringIndex) c.requires.at
    (as_passed c.units_at.result.now _ c.args.begin c.args.end None c.ranges.begin c.ranges.end c.units_at.ensures c.in-None.ensures) (fault_done k things Fault.StringIndex)

pub returns-clause-work : goal.returns-clause-work
returns-clause-work c =
    let k = c.args.world.now in
    let things = c.args.heap.now in
    IfOk-weaker c.give_text.result _ _ (λ work done.
    part_done k things c.args.at c.args.begin c.args.end (Some c.in-Some.units.now) c.give_text.new.heap work c.requires.at
    (as_passed c.units_at.result.now _ c.args.begin c.args.end (Some c.in-Some.units.now) c.ranges.begin c.ranges.end c.units_at.ensures c.in-Some.ensures)
    (subst (λ (l : List ℕ). Does k things (λ s ns w. calls.new_text l w) c.give_text.new.heap work) (c.as_slice.ensures.value ∙ c.in_ok-units-in-Some.ensures.items) done))
    c.give_text.ensures.work

pub returns-in-None-clause-filled : goal.returns-in-None-clause-filled
returns-in-None-clause-filled c = kept_still c.args.world.now c.args.heap.now
