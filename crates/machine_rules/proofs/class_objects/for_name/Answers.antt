use Rattle.std.proofs.Common.{◌≡◌, true, sym, ◌∙◌, ap, subst}
use Rattle.std.specs.Prelude.{Option, Some, None, IfSome}
use Rattle.std.specs.Option.{option_map}
use Rattle.std.proofs.lemmas.Result.{IfOk-weaker}
use Rattle.aj_names.specs.declared.types.FieldType.{FieldType}
use Rattle.class_machine.specs.declared.kinds.Fault.{Fault}
use Rattle.machine_values.specs.Types.{type_name}
use Rattle.machine_requests.specs.Telling.{is_class_type}
use Rattle.machine_rules.specs.declared.work.Work.TheVariants.{Faults, Loads, Misuses}
use Rattle.machine_rules.proofs.Giving.{fault_done, misuse_done}
use Rattle.machine_rules.proofs.ClassWork.{for_name_done, class_loads, class_missing}
use Rattle.machine_rules.proofs.class_objects.for_name.Goals as goal

pub returns-in-Nothing-clause-work : goal.returns-in-Nothing-clause-work
returns-in-Nothing-clause-work c whole =
    let k = c.args.world.now in
    let things = c.args.heap.now in
    for_name_done k things c.args.name (Some None) things (Faults Fault.NullPointer) c.requires.name (sym c.in-Nothing.ensures) (fault_done k things Fault.NullPointer)

pub returns-in-Other-clause-work : goal.returns-in-Other-clause-work
returns-in-Other-clause-work c whole =
    let k = c.args.world.now in
    let things = c.args.heap.now in
    for_name_done k things c.args.name None things Misuses c.requires.name (sym c.in-Other.ensures) (misuse_done k things)

pub returns-in-Some-clause-work : goal.returns-in-Some-clause-work
returns-in-Some-clause-work c whole =
    let k = c.args.world.now in
    let things = c.args.heap.now in
    for_name_done k things c.args.name (Some (Some c.in-Units.units.now)) things (Loads c.in-Some.class) c.requires.name (sym c.in-Units.ensures)
    (class_loads k things c.args.name c.in-Units.units.now c.in-Some.class (sym (ap (option_map type_name) c.in-Some.is) ∙ c.in_ok-found-in-Units.ensures.found)
    (λ distinct. subst (λ (o : Option FieldType). IfSome o (λ class. is_class_type class ≡ true)) c.in-Some.is (c.in_ok-found-in-Units.ensures.class distinct)))

pub returns-in-None-clause-work : goal.returns-in-None-clause-work
returns-in-None-clause-work c =
    let k = c.args.world.now in
    let things = c.args.heap.now in
    IfOk-weaker c.not_found.result _ _ (λ work done whole.
    for_name_done k things c.args.name (Some (Some c.in-Units.units.now)) c.not_found.new.heap work c.requires.name (sym c.in-Units.ensures)
    (class_missing k things c.args.name c.in-Units.units.now c.not_found.new.heap work (sym (ap (option_map type_name) c.in-None.is) ∙ c.in_ok-found-in-Units.ensures.found) (done whole)))
    c.not_found.ensures.work
