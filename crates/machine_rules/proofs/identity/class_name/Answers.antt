use Rattle.std.proofs.Common.{sym, ap, ◌∙◌}
use Rattle.std.specs.Prelude.{Some, None}
use Rattle.std.specs.Option.{option_map}
use Rattle.std.proofs.lemmas.Result.{IfOk-weaker}
use Rattle.machine_rules.specs.declared.work.Work.TheVariants.{Misuses}
use Rattle.machine_rules.proofs.Giving.{misuse_done}
use Rattle.machine_rules.proofs.IdentityWork.{class_name_done}
use Rattle.machine_rules.proofs.Filling.{kept_still}
use Rattle.machine_rules.proofs.identity.class_name.Goals as goal

pub returns-in-Some-clause-work : goal.returns-in-Some-clause-work
returns-in-Some-clause-work c =
    let k = c.args.world.now in
    let things = c.args.heap.now in
    IfOk-weaker c.give_text.result _ _ (λ work done.
    class_name_done k things c.args.at (Some c.as_slice.result.now) c.give_text.new.heap work c.requires.at
    (sym c.in_ok-text.ensures ∙ ap (option_map (λ units. units.items)) c.in-Some.is ∙ ap Some (sym c.as_slice.ensures.value)) done)
    c.give_text.ensures.work

pub returns-in-None-clause-work : goal.returns-in-None-clause-work
returns-in-None-clause-work c =
    let k = c.args.world.now in
    let things = c.args.heap.now in
    class_name_done k things c.args.at None things Misuses c.requires.at (sym c.in_ok-text.ensures ∙ ap (option_map (λ units. units.items)) c.in-None.is) (misuse_done k things)

pub returns-in-None-clause-filled : goal.returns-in-None-clause-filled
returns-in-None-clause-filled c = kept_still c.args.world.now c.args.heap.now
