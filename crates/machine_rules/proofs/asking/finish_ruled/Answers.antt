use Rattle.std.proofs.Common.{ℕ, List, ap, sym, ◌∙◌, subst}
use Rattle.std.specs.Prelude.{Some, None}
use Rattle.std.specs.Option.{option_map}
use Rattle.std.proofs.lemmas.Result.{IfOk-weaker}
use Rattle.class_machine.specs.LibraryCalls as calls
use Rattle.machine_values.specs.Standing.{name_of}
use Rattle.machine_rules.specs.declared.work.Work.TheVariants.{Misuses}
use Rattle.machine_rules.specs.Asking.{MakesText}
use Rattle.machine_rules.proofs.Asked.{made_done}
use Rattle.machine_rules.proofs.Giving.{misuse_done}
use Rattle.machine_rules.proofs.asking.finish_ruled.Goals as goal

pub returns-in-Some-clause-work : goal.returns-in-Some-clause-work
returns-in-Some-clause-work c =
    let k = c.args.world.now in
    let things = c.args.heap.now in
    IfOk-weaker c.finish_made.result _ _ (λ work done.
    made_done k things c.args.at c.args.rule c.args.to (Some c.as_slice.result.now) c.finish_made.new.heap work
    (subst (MakesText k things (λ s ns w. calls.made_text w c.args.rule (name_of s.heads ns c.args.at))) (ap (option_map (λ units. units.items)) c.in-Some.is ∙ ap (λ (l : List ℕ). Some l) (sym c.as_slice.ensures.value)) c.in_ok-units.ensures)
    done)
    c.finish_made.ensures.work

pub returns-in-None-clause-work : goal.returns-in-None-clause-work
returns-in-None-clause-work c =
    let k = c.args.world.now in
    let things = c.args.heap.now in
    made_done k things c.args.at c.args.rule c.args.to None things Misuses
    (subst (MakesText k things (λ s ns w. calls.made_text w c.args.rule (name_of s.heads ns c.args.at))) (ap (option_map (λ units. units.items)) c.in-None.is) c.in_ok-units.ensures)
    (misuse_done k things)
