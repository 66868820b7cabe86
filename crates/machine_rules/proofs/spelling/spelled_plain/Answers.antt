use Rattle.std.proofs.Common.{ℕ, List, ap, sym, ◌∙◌}
use Rattle.std.specs.Prelude.{Some, None}
use Rattle.std.specs.Option.{option_map}
use Rattle.std.proofs.lemmas.Result.{IfOk-weaker}
use Rattle.machine_rules.specs.declared.work.Work.TheVariants.{Misuses}
use Rattle.machine_rules.proofs.Giving.{misuse_done}
use Rattle.machine_rules.proofs.Spelled.{plain_spelled}
use Rattle.machine_rules.proofs.spelling.spelled_plain.Goals as goal

pub returns-in-Some-clause-work : goal.returns-in-Some-clause-work
returns-in-Some-clause-work c =
    IfOk-weaker c.finish_units.result _ _ (λ work done.
    plain_spelled c.args.world.now c.args.heap.now c.args.how c.args.value c.args.to (Some c.as_slice.result.now) c.finish_units.new.heap work c.requires.plain c.requires.value
    (ap (λ (l : List ℕ). Some l) c.as_slice.ensures.value ∙ sym (ap (option_map (λ units. units.items)) c.in-Some.is) ∙ c.in_ok-units.ensures) done)
    c.finish_units.ensures.work

pub returns-in-None-clause-work : goal.returns-in-None-clause-work
returns-in-None-clause-work c =
    plain_spelled c.args.world.now c.args.heap.now c.args.how c.args.value c.args.to None c.args.heap.now Misuses c.requires.plain c.requires.value
    (sym (ap (option_map (λ units. units.items)) c.in-None.is) ∙ c.in_ok-units.ensures) (misuse_done c.args.world.now c.args.heap.now)
