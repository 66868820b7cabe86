use Rattle.std.proofs.Common.{List, ℕ, ◌∙◌, subst}
use Rattle.std.proofs.lemmas.Result.{IfOk-weaker}
use Rattle.class_machine.specs.LibraryCalls as calls
use Rattle.machine_rules.specs.Works.{Does}
use Rattle.machine_rules.proofs.identity.describe.Goals as goal

pub returns-clause-work : goal.returns-clause-work
returns-clause-work c =
    let k = c.args.world.now in
    let things = c.args.heap.now in
    IfOk-weaker c.give_text.result _ _ (λ work done.
    subst (λ (l : List ℕ). Does k things (λ s ns w. calls.new_text l w) c.give_text.new.heap work) (c.as_slice.ensures.value ∙ c.in_ok-units.ensures) done)
    c.give_text.ensures.work
