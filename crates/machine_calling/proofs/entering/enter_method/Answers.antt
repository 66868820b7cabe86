use Rattle.std.proofs.Common.{List, sym, ap, ◌∙◌, subst}
use Rattle.std.proofs.lemmas.Result.{IfOk-weaker}
use Rattle.class_file.specs.Lookup.{reference_seen}
use Rattle.std.specs.List.{AllByRecursion}
use Rattle.machine_values.specs.declared.values.Value.{Value}
use Rattle.machine_values.specs.Standing.{Settled}
use Rattle.std.specs.Prelude.{length}
use Rattle.machine_steps.specs.Moves.{Moves}
use Rattle.machine_invocations.specs.Entering.{enters_with}
use Rattle.machine_natives.specs.Calls.{values_given}
use Rattle.machine_calling.proofs.Turns.{given_settled, enter_goes}
use Rattle.machine_calling.proofs.entering.enter_method.Goals as goal

pub enter-requires-clause-given : goal.enter-requires-clause-given
enter-requires-clause-given c =
    let call = c.args.call.now in
    let same = c.as_slice-2.ensures.value ∙ c.in_ok-values.ensures ∙ ap (values_given call.receiver) c.as_slice.ensures.value in
    subst (AllByRecursion (Settled (length c.args.state.now.heap.names))) (sym same) (given_settled (length c.args.state.now.heap.names) call.receiver call.arguments.items c.requires.receiver c.requires.arguments)

pub returns-clause-goes : goal.returns-clause-goes
returns-clause-goes c =
    let k = c.args.world.now in
    let old = c.args.state.now in
    let call = c.args.call.now in
    let r = reference_seen c.args.named in
    let same = c.as_slice-2.ensures.value ∙ c.in_ok-values.ensures ∙ ap (values_given call.receiver) c.as_slice.ensures.value in
    IfOk-weaker c.enter.result _ _ (λ step moves left callee sees plain none.
    enter_goes k old c.enter.new.state r callee call step left plain none
    (subst (λ (vs : List Value). Moves k old c.enter.new.state step (enters_with r callee call.receiver vs call.purpose old)) same (moves callee sees))) c.enter.ensures.entered
