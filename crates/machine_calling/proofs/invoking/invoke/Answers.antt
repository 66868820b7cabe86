use Rattle.std.proofs.Common.{subst}
use Rattle.std.proofs.lemmas.Result.{IfOk-weaker}
use Rattle.class_file.specs.Lookup.{reference_seen}
use Rattle.machine_invokes.specs.Preparing.{Readies}
use Rattle.machine_invocations.specs.Keeping.{same_keeps}
use Rattle.machine_calling.proofs.Refused.{on_err_from}
use Rattle.machine_calling.proofs.invoking.invoke.Goals as goal

pub run_prepared-requires-clause-prepared : goal.run_prepared-requires-clause-prepared
run_prepared-requires-clause-prepared c =
    let ready = subst (Readies c.args.world.now c.args.state.now c.prepare.new.state c.args.mode (reference_seen c.args.named)) c.in-Runs.is c.in_ok-step.ensures.ready in
    record { before = c.args.state.now; mode = c.args.mode; prepares = ready.0; can = ready.1; there = c.requires.there }

pub returns-in-Done-clause-moves : goal.returns-in-Done-clause-moves
returns-in-Done-clause-moves c m t f below is runs top =
    (subst (Readies c.args.world.now c.args.state.now c.prepare.new.state c.args.mode (reference_seen c.args.named)) c.in-Done.is c.in_ok-step.ensures.ready) m _ t f below is runs top

pub returns-in-Runs-clause-formed : goal.returns-in-Runs-clause-formed
returns-in-Runs-clause-formed c =
    let ready = subst (Readies c.args.world.now c.args.state.now c.prepare.new.state c.args.mode (reference_seen c.args.named)) c.in-Runs.is c.in_ok-step.ensures.ready in
    c.run_prepared.ensures.formed c.args.state.now ready.1 c.requires.formed

pub returns-in-Runs-clause-moves : goal.returns-in-Runs-clause-moves
returns-in-Runs-clause-moves c =
    let ready = subst (Readies c.args.world.now c.args.state.now c.prepare.new.state c.args.mode (reference_seen c.args.named)) c.in-Runs.is c.in_ok-step.ensures.ready in
    IfOk-weaker c.run_prepared.result _ _ (λ step moves. moves c.args.state.now c.args.mode ready.0 ready.1) c.run_prepared.ensures.moves

pub returns-in-Runs-clause-err : goal.returns-in-Runs-clause-err
returns-in-Runs-clause-err c =
    let ready = subst (Readies c.args.world.now c.args.state.now c.prepare.new.state c.args.mode (reference_seen c.args.named)) c.in-Runs.is c.in_ok-step.ensures.ready in
    on_err_from c.run_prepared.result (λ err. same_keeps c.args.world.now c.args.state.now c.run_prepared.new.state (err c.args.state.now ready.1)) c.run_prepared.ensures.err
