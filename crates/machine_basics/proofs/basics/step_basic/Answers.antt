use Rattle.std.proofs.Common.{arith, sym, ◌∙◌, ap}
use Rattle.std.proofs.lemmas.Bool.{false≢true, eqb-true}
use Rattle.machine_frames.specs.Effects.{is_effect_within}
use Rattle.class_machine.specs.Operations.{Do}
use Rattle.machine_values.specs.declared.observed.Ending.TheVariants.{Broken}
use Rattle.machine_steps.specs.declared.step.Step.TheVariants.{Ended}
use Rattle.machine_steps.specs.Executing.{executes}
use Rattle.machine_basics.proofs.Executed.{executed_moves, unknown_breaks, no_frame_breaks}
use Rattle.machine_basics.proofs.Kept.{if_err}
use Rattle.machine_basics.proofs.Restored.{if_ok, formed_either, formed_performed, frame_runs}
use Rattle.machine_basics.proofs.Spared.{performed_needs}
use Rattle.machine_basics.proofs.basics.step_basic.Goals as goal

pub returns-then-is_return-clause-moves : goal.returns-then-is_return-clause-moves
returns-then-is_return-clause-moves c = λ other. absurd (false≢true (sym other ∙ sym c.is_return.ensures ∙ c.if-is_return.true))

pub returns-then-is_empty-clause-moves : goal.returns-then-is_empty-clause-moves
returns-then-is_empty-clause-moves c = λ other. no_frame_breaks c.args.world.now c.args.state.now c.args.state.now (Ended Broken) (executes (Do c.args.basic.now))
    (let empty = eqb-true c.args.state.now.frames.len 0 (sym c.is_empty.ensures ∙ c.if-is_empty.true) in omega (arith, c.args.state.now.frames.ok.0))

pub returns-then-not-is_within-clause-moves : goal.returns-then-not-is_within-clause-moves
returns-then-not-is_within-clause-moves c = λ other.
    unknown_breaks c.args.world.now c.args.state.now c.perform_running-effect.new.state c.args.basic.now c.perform_running-effect.result (executes (Do c.args.basic.now)) c.perform_running-effect.ensures
    (sym (ap (λ n. is_effect_within n c.perform_running-effect.result) c.count.ensures.count) ∙ sym c.is_within.ensures ∙ c.if-not-is_within.true)

pub returns-then-not-is_within-clause-formed : goal.returns-then-not-is_within-clause-formed
returns-then-not-is_within-clause-formed c = formed_performed c.args.world.now c.args.state.now c.perform_running-effect.new.state c.args.basic.now c.perform_running-effect.result c.perform_running-effect.ensures c.requires.formed

pub take_or_restore-requires-clause-formed : goal.take_or_restore-requires-clause-formed
take_or_restore-requires-clause-formed c = formed_performed c.args.world.now c.args.state.now c.perform_running-effect.new.state c.args.basic.now c.perform_running-effect.result c.perform_running-effect.ensures c.requires.formed

pub take_or_restore-requires-clause-some : goal.take_or_restore-requires-clause-some
take_or_restore-requires-clause-some c = frame_runs c.args.state.now c.perform_running-effect.new.state c.args.basic.now c.perform_running-effect.result c.perform_running-effect.ensures

pub take_or_restore-requires-clause-known : goal.take_or_restore-requires-clause-known
take_or_restore-requires-clause-known c = sym (ap (λ n. is_effect_within n c.perform_running-effect.result) c.count.ensures.count) ∙ sym c.is_within.ensures ∙ c.if-not-is_within.false

pub returns-clause-formed : goal.returns-clause-formed
returns-clause-formed c =
    formed_either c.args.world.now c.args.state.now c.take_or_restore.new.state c.take_or_restore.result c.take_or_restore.ensures.formed
    (if_err _ _ c.take_or_restore.result (λ keeps. keeps c.args.state.now c.args.basic.now c.perform_running-effect.ensures) c.take_or_restore.ensures.err) c.requires.formed

pub returns-clause-err : goal.returns-clause-err
returns-clause-err c = if_err _ _ c.take_or_restore.result (λ keeps. keeps c.args.state.now c.args.basic.now c.perform_running-effect.ensures) c.take_or_restore.ensures.err

pub returns-clause-left : goal.returns-clause-left
returns-clause-left c = λ return. absurd (false≢true (sym c.if-is_return.false ∙ c.is_return.ensures ∙ return))

pub returns-clause-same : goal.returns-clause-same
returns-clause-same c = λ return. absurd (false≢true (sym c.if-is_return.false ∙ c.is_return.ensures ∙ return))

pub returns-clause-moves : goal.returns-clause-moves
returns-clause-moves c = λ other.
    if_ok _ _ c.take_or_restore.result
    (λ step moves. executed_moves c.args.world.now c.args.state.now c.perform_running-effect.new.state c.take_or_restore.new.state c.args.basic.now c.perform_running-effect.result step c.perform_running-effect.ensures other moves)
    c.take_or_restore.ensures.moves

pub returns-clause-spared : goal.returns-clause-spared
returns-clause-spared c =
    if_err _ _ c.take_or_restore.result
    (performed_needs c.args.world.now c.args.state.now c.perform_running-effect.new.state c.args.basic.now c.perform_running-effect.result c.perform_running-effect.ensures (sym c.is_return.ensures ∙ c.if-is_return.false))
    c.take_or_restore.ensures.spared
