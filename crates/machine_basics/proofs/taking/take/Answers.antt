use Rattle.std.specs.Prelude.{length, IfOk, refl}
use Rattle.std.proofs.Common.{sym, ◌∙◌, ap, subst}
use Rattle.std.proofs.lemmas.Bool.{ltb-true}
use Rattle.machine_frames.specs.declared.effect.Effect.{Effect}
use Rattle.machine_frames.specs.Effects.{is_effect_within}
use Rattle.machine_frames.specs.Undoing.{is_plain}
use Rattle.machine_steps.specs.declared.step.Step.{Step}
use Rattle.machine_steps.specs.Moves.{Moves}
use Rattle.machine_invocations.proofs.Begun.{on_err}
use Rattle.machine_basics.specs.Turns.{takes}
use Rattle.machine_basics.specs.Sparing.{TakesMemory}
use Rattle.machine_basics.proofs.Kept.{keeps_same, if_err}
use Rattle.machine_basics.proofs.Restored.{if_ok}
use Rattle.machine_basics.proofs.taking.take.Goals as goal

pub ask-requires-clause-known : goal.ask-requires-clause-known
ask-requires-clause-known c = sym (ap (is_effect_within (length c.args.state.now.heap.names)) c.in-Ask.is) ∙ c.requires.known

pub throw-requires-clause-known : goal.throw-requires-clause-known
throw-requires-clause-known c =
    let n = length c.args.state.now.heap.names in
    ltb-true c.in-Throw.object.0 n (sym (ap (is_effect_within n) c.in-Throw.is) ∙ c.requires.known)

-- ---- what becomes of the state

pub returns-in-On-clause-moves : goal.returns-in-On-clause-moves
returns-in-On-clause-moves c = subst (λ (e : Effect). Moves c.args.world.now c.args.state.now c.go_next.new.state c.go_next.result (takes c.args.state.now e)) (sym c.in-On.is) c.go_next.ensures.moves

pub returns-in-Jump-clause-moves : goal.returns-in-Jump-clause-moves
returns-in-Jump-clause-moves c = subst (λ (e : Effect). Moves c.args.world.now c.args.state.now c.jump.new.state c.jump.result (takes c.args.state.now e)) (sym c.in-Jump.is) c.jump.ensures.moves

pub returns-in-Enter-clause-moves : goal.returns-in-Enter-clause-moves
returns-in-Enter-clause-moves c = subst (λ (e : Effect). Moves c.args.world.now c.args.state.now c.enter.new.state c.enter.result (takes c.args.state.now e)) (sym c.in-Enter.is) c.enter.ensures.moves

pub returns-in-Back-clause-moves : goal.returns-in-Back-clause-moves
returns-in-Back-clause-moves c = subst (λ (e : Effect). Moves c.args.world.now c.args.state.now c.go_on.new.state c.go_on.result (takes c.args.state.now e)) (sym c.in-Back.is) c.go_on.ensures.moves

pub returns-in-Ask-clause-moves : goal.returns-in-Ask-clause-moves
returns-in-Ask-clause-moves c = subst (λ (e : Effect). IfOk c.ask.result (λ (step : Step). Moves c.args.world.now c.args.state.now c.ask.new.state step (takes c.args.state.now e))) (sym c.in-Ask.is) c.ask.ensures.moves

pub returns-in-Fail-clause-moves : goal.returns-in-Fail-clause-moves
returns-in-Fail-clause-moves c =
    subst (λ (e : Effect). IfOk c.fail.result (λ (step : Step). Moves c.args.world.now c.args.state.now c.fail.new.state step (takes c.args.state.now e))) (sym c.in-Fail.is)
    (if_ok _ _ c.fail.result (λ step moves m left t f below is runs same. moves m left t f below f.content is runs same refl) c.fail.ensures.moves)

pub returns-in-Throw-clause-moves : goal.returns-in-Throw-clause-moves
returns-in-Throw-clause-moves c = subst (λ (e : Effect). IfOk c.throw.result (λ (step : Step). Moves c.args.world.now c.args.state.now c.throw.new.state step (takes c.args.state.now e))) (sym c.in-Throw.is) c.throw.ensures.moves

-- ---- where there is no memory

pub returns-in-Ask-clause-plain : goal.returns-in-Ask-clause-plain
returns-in-Ask-clause-plain c = if_err _ _ c.ask.result (λ keeps. ap is_plain c.in-Ask.is) c.ask.ensures.err

pub returns-in-Fail-clause-plain : goal.returns-in-Fail-clause-plain
returns-in-Fail-clause-plain c = if_err _ _ c.fail.result (λ same. ap is_plain c.in-Fail.is) c.fail.ensures.err

pub returns-in-Throw-clause-plain : goal.returns-in-Throw-clause-plain
returns-in-Throw-clause-plain c = if_err _ _ c.throw.result (λ same. ap is_plain c.in-Throw.is) c.throw.ensures.err

pub returns-in-Fail-clause-err : goal.returns-in-Fail-clause-err
returns-in-Fail-clause-err c = if_err _ _ c.fail.result (keeps_same c.args.world.now c.args.state.now c.fail.new.state) c.fail.ensures.err

pub returns-in-Throw-clause-err : goal.returns-in-Throw-clause-err
returns-in-Throw-clause-err c = if_err _ _ c.throw.result (keeps_same c.args.world.now c.args.state.now c.throw.new.state) c.throw.ensures.err

pub returns-in-Ask-clause-spared : goal.returns-in-Ask-clause-spared
returns-in-Ask-clause-spared c =
    if_err _ _ c.ask.result (λ asks. subst (λ (e : Effect). TakesMemory c.args.world.now c.args.state.now e) (sym c.in-Ask.is) (λ m w method operands locals is shares. asks m w is shares)) c.ask.ensures.spared

pub returns-in-Fail-clause-spared : goal.returns-in-Fail-clause-spared
returns-in-Fail-clause-spared c = on_err c.fail.result (subst (λ (e : Effect). TakesMemory c.args.world.now c.args.state.now e) (sym c.in-Fail.is) (λ m w method operands locals is shares. refl))

pub returns-in-Throw-clause-spared : goal.returns-in-Throw-clause-spared
returns-in-Throw-clause-spared c = on_err c.throw.result (subst (λ (e : Effect). TakesMemory c.args.world.now c.args.state.now e) (sym c.in-Throw.is) (λ m w method operands locals is shares. refl))
