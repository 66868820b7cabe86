use Rattle.std.proofs.Common.{List, ap, ◌∙◌, subst}
use Rattle.std.specs.Prelude.{Result, Ok, Err, OnErr}
use Rattle.std.proofs.lemmas.Result.{IfOk-weaker, on_err_weaker}
use Rattle.machine_invocations.specs.Keeping.{Keeps}
use Rattle.machine_steps.specs.declared.step.Step.{Step}
use Rattle.machine_steps.specs.Parts.{Part, Takes}
use Rattle.machine_steps.specs.Runs.{answers_left}
use Rattle.machine_values.specs.declared.script.Answer.{Answer}
use Rattle.machine_values.specs.declared.state.MachineState.{MachineState}
use Rattle.run_driver.proofs.Taken.{taken, taken_by_calls, taken_by_library, still, there_still_so, still_so, answers_so, there_again, stands_for_one}
use Rattle.run_driver.proofs.stepping.step.Goals as goal

on_err : {T E : Type 0} (P : Type 0) (r : Result T E) → P → OnErr r P
on_err P (Ok x) p = tt
on_err P (Err e) p = p

pub returns-in_default : goal.returns-in_default
returns-in_default c =
    let answers = answers_left c.args.script.now in
    record {
      formed = c.step_core.ensures.formed;
      steps = taken Part.Core c.args.world.now c.args.state.now c.step_core.new.state answers answers c.in_ok-step.step c.in_default.not-NotMine (c.in_ok-step.ensures.takes answers);
      err = tt;
      answers = tt;
    }

pub returns-in_err-step-2-clause-err : goal.returns-in_err-step-2-clause-err
returns-in_err-step-2-clause-err c =
    let k = c.args.world.now in
    let old = c.args.state.now in
    let mid = c.step_core.new.state in
    let core = λ (left : List Answer). subst (λ (s : Step). Takes Part.Core k old mid left left s) c.in-NotMine.is (c.in_ok-step.ensures.takes left) in
    on_err (Keeps k old c.step_calls.new.state) c.from_residual-in_err-step-2.result
    (subst (λ (s : MachineState). Keeps k s c.step_calls.new.state) (still k old mid (answers_left c.args.script.now) core c.requires.there) c.in_err-step-2.ensures.err)

pub returns-in-NotMine-2-clause-steps : goal.returns-in-NotMine-2-clause-steps
returns-in-NotMine-2-clause-steps c =
    let k = c.args.world.now in
    let old = c.args.state.now in
    let mid = c.step_core.new.state in
    let low = c.step_calls.new.state in
    let answers = answers_left c.args.script.now in
    let fewer = answers_left c.step_calls.new.script in
    let core = λ (left : List Answer). subst (λ (s : Step). Takes Part.Core k old mid left left s) c.in-NotMine.is (c.in_ok-step.ensures.takes left) in
    let calls = subst (λ (s : Step). Takes Part.Calls k mid low answers fewer s) c.in-NotMine-2.is c.in_ok-step-2.ensures.takes in
    IfOk-weaker c.step_library.result _ _ (λ step takes. taken_by_library k old mid answers core low fewer calls c.step_library.new.state (answers_left c.step_library.new.script) step takes) c.step_library.ensures.takes

pub returns-in-NotMine-2-clause-err : goal.returns-in-NotMine-2-clause-err
returns-in-NotMine-2-clause-err c =
    let k = c.args.world.now in
    let old = c.args.state.now in
    let mid = c.step_core.new.state in
    let low = c.step_calls.new.state in
    let answers = answers_left c.args.script.now in
    let fewer = answers_left c.step_calls.new.script in
    let core = λ (left : List Answer). subst (λ (s : Step). Takes Part.Core k old mid left left s) c.in-NotMine.is (c.in_ok-step.ensures.takes left) in
    let calls = subst (λ (s : Step). Takes Part.Calls k mid low answers fewer s) c.in-NotMine-2.is c.in_ok-step-2.ensures.takes in
    on_err_weaker c.step_library.result (λ keeps. subst (λ (s : MachineState). Keeps k s c.step_library.new.state) (still_so k old mid answers core low fewer calls c.requires.there) keeps) c.step_library.ensures.err

pub returns-in-NotMine-2-clause-answers : goal.returns-in-NotMine-2-clause-answers
returns-in-NotMine-2-clause-answers c =
    let k = c.args.world.now in
    let old = c.args.state.now in
    let mid = c.step_core.new.state in
    let low = c.step_calls.new.state in
    let answers = answers_left c.args.script.now in
    let fewer = answers_left c.step_calls.new.script in
    let core = λ (left : List Answer). subst (λ (s : Step). Takes Part.Core k old mid left left s) c.in-NotMine.is (c.in_ok-step.ensures.takes left) in
    let calls = subst (λ (s : Step). Takes Part.Calls k mid low answers fewer s) c.in-NotMine-2.is c.in_ok-step-2.ensures.takes in
    on_err_weaker c.step_library.result (λ same. ap answers_left same ∙ answers_so k old mid answers core low fewer calls c.requires.there) c.step_library.ensures.script

pub returns-in_default-2 : goal.returns-in_default-2
returns-in_default-2 c =
    let k = c.args.world.now in
    let old = c.args.state.now in
    let mid = c.step_core.new.state in
    let answers = answers_left c.args.script.now in
    let core = λ (left : List Answer). subst (λ (s : Step). Takes Part.Core k old mid left left s) c.in-NotMine.is (c.in_ok-step.ensures.takes left) in
    record {
      formed = c.step_calls.ensures.formed;
      steps = taken_by_calls k old mid answers core c.step_calls.new.state (answers_left c.step_calls.new.script) c.in_ok-step-2.step c.in_default-2.not-NotMine c.in_ok-step-2.ensures.takes;
      err = tt;
      answers = tt;
    }

pub step_calls-requires-clause-there : goal.step_calls-requires-clause-there
step_calls-requires-clause-there c =
    let k = c.args.world.now in
    let old = c.args.state.now in
    let mid = c.step_core.new.state in
    let core = λ (left : List Answer). subst (λ (s : Step). Takes Part.Core k old mid left left s) c.in-NotMine.is (c.in_ok-step.ensures.takes left) in
    let answers = answers_left c.args.script.now in
    stands_for_one k mid answers (there_still_so k old mid answers core c.requires.there)

pub step_library-requires-clause-there : goal.step_library-requires-clause-there
step_library-requires-clause-there c =
    let k = c.args.world.now in
    let old = c.args.state.now in
    let mid = c.step_core.new.state in
    let low = c.step_calls.new.state in
    let answers = answers_left c.args.script.now in
    let fewer = answers_left c.step_calls.new.script in
    let core = λ (left : List Answer). subst (λ (s : Step). Takes Part.Core k old mid left left s) c.in-NotMine.is (c.in_ok-step.ensures.takes left) in
    let calls = subst (λ (s : Step). Takes Part.Calls k mid low answers fewer s) c.in-NotMine-2.is c.in_ok-step-2.ensures.takes in
    stands_for_one k low fewer (there_again k old mid answers core low fewer calls c.requires.there)
