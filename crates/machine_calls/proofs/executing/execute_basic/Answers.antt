use Rattle.std.specs.Prelude.{refl}
use Rattle.std.proofs.Common.{sym, ap, subst}
use Rattle.std.proofs.lemmas.Result.{IfOk-weaker}
use Rattle.class_machine.specs.declared.meaning.Basic.{Basic}
use Rattle.class_machine.specs.Operations.{Do}
use Rattle.machine_parts.specs.Forms.{basic_core}
use Rattle.machine_parts.specs.Lines.{TakesLine}
use Rattle.machine_parts.specs.Taken.{leaves_line}
use Rattle.machine_steps.specs.declared.step.Step.TheVariants.{NotMine}
use Rattle.machine_steps.specs.Parts.{Part, is_part}
use Rattle.machine_calls.proofs.Belonging.{return_line}
use Rattle.machine_calls.proofs.executing.execute_basic.Goals as goal

pub returns-in-Return-clause-takes : goal.returns-in-Return-clause-takes
returns-in-Return-clause-takes c =
    let k = c.args.world.now in
    let old = c.args.state.now in
    IfOk-weaker c.step_return.result _ _
    (λ step returns left. subst (λ (b : Basic). TakesLine Part.Calls k old c.step_return.new.state left left step (Do b)) (sym c.in-Return.is) (return_line k old c.step_return.new.state step c.in-Return.kind returns left))
    c.step_return.ensures.moves

pub returns-in_default-clause-takes : goal.returns-in_default-clause-takes
returns-in_default-clause-takes c = λ left.
    leaves_line c.args.world.now c.args.state.now c.args.state.now left left NotMine Part.Calls (Do c.args.basic) refl refl refl
    (λ m f. ap (λ part. is_part part Part.Calls) (basic_core m.files m.setting.classes f c.args.basic c.in_default.not-Return))
