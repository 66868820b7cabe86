use Rattle.std.specs.Prelude.{refl}
use Rattle.std.proofs.Common.{ap}
use Rattle.class_machine.specs.Operations.{Do}
use Rattle.machine_parts.specs.Forms.{basic_core}
use Rattle.machine_parts.specs.Taken.{leaves_line}
use Rattle.machine_steps.specs.declared.step.Step.TheVariants.{NotMine}
use Rattle.machine_steps.specs.Parts.{Part, is_part}
use Rattle.machine_library.proofs.Returned.{return_taken}
use Rattle.machine_library.proofs.executing.execute_basic.Goals as goal

pub returns-in-Return-clause-takes : goal.returns-in-Return-clause-takes
returns-in-Return-clause-takes c =
    return_taken c.args.world.now c.args.state.now c.return_text.new.state c.args.basic c.in-Return.kind c.return_text.result c.in-Return.is c.return_text.ensures.moves c.return_text.ensures.others

pub returns-in_default-clause-takes : goal.returns-in_default-clause-takes
returns-in_default-clause-takes c = λ left.
    leaves_line c.args.world.now c.args.state.now c.args.state.now left left NotMine Part.Library (Do c.args.basic) refl refl refl
    (λ m f. ap (λ part. is_part part Part.Library) (basic_core m.files m.setting.classes f c.args.basic c.in_default.not-Return))
