-- Which instructions are those of the calls.
use Rattle.std.specs.Prelude.{◌≡◌, Bool, true, false, if◌then◌else◌, is_none, List, Option, Some, None, refl}
use Rattle.class_file.specs.declared.types.ClassFile.{ClassFile}
use Rattle.class_world.specs.Tables.{Known}
use Rattle.class_machine.specs.declared.kinds.Kind.{Kind}
use Rattle.class_machine.specs.declared.meaning.Basic.TheVariants as basic
use Rattle.class_machine.specs.Classes.{Method, Classes}
use Rattle.class_machine.specs.ClassFiles.{file_named}
use Rattle.class_machine.specs.Operations.{Do}
use Rattle.class_machine.specs.Turn.{Purpose, Ordinary, Constructs, Initialises, Within}
use Rattle.machine_invocations.specs.Returning.{is_within}
use Rattle.machine_parts.specs.Lines.{TakesLine}
use Rattle.machine_parts.specs.Taken.{leaves, executes_own}
use Rattle.machine_statics.specs.Returns.{Returns}
use Rattle.machine_steps.specs.declared.step.Step.{Step}
use Rattle.machine_steps.specs.declared.step.Step.TheVariants.{Went, Said, Ended, NotMine}
use Rattle.machine_steps.specs.Parts.{Part, is_part, part_of_method, part_of_return}
use Rattle.machine_values.specs.declared.script.Answer.{Answer}
use Rattle.machine_values.specs.declared.state.MachineState.{MachineState}

-- ---- returns

module _ (files : List ClassFile) (cs : Classes) where
  return_left : (purpose : Purpose) → is_within purpose ≡ true → is_part (part_of_return files cs purpose) Part.Calls ≡ false
  return_left (Within wait) within = refl
  return_left Ordinary within = absurd cc
  return_left Constructs within = absurd cc
  return_left (Initialises class) within = absurd cc

  return_own : (purpose : Purpose) → is_within purpose ≡ false → is_part (part_of_return files cs purpose) Part.Calls ≡ true
  return_own (Within wait) within = absurd cc
  return_own Ordinary within = refl
  return_own Constructs within = refl
  return_own (Initialises class) within = refl

pub return_line : (k : Known) (old new : MachineState) (step : Step) (kind : Option Kind) → Returns k old new step kind → (left : List Answer) → TakesLine Part.Calls k old new left left step (Do (basic.Return kind))
return_line k old new NotMine kind returns left m t f below is runs some =
    leaves k old new left left NotMine Part.Calls m t f below (Do (basic.Return kind)) refl returns.0 refl (return_left m.files m.setting.classes f.purpose (returns.1 m left t f below is runs some))
return_line k old new Went kind returns left m t f below is runs some =
    let own = returns m left t f below is runs some in
    executes_own k old new left left Went Part.Calls m t f below (Do (basic.Return kind)) own.1 (return_own m.files m.setting.classes f.purpose own.0)
return_line k old new (Said event) kind returns left m t f below is runs some =
    let own = returns m left t f below is runs some in
    executes_own k old new left left (Said event) Part.Calls m t f below (Do (basic.Return kind)) own.1 (return_own m.files m.setting.classes f.purpose own.0)
return_line k old new (Ended ending) kind returns left m t f below is runs some =
    let own = returns m left t f below is runs some in
    executes_own k old new left left (Ended ending) Part.Calls m t f below (Do (basic.Return kind)) own.1 (return_own m.files m.setting.classes f.purpose own.0)

-- ---- calls

-- a step is of one part
pub apart : (part : Part) → is_part part Part.Library ≡ true → is_part part Part.Calls ≡ false
apart Part.Core library = absurd cc
apart Part.Calls library = absurd cc
apart Part.Library library = refl

-- a call that isn't the library's is that of the calls
pub call_own : (files : List ClassFile) (cs : Classes) (found : Option Method) → is_part (part_of_method files cs found) Part.Library ≡ false → is_part (part_of_method files cs found) Part.Calls ≡ true
call_own files cs None other = refl
call_own files cs (Some m) other = by (is_none (file_named files m.name.class)) other where
  by : (library : Bool) → is_part (if library then Part.Library else Part.Calls) Part.Library ≡ false → is_part (if library then Part.Library else Part.Calls) Part.Calls ≡ true
  by true other = absurd cc
  by false other = refl
