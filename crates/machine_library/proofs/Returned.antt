-- What becomes of a return.
use Rattle.std.specs.Prelude.{◌≡◌, Bool, true, false, List, Option, Result, IfOk, refl}
use Rattle.std.specs.declared.alloc.AllocError.{AllocError}
use Rattle.std.proofs.Common.{sym, ◌∙◌, subst}
use Rattle.std.proofs.lemmas.Result.{IfOk-weaker}
use Rattle.class_world.specs.Tables.{Known}
use Rattle.class_machine.specs.declared.kinds.Kind.{Kind}
use Rattle.class_machine.specs.declared.meaning.Basic.{Basic}
use Rattle.class_machine.specs.declared.meaning.Basic.TheVariants as basic
use Rattle.class_machine.specs.Operations.{Do}
use Rattle.machine_parts.specs.Lines.{TakesLine}
use Rattle.machine_parts.specs.Taken.{leaves, executes_own}
use Rattle.machine_steps.specs.declared.step.Step.{Step}
use Rattle.machine_steps.specs.declared.step.Step.TheVariants.{NotMine}
use Rattle.machine_steps.specs.Executing.{executes}
use Rattle.machine_steps.specs.Moves.{Moves}
use Rattle.machine_steps.specs.Parts.{Part}
use Rattle.machine_values.specs.declared.script.Answer.{Answer}
use Rattle.machine_values.specs.declared.state.MachineState.{MachineState}
use Rattle.machine_returns.specs.Returns.{brings_text, IsLeft}
use Rattle.machine_library.proofs.Belonging.{return_part}

pub return_taken : (k : Known) (old new : MachineState) (b : Basic) (kind : Option Kind) (r : Result Step AllocError) → b ≡ basic.Return kind
    → (brings_text old ≡ true → IfOk r (λ step. Moves k old new step (executes (Do (basic.Return kind))))) → (brings_text old ≡ false → IsLeft old new r)
    → IfOk r (λ step. (left : List Answer) → TakesLine Part.Library k old new left left step (Do b))
return_taken k old new b kind r is own other =
    subst (λ (x : Basic). IfOk r (λ step. (left : List Answer) → TakesLine Part.Library k old new left left step (Do x))) (sym is) (by (brings_text old) refl) where
      by : (brings : Bool) → brings_text old ≡ brings → IfOk r (λ step. (left : List Answer) → TakesLine Part.Library k old new left left step (Do (basic.Return kind)))
      by true text =
          IfOk-weaker r (λ step. Moves k old new step (executes (Do (basic.Return kind)))) (λ step. (left : List Answer) → TakesLine Part.Library k old new left left step (Do (basic.Return kind)))
          (λ step moves left m t f below is' runs some. executes_own k old new left left step Part.Library m t f below (Do (basic.Return kind)) (moves m left t f below is' runs some) (return_part old m left t f below runs some ∙ text))
          (own text)
      by false text =
          subst (λ (x : Result Step AllocError). IfOk x (λ step. (left : List Answer) → TakesLine Part.Library k old new left left step (Do (basic.Return kind)))) (sym (other text).step)
          (λ left m t f below is' runs some. leaves k old new left left NotMine Part.Library m t f below (Do (basic.Return kind)) refl (other text).same refl (return_part old m left t f below runs some ∙ text))
