use Rattle.std.proofs.Common.{◌≡◌, sym, ap, ◌∙◌, Option, Some, option_and_then}
use Rattle.std.specs.Option.{option_map}
use Rattle.class_machine.specs.declared.meaning.Meaning.{Meaning}
use Rattle.class_machine.specs.ClassFiles.{pool_of}
use Rattle.class_machine.specs.Meanings.{meaning_of}
use Rattle.class_machine.specs.Operations.{Operation}
use Rattle.machine_code.proofs.operations.pool_operation.Goals as goal

pub returns-in-LoadConstant : goal.returns-in-LoadConstant
returns-in-LoadConstant c = λ code.
    let is : meaning_of c.args.op ≡ Some Meaning.LoadConstant = sym c.meaning_of.ensures ∙ c.in_ok-meaning_of.was ∙ ap Some c.in-LoadConstant.is in
    c.constant_operation.ensures code
    ∙ ap (λ (m : Option Meaning). option_map (λ (x : Operation). Some x) (option_and_then (pool_of c.args.pool.now c.args.index) m)) (sym is)
