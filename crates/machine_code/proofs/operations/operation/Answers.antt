use Rattle.std.proofs.Common.{sym, ap, ◌∙◌, Some}
use Rattle.std.specs.Option.{option_map}
use Rattle.opcode_table.specs.declared.insn.Insn.{Insn}
use Rattle.class_machine.specs.ClassFiles.{operation}
use Rattle.class_machine.specs.Operations.{Operation}
use Rattle.machine_code.proofs.operations.operation.Goals as goal

pub returns-in-Pool : goal.returns-in-Pool
returns-in-Pool c = λ code.
    c.pool_operation.ensures code ∙ ap (λ (insn : Insn). option_map (λ (x : Operation). Some x) (operation c.args.pool.now code insn)) (sym c.in-Pool.is)
