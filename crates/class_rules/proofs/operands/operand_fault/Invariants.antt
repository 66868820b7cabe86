use Rattle.std.proofs.Common.{◌≡◌, drop}
use Rattle.std.specs.Prelude.{map}
use Rattle.class_file.specs.Code.{first_failing, has_operand}
use Rattle.class_rules.specs.Instructions.{as_placed}
use Rattle.class_rules.proofs.operands.operand_fault.Given as goal

abbrev pub invariant-loop-placed : goal.invariant-loop-placed
invariant-loop-placed l =
    first_failing (λ p. has_operand l.major l.pool p.insn) (map as_placed (drop l.placed-index l.insns))
    ≡ first_failing (λ p. has_operand l.major l.pool p.insn) (map as_placed l.insns)
