use Rattle.std.proofs.Common.{◌≡◌, None}
use Rattle.class_lines.specs.Operations.{op_below}
use Rattle.class_lines.proofs.operations.op_named.Given as goal

-- no opcode so far has the mnemonic
abbrev pub invariant-loop-op : goal.invariant-loop-op
invariant-loop-op l = op_below l.op l.word ≡ None
