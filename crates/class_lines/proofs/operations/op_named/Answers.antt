use Rattle.std.proofs.Common.{sym, arith, rules}
use Rattle.class_lines.proofs.CaseLists.{op_found, op_none}
use Rattle.class_lines.proofs.operations.op_named.Goals as goal

pub returns-then-eq : goal.returns-then-eq
returns-then-eq c = sym (op_found c.loop-op.op c.args.word.now (omega arith) c.loop-op.invariant (search rules))

pub returns : goal.returns
returns c = sym (op_none c.loop-op.op c.args.word.now (omega arith) (omega arith) c.loop-op.invariant)
