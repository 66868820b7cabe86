-- The first pair that does not ascend ends the walk, and else each was seen.
use Rattle.std.proofs.Common.{◌≡◌, ◌+◌, ◌-◌, true, false, arith, sym}
use Rattle.std.specs.Prelude.{int_lt}
use Rattle.opcode_table.specs.Decoding.{pair_count, ascends_at}
use Rattle.opcode_table.specs.Each.{each_more, each_fails, each_fewer}
use Rattle.opcode_table.proofs.Keys.{not_above, above}
use Rattle.opcode_table.proofs.switch.keys_ascend.Goals as goal

pub returns-then-key : goal.returns-then-key
returns-then-key c =
    let lt : int_lt c.key.result c.key-in-loop-i.result ≡ false = not_above c.key-in-loop-i.result c.key.result c.key-in-loop-i.type_inv c.key.type_inv c.if-key.true in
    let next : c.loop-i.i ≡ c.loop-i.i - 1 + 1 = omega arith in
    let here : ascends_at c.args.code.now c.args.table (c.loop-i.i - 1) ≡ false = rw (← c.key.ensures, ← next, ← c.key-in-loop-i.ensures) lt in
    sym (each_fails (λ i. ascends_at c.args.code.now c.args.table i) (pair_count c.args.code.now c.args.table - 1) (c.loop-i.i - 1) (omega (arith, c.requires.count)) here)

pub loop-i-preserved : goal.loop-i-preserved
loop-i-preserved c =
    let lt : int_lt c.key.result c.key-in-loop-i.result ≡ true = above c.key-in-loop-i.result c.key.result c.key-in-loop-i.type_inv c.key.type_inv c.if-key.false in
    let next : c.loop-i.i ≡ c.loop-i.i - 1 + 1 = omega arith in
    let here : ascends_at c.args.code.now c.args.table (c.loop-i.i - 1) ≡ true = rw (← c.key.ensures, ← next, ← c.key-in-loop-i.ensures) lt in
    each_more (λ i. ascends_at c.args.code.now c.args.table i) (c.loop-i.i - 1) (c.loop-i.i + 1 - 1) (omega arith) c.loop-i.invariant here

pub returns : goal.returns
returns c = sym (each_fewer (λ i. ascends_at c.args.code.now c.args.table i) (c.loop-i.i - 1) (pair_count c.args.code.now c.args.table - 1) (omega (arith, c.requires.count)) c.loop-i.invariant)
