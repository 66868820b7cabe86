use Rattle.std.proofs.Common.{rules, ◌<◌, arith, sym}
use Rattle.code_layout.proofs.Branches.{opposite_fits, goto_w_fits, jsr_w_fits}
use Rattle.code_layout.proofs.laid_bytes.put_widened.Goals as goal

pub put_branch-requires : goal.put_branch-requires
put_branch-requires c =
    let byte : c.args.op < 256 = omega (arith, c.ranges.op.fits) in
    opposite_fits c.args.op c.opposite.result byte c.requires.short (sym c.if-is_test.ensures) c.opposite.ensures

pub put_branch-requires-then-is_test : goal.put_branch-requires-then-is_test
put_branch-requires-then-is_test c = goto_w_fits _ (search rules)

pub put_branch-requires-then-op-eq-GOTO : goal.put_branch-requires-then-op-eq-GOTO
put_branch-requires-then-op-eq-GOTO c = goto_w_fits _ (search rules)

pub put_branch-requires-else-op-eq-GOTO : goal.put_branch-requires-else-op-eq-GOTO
put_branch-requires-else-op-eq-GOTO c = jsr_w_fits _ (search rules)
