use Rattle.std.proofs.Common.{◌≡◌, ◌∙◌, arith, sym, ap, ℕ, length, refl}
use Rattle.std.specs.Prelude.{◌<◌}
use Rattle.std.specs.List.{AllByRecursion}
use Rattle.code_layout.specs.declared.method_code.Jump.{Jump}
use Rattle.code_layout.specs.declared.block.BlockTarget.{BlockTarget}
use Rattle.code_layout.specs.Blocks.{IsTargetOf, Leads, target_row}
use Rattle.code_layout.proofs.Starts.{all_at, zip_lengths, rows_more, keys_more}
use Rattle.code_layout.proofs.row.add_rows.Goals as goal

pub bounds-jumps-i : goal.bounds-jumps-i
bounds-jumps-i c =
    let same = zip_lengths Leads c.args.block.now.insns c.args.block.now.targets c.requires.is.insns in
    let jumps = ap length c.as_slice-jumps.ensures in let insns = ap length c.as_slice-insn-items.ensures in
    omega arith

pub row_jump-requires-clause-there : goal.row_jump-requires-clause-there
row_jump-requires-clause-there c =
    let same = zip_lengths Leads c.args.block.now.insns c.args.block.now.targets c.requires.is.insns in
    let insns = ap length c.as_slice-insn-items.ensures in
    all_at (λ (j : Jump BlockTarget). AllByRecursion (IsTargetOf (length c.args.blocks.now) c.args.block.now) j.to) c.args.block.now.targets c.loop-i.i c.index-jumps-i.result c.requires.is.targets (omega arith) (rw c.as_slice-jumps.ensures at c.index-jumps-i.is)

pub loop-i-preserved : goal.loop-i-preserved
loop-i-preserved c =
    let same = zip_lengths Leads c.args.block.now.insns c.args.block.now.targets c.requires.is.insns in
    let insns = ap length c.as_slice-insn-items.ensures in
    let e = c.as_slice-insn-items.ensures in
    let pushed = rw e at c.in_ok-push.ensures.items in (
      keys_more c.loop-i.rows.items _ _ _ c.loop-i.invariant.0 c.in_ok-jump.ensures.fit pushed,
      rows_more (target_row c.args.blocks.now c.args.start c.args.block.now.labels) c.args.block.now.insns c.args.block.now.targets c.loop-i.i _ c.index-jumps-i.result c.in_ok-jump.jump c.loop-i.rows.items _ _
          (omega arith) (omega arith) (rw c.as_slice-jumps.ensures at c.index-jumps-i.is) c.in_ok-jump.ensures.keys c.in_ok-jump.ensures.to pushed c.loop-i.invariant.1,
    )
