use Rattle.std.proofs.Common.{arith, rules, sym, get_or}
use Rattle.std.specs.Int.{w32}
use Rattle.std.specs.Prelude.{FitsSigned, pos}
use Rattle.std.proofs.lemmas.Int.{to_z-of_z}
use Rattle.code_layout.specs.Numbers.{IsTarget}
use Rattle.code_layout.proofs.Zips.{zip_more}
use Rattle.code_layout.proofs.jumps.targets.Goals as goal

pub loop-offset-preserved : goal.loop-offset-preserved
loop-offset-preserved c =
    let fits : FitsSigned w32 (get_or c.args.offsets.now c.loop-offset.offset-index (pos 0)) = search rules in
    zip_more (IsTarget c.args.numbers.now c.args.pc) c.args.offsets.now _ _ c.loop-offset.offset-index (pos 0) c.in-Some.number (omega arith) c.loop-offset.invariant (simp to_z-of_z at (sym c.in-Some.ensures)) c.in_ok-push-in-Some.ensures.items
