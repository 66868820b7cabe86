use Rattle.std.proofs.Common.{rules, get_or, pos, ◌-◌, arith}
use Rattle.std.specs.Prelude.{FitsSigned}
use Rattle.std.specs.Int.{w32}
use Rattle.std.proofs.lemmas.Int.{to_z-of_z}
use Rattle.code_layout.proofs.Testing.{ascend_one, ascend_more, ascend_at, ascend_all}
use Rattle.code_layout.proofs.ready.ascend.Goals as goal

pub loop-i-init : goal.loop-i-init
loop-i-init c = ascend_one c.args.keys.now

pub returns-then-not-is_below : goal.returns-then-not-is_below
returns-then-not-is_below c =
    let before : FitsSigned w32 (get_or c.args.keys.now (c.loop-i.i - 1) (pos 0)) = search rules in
    let key : FitsSigned w32 (get_or c.args.keys.now c.loop-i.i (pos 0)) = search rules in
    let below = simp to_z-of_z at c.if-not-is_below.ensures in
    λ all. below (ascend_at c.args.keys.now c.loop-i.i (omega arith) (omega arith) all)

pub loop-i-preserved : goal.loop-i-preserved
loop-i-preserved c =
    let before : FitsSigned w32 (get_or c.args.keys.now (c.loop-i.i - 1) (pos 0)) = search rules in
    let key : FitsSigned w32 (get_or c.args.keys.now c.loop-i.i (pos 0)) = search rules in
    let below = simp to_z-of_z at c.if-not-is_below.ensures in
    ascend_more c.args.keys.now c.loop-i.i (omega arith) (omega arith) c.loop-i.invariant below

pub returns : goal.returns
returns c = ascend_all c.args.keys.now c.loop-i.i (omega arith) c.loop-i.invariant
