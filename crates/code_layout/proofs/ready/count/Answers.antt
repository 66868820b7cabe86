use Rattle.std.proofs.Common.{rules, ◌≡◌, get_or, pos, ◌+ℤ◌, arith}
use Rattle.std.specs.Prelude.{FitsSigned}
use Rattle.std.specs.Int.{w32}
use Rattle.std.proofs.lemmas.Int.{to_z-of_z}
use Rattle.code_layout.proofs.Testing.{count_more, count_all, count_at, count_some, some_keys}
use Rattle.code_layout.proofs.ready.count.Goals as goal

pub returns-then-is_empty : goal.returns-then-is_empty
returns-then-is_empty c = λ counts. count_some c.args.keys.now counts c.if-is_empty.ensures

pub returns-then-not-is_above : goal.returns-then-not-is_above
returns-then-not-is_above c =
    let low : FitsSigned w32 (get_or c.args.keys.now 0 (pos 0)) = search rules in
    let key : FitsSigned w32 (get_or c.args.keys.now c.loop-i.i (pos 0)) = search rules in
    let differs = simp to_z-of_z at c.if-not-is_above.ensures in
    λ counts. differs (count_at c.args.keys.now c.loop-i.i counts (omega arith))

pub loop-i-preserved : goal.loop-i-preserved
loop-i-preserved c =
    let low : FitsSigned w32 (get_or c.args.keys.now 0 (pos 0)) = search rules in
    let key : FitsSigned w32 (get_or c.args.keys.now c.loop-i.i (pos 0)) = search rules in
    let same = simp to_z-of_z at c.if-not-is_above.ensures in
    count_more (λ j. get_or c.args.keys.now 0 (pos 0) +ℤ pos j) c.args.keys.now c.loop-i.i (omega arith) c.loop-i.invariant same

pub returns : goal.returns
returns c = count_all c.args.keys.now c.loop-i.i (some_keys _ c.if-is_empty.ensures) (omega arith) c.loop-i.invariant
