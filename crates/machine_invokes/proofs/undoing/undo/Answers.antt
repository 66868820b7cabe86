use Rattle.std.specs.Prelude.{◌≡◌, ◌-◌, ℕ, suc, length}
use Rattle.std.proofs.Common.{ap, arith}
use Rattle.machine_invokes.proofs.TakenBack.{undone}
use Rattle.machine_invokes.proofs.undoing.undo.Goals as goal

pub returns : goal.returns
returns c before after can same =
    let old = c.args.state.now in
    let top : ℕ = c.len-top.result - 1 in
    let some = c.requires in
    let len : length after.frames.items ≡ suc top = let e = ap length same.frames in omega (arith, e, some, old.frames.ok.0) in
    undone before after old c.restore_frame.new.state c.take_back.new.state c.args.call top can same len c.restore_frame.ensures c.take_back.ensures
