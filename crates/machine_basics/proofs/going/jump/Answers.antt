use Rattle.std.specs.Prelude.{◌<◌, ◌-◌, take, length}
use Rattle.std.proofs.Common.{arith}
use Rattle.std.proofs.lemmas.Option.{slice_get_read}
use Rattle.machine_steps.specs.Running.{split_last}
use Rattle.machine_basics.proofs.Onward.{no_code_jumps, jumps_there}
use Rattle.machine_basics.proofs.going.jump.Goals as goal

pub returns-in_default-clause-moves : goal.returns-in_default-clause-moves
returns-in_default-clause-moves c = no_code_jumps c.args.world.now c.args.state.now c.args.state.now c.in_default.ensures.code c.args.number

pub returns-clause-moves : goal.returns-clause-moves
returns-clause-moves c =
    let old = c.args.state.now in
    let x = c.index.result.now in
    let top = c.len-top.result - 1 in
    let some : 0 < length old.frames.items = c.in-Some.ensures.frames in
    let there = slice_get_read old.frames.items c.len-top.result top x (omega (arith, old.frames.ok.0)) (omega arith) c.index.ensures in
    jumps_there c.args.world.now old (take top old.frames.items) x c.in-Some.code (split_last old.frames.items top x (omega (arith, old.frames.ok.0, some)) there) c.in-Some.ensures.code c.args.number c.target-pc.result
    c.go_on.new.state c.go_on.result c.target-pc.ensures c.go_on.ensures.moves
