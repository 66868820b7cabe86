use Rattle.std.specs.Prelude.{◌<◌, ◌-◌, take, length}
use Rattle.std.proofs.Common.{arith}
use Rattle.std.proofs.lemmas.Option.{slice_get_read}
use Rattle.machine_steps.specs.Running.{split_last}
use Rattle.machine_parts.proofs.Standing.{no_code, no_line, line_there}
use Rattle.machine_parts.proofs.running.running_operation.Goals as goal

pub returns-in_default : goal.returns-in_default
returns-in_default c = no_code c.args.world.now c.args.state.now c.in_default.ensures.code

pub returns-in_default-operation_at : goal.returns-in_default-operation_at
returns-in_default-operation_at c =
    let old = c.args.state.now in
    let top = c.len-top.result - 1 in
    let g = c.index.result.now in
    let some : 0 < length old.frames.items = c.in-Some.ensures.frames in
    let there = slice_get_read old.frames.items c.len-top.result top g (omega (arith, old.frames.ok.0)) (omega arith) c.index.ensures in
    let split = split_last old.frames.items top g (omega (arith, old.frames.ok.0, some)) there in
    no_line c.args.world.now old (take top old.frames.items) g c.in-Some.code split c.in-Some.ensures.code c.in_default-operation_at.ensures

pub returns : goal.returns
returns c =
    let old = c.args.state.now in
    let top = c.len-top.result - 1 in
    let g = c.index.result.now in
    let some : 0 < length old.frames.items = c.in-Some.ensures.frames in
    let there = slice_get_read old.frames.items c.len-top.result top g (omega (arith, old.frames.ok.0)) (omega arith) c.index.ensures in
    let split = split_last old.frames.items top g (omega (arith, old.frames.ok.0, some)) there in
    line_there c.args.world.now old (take top old.frames.items) g c.in-Some.code split c.in-Some.ensures.code c.in-Some-operation_at.operation some c.in-Some-operation_at.ensures
