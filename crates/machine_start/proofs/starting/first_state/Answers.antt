use Rattle.std.proofs.Common.{refl, length}
use Rattle.std.specs.List.{sum}
use Rattle.class_heads.specs.Numbers.{field_counts}
use Rattle.machine_values.specs.declared.state.Due.TheVariants.{Nothing}
use Rattle.machine_values.specs.declared.state.MachineState.{MachineState}
use Rattle.machine_start.proofs.Opened.{first_there, first_formed}
use Rattle.machine_start.proofs.starting.first_state.Goals as goal

pub returns-clause-first : goal.returns-clause-first
returns-clause-first c =
    let heads = c.args.world.now.heads in
    let state : MachineState = record { frames = c.new.result; heap = c.in_ok-heap.heap; statics = c.in_ok-statics.statics; begun = c.in_ok-begun.begun; monitors = c.new-2.result; due = Nothing } in
    first_there c.args.world.now state (sum (field_counts heads)) (length heads) c.new.ensures.items refl c.in_ok-statics.ensures c.in_ok-begun.ensures c.new-2.ensures c.in_ok-heap.ensures

pub returns-clause-formed : goal.returns-clause-formed
returns-clause-formed c =
    let heads = c.args.world.now.heads in
    let state : MachineState = record { frames = c.new.result; heap = c.in_ok-heap.heap; statics = c.in_ok-statics.statics; begun = c.in_ok-begun.begun; monitors = c.new-2.result; due = Nothing } in
    first_formed c.args.world.now state (sum (field_counts heads)) (length heads) c.new.ensures.items refl c.in_ok-statics.ensures c.in_ok-begun.ensures c.new-2.ensures refl refl
