use Rattle.std.proofs.Common.{refl}
use Rattle.machine_values.specs.declared.state.MachineState.{MachineState}
use Rattle.machine_steps.proofs.Dropping.{none_dropped, one_dropped}
use Rattle.machine_invocations.proofs.Left.{nothing_dropped}
use Rattle.machine_invocations.proofs.leaving.drop_frame.Goals as goal

pub returns-in_default-clause-dropped : goal.returns-in_default-clause-dropped
returns-in_default-clause-dropped c =
    let new : MachineState = record c.args.state.now { frames = c.pop.new.self } in
    nothing_dropped c.args.state.now new c.in_default.ensures.items

pub returns-clause-dropped : goal.returns-clause-dropped
returns-clause-dropped c = one_dropped c.args.state.now c.args.state.now _ c.in-Some.frame (none_dropped c.args.state.now) c.in-Some.ensures.items refl c.leave.ensures
