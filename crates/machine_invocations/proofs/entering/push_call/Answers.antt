use Rattle.std.proofs.Common.{List, ◌++◌, [], ◌∷◌, refl, ap, ◌∙◌}
use Rattle.machine_values.specs.declared.frames.Frame.{Frame}
use Rattle.machine_values.specs.declared.state.MachineState.{MachineState}
use Rattle.machine_requests.specs.Shares.{others_of}
use Rattle.machine_invocations.proofs.Begun.{keeps_same, on_err}
use Rattle.machine_invocations.proofs.Forgotten.{is_same}
use Rattle.machine_invocations.proofs.entering.push_call.Goals as goal

pub returns-in_err-reserve-clause-err : goal.returns-in_err-reserve-clause-err
returns-in_err-reserve-clause-err c =
    let new : MachineState = record c.args.state.now { frames = c.reserve.new.self } in
    on_err c.from_residual.result (keeps_same c.args.world.now c.args.state.now new refl c.reserve.ensures.items)

pub returns-in_err-monitor-clause-err : goal.returns-in_err-monitor-clause-err
returns-in_err-monitor-clause-err c =
    on_err c.from_residual-in_err-monitor.result (record {
      frames = c.reserve.ensures.items;
      due = refl;
      statics = refl;
      begun = refl;
      names = c.lock.ensures.names;
      shares = λ m w is shares. c.in_err-monitor.ensures.err.shares m (others_of c.args.state.now) w is refl shares;
      filled = λ m w is shares. c.in_err-monitor.ensures.err.filled m (others_of c.args.state.now) w is shares;
    })

pub returns-in_err-reserve-clause-same : goal.returns-in_err-reserve-clause-same
returns-in_err-reserve-clause-same c = on_err c.from_residual.result (record { rest = refl; frames = c.reserve.ensures.items })

pub returns-in_err-monitor-clause-same : goal.returns-in_err-monitor-clause-same
returns-in_err-monitor-clause-same c =
    let old = c.args.state.now in
    let new : MachineState = record old { frames = c.reserve.new.self; heap = c.lock.new.heap; monitors = c.lock.new.monitors } in
    on_err c.from_residual-in_err-monitor.result (is_same old new refl c.reserve.ensures.items c.in_err-monitor.ensures.heap c.in_err-monitor.ensures.monitors)

pub returns-clause-ok : goal.returns-clause-ok
returns-clause-ok c callee sees = record {
  monitor = c.in_ok-monitor.monitor;
  frames = c.push_reserved.ensures.items ∙ ap (λ (fs : List Frame). fs ++ record c.args.frame { monitor = c.in_ok-monitor.monitor } ∷ []) c.reserve.ensures.items;
  locks = c.in_ok-monitor.ensures.ok callee sees;
  names = c.lock.ensures.names;
  rest = refl;
}
