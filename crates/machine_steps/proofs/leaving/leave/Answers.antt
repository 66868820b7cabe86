use Rattle.machine_requests.specs.Monitors.{with_monitors}
use Rattle.machine_requests.specs.Replies.{object}
use Rattle.machine_steps.proofs.Counts.{left_by_reply}
use Rattle.machine_steps.proofs.leaving.leave.Goals as goal

pub returns : goal.returns
returns c s things others w same known distinct shares =
    left_by_reply s things (with_monitors others c.leave_monitor-reply.new.monitors) w (object s things.names c.args.monitor) c.leave_monitor-reply.result
    (c.leave_monitor-reply.ensures things others same known s w distinct shares)
