use Rattle.std.proofs.Common.{◌≡◌, ◌+◌, length, take}
use Rattle.machine_requests.proofs.monitors.cut.Given as goal

abbrev pub invariant-loop-extra : goal.invariant-loop-extra
invariant-loop-extra l = record { size : length l.monitors + l._extra ≡ length l.initial.monitors + l.count; begin : take l.count l.monitors ≡ take l.count l.initial.monitors }
