use Rattle.std.proofs.Common.{◌≡◌, ◌≤◌, max, length, take}
use Rattle.machine_requests.specs.Monitors.{HasSameCounts}
use Rattle.machine_requests.proofs.monitors.add_counts.Given as goal

abbrev pub invariant-loop-missing : goal.invariant-loop-missing
invariant-loop-missing l = record {
  counts : HasSameCounts l.initial.monitors l.monitors;
  len : length l.monitors ≡ l._missing;
  few : length l.monitors ≤ max (length l.initial.monitors) l._missing-end;
  least : length l.initial.monitors ≤ length l.monitors;
  begin : take (length l.initial.monitors) l.monitors ≡ l.initial.monitors;
}
