use Rattle.std.proofs.Common.{◌≡◌, ◌++◌}
use Rattle.std.specs.Prelude.{None, replicate}
use Rattle.machine_start.proofs.starting.push_unset.Given as goal

-- so many so far
abbrev pub invariant-loop-field : goal.invariant-loop-field
invariant-loop-field l = l.statics ≡ l.fn.statics ++ replicate l._field None
