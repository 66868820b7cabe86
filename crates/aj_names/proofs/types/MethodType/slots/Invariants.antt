use Rattle.std.proofs.Common.{◌≡◌, ◌+◌, ◌-◌, ◌^◌, min, take, if◌then◌else◌}
use Rattle.aj_names.specs.Descriptors.{params_slots}
use Rattle.aj_names.proofs.types.MethodType.slots.Given as goal

abbrev pub invariant-loop-t : goal.invariant-loop-t
invariant-loop-t l = l.slots ≡ min ((if l.receiver then 1 else 0) + params_slots (take l.t-index l.t-items)) (2 ^ 32 - 1)
