use Rattle.std.proofs.Common.{◌≡◌, drop}
use Rattle.machine_code.proofs.TypeKinds.{kinds}
use Rattle.machine_code.proofs.descriptors.parameter_kind.Given as goal

abbrev pub invariant-loop-turn : goal.invariant-loop-turn
invariant-loop-turn l = drop l._turn (kinds (drop 1 l.descriptor)) ≡ kinds l.rest
