use Rattle.std.proofs.Common.{◌≡◌, take, drop}
use Rattle.aj_names.specs.Reading.{class_at}
use Rattle.aj_names.specs.declared.names.NameState.TheVariants.{Start}
use Rattle.aj_names.proofs.Scans.{behind_name}
use Rattle.aj_names.proofs.names.class_name_at.Given as goal

abbrev pub invariant-loop-i : goal.invariant-loop-i
invariant-loop-i l = behind_name (take l.i l.bytes) (class_at l.state (drop l.i l.bytes)) ≡ class_at Start l.bytes
