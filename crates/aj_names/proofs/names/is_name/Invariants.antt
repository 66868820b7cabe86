use Rattle.std.proofs.Common.{◌≡◌, drop}
use Rattle.aj_names.specs.Reading.{ends_name}
use Rattle.aj_names.specs.declared.names.NameState.TheVariants.{Start}
use Rattle.aj_names.proofs.names.is_name.Given as goal

abbrev pub invariant-loop-byte : goal.invariant-loop-byte
invariant-loop-byte l = ends_name l.kind l.state (drop l.byte-index l.bytes) ≡ ends_name l.kind Start l.bytes
