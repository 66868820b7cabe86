use Rattle.std.proofs.Common.{◌≡◌}
use Rattle.std.specs.Prelude.{map, slice_get, Some}
use Rattle.class_heads.specs.declared.types.ClassHead.{ClassHead}
use Rattle.machine_start.specs.Arguments.{argument_of}
use Rattle.machine_start.specs.Entries.{entry_in}
use Rattle.machine_start.proofs.Named.{entry_from}
use Rattle.machine_start.proofs.entries.find_in.Given as goal

-- none before is the entry
abbrev pub invariant-loop-position : goal.invariant-loop-position
invariant-loop-position l =
    (c : ClassHead) → slice_get l.world.heads l.class.0 ≡ Some c → entry_from l.world l.name (map argument_of l.args) l.class.0 c l.position ≡ entry_in l.world l.name (map argument_of l.args) l.class.0 c
