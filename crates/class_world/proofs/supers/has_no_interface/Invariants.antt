use Rattle.std.proofs.Common.{◌≡◌, take, false}
use Rattle.std.specs.List.{list_any}
use Rattle.class_heads.specs.Faults.{is_no_interface}
use Rattle.class_world.proofs.supers.has_no_interface.Given as goal

abbrev pub invariant-loop-name : goal.invariant-loop-name
invariant-loop-name l = list_any (is_no_interface l.heads) (take l.name-index l.wanted) ≡ false
