use Rattle.std.proofs.Common.{◌≡◌, take, None}
use Rattle.std.specs.List.{find}
use Rattle.class_world.specs.Tables.{is_unknown}
use Rattle.class_world.proofs.supers.first_unknown.Given as goal

abbrev pub invariant-loop-name : goal.invariant-loop-name
invariant-loop-name l = find (is_unknown l.names) (take l.name-index l.wanted) ≡ None
