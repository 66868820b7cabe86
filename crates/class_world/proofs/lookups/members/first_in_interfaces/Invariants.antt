use Rattle.std.proofs.Common.{◌≡◌, drop}
use Rattle.std.specs.List.{filter}
use Rattle.class_heads.specs.Searches.{first_found, method_in, is_interface_at}
use Rattle.class_world.specs.Found.{member_named}
use Rattle.class_world.proofs.lookups.members.first_in_interfaces.Given as goal

-- what is left decides
abbrev pub invariant-loop-place : goal.invariant-loop-place
invariant-loop-place l = first_found (method_in l.heads (member_named l.name l.descriptor)) (filter (is_interface_at l.heads) (drop l.place-index l.places)) ≡ first_found (method_in l.heads (member_named l.name l.descriptor)) (filter (is_interface_at l.heads) l.places)
