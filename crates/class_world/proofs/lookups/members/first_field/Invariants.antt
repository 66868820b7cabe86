use Rattle.std.proofs.Common.{◌≡◌, drop}
use Rattle.class_heads.specs.Searches.{first_found, field_in}
use Rattle.class_world.specs.Found.{member_named}
use Rattle.class_world.proofs.lookups.members.first_field.Given as goal

-- what is left decides
abbrev pub invariant-loop-place : goal.invariant-loop-place
invariant-loop-place l = first_found (field_in l.heads (member_named l.name l.descriptor)) (drop l.place-index l.places) ≡ first_found (field_in l.heads (member_named l.name l.descriptor)) l.places
