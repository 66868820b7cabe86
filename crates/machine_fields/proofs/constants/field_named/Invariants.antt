use Rattle.std.proofs.Common.{◌≡◌, drop}
use Rattle.std.specs.List.{find}
use Rattle.class_file.specs.declared.types.Member.{Member}
use Rattle.class_file.specs.Pool.{member_type}
use Rattle.class_machine.specs.ClassFiles.{is_typed}
use Rattle.machine_fields.specs.Constants.{named_type}
use Rattle.machine_fields.proofs.constants.field_named.Given as goal

-- what is left decides
abbrev pub invariant-loop-member : goal.invariant-loop-member
invariant-loop-member l = find (λ (m : Member). is_typed (named_type l.name l.descriptor) (member_type l.file.pool m)) (drop l.member-index l.file.fields) ≡ find (λ (m : Member). is_typed (named_type l.name l.descriptor) (member_type l.file.pool m)) l.file.fields
