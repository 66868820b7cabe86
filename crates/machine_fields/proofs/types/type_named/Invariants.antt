use Rattle.std.proofs.Common.{◌≡◌, ◌+◌, length}
use Rattle.class_heads.specs.Hierarchy.{type_of_descriptor}
use Rattle.machine_fields.specs.Types.{arrays}
use Rattle.machine_fields.proofs.types.type_named.Given as goal

abbrev pub invariant-loop-rest : goal.invariant-loop-rest
invariant-loop-rest l = record {
  same : type_of_descriptor l.name ≡ arrays l.dims (type_of_descriptor l.rest);
  whole : l.dims + length l.rest ≡ length l.name;
}

abbrev pub decreases-loop-rest : goal.decreases-loop-rest
decreases-loop-rest l = length l.rest
