use Rattle.std.proofs.Common.{◌≡◌, ◌++◌, take}
use Rattle.std.specs.List.{flat_map}
use Rattle.aj_names.specs.Descriptors.{field_spelling}
use Rattle.aj_names.proofs.printing.put_params.Given as goal

abbrev pub invariant-loop-t : goal.invariant-loop-t
invariant-loop-t l = l.out.items ≡ l.fn.out.items ++ flat_map field_spelling (take l.t-index l.params)
