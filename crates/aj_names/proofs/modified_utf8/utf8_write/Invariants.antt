use Rattle.std.proofs.Common.{◌≡◌, take}
use Rattle.aj_names.specs.ModifiedUtf8.{text_spelling}
use Rattle.aj_names.proofs.modified_utf8.utf8_write.Given as goal

abbrev pub invariant-loop-unit : goal.invariant-loop-unit
invariant-loop-unit l = l.out.items ≡ text_spelling (take l.unit-index l.units)
