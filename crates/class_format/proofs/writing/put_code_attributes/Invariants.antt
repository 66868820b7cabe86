use Rattle.std.proofs.Common.{◌≡◌, ◌++◌, take}
use Rattle.std.specs.List.{flat_map}
use Rattle.class_file.specs.Spelling.{spelled_code_attribute}
use Rattle.class_format.proofs.writing.put_code_attributes.Given as goal

abbrev pub invariant-loop-attribute : goal.invariant-loop-attribute
invariant-loop-attribute l = l.out.items ≡ l.fn.out.items ++ flat_map spelled_code_attribute (take l.attribute-index l.code_attributes)
