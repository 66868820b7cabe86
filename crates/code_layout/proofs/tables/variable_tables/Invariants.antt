use Rattle.std.proofs.Common.{◌≡◌, take}
use Rattle.std.specs.List.{filter_map}
use Rattle.class_file.specs.declared.types.CodeAttribute.{CodeAttribute}
use Rattle.code_layout.specs.Numbers.{variables_by}
use Rattle.code_layout.proofs.tables.variable_tables.Given as goal

abbrev pub invariant-loop-attribute : goal.invariant-loop-attribute
invariant-loop-attribute l = l.tables.items ≡ filter_map (λ (a : CodeAttribute). variables_by l.numbers l.count a.name a.content) (take l.attribute-index l.attributes)
