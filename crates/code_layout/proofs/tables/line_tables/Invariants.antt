use Rattle.std.proofs.Common.{◌≡◌, take}
use Rattle.std.specs.List.{filter_map}
use Rattle.class_file.specs.declared.types.CodeAttribute.{CodeAttribute}
use Rattle.code_layout.specs.Numbers.{lines_by}
use Rattle.code_layout.proofs.tables.line_tables.Given as goal

abbrev pub invariant-loop-attribute : goal.invariant-loop-attribute
invariant-loop-attribute l = l.tables.items ≡ filter_map (λ (a : CodeAttribute). lines_by l.numbers a.name a.content) (take l.attribute-index l.attributes)
