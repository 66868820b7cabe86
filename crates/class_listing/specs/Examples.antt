-- What a text and a name are.
use Rattle.std.specs.Prelude.{◌≡◌, codes, Some, Err, refl}
use Rattle.opcode_table.specs.Table.{opcode}
use Rattle.class_lines.specs.Operations.{op_named, operation_at}
use Rattle.class_lines.specs.Reading.{label_before, step_at, line_at, read_as}
use Rattle.class_lines.specs.Recoding.{character_at}
use Rattle.class_lines.specs.Heard.{heard}
use Rattle.class_text.specs.ClassOf.{class_of}
use Rattle.class_listing.specs.Names.{shown}

blank : shown (Some (codes "a b")) ≡ codes "a.b"
blank = refl

no_class : class_of (codes "clas A") ≡ Err 1
unfolding opcode op_named operation_at label_before step_at line_at read_as character_at heard
no_class = refl
