use Rattle.std.specs.Prelude.{◌≡◌, map, take}
use Rattle.boot_library.specs.Heads.{field_head}
use Rattle.boot_library.specs.Rows.{fields_of}
use Rattle.boot_library.proofs.heads.field_heads.Given as goal

abbrev pub invariant-loop-row : goal.invariant-loop-row
invariant-loop-row l = l.heads ≡ map field_head (fields_of (take l.row-index l.rows))
