use Rattle.std.specs.Prelude.{◌≡◌, ◌++◌, map, take}
use Rattle.boot_library.specs.Heads.{class_head}
use Rattle.boot_library.specs.Rows.{exceptions_of}
use Rattle.boot_library.proofs.heads.push_exceptions.Given as goal

abbrev pub invariant-loop-row : goal.invariant-loop-row
invariant-loop-row l = l.heads.items ≡ l.initial.heads.items ++ map class_head (exceptions_of (take l.row-index l.rows))
