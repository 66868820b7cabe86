use Rattle.std.specs.Prelude.{◌≡◌, map, take}
use Rattle.boot_library.specs.Heads.{method_head}
use Rattle.boot_library.specs.Rows.{methods_of}
use Rattle.boot_library.proofs.heads.method_heads.Given as goal

abbrev pub invariant-loop-row : goal.invariant-loop-row
invariant-loop-row l = l.heads ≡ map method_head (methods_of (take l.row-index l.rows))
