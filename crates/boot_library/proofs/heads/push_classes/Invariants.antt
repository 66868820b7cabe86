use Rattle.std.specs.Prelude.{◌≡◌, ◌++◌, map, take}
use Rattle.boot_library.specs.Heads.{class_head}
use Rattle.boot_library.specs.Rows.{classes_of}
use Rattle.boot_library.proofs.heads.push_classes.Given as goal

abbrev pub invariant-loop-row : goal.invariant-loop-row
invariant-loop-row l = l.heads.items ≡ l.initial.heads.items ++ map class_head (classes_of (take l.row-index l.rows))
