use Rattle.std.specs.Prelude.{◌≡◌, map, take}
use Rattle.std.specs.List.{flat_map}
use Rattle.boot_library.specs.Heads.{class_head}
use Rattle.boot_library.specs.Rows.{classes_of}
use Rattle.boot_library.proofs.heads.section_heads.Given as goal

abbrev pub invariant-loop-rows : goal.invariant-loop-rows
invariant-loop-rows l = l.heads.items ≡ map class_head (flat_map (λ rows. classes_of rows.now) (take l.rows-index l.sections))
