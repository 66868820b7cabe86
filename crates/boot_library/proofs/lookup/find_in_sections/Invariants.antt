use Rattle.std.specs.Prelude.{◌≡◌, drop}
use Rattle.std.specs.List.{flat_map}
use Rattle.boot_library.specs.Rows.{classes_of}
use Rattle.boot_library.specs.Rules.{methods_in}
use Rattle.boot_library.proofs.lookup.find_in_sections.Given as goal

abbrev pub invariant-loop-rows : goal.invariant-loop-rows
invariant-loop-rows l = methods_in (flat_map (λ rows. classes_of rows.now) l.sections) l.class ≡ methods_in (flat_map (λ rows. classes_of rows.now) (drop l.rows-index l.sections)) l.class
