use Rattle.std.specs.Prelude.{◌≡◌, drop}
use Rattle.boot_library.specs.Rows.{exceptions_of}
use Rattle.boot_library.specs.Rules.{methods_in}
use Rattle.boot_library.proofs.lookup.find_constructors.Given as goal

abbrev pub invariant-loop-row : goal.invariant-loop-row
invariant-loop-row l = methods_in (exceptions_of l.rows) l.class ≡ methods_in (exceptions_of (drop l.row-index l.rows)) l.class
