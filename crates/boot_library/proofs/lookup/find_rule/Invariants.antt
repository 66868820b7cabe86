use Rattle.std.specs.Prelude.{◌≡◌, drop}
use Rattle.boot_library.specs.Rows.{methods_of}
use Rattle.boot_library.specs.Rules.{rule_among}
use Rattle.boot_library.proofs.lookup.find_rule.Given as goal

abbrev pub invariant-loop-row : goal.invariant-loop-row
invariant-loop-row l = rule_among (methods_of l.rows) l.method ≡ rule_among (methods_of (drop l.row-index l.rows)) l.method
