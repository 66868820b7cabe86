use Rattle.std.proofs.Common.{◌≡◌, take}
use Rattle.std.specs.Prelude.{FitsSigned}
use Rattle.std.specs.Int.{w32}
use Rattle.std.specs.List.{AllByRecursion}
use Rattle.code_layout.proofs.row.copied_keys.Given as goal

abbrev pub invariant-loop-key : goal.invariant-loop-key
invariant-loop-key l = (l.copied.items ≡ take l.key-index l.keys) × AllByRecursion (FitsSigned w32) l.copied.items
