use Rattle.std.proofs.Common.{◌≡◌, take}
use Rattle.aj_names.specs.Hierarchy.{dotted}
use Rattle.ajweave.proofs.report.dotted.Given as goal

abbrev pub invariant-loop-byte : goal.invariant-loop-byte
invariant-loop-byte l = l.dots.items ≡ dotted (take l.byte-index l.text)
