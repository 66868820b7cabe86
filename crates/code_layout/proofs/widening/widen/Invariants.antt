use Rattle.std.proofs.Common.{◌≡◌, take}
use Rattle.code_layout.specs.Places.{widen_from}
use Rattle.code_layout.specs.Spelled.{place_in}
use Rattle.code_layout.proofs.widening.widen.Given as goal

abbrev pub invariant-loop-i : goal.invariant-loop-i
invariant-loop-i l = l.next.items ≡ widen_from (place_in l.places) 0 (take l.i l.rows) l.wide
