use Rattle.std.proofs.Common.{◌≡◌, ◌++◌, take, ℤ, pos, ◌+ℤ◌}
use Rattle.std.specs.Prelude.{map}
use Rattle.class_listing.proofs.places.put_targets.Given as goal

abbrev pub invariant-loop-offset : goal.invariant-loop-offset
invariant-loop-offset l = l.places.items ≡ l.fn.places.items ++ map (λ (offset : ℤ). pos l.pc +ℤ offset) (take l.offset-index l.offsets)
