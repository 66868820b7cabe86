use Rattle.std.proofs.Common.{ℕ, List, ◌-◌}
use Rattle.class_format.specs.Kinds.{kinds_in, position_in, Marks}
use Rattle.class_format.specs.PartReading.{attribute, attributes, with_name}
use Rattle.class_format.proofs.Loop.{IsLeft}
use Rattle.class_format.proofs.attributes.attributes_at.Given as goal

abbrev pub invariant-loop : goal.invariant-loop
invariant-loop l =
    (earlier : List (List ℕ)) × (Marks l.seen earlier
    × IsLeft (attribute (kinds_in l.place) l.known.major l.known.pool.now (position_in l.place)) (with_name l.known.pool.now) earlier (l.count - l.counter) l.attributes l.scope l.rest
    (attributes (kinds_in l.place) l.known.major l.known.pool.now (position_in l.place) l.scope l.bytes))
