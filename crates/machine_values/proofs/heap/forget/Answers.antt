use Rattle.std.proofs.Common.{refl}
use Rattle.machine_values.specs.declared.names.Name.TheVariants.{Literal, ClassObject}
use Rattle.machine_values.proofs.Indexed.{counted_down, counted_without, placed_without, unplaced}
use Rattle.machine_values.proofs.heap.forget.Goals as goal

pub returns-in-Made-clause-counted : goal.returns-in-Made-clause-counted
returns-in-Made-clause-counted c = rw c.in-Made.is (counted_down c.args.counts.now c.count_down.new.counts c.in-Made.maker c.in-Made._number c.count_down.ensures)

pub returns-in-Made-clause-placed : goal.returns-in-Made-clause-placed
returns-in-Made-clause-placed c = rw c.in-Made.is (λ names last. placed_without c.args.places.now c.in-Made.maker c.in-Made._number names)

pub returns-in-Literal-clause-counted : goal.returns-in-Literal-clause-counted
returns-in-Literal-clause-counted c = rw c.in-Literal.is (counted_without c.args.counts.now (Literal c.in-Literal.units) refl)

pub returns-in-Literal-clause-placed : goal.returns-in-Literal-clause-placed
returns-in-Literal-clause-placed c =
    rw c.in-Literal.is (unplaced c.args.places.now c.forget_place.new.places (Literal c.in-Literal.units) c.args.place refl c.forget_place.ensures.at c.forget_place.ensures.elsewhere)

pub returns-in-ClassObject-clause-counted : goal.returns-in-ClassObject-clause-counted
returns-in-ClassObject-clause-counted c = rw c.in-ClassObject.is (counted_without c.args.counts.now (ClassObject c.in-ClassObject.class) refl)

pub returns-in-ClassObject-clause-placed : goal.returns-in-ClassObject-clause-placed
returns-in-ClassObject-clause-placed c =
    rw c.in-ClassObject.is (unplaced c.args.places.now c.forget_place-in-ClassObject.new.places (ClassObject c.in-ClassObject.class) c.args.place refl c.forget_place-in-ClassObject.ensures.at c.forget_place-in-ClassObject.ensures.elsewhere)
