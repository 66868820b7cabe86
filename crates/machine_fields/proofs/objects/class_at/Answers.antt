use Rattle.std.proofs.Common.{◌∙◌, ap, Some}
use Rattle.machine_values.specs.declared.names.Maker.{Maker}
use Rattle.machine_values.specs.declared.names.Name.{Name}
use Rattle.machine_values.specs.declared.names.Name.TheVariants.{Made}
use Rattle.machine_fields.proofs.TypeParts.{class_placed, array_unplaced}
use Rattle.machine_fields.proofs.objects.class_at.Goals as goal

pub returns-in-Class-clause-place : goal.returns-in-Class-clause-place
returns-in-Class-clause-place c distinct fit =
    c.if_known.ensures.known
    ∙ class_placed c.args.world.now.heads distinct c.args.heap.now.names fit c.args.at c.in-Class.class c.in-Made._number
    (c.name.ensures ∙ ap (λ (n : Name). Some n) (c.in-Made.is ∙ ap (λ (m : Maker). Made m c.in-Made._number) c.in-Class.is))

pub returns-in-Array-clause-place : goal.returns-in-Array-clause-place
returns-in-Array-clause-place c distinct fit =
    array_unplaced c.args.world.now.heads distinct c.args.heap.now.names fit c.args.at c.in-Array._array c.in-Made._number
    (c.name.ensures ∙ ap (λ (n : Name). Some n) (c.in-Made.is ∙ ap (λ (m : Maker). Made m c.in-Made._number) c.in-Array.is))
