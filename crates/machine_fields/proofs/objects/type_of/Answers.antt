use Rattle.std.proofs.Common.{◌∙◌, ap, Some}
use Rattle.class_heads.specs.Hierarchy.{TypeName}
use Rattle.machine_values.specs.declared.names.Maker.{Maker}
use Rattle.machine_values.specs.declared.names.Name.{Name}
use Rattle.machine_values.specs.declared.names.Name.TheVariants.{Made}
use Rattle.machine_fields.specs.Types.{arrays}
use Rattle.machine_fields.proofs.TypeParts.{array_seen}
use Rattle.machine_fields.proofs.objects.type_of.Goals as goal

pub returns-in-Array : goal.returns-in-Array
returns-in-Array c distinct fit =
    ap (λ (t : TypeName). arrays c.in-Array.array.dims t) c.base_seen.ensures
    ∙ array_seen c.args.world.now.heads distinct c.args.heap.now.names fit c.args.at c.in-Array.array c.in-Made._number
    (c.name.ensures ∙ ap (λ (n : Name). Some n) (c.in-Made.is ∙ ap (λ (m : Maker). Made m c.in-Made._number) c.in-Array.is))
