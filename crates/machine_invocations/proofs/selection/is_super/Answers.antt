use Rattle.std.proofs.Common.{sym, ap, ◌∙◌}
use Rattle.std.specs.Option.{option_and_then}
use Rattle.std.specs.Prelude.{slice_get}
use Rattle.class_heads.specs.Faults.{is_class_that}
use Rattle.class_heads.specs.Hierarchy.{name_at}
use Rattle.class_heads.specs.PlaceLaws.{class_named-place}
use Rattle.class_machine.specs.Declarations.{is_super}
use Rattle.machine_invocations.proofs.selection.is_super.Goals as goal

pub returns : goal.returns
returns c distinct =
    let heads = c.args.world.now.heads in
    sym (ap (is_class_that is_super) (class_named-place heads (name_at heads c.args.class.0) ∙ ap (option_and_then (slice_get heads)) (distinct.different c.args.class.0 c.requires) ∙ c.head.ensures))
