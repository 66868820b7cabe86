use Rattle.std.proofs.Common.{ap, ◌∙◌}
use Rattle.class_machine.specs.World.{is_text_class}
use Rattle.machine_fields.specs.NewObjects.{held_by}
use Rattle.machine_invokes.proofs.NewObjects.{both_ok, is_made, is_added}
use Rattle.machine_invokes.proofs.Started.{if_ok}
use Rattle.machine_invokes.proofs.building.make_object.Goals as goal

pub returns-clause-added : goal.returns-clause-added
returns-clause-added c = if_ok c.make.result _ _ (λ at added. is_added c.args.class _ c.args.heap.now c.make.new.heap at added) c.make.ensures.added

pub returns-clause-made : goal.returns-clause-made
returns-clause-made c =
    both_ok c.make.result _ _ _ (λ at makes filled.
    is_made c.args.world.now c.args.class c.has_text.result c.as_slice.result.now c.requires.class (c.has_text.ensures ∙ ap is_text_class c.class_name.ensures) (ap held_by c.as_slice.ensures.value ∙ c.in_ok-types.ensures)
    c.args.heap.now c.make.new.heap at c.requires.runnable makes filled)
    c.make.ensures.ok c.make.ensures.filled
