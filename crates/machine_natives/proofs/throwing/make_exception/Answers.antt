use Rattle.std.proofs.Common.{◌∙◌, ap}
use Rattle.class_machine.specs.World.{is_text_class}
use Rattle.machine_natives.proofs.Making.{exception_made, both_ok}
use Rattle.machine_natives.proofs.throwing.make_exception.Goals as goal

pub returns-clause-made : goal.returns-clause-made
returns-clause-made c =
    both_ok c.make.result _ _ _ (λ at added makes.
    exception_made c.args.world.now c.requires.runnable c.args.class c.in_ok-types.types.items c.args.heap.now c.requires.class c.in_ok-types.ensures
    c.has_text-text.result c.as_slice.result.now c.make.new.heap at (c.has_text-text.ensures ∙ ap is_text_class c.class_name.ensures) c.as_slice.ensures.value added makes)
    c.make.ensures.added c.make.ensures.ok
