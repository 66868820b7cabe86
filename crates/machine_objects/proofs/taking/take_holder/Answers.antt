use Rattle.std.specs.Prelude.{[], ◌∷◌}
use Rattle.class_machine.specs.Effect as definition
use Rattle.class_machine.specs.declared.kinds.Access.TheVariants as Access
use Rattle.machine_frames.specs.Naming.{reference}
use Rattle.machine_frames.specs.Undoing.{reference_value}
use Rattle.machine_objects.specs.Taking.{access_form}
use Rattle.machine_objects.proofs.Taken.{breaks, takes}
use Rattle.machine_objects.proofs.taking.take_holder.Goals as goal

pub returns-in_default-get_field-clause-taken : goal.returns-in_default-get_field-clause-taken
returns-in_default-get_field-clause-taken c r =
    breaks c.args.state.now c.in-Some.top c.index_mut.result.now c.in-Some.ensures.top c.index_mut.ensures.value (access_form Access.GetField r c.args.kind) (λ n. c.in_default-get_field.ensures.taken n r)

pub returns-then-is_there-clause-taken : goal.returns-then-is_there-clause-taken
returns-then-is_there-clause-taken c r =
    let a = c.in-Some-get_field.object in
    takes c.args.state.now c.in-Some.top c.index_mut.result.now c.in-Some.ensures.top c.index_mut.ensures.value c.get_field.new.frame (access_form Access.GetField r c.args.kind) (λ n. definition.GetField r (reference n a)) (reference_value a ∷ [])
    c.in-Some-get_field.ensures.popped c.get_field.ensures.within (λ n. c.in-Some-get_field.ensures.taken n r)
