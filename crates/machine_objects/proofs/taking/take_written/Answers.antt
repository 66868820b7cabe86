use Rattle.std.specs.Prelude.{[], ◌∷◌}
use Rattle.class_machine.specs.Effect as definition
use Rattle.class_machine.specs.declared.kinds.Access.TheVariants as Access
use Rattle.machine_frames.specs.Naming.{reference, held}
use Rattle.machine_frames.specs.Undoing.{reference_value}
use Rattle.machine_objects.specs.Taking.{access_form}
use Rattle.machine_objects.proofs.Taken.{breaks, takes}
use Rattle.machine_objects.proofs.taking.take_written.Goals as goal

pub returns-in_default-put_field-clause-taken : goal.returns-in_default-put_field-clause-taken
returns-in_default-put_field-clause-taken c r =
    breaks c.args.state.now c.in-Some.top c.index_mut.result.now c.in-Some.ensures.top c.index_mut.ensures.value (access_form Access.PutField r c.args.kind) (λ n. c.in_default-put_field.ensures.taken n r)

pub returns-then-is_settled-clause-taken : goal.returns-then-is_settled-clause-taken
returns-then-is_settled-clause-taken c r =
    let w = c.in-Some-put_field.written in
    takes c.args.state.now c.in-Some.top c.index_mut.result.now c.in-Some.ensures.top c.index_mut.ensures.value c.put_field.new.frame (access_form Access.PutField r c.args.kind) (λ n. definition.PutField r (reference n w.object) (held n w.value))
    (w.value ∷ reference_value w.object ∷ []) c.in-Some-put_field.ensures.popped c.put_field.ensures.within (λ n. c.in-Some-put_field.ensures.taken n r)
