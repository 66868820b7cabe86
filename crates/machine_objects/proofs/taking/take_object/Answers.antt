use Rattle.std.specs.Prelude.{[], ◌∷◌}
use Rattle.class_machine.specs.Effect as definition
use Rattle.machine_frames.specs.Naming.{reference}
use Rattle.machine_frames.specs.Undoing.{reference_value}
use Rattle.machine_objects.proofs.Taken.{breaks, takes}
use Rattle.machine_objects.proofs.taking.take_object.Goals as goal

pub returns-in_default-pop_object-clause-taken : goal.returns-in_default-pop_object-clause-taken
returns-in_default-pop_object-clause-taken c question =
    breaks c.args.state.now c.in-Some.top c.index_mut.result.now c.in-Some.ensures.top c.index_mut.ensures.value (λ room. definition.ask_of question) (λ n. c.in_default-pop_object.ensures.taken n question)

pub returns-then-is_there-clause-taken : goal.returns-then-is_there-clause-taken
returns-then-is_there-clause-taken c question =
    let a = c.in-Some-pop_object.object in
    takes c.args.state.now c.in-Some.top c.index_mut.result.now c.in-Some.ensures.top c.index_mut.ensures.value c.pop_object.new.frame (λ room. definition.ask_of question) (λ n. question (reference n a)) (reference_value a ∷ [])
    c.in-Some-pop_object.ensures.popped c.pop_object.ensures.within (λ n. c.in-Some-pop_object.ensures.taken n question)
