use Rattle.std.specs.Prelude.{refl}
use Rattle.std.proofs.lemmas.Result.{IfOk-weaker}
use Rattle.class_file.specs.Pool.{class_at}
use Rattle.class_machine.specs.Operations.{New}
use Rattle.machine_parts.specs.Taken.{executes_line, named_line, nothing_named, moves_over}
use Rattle.machine_steps.specs.declared.step.Step.TheVariants.{NotMine}
use Rattle.machine_steps.specs.Parts.{Part}
use Rattle.machine_calls.proofs.executing.announce.Goals as goal

pub returns-in_default-clause-takes : goal.returns-in_default-clause-takes
returns-in_default-clause-takes c = λ left bytes operation e stands.
    nothing_named c.args.world.now c.args.state.now c.args.state.now left left NotMine Part.Calls New (class_at c.args.pool.now c.args.index) operation c.in_default.ensures e

pub returns-clause-takes : goal.returns-clause-takes
returns-clause-takes c =
    let k = c.args.world.now in
    let old = c.args.state.now in
    let new = c.new_object.new.state in
    let class = c.in-Some.class.now in
    IfOk-weaker c.new_object.result _ _
    (λ step moves left bytes operation e stands. named_line k old new left left step Part.Calls New (class_at c.args.pool.now c.args.index) class operation c.in-Some.ensures
    (executes_line k old new left left step Part.Calls (New class) (moves_over k old new left step (New class) moves) (λ m f. refl)) e)
    c.new_object.ensures.moves
