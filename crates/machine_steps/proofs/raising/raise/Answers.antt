use Rattle.machine_values.specs.declared.observed.Ending.TheVariants as endings
use Rattle.machine_steps.specs.declared.step.Step.TheVariants.{Ended}
use Rattle.machine_steps.specs.Raised.{unwinds_raised, fails_unwinds, leaves_unwinds}
use Rattle.machine_steps.proofs.Thrown.{class_is, class_there}
use Rattle.machine_steps.proofs.raising.raise.Goals as goal

pub returns-in_default-clause-moves : goal.returns-in_default-clause-moves
returns-in_default-clause-moves c m answers t f below d is runs same locals = absurd (class_there c.args.world.now c.args.state.now c.args.x m answers t is runs c.in_default.ensures.place c.requires.class)

pub returns-in-Caught-clause-moves : goal.returns-in-Caught-clause-moves
returns-in-Caught-clause-moves c =
    let k = c.args.world.now in
    let old = c.args.state.now in
    unwinds_raised k old c.catch_in.new.state c.catch_in.result c.in-Some.class.0 c.args.x (λ m answers t is runs. class_is k old c.args.x m answers t is runs c.in-Some.class c.in-Some.ensures.place)
    (c.catch_in.ensures.caught c.in-Some.class.0 c.in-Caught.ensures)

pub returns-in_ok-name-in-Fails-clause-moves : goal.returns-in_ok-name-in-Fails-clause-moves
returns-in_ok-name-in-Fails-clause-moves c =
    let k = c.args.world.now in
    let old = c.args.state.now in
    unwinds_raised k old old (Ended (endings.InitFailed c.in_ok-name-in-Fails.name)) c.in-Some.class.0 c.args.x (λ m answers t is runs. class_is k old c.args.x m answers t is runs c.in-Some.class c.in-Some.ensures.place)
    (fails_unwinds k old old c.in-Some.class.0 c.in-Fails.failed.0 c.args.x c.in_ok-name-in-Fails.name c.in-Fails.ensures c.in_ok-name-in-Fails.ensures)

pub returns-in_ok-message-in-Leaves-clause-moves : goal.returns-in_ok-message-in-Leaves-clause-moves
returns-in_ok-message-in-Leaves-clause-moves c =
    let k = c.args.world.now in
    let old = c.args.state.now in
    unwinds_raised k old old (Ended (endings.Uncaught c.in_ok-name-in-Leaves.name c.in_ok-message-in-Leaves.message)) c.in-Some.class.0 c.args.x (λ m answers t is runs. class_is k old c.args.x m answers t is runs c.in-Some.class c.in-Some.ensures.place)
    (leaves_unwinds k old old c.in-Some.class.0 c.args.x c.in_ok-name-in-Leaves.name c.in_ok-message-in-Leaves.message c.in-Leaves.ensures c.in_ok-name-in-Leaves.ensures (c.in_ok-message-in-Leaves.ensures (λ m answers t is runs. class_is k old c.args.x m answers t is runs c.in-Some.class c.in-Some.ensures.place)))
