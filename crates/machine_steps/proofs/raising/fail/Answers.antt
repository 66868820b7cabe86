use Rattle.std.proofs.Common.{refl}
use Rattle.machine_values.specs.declared.state.MachineState.{MachineState}
use Rattle.machine_requests.specs.Shares.{others_of}
use Rattle.machine_steps.specs.Raised.{made_caught, made_fails, made_leaves}
use Rattle.machine_steps.proofs.Settings.{setting_of, no_text}
use Rattle.machine_steps.proofs.raising.fail.Goals as goal

pub returns-in_ok-x-in-Caught-clause-moves : goal.returns-in_ok-x-in-Caught-clause-moves
returns-in_ok-x-in-Caught-clause-moves c =
    let old = c.args.state.now in
    let mid : MachineState = record old { heap = c.make_object.new.heap } in
    made_caught c.args.world.now old c.catch_in.new.state c.args.fault c.fault_class-class.result.0 c.fault_class-class.ensures.named mid c.catch_in.result c.in_ok-x-in-Caught.x refl c.make_object.ensures.names
    (λ m w is shares. c.in_ok-x-in-Caught.ensures.made m.setting (others_of old) w (setting_of c.args.world.now m is) shares)
    (λ m w is shares filled. c.in_ok-x-in-Caught.ensures.filled m.setting (others_of old) w (setting_of c.args.world.now m is) (no_text c.args.world.now c.args.fault c.fault_class-class.result.0 c.fault_class-class.ensures.named) shares filled)
    (c.catch_in.ensures.caught c.fault_class-class.result.0 c.in-Caught.ensures)

pub returns-in_ok-name-in-Fails-clause-moves : goal.returns-in_ok-name-in-Fails-clause-moves
returns-in_ok-name-in-Fails-clause-moves c =
    let old = c.args.state.now in
    made_fails c.args.world.now old old c.args.fault c.fault_class-class.result.0 c.fault_class-class.ensures.named c.in-Fails.failed.0 c.in_ok-name-in-Fails.name c.in-Fails.ensures c.in_ok-name-in-Fails.ensures

pub returns-in_ok-name-in-Leaves-clause-moves : goal.returns-in_ok-name-in-Leaves-clause-moves
returns-in_ok-name-in-Leaves-clause-moves c =
    let old = c.args.state.now in
    made_leaves c.args.world.now old old c.args.fault c.fault_class-class.result.0 c.fault_class-class.ensures.named c.in_ok-name-in-Leaves.name c.in-Leaves.ensures c.in_ok-name-in-Leaves.ensures
