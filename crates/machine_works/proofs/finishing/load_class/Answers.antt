use Rattle.std.proofs.Common.{subst}
use Rattle.machine_works.specs.Finishing.{LoadsClass}
use Rattle.machine_works.proofs.Loaded.{began_moves}
use Rattle.machine_works.proofs.finishing.load_class.Goals as goal

pub returns-in-Begins-clause-moves : goal.returns-in-Begins-clause-moves
returns-in-Begins-clause-moves c =
    let k = c.args.world.now in
    began_moves k c.args.state.now c.load.new.state c.args.class.now (subst (LoadsClass k c.args.state.now c.load.new.state c.args.class.now) c.in-Begins.is c.in_ok-load.ensures.loads)

pub returns-in-Goes-clause-moves : goal.returns-in-Goes-clause-moves
returns-in-Goes-clause-moves c =
    let k = c.args.world.now in
    (subst (LoadsClass k c.args.state.now c.load.new.state c.args.class.now) c.in-Goes.is c.in_ok-load.ensures.loads).moves
