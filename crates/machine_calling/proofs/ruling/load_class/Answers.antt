use Rattle.std.proofs.Common.{refl, subst}
use Rattle.machine_works.specs.Finishing.{LoadsClass}
use Rattle.machine_works.specs.declared.finishing.Loading.{Loading}
use Rattle.machine_calling.proofs.Worked.{loads_own_turn}
use Rattle.machine_calling.proofs.ruling.load_class.Goals as goal

pub returns-in-Begins-clause-ran : goal.returns-in-Begins-clause-ran
returns-in-Begins-clause-ran c super =
    record {
      class = c.args.class.now;
      is = refl;
      begins = subst (LoadsClass c.args.world.now c.args.state.now c.load.new.state c.args.class.now) c.in-Begins.is c.in_ok-load.ensures.loads;
    }

pub returns-in-Goes-clause-ran : goal.returns-in-Goes-clause-ran
returns-in-Goes-clause-ran c super =
    loads_own_turn c.args.world.now c.args.state.now c.load.new.state super c.in-Goes.step c.args.class.now (subst (LoadsClass c.args.world.now c.args.state.now c.load.new.state c.args.class.now) c.in-Goes.is c.in_ok-load.ensures.loads)
