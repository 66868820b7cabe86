use Rattle.std.proofs.Common.{subst}
use Rattle.machine_invocations.specs.Initialising.{IsInitialiser}
use Rattle.machine_invocations.proofs.Initialised.{no_frame}
use Rattle.machine_invocations.proofs.initialisers.initialiser.Goals as goal

pub returns-in-None : goal.returns-in-None
returns-in-None c = no_frame c.args.world.now c.args.class.0 (subst (IsInitialiser c.args.world.now c.args.class.0) c.in-None.is c.initialiser_of.ensures)
