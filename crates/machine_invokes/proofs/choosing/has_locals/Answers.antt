use Rattle.std.proofs.Common.{subst}
use Rattle.machine_steps.specs.Running.{HasCode}
use Rattle.machine_invokes.proofs.Rooms.{no_locals, some_locals}
use Rattle.machine_invokes.proofs.choosing.has_locals.Goals as goal

pub returns-in-None : goal.returns-in-None
returns-in-None c = no_locals c.args.world.now c.args.method.0 c.args.given.now c.code_of_method.result c.code_of_method.ensures c.in-None.is

pub returns-in-Some : goal.returns-in-Some
returns-in-Some c =
    some_locals c.args.world.now c.args.method.0 c.args.given.now c.in-Some.code c.entry.result c.fits.result (subst (HasCode c.args.world.now c.args.method.0) c.in-Some.is c.code_of_method.ensures) c.entry.ensures c.fits.ensures
