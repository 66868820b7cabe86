use Rattle.machine_steps.specs.Methods.{method_within}
use Rattle.machine_steps.proofs.running.code_of_method.Goals as goal

pub code_of-requires-clause-there : goal.code_of-requires-clause-there
code_of-requires-clause-there c = method_within c.args.world.now c.args.method.0 c.requires.there
