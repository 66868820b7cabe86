use Rattle.machine_invocations.proofs.Seen.{class_named}
use Rattle.machine_invocations.proofs.methods.declaring_class.Goals as goal

pub returns-clause-class : goal.returns-clause-class
returns-clause-class c m sees = class_named c.args.world.now c.args.method.0 c.declared.result.class.0 c.declared.result.head.now c.declared.result.method.now m c.declared.ensures.stands (c.declared.ensures.seen m sees)
