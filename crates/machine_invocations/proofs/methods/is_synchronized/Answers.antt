use Rattle.std.proofs.Common.{sym, ap}
use Rattle.class_machine.specs.Classes.{Method}
use Rattle.machine_invocations.proofs.methods.is_synchronized.Goals as goal

pub returns : goal.returns
returns c m sees = sym (ap (λ (x : Method). x.is_synchronized) (c.declared.ensures.seen m sees))
