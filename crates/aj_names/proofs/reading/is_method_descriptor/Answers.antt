use Rattle.std.proofs.Common.{refl, leb}
use Rattle.aj_names.proofs.Whole.{method_decided, method_undecided}
use Rattle.aj_names.proofs.reading.is_method_descriptor.Goals as goal

pub returns-in-Ok : goal.returns-in-Ok
returns-in-Ok c = method_decided c.args.text.now c.in-Ok.slots (leb c.in-Ok.slots 255) c.in-Ok.ensures refl

pub returns-in-Err : goal.returns-in-Err
returns-in-Err c = (λ h. absurd cc, λ d. absurd (method_undecided c.args.text.now c.in-Err.field-0 c.in-Err.ensures d))
