use Rattle.std.proofs.Common.{refl, ltb}
use Rattle.aj_names.specs.Spelled.{type_of}
use Rattle.aj_names.proofs.Whole.{array_decided, array_undecided}
use Rattle.aj_names.proofs.reading.is_array_descriptor.Goals as goal

pub returns-in-Ok : goal.returns-in-Ok
returns-in-Ok c = array_decided c.args.text.now (type_of c.in-Ok.spelled) (ltb 0 c.in-Ok.spelled.dims) c.in-Ok.ensures refl

pub returns-in-Err : goal.returns-in-Err
returns-in-Err c = (λ h. absurd cc, λ d. absurd (array_undecided c.args.text.now c.in-Err.field-0 c.in-Err.ensures d))
