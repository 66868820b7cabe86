use Rattle.machine_fields.specs.ProgramLaws.{program_is_distinct}
use Rattle.machine_fields.proofs.laws.program_is_distinct.Goals as goal

pub returns : goal.returns
returns c = program_is_distinct
