use Rattle.machine_requests.proofs.Reading.{read_same, read_none}
use Rattle.machine_requests.proofs.laws.fields_read.Goals as goal

pub returns-clause-there : goal.returns-clause-there
returns-clause-there c = read_same

pub returns-clause-none : goal.returns-clause-none
returns-clause-none c = read_none
