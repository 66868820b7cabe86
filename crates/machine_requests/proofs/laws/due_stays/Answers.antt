use Rattle.machine_requests.specs.Growth.{due_stays as law}
use Rattle.machine_requests.proofs.laws.due_stays.Goals as goal

pub returns : goal.returns
returns c = law
