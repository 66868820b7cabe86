use Rattle.machine_requests.specs.Growth.{held_stays as law}
use Rattle.machine_requests.proofs.laws.values_stay.Goals as goal

pub returns : goal.returns
returns c = law
