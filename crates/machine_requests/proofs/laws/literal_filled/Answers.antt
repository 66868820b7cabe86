use Rattle.machine_requests.proofs.Fills.{literal_filled as law}
use Rattle.machine_requests.proofs.laws.literal_filled.Goals as goal

pub returns : goal.returns
returns c = law
