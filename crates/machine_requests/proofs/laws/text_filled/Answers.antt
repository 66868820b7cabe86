use Rattle.machine_requests.proofs.Fills.{text_filled as law}
use Rattle.machine_requests.proofs.laws.text_filled.Goals as goal

pub returns : goal.returns
returns c = law
