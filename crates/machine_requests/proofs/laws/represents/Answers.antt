use Rattle.machine_requests.specs.Shares.{represents as law}
use Rattle.machine_requests.proofs.laws.represents.Goals as goal

pub returns : goal.returns
returns c = law
