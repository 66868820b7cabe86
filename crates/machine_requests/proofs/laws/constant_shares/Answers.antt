use Rattle.machine_requests.specs.Growing.{constant_shares as law}
use Rattle.machine_requests.proofs.laws.constant_shares.Goals as goal

pub returns : goal.returns
returns c = law
