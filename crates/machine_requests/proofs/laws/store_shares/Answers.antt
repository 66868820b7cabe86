use Rattle.machine_requests.specs.Growing.{store_shares as law}
use Rattle.machine_requests.proofs.laws.store_shares.Goals as goal

pub returns : goal.returns
returns c = law
