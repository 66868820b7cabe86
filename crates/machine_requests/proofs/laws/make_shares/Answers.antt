use Rattle.machine_requests.specs.Growing.{make_shares as law}
use Rattle.machine_requests.proofs.laws.make_shares.Goals as goal

pub returns : goal.returns
returns c = law
