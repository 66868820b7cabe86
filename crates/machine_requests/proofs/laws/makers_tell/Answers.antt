use Rattle.machine_requests.specs.TellingLaws.{all_told as law}
use Rattle.machine_requests.proofs.laws.makers_tell.Goals as goal

pub returns : goal.returns
returns c = law
