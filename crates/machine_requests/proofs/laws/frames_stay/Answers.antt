use Rattle.machine_requests.specs.Growth.{frames_stay as law}
use Rattle.machine_requests.proofs.laws.frames_stay.Goals as goal

pub returns : goal.returns
returns c = law
