use Rattle.machine_requests.specs.TellingLaws.{places_tell as law}
use Rattle.machine_requests.proofs.laws.places_tell.Goals as goal

pub returns : goal.returns
returns c = law
