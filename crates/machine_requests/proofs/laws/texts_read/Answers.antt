use Rattle.machine_requests.proofs.Reading.{text_read as law}
use Rattle.machine_requests.proofs.laws.texts_read.Goals as goal

pub returns : goal.returns
returns c = law
