use Rattle.woven_calls.specs.Laws.{no_aspect_behaves}
use Rattle.woven_calls.proofs.laws.no_aspect_behaves.Goals as goal

pub returns : goal.returns
returns c = no_aspect_behaves
