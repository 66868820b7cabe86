use Rattle.std.proofs.Common.{[]}
use Rattle.event_machine.specs.Laws.{equivalent_along_image, observed-image}
use Rattle.event_machine.proofs.along_image.Goals as goal

pub returns-clause-observations : goal.returns-clause-observations
returns-clause-observations g c = λ first second image steps s n. observed-image first second image steps n s []

pub returns-clause-equivalent : goal.returns-clause-equivalent
returns-clause-equivalent g c = λ is_broken first second image steps s. equivalent_along_image is_broken first second image steps s
