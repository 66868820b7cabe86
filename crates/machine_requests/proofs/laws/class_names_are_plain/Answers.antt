use Rattle.machine_requests.specs.TellingLaws.{class_name_plain as law}
use Rattle.machine_requests.proofs.laws.class_names_are_plain.Goals as goal

pub returns : goal.returns
returns c = law
