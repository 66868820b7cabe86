use Rattle.machine_rules.proofs.IdentityWork.{same_object_given}
use Rattle.machine_rules.proofs.identity.same_object.Goals as goal

pub returns : goal.returns
returns c k things known other = same_object_given k things c.args.at c.args.other c.is_same_place.result c.truth.result known other c.is_same_place.ensures c.truth.ensures
