use Rattle.std.proofs.Common.{◌∙◌}
use Rattle.class_rules.proofs.Dimensions.{dimensions_of_front}
use Rattle.class_rules.proofs.operands.dimensions_up_to.Goals as goal

pub returns : goal.returns
returns c = c.dimensions.ensures ∙ dimensions_of_front c.args.name.now c.args.most c.min.result c.min.ensures
