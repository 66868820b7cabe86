use Rattle.weave_plan.proofs.Weavings.{woven_without_aspect}
use Rattle.weave_plan.proofs.outputs.written.Goals as goal

pub returns-in-None : goal.returns-in-None
returns-in-None c = woven_without_aspect c.args.classes.items c.args.aspect c.in-None.is c.requires (c.no_aspect_behaves.ensures c.args.classes.items)
