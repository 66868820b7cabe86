use Rattle.std.proofs.Common.{◌∙◌, ap, map}
use Rattle.std.proofs.lemmas.List.{take_all}
use Rattle.class_world.proofs.Named.{named_places, steps_are}
use Rattle.class_world.proofs.supers.steps_of.Goals as goal

pub returns : goal.returns
returns c = steps_are c.args.heads.now c.args.names.now c.loop-head.steps.items c.requires (c.loop-head.invariant ∙ ap (map (named_places c.args.names.now)) (take_all c.loop-head.head-index c.args.heads.now c.loop-head-test.false))
