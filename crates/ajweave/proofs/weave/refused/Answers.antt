use Rattle.ajweave.proofs.Weaving.{unbuilt_at}
use Rattle.ajweave.proofs.weave.refused.Goals as goal

pub returns-in-Ok : goal.returns-in-Ok
returns-in-Ok c =
    unbuilt_at c.args.inputs.now c.args.folder.now c.in-NotBuilt.place c.index-inputs-place.result c.in-Ok.name c.args.fault c.in-NotBuilt.is c.in-Ok.ensures.rest c.requires.refused
