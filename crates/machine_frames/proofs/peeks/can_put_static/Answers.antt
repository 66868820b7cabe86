use Rattle.std.proofs.Common.{sym, ◌∙◌, ap, [], ◌∷◌}
use Rattle.machine_frames.specs.Calls.{fits}
use Rattle.machine_frames.proofs.Fitting.{tells_put}
use Rattle.machine_frames.proofs.peeks.can_put_static.Goals as goal

pub returns : goal.returns
returns c = tells_put c.args.kind c.args.frame.now c.fits.result (c.fits.ensures ∙ ap (λ vs. fits (c.args.kind ∷ []) vs) (sym c.as_slice.ensures))
