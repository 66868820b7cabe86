use Rattle.std.proofs.Common.{reverse, sym, ◌∙◌, ap}
use Rattle.machine_frames.specs.Calls.{fits}
use Rattle.machine_frames.proofs.Fitting.{tells_call}
use Rattle.machine_frames.proofs.peeks.can_call_static.Goals as goal

pub returns : goal.returns
returns c = tells_call c.args.kinds.now c.args.frame.now c.fits.result (c.fits.ensures ∙ ap (λ vs. fits (reverse c.args.kinds.now) vs) (sym c.as_slice.ensures))
