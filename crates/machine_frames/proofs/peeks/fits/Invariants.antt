use Rattle.machine_frames.proofs.Fitting.{Fitting}
use Rattle.machine_frames.proofs.peeks.fits.Given as goal

abbrev pub invariant-fitting : goal.invariant-fitting
invariant-fitting l = Fitting l.kinds l.items l.below l.left

abbrev pub decreases-fitting : goal.decreases-fitting
decreases-fitting l = l.left
