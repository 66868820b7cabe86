use Rattle.machine_frames.proofs.Fitting.{fitting_start, fitting_next, fitting_not, fitting_done, fits_short}
use Rattle.machine_frames.proofs.peeks.fits.Goals as goal

pub returns-then-items-kinds : goal.returns-then-items-kinds
returns-then-items-kinds c = fits_short c.args.kinds.now c.args.items.now c.if-items-kinds.true

pub fitting-init : goal.fitting-init
fitting-init c = fitting_start c.args.kinds.now c.args.items.now c.if-items-kinds.false

pub fitting-preserved : goal.fitting-preserved
fitting-preserved c = fitting_next _ _ _ _ _ _ _ c.fitting-test.true c.fitting.invariant c.is_of-does.ensures c.if-not-does.false

pub returns-then-not-does : goal.returns-then-not-does
returns-then-not-does c = fitting_not _ _ _ _ _ _ _ c.fitting-test.true c.fitting.invariant c.is_of-does.ensures c.if-not-does.true

pub returns : goal.returns
returns c = fitting_done _ _ _ _ c.fitting-test.false c.fitting.invariant
