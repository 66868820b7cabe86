use Rattle.std.specs.Prelude.{◌<◌, List, length}
use Rattle.std.proofs.Common.{sym, subst}
use Rattle.machine_values.specs.declared.frames.Frame.{Frame}
use Rattle.machine_basics.proofs.Kept.{keeps_restored}
use Rattle.machine_basics.proofs.taking.take_or_restore.Goals as goal

pub restore_running-requires : goal.restore_running-requires
restore_running-requires c = subst (λ (l : List Frame). 0 < length l) (sym c.in-Err.ensures.err.frames) c.requires.some

pub returns-in-Err-clause-err : goal.returns-in-Err-clause-err
returns-in-Err-clause-err c = λ before basic performed.
    keeps_restored c.args.world.now before c.args.state.now c.take.new.state c.restore_running.new.state basic c.args.effect performed c.in-Err.ensures.err c.restore_running.ensures c.in-Err.ensures.plain

pub returns-in-Err-clause-spared : goal.returns-in-Err-clause-spared
returns-in-Err-clause-spared c = c.in-Err.ensures.spared
