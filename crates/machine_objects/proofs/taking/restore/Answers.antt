use Rattle.std.specs.Prelude.{reverse}
use Rattle.machine_objects.proofs.Taken.{restored}
use Rattle.machine_objects.proofs.taking.restore.Goals as goal

pub returns-in-Some : goal.returns-in-Some
returns-in-Some c before from =
    restored (reverse c.args.taken.now) before c.args.state.now c.in-Some.top c.index_mut.result.now c.put_back.new.frame from c.in-Some.ensures.top c.index_mut.ensures.value c.put_back.ensures
