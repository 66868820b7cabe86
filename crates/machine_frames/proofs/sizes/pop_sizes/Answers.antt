use Rattle.machine_frames.proofs.Known.{still_known}
use Rattle.machine_frames.proofs.Steps.{frame_stays}
use Rattle.machine_frames.proofs.Undone.{frame_taken_ok}
use Rattle.machine_frames.proofs.sizes.pop_sizes.Goals as goal

pub returns-clause-within : goal.returns-clause-within
returns-clause-within c = λ count h. frame_stays count c.args.frame.now _ (search still_known) h

pub returns-clause-popped : goal.returns-clause-popped
returns-clause-popped c = frame_taken_ok c.args.frame.now c.pop_ints.new.operands _ c.pop_ints.result c.pop_ints.ensures.popped
