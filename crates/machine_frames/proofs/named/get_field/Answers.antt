use Rattle.machine_frames.proofs.Known.{still_known}
use Rattle.machine_frames.proofs.Steps.{frame_stays}
use Rattle.machine_frames.proofs.Undone.{frame_taken}
use Rattle.machine_frames.proofs.named.get_field.Goals as goal

pub returns-in_err-object-clause-within : goal.returns-in_err-object-clause-within
returns-in_err-object-clause-within c = λ count h. frame_stays count c.args.frame.now _ (search still_known) h

pub returns-then-has_room-clause-within : goal.returns-then-has_room-clause-within
returns-then-has_room-clause-within c = λ count h. frame_stays count c.args.frame.now _ (search still_known) h

pub returns-else-has_room-clause-within : goal.returns-else-has_room-clause-within
returns-else-has_room-clause-within c = λ count h. frame_stays count c.args.frame.now _ (search still_known) h

pub returns-then-has_room-clause-popped : goal.returns-then-has_room-clause-popped
returns-then-has_room-clause-popped c = frame_taken c.args.frame.now c.pop_reference.new.operands _ c.in_ok-object.ensures.taken
