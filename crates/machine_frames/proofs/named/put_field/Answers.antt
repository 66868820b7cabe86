use Rattle.machine_frames.proofs.Known.{still_known}
use Rattle.machine_frames.proofs.Steps.{frame_stays, known_in_frame}
use Rattle.machine_frames.proofs.Undone.{frame_taken, took_two}
use Rattle.machine_frames.proofs.named.put_field.Goals as goal

pub returns-in_err-value-clause-within : goal.returns-in_err-value-clause-within
returns-in_err-value-clause-within c = λ count h. frame_stays count c.args.frame.now _ (search still_known) h

pub returns-in_err-object-clause-within : goal.returns-in_err-object-clause-within
returns-in_err-object-clause-within c = λ count h. frame_stays count c.args.frame.now _ (search still_known) h

pub returns-clause-within : goal.returns-clause-within
returns-clause-within c = λ count h. frame_stays count c.args.frame.now _ (search still_known) h

pub returns-clause-known : goal.returns-clause-known
returns-clause-known c = λ count h. known_in_frame count c.args.frame.now _ _ c.pop_kind.ensures.within c.in_ok-object.ensures.known h

pub returns-clause-popped : goal.returns-clause-popped
returns-clause-popped c = frame_taken c.args.frame.now c.pop_reference.new.operands _ (took_two c.args.frame.now.operands c.pop_kind.new.operands c.pop_reference.new.operands _ _ c.in_ok-value.ensures.taken c.in_ok-object.ensures.taken)
