use Rattle.machine_frames.proofs.Known.{still_known}
use Rattle.machine_frames.proofs.Steps.{frame_stays}
use Rattle.machine_frames.proofs.Arguments.{calls_on, call_breaks, receiver_before}
use Rattle.machine_frames.proofs.Undone.{frame_taken, takes_more}
use Rattle.machine_frames.proofs.calls.call_on.Goals as goal

pub returns-in_default-clause-within : goal.returns-in_default-clause-within
returns-in_default-clause-within c = λ count h. frame_stays count c.args.frame.now _ (search still_known) h

pub returns-in-Some-pop_receiver-clause-taken : goal.returns-in-Some-pop_receiver-clause-taken
returns-in-Some-pop_receiver-clause-taken c = let taken = rw c.in-Some.is at c.in_ok-arguments.ensures.taken in calls_on c.args.kinds.now c.args.frame.now c.in-Some.arguments.items c.pop_arguments.new.operands c.pop_receiver.new.operands c.in-Some-pop_receiver.receiver taken c.in-Some-pop_receiver.ensures.taken

pub returns-in-Some-pop_receiver-clause-within : goal.returns-in-Some-pop_receiver-clause-within
returns-in-Some-pop_receiver-clause-within c = λ count h. frame_stays count c.args.frame.now _ (search still_known) h

pub returns-in-Some-pop_receiver-clause-settled : goal.returns-in-Some-pop_receiver-clause-settled
returns-in-Some-pop_receiver-clause-settled c = let settled = rw c.in-Some.is at c.in_ok-arguments.ensures.settled in settled

pub returns-in-Some-pop_receiver-clause-known : goal.returns-in-Some-pop_receiver-clause-known
returns-in-Some-pop_receiver-clause-known c = receiver_before c.args.frame.now.operands c.pop_arguments.new.operands c.in-Some-pop_receiver.receiver c.pop_arguments.ensures.within c.in-Some-pop_receiver.ensures.known

pub returns-in-None-clause-taken : goal.returns-in-None-clause-taken
returns-in-None-clause-taken c = let taken = rw c.in-Some.is at c.in_ok-arguments.ensures.taken in call_breaks c.args.kinds.now c.args.frame.now c.in-Some.arguments.items c.pop_arguments.new.operands taken c.in-None.ensures.taken

pub returns-in-None-clause-within : goal.returns-in-None-clause-within
returns-in-None-clause-within c = λ count h. frame_stays count c.args.frame.now _ (search still_known) h

pub returns-in-Some-pop_receiver-clause-popped : goal.returns-in-Some-pop_receiver-clause-popped
returns-in-Some-pop_receiver-clause-popped c =
    let popped = rw c.in-Some.is at c.in_ok-arguments.ensures.popped in
    frame_taken c.args.frame.now c.pop_receiver.new.operands _
    (takes_more c.args.frame.now.operands c.pop_arguments.new.operands c.pop_receiver.new.operands _ _ popped c.in-Some-pop_receiver.ensures.popped)
