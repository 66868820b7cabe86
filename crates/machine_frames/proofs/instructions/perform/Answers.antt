use Rattle.machine_frames.proofs.Known.{still_known}
use Rattle.machine_frames.proofs.Steps.{frame_stays}
use Rattle.machine_frames.proofs.instructions.perform.Goals as goal

pub returns-in-ArrayLength-clause-within : goal.returns-in-ArrayLength-clause-within
returns-in-ArrayLength-clause-within c = λ count h. frame_stays count c.args.frame.now _ (search still_known) h

pub returns-in-ArrayLoad-clause-within : goal.returns-in-ArrayLoad-clause-within
returns-in-ArrayLoad-clause-within c = λ count h. frame_stays count c.args.frame.now _ (search still_known) h

pub returns-in-ArrayStore-clause-within : goal.returns-in-ArrayStore-clause-within
returns-in-ArrayStore-clause-within c = λ count h. frame_stays count c.args.frame.now _ (search still_known) h

pub returns-in-CompareLong-clause-within : goal.returns-in-CompareLong-clause-within
returns-in-CompareLong-clause-within c = λ count h. frame_stays count c.args.frame.now _ (search still_known) h

pub returns-in-Constant-clause-within : goal.returns-in-Constant-clause-within
returns-in-Constant-clause-within c = λ count h. frame_stays count c.args.frame.now _ (search still_known) h

pub returns-in-Convert-clause-within : goal.returns-in-Convert-clause-within
returns-in-Convert-clause-within c = λ count h. frame_stays count c.args.frame.now _ (search still_known) h

pub returns-in-Duplicate-clause-within : goal.returns-in-Duplicate-clause-within
returns-in-Duplicate-clause-within c = λ count h. frame_stays count c.args.frame.now _ (search still_known) h

pub returns-in-EnterMonitor-clause-within : goal.returns-in-EnterMonitor-clause-within
returns-in-EnterMonitor-clause-within c = λ count h. frame_stays count c.args.frame.now _ (search still_known) h

pub returns-in-IfInt-clause-within : goal.returns-in-IfInt-clause-within
returns-in-IfInt-clause-within c = λ count h. frame_stays count c.args.frame.now _ (search still_known) h

pub returns-in-IfInts-clause-within : goal.returns-in-IfInts-clause-within
returns-in-IfInts-clause-within c = λ count h. frame_stays count c.args.frame.now _ (search still_known) h

pub returns-in-IfNull-clause-within : goal.returns-in-IfNull-clause-within
returns-in-IfNull-clause-within c = λ count h. frame_stays count c.args.frame.now _ (search still_known) h

pub returns-in-IfReferences-clause-within : goal.returns-in-IfReferences-clause-within
returns-in-IfReferences-clause-within c = λ count h. frame_stays count c.args.frame.now _ (search still_known) h

pub returns-in-IntBinary-clause-within : goal.returns-in-IntBinary-clause-within
returns-in-IntBinary-clause-within c = λ count h. frame_stays count c.args.frame.now _ (search still_known) h

pub returns-in-IntDivide-clause-within : goal.returns-in-IntDivide-clause-within
returns-in-IntDivide-clause-within c = λ count h. frame_stays count c.args.frame.now _ (search still_known) h

pub returns-in-IntNegate-clause-within : goal.returns-in-IntNegate-clause-within
returns-in-IntNegate-clause-within c = λ count h. frame_stays count c.args.frame.now _ (search still_known) h

pub returns-in-IntShift-clause-within : goal.returns-in-IntShift-clause-within
returns-in-IntShift-clause-within c = λ count h. frame_stays count c.args.frame.now _ (search still_known) h

pub returns-in-LeaveMonitor-clause-within : goal.returns-in-LeaveMonitor-clause-within
returns-in-LeaveMonitor-clause-within c = λ count h. frame_stays count c.args.frame.now _ (search still_known) h

pub returns-in-LongBinary-clause-within : goal.returns-in-LongBinary-clause-within
returns-in-LongBinary-clause-within c = λ count h. frame_stays count c.args.frame.now _ (search still_known) h

pub returns-in-LongDivide-clause-within : goal.returns-in-LongDivide-clause-within
returns-in-LongDivide-clause-within c = λ count h. frame_stays count c.args.frame.now _ (search still_known) h

pub returns-in-LongNegate-clause-within : goal.returns-in-LongNegate-clause-within
returns-in-LongNegate-clause-within c = λ count h. frame_stays count c.args.frame.now _ (search still_known) h

pub returns-in-LongShift-clause-within : goal.returns-in-LongShift-clause-within
returns-in-LongShift-clause-within c = λ count h. frame_stays count c.args.frame.now _ (search still_known) h

pub returns-in-NewArray-clause-within : goal.returns-in-NewArray-clause-within
returns-in-NewArray-clause-within c = λ count h. frame_stays count c.args.frame.now _ (search still_known) h

pub returns-in-Pop-clause-within : goal.returns-in-Pop-clause-within
returns-in-Pop-clause-within c = λ count h. frame_stays count c.args.frame.now _ (search still_known) h

pub returns-in-Return-clause-within : goal.returns-in-Return-clause-within
returns-in-Return-clause-within c = λ count h. frame_stays count c.args.frame.now _ (search still_known) h

pub returns-in-Swap-clause-within : goal.returns-in-Swap-clause-within
returns-in-Swap-clause-within c = λ count h. frame_stays count c.args.frame.now _ (search still_known) h

pub returns-in-Throw-clause-within : goal.returns-in-Throw-clause-within
returns-in-Throw-clause-within c = λ count h. frame_stays count c.args.frame.now _ (search still_known) h

pub returns-in-Unmodelled-clause-within : goal.returns-in-Unmodelled-clause-within
returns-in-Unmodelled-clause-within c = λ count h. frame_stays count c.args.frame.now _ (search still_known) h

pub returns-in-Load-clause-within : goal.returns-in-Load-clause-within
returns-in-Load-clause-within c = λ count h. record { operands = c.load.ensures.within count h.operands h.locals; locals = h.locals; monitor = h.monitor; purpose = h.purpose }

pub returns-in-Store-clause-within : goal.returns-in-Store-clause-within
returns-in-Store-clause-within c = λ count h. record { operands = c.store.ensures.within count h.operands; locals = c.store.ensures.locals_within count h.operands h.locals; monitor = h.monitor; purpose = h.purpose }

pub returns-in-Increment-clause-within : goal.returns-in-Increment-clause-within
returns-in-Increment-clause-within c = λ count h. record { operands = h.operands; locals = c.increment.ensures.within count h.locals; monitor = h.monitor; purpose = h.purpose }
