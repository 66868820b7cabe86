use Rattle.machine_frames.proofs.Known.{still_known}
use Rattle.machine_frames.proofs.arithmetic.convert.Goals as goal

pub returns-in-IntToByte-clause-within : goal.returns-in-IntToByte-clause-within
returns-in-IntToByte-clause-within c = search still_known

pub returns-in-IntToShort-clause-within : goal.returns-in-IntToShort-clause-within
returns-in-IntToShort-clause-within c = search still_known
