use Rattle.machine_frames.proofs.Known.{still_known}
use Rattle.machine_frames.proofs.Steps.{frame_stays}
use Rattle.machine_frames.proofs.Undone.{frame_taken_some}
use Rattle.std.specs.Prelude.{[], ◌∷◌}
use Rattle.machine_values.specs.declared.values.Value.{Value}
use Rattle.machine_frames.proofs.named.put_static.Goals as goal

pub returns-clause-within : goal.returns-clause-within
returns-clause-within c = λ count h. frame_stays count c.args.frame.now _ (search still_known) h

pub returns-clause-popped : goal.returns-clause-popped
returns-clause-popped c = frame_taken_some c.args.frame.now c.pop_kind.new.operands (λ (v : Value). v ∷ []) c.pop_kind.result c.pop_kind.ensures.taken
