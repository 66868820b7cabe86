use Rattle.machine_frames.proofs.Known.{still_known}
use Rattle.machine_frames.proofs.Steps.{frame_stays}
use Rattle.machine_frames.proofs.Undone.{frame_taken_some}
use Rattle.std.specs.Prelude.{Option, [], ◌∷◌}
use Rattle.machine_values.specs.declared.values.Ref.{Ref}
use Rattle.machine_frames.specs.Undoing.{reference_value}
use Rattle.machine_frames.proofs.named.pop_object.Goals as goal

pub returns-clause-within : goal.returns-clause-within
returns-clause-within c = λ count h. frame_stays count c.args.frame.now _ (search still_known) h

pub returns-clause-popped : goal.returns-clause-popped
returns-clause-popped c = frame_taken_some c.args.frame.now c.pop_reference.new.operands (λ (a : Option Ref). reference_value a ∷ []) c.pop_reference.result c.pop_reference.ensures.taken
