-- Frames that are left.
use Rattle.std.specs.Prelude.{◌≡◌, List, [], ◌++◌, reverse, take, drop, length, refl}
use Rattle.std.proofs.Common.{sym, ap, ◌∙◌, subst}
use Rattle.std.proofs.lemmas.List.{take_at, drop_at}
use Rattle.machine_values.specs.declared.frames.Frame.{Frame}
use Rattle.machine_values.specs.declared.state.MachineState.{MachineState}
use Rattle.machine_requests.specs.Shares.{Shares, others_of}
use Rattle.machine_steps.specs.Leaving.{left_by, Drops}

pub nothing_dropped : (old new : MachineState) → old.frames.items ≡ new.frames.items ++ [] → Drops old (record old { frames = new.frames }) (length new.frames.items)
nothing_dropped old new e = record {
  rest = refl;
  frames = sym (ap (take (length new.frames.items)) e ∙ take_at new.frames.items [] (length new.frames.items) refl);
  shares = λ s w distinct within shares.
      subst (λ (gone : List Frame). Shares s old.heap (others_of old) (left_by s old.heap.names (reverse gone) w)) (sym (ap (drop (length new.frames.items)) e ∙ drop_at new.frames.items [] (length new.frames.items) refl)) shares;
}
