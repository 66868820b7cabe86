-- Frames are left, the running one first.
use Rattle.std.specs.Prelude.{◌≡◌, ℕ, true, List, [], ◌∷◌, reverse, take, drop, length, Option}
use Rattle.std.specs.List.{AllByRecursion}
use Rattle.class_machine.specs.World.{World}
use Rattle.class_machine.specs.Machine.{leaving}
use Rattle.machine_values.specs.declared.names.Name.{Name}
use Rattle.machine_values.specs.declared.values.Ref.{Ref}
use Rattle.machine_values.specs.declared.frames.Frame.{Frame}
use Rattle.machine_values.specs.declared.state.MachineState.{MachineState}
use Rattle.machine_values.specs.Things.{Things}
use Rattle.machine_values.specs.States.{is_known_object, IsFrameWithin}
use Rattle.machine_requests.specs.Telling.{AreDistinct}
use Rattle.machine_requests.specs.Monitors.{with_monitors}
use Rattle.machine_requests.specs.Shares.{Setting, Others, Shares, others_of}
use Rattle.machine_requests.specs.Replies.{object}

-- whatever world they stood for, with these counts they stand for the world where the monitor is left
abbrev pub LeavesMonitor : List ℕ → Option Ref → List ℕ → Type 0
LeavesMonitor old monitor new =
    (s : Setting) (things : Things) (others : Others) (w : World) → others.monitors ≡ old → is_known_object (length things.names) monitor ≡ true → AreDistinct s.heads → Shares s things others w
    → Shares s things (with_monitors others new) (leaving (object s things.names monitor) w)

-- the world where these frames, the running one first, are left
abbrev pub left_by : Setting → List Name → List Frame → World → World
left_by s names [] w = w
left_by s names (g ∷ gs) w = left_by s names gs (leaving (object s names g.monitor) w)

-- the first so many frames are left of those there were
pub record Drops (old new : MachineState) (count : ℕ) : Type 0 where
  pub rest : new ≡ record old { frames = new.frames; monitors = new.monitors }
  pub frames : new.frames.items ≡ take count old.frames.items
  pub shares : (s : Setting) (w : World) → AreDistinct s.heads → AllByRecursion (IsFrameWithin (length old.heap.names)) old.frames.items → Shares s old.heap (others_of old) w
      → Shares s old.heap (others_of new) (left_by s old.heap.names (reverse (drop count old.frames.items)) w)
