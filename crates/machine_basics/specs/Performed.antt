-- What an instruction did to the running frame of a state.
use Rattle.std.specs.Prelude.{◌≡◌, ℕ, Bool, true, false, List, [], ◌∷◌, ◌++◌, None}
use Rattle.class_machine.specs.declared.meaning.Basic.{Basic}
use Rattle.class_machine.specs.Effect as definition
use Rattle.machine_values.specs.declared.frames.Frame.{Frame}
use Rattle.machine_values.specs.declared.state.MachineState.{MachineState}
use Rattle.machine_values.specs.States.{IsFrameWithin}
use Rattle.machine_frames.specs.declared.effect.Effect.{Effect}
use Rattle.machine_frames.specs.Naming.{Naming, Faithful}
use Rattle.machine_frames.specs.Effects.{Does, Keeps, setting, is_effect_within}
use Rattle.machine_frames.specs.Undoing.{Undoes, is_plain}
use Rattle.machine_steps.specs.Running.{Turned}

-- the instruction is a return, which another part of the machine does
abbrev pub is_return : Basic → Bool
is_return (Basic.Return k) = true
is_return _ = false

-- The running frame became another one, as the instruction has it, and nothing else changed.
pub record IsPerformed (old new : MachineState) (basic : Basic) (e : Effect) : Type 0 where
  pub rest : List Frame
  pub before : Frame
  pub after : Frame
  pub turned : Turned old new rest before after
  pub kept : Keeps before after
  pub done : (n : Naming) (count : ℕ) → Faithful n count → IsFrameWithin count before → Does n (definition.basic_effect (setting before None) basic) before after e
  pub within : (count : ℕ) → IsFrameWithin count before → IsFrameWithin count after
  pub known : (count : ℕ) → IsFrameWithin count before → is_effect_within count e ≡ true
  pub undone : Undoes before after e

-- The running frame becomes what it was before the effect, and nothing else changes.
pub record Restores (old : MachineState) (e : Effect) (new : MachineState) : Type 0 where
  pub same : new ≡ record old { frames = new.frames }
  pub frames : (rest : List Frame) (before after : Frame) → old.frames.items ≡ rest ++ after ∷ [] → Undoes before after e → is_plain e ≡ false → new.frames.items ≡ rest ++ before ∷ []
