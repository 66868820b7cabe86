-- The turn of an instruction that makes arrays of arrays, once the sizes were taken.
use Rattle.std.specs.Prelude.{◌≡◌, ℕ, ◌+◌, Bool, if◌then◌else◌, List, [], ◌∷◌, ◌++◌, map, reverse, length, slice_get, ℤ, Some}
use Rattle.std.specs.Vec.{with_item}
use Rattle.class_machine.specs.ClassFiles.{class_code}
use Rattle.class_machine.specs.Effect.{Ask, Broken, MakeArray, new_array}
use Rattle.class_machine.specs.Turn.{resolved}
use Rattle.machine_frames.specs.Sizes.{Sizes, SizesBreak}
use Rattle.machine_frames.specs.Undoing.{IsTaken}
use Rattle.machine_steps.specs.Moves.{Turning}
use Rattle.machine_values.specs.declared.frames.Frame.{Frame}
use Rattle.machine_values.specs.declared.state.MachineState.{MachineState}
use Rattle.machine_values.specs.declared.values.Value.TheVariants.{Int}
use Rattle.machine_values.specs.States.{IsFrameWithin}

-- ---- the running frame

-- so many sizes aren't on its operands
abbrev pub LacksSizes : ℕ → MachineState → Type 0
LacksSizes dims state = (rest : List Frame) (f : Frame) → state.frames.items ≡ rest ++ f ∷ [] → SizesBreak dims f

-- the sizes were taken from its operands, and nothing else changed
pub record TakesSizes (dims : ℕ) (old : MachineState) (xs : List ℤ) (new : MachineState) : Type 0 where
  pub at : ℕ
  pub last : at + 1 ≡ length old.frames.items
  pub before : Frame
  pub after : Frame
  pub there : slice_get old.frames.items at ≡ Some before
  pub changed : new ≡ record old { frames = with_item old.frames at after }
  pub sizes : Sizes dims before xs after
  pub taken : IsTaken before (reverse (map Int xs)) after
  pub within : (count : ℕ) → IsFrameWithin count before → IsFrameWithin count after

-- ---- turns

-- the sizes are taken, where there are to be as many of them as the array type may have
abbrev pub makes_arrays : Bool → List ℕ → ℕ → Turning
makes_arrays fit named dims m t f = resolved (class_code m.files) m.setting.classes f t.world (if fit then new_array (Some named) named dims f.content.operands f.content.locals else Broken)

-- arrays of the array type are asked for
abbrev pub asks : List ℕ → List ℤ → Turning
asks named sizes m t f = resolved (class_code m.files) m.setting.classes f t.world (Ask (MakeArray (Some named) named sizes) f.content)
