-- What the functions for sizes of arrays take from the operands.
use Rattle.std.specs.Prelude.{◌≡◌, ℕ, ℤ, List, [], Option}
use Rattle.class_machine.specs.Effect as definition
use Rattle.machine_values.specs.declared.frames.Frame.{Frame}
use Rattle.machine_values.specs.Stacks.{Stack}
use Rattle.machine_frames.specs.Naming.{Naming, values}
use Rattle.machine_frames.specs.Operands.{Onward}
use Rattle.machine_frames.specs.Named.{effect_on, content_of, Breaks}

abbrev pub PopsInts : ℕ → Stack → List ℤ → Stack → Type 0
PopsInts count s xs t = (n : Naming) (method : ℕ) (go : Onward (List ℤ)) → definition.pop_sizes count [] (values n method s.values) go ≡ go xs (values n method t.values)

abbrev pub LacksInts : ℕ → Stack → Type 0
LacksInts count s = (n : Naming) (method : ℕ) (go : Onward (List ℤ)) → definition.pop_sizes count [] (values n method s.values) go ≡ definition.Broken

-- an array of any type is asked for, of these sizes
abbrev pub Sizes : ℕ → Frame → List ℤ → Frame → Type 0
Sizes count f xs g = (n : Naming) (named : Option (List ℕ)) (type : List ℕ) → effect_on n f (definition.new_array named type count) ≡ definition.Ask (definition.MakeArray named type xs) (content_of n g)

abbrev pub SizesBreak : ℕ → Frame → Type 0
SizesBreak count f = (n : Naming) (named : Option (List ℕ)) (type : List ℕ) → Breaks n f (definition.new_array named type count)
