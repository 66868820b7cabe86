-- The numbers of tokens.
use Rattle.std.specs.Prelude.{◌≡◌, ℕ, ◌≤◌, ◌^◌, max, List, [], ◌∷◌}
use Rattle.class_heads.specs.Hierarchy.{name_at}
use Rattle.aj_names.specs.declared.ids.ClassId.{ClassId}
use Rattle.class_machine.specs.Values as machine
use Rattle.class_machine.specs.Effect as definition
use Rattle.machine_values.specs.declared.values.Value.{Value}
use Rattle.machine_values.specs.declared.values.Value.TheVariants.{Token}
use Rattle.machine_values.specs.declared.values.Local.{Local}
use Rattle.machine_values.specs.declared.values.Local.TheVariants.{Holds}
use Rattle.machine_values.specs.declared.frames.Frame.{Frame}
use Rattle.machine_frames.specs.Naming.{Naming}
use Rattle.machine_frames.specs.Effects.{operands_of, locals_of}
use Rattle.machine_frames.specs.Named.{effect_on, content_of, Breaks}

-- the number of a token, and 0 of what is none
abbrev pub number_of : Value → ℕ
number_of (Token class number) = number
number_of v = 0

abbrev pub number_in : Local → ℕ
number_in (Holds v) = number_of v
number_in l = 0

abbrev pub highest : List Value → ℕ
highest [] = 0
highest (v ∷ vs) = max (number_of v) (highest vs)

abbrev pub highest_in : List Local → ℕ
highest_in [] = 0
highest_in (l ∷ ls) = max (number_in l) (highest_in ls)

-- a token of the class, unlike all others in the frame, is on top
abbrev pub Announces : Frame → ClassId → Frame → Type 0
Announces f class g = (n : Naming) → effect_on n f (definition.announce f.operands.room (name_at n.heads class.0)) ≡ definition.Announce (name_at n.heads class.0) (content_of n g)

abbrev pub AnnounceBreaks : Frame → ClassId → Type 0
AnnounceBreaks f class = (n : Naming) → Breaks n f (definition.announce f.operands.room (name_at n.heads class.0))

-- the next number of a token has more than 64 bits
abbrev pub IsSpent : Frame → Type 0
IsSpent f = (n : Naming) → 2 ^ 64 ≤ machine.fresh (operands_of n f) (locals_of n f)
