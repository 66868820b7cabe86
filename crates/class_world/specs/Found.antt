-- What a search of a member finds.
use Rattle.std.specs.Prelude.{◌≡◌, ℕ, ◌+◌, ◌<◌, List, length, slice_index, Option}
use Rattle.aj_names.specs.declared.types.MemberName.{MemberName}
use Rattle.class_heads.specs.declared.types.ClassHead.{ClassHead}
use Rattle.class_heads.specs.Searches.{MemberPlace, method_in, selectable_in}
use Rattle.class_world.specs.declared.lookups.members.Found.{Found}
use Rattle.class_world.specs.declared.lookups.upward.Wanted.{Wanted}
use Rattle.class_world.specs.declared.lookups.upward.Wanted.TheVariants.{Declared, Selectable}

abbrev pub member_place : Found → MemberPlace
member_place found = record { class = found.class; position = found.position }

-- a member's name, by its parts
abbrev pub member_named : List ℕ → List ℕ → MemberName
member_named name descriptor = record { name = name; descriptor = descriptor }

-- where the class at a place has a method that is wanted
abbrev pub wanted_in : List ClassHead → Wanted → MemberName → ℕ → Option ℕ
wanted_in heads Declared member place = method_in heads member place
wanted_in heads Selectable member place = selectable_in heads member place

-- the member of that number in the last class whose first number isn't greater
pub record StandsAt (firsts : List ℕ) (number : ℕ) (found : Found) : Type 0 where
  pub within : found.class < length firsts
  pub numbered : slice_index firsts found.class + found.position ≡ number
  pub before : found.class + 1 < length firsts → number < slice_index firsts (found.class + 1)
