-- What a heap keeps beside its objects: counts of those that were made, and the places of those that are there once.
use Rattle.std.specs.Prelude.{◌≡◌, ℕ, ◌<◌, ◌≤◌, ◌^◌, true, List, length, Option}
use Rattle.std.specs.Option.{unwrap_or}
use Rattle.indexmap.specs.IndexMap.{IndexMap, get}
use Rattle.machine_values.specs.declared.names.Maker.{Maker}
use Rattle.machine_values.specs.declared.names.Name.{Name}
use Rattle.machine_values.specs.declared.names.Name.TheVariants.{Made}
use Rattle.machine_values.specs.declared.content.Content.{Content}
use Rattle.machine_values.specs.Things.{same_maker, made, is_constant, same_name, place_of}

pub record IsHeap {S T : Type 0} (names : List Name) (contents : List Content) (counts : IndexMap Maker ℕ S) (places : IndexMap Name ℕ T) : Type 0 where
  pub fits : length names ≤ 2 ^ 32
  pub whole : length contents ≡ length names
  pub counted : (maker : Maker) → unwrap_or (get same_maker counts maker) 0 ≡ made names maker
  pub placed : (name : Name) → is_constant name ≡ true → get same_name places name ≡ place_of names name

pub record AreCounted {S : Type 0} (names : List Name) (counts : IndexMap Maker ℕ S) : Type 0 where
  pub counted : (maker : Maker) → unwrap_or (get same_maker counts maker) 0 ≡ made names maker

pub record ArePlaced {T : Type 0} (names : List Name) (places : IndexMap Name ℕ T) : Type 0 where
  pub placed : (name : Name) → is_constant name ≡ true → get same_name places name ≡ place_of names name

-- an object of the name's class or array type was counted
abbrev pub IsCounted : {S : Type 0} → Name → IndexMap Maker ℕ S → Type 0
IsCounted (Made maker k) counts = 0 < unwrap_or (get same_maker counts maker) 0
IsCounted name counts = Unit {0}
