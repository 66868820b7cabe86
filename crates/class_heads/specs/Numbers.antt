-- Numbers of members: they go by class, then by position in it.
use Rattle.std.specs.Prelude.{◌≡◌, ℕ, ◌+◌, ◌<◌, List, map, take, length, slice_index}
use Rattle.std.specs.List.{sum}
use Rattle.class_heads.specs.declared.types.ClassHead.{ClassHead}
use Rattle.class_heads.specs.Searches.{MemberPlace}

-- how many stand in the classes before the place, of which there are so many in each class
abbrev pub first_number : List ℕ → ℕ → ℕ
first_number counts place = sum (take place counts)

abbrev pub number_of : List ℕ → MemberPlace → ℕ
number_of counts m = first_number counts m.class + m.position

-- the member is there, and has the number
pub record IsNumbered (counts : List ℕ) (number : ℕ) (m : MemberPlace) : Type 0 where
  pub known : m.class < length counts
  pub within : m.position < slice_index counts m.class
  pub numbered : number ≡ number_of counts m

abbrev pub field_counts : List ClassHead → List ℕ
field_counts heads = map (λ c. length c.fields) heads

abbrev pub method_counts : List ClassHead → List ℕ
method_counts heads = map (λ c. length c.methods) heads
