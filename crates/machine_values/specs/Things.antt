-- A heap as its callers see it: a map from places to objects, and each object's name.
use Rattle.std.specs.Prelude.{ℕ, suc, Bool, true, false, if◌then◌else◌, List, [], ◌∷◌, ◌++◌, length, slice_get, slice_set, Option, Some, None, option_map}
use Rattle.machine_values.specs.declared.values.Value.{Value}
use Rattle.machine_values.specs.declared.names.Maker.{Maker}
use Rattle.machine_values.specs.declared.names.Name.{Name}
use Rattle.machine_values.specs.declared.names.Name.TheVariants.{Made, Literal, ClassObject}
use Rattle.machine_values.specs.declared.content.Content.{Content}
use Rattle.machine_values.specs.declared.content.Content.TheVariants.{Values, Text, Fixed}
use Rattle.machine_values.specs.contracts.names.MakerPartialEq.TheImpl.{ghosts as of_maker}
use Rattle.machine_values.specs.contracts.names.NamePartialEq.TheImpl.{ghosts as of_name}

-- the object at a place has the name, and holds the content, that stand there
pub record Things : Type 0 where
  pub names : List Name
  pub contents : List Content

abbrev pub nothing : Things
nothing = record { names = []; contents = [] }

-- with one more object, at the next place
abbrev pub with_thing : Things → Name → Content → Things
with_thing things name content = record { names = things.names ++ name ∷ []; contents = things.contents ++ content ∷ [] }

-- where the object at a place holds something else
abbrev pub changed : Things → ℕ → Content → Things
changed things at content = record { names = things.names; contents = slice_set things.contents at content }

-- a place, and what there is then
abbrev pub Placed : Type 0
Placed = ℕ × Things

-- ---- objects that are made

abbrev pub same_maker : Maker → Maker → Bool
same_maker = of_maker.eq

abbrev pub is_made_of : Maker → Name → Bool
is_made_of maker (Made other number) = same_maker maker other
is_made_of maker _ = false

-- how many objects were made of the class or array type
abbrev pub made : List Name → Maker → ℕ
made [] maker = 0
made (name ∷ names) maker = if is_made_of maker name then suc (made names maker) else made names maker

abbrev pub next_name : List Name → Maker → Name
next_name names maker = Made maker (suc (made names maker))

-- with the next object of the class or array type
abbrev pub with_made : Things → Maker → Content → Placed
with_made things maker content = (length things.names, with_thing things (next_name things.names maker) content)

-- ---- objects that are there once

abbrev pub is_constant : Name → Bool
is_constant (Made maker number) = false
is_constant _ = true

abbrev pub same_name : Name → Name → Bool
same_name = of_name.eq

-- the first place of the name
abbrev pub place_of : List Name → Name → Option ℕ
place_of [] name = None
place_of (first ∷ others) name = if same_name name first then Some 0 else option_map suc (place_of others name)

abbrev pub placed_at : Things → Name → Option ℕ → Placed
placed_at things name (Some place) = (place, things)
placed_at things name None = (length things.names, with_thing things name Fixed)

-- with the object of the name, added where it isn't there
abbrev pub with_constant : Things → Name → Placed
with_constant things name = placed_at things name (place_of things.names name)

-- ---- what objects hold

abbrev pub values_in : Content → List Value
values_in (Values values) = values
values_in _ = []

abbrev pub values_of : Option Content → List Value
values_of None = []
values_of (Some content) = values_in content

-- the fields or elements of the object at a place
abbrev pub values_at : Things → ℕ → List Value
values_at things at = values_of (slice_get things.contents at)

abbrev pub text_in : Content → Option (List ℕ)
text_in (Text units) = Some units
text_in _ = None

abbrev pub text_of : Option Content → Option (List ℕ)
text_of None = None
text_of (Some content) = text_in content

-- the units of a text or buffer that was made
abbrev pub text_at : Things → ℕ → Option (List ℕ)
text_at things at = text_of (slice_get things.contents at)

abbrev pub units_of : Option Name → Option Content → Option (List ℕ)
units_of (Some (Literal units)) content = Some units
units_of name content = text_of content

-- the units of a text, a buffer or a literal
abbrev pub units_at : Things → ℕ → Option (List ℕ)
units_at things at = units_of (slice_get things.names at) (slice_get things.contents at)
