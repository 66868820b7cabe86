-- Which heap of the class machine a heap of this crate is. An object's name there has the name of its class; here it has the
-- class's number.
use Rattle.std.specs.Prelude.{◌≡◌, ℕ, zero, suc, Bool, true, false, nat_lt, List, [], ◌∷◌, ◌++◌, map, reverse, length, slice_get, Option, Some, None}
use Rattle.std.specs.List.{AllByRecursion, zip}
use Rattle.class_heads.specs.declared.types.ClassHead.{ClassHead}
use Rattle.class_heads.specs.Hierarchy.{name_at}
use Rattle.class_file.specs.Pool.{Reference}
use Rattle.class_machine.specs.Values as machine
use Rattle.class_machine.specs.Classes.{reference}
use Rattle.class_machine.specs.World as worlds
use Rattle.machine_values.specs.declared.values.Ref.{Ref}
use Rattle.machine_values.specs.declared.values.Value.{Value}
use Rattle.machine_values.specs.declared.values.Value.TheVariants.{Int, Long, Float, Double, Null, Reference as Pointer, Token, ReturnAddress}
use Rattle.machine_values.specs.declared.names.Maker.{Maker}
use Rattle.machine_values.specs.declared.names.Maker.TheVariants.{Class, Array}
use Rattle.machine_values.specs.declared.names.Name.{Name}
use Rattle.machine_values.specs.declared.names.Name.TheVariants.{Made, Literal, ClassObject}
use Rattle.machine_values.specs.declared.content.Content.{Content}
use Rattle.machine_values.specs.declared.content.Content.TheVariants.{Values, Text, Fixed}
use Rattle.machine_values.specs.Things.{Things, made, place_of}
use Rattle.machine_values.specs.Types.{type_name}

module _ (heads : List ClassHead) where
  abbrev pub maker_name : Maker → List ℕ
  maker_name (Class class) = name_at heads class.0
  maker_name (Array type) = type_name type

  abbrev pub machine_name : Name → machine.Name
  machine_name (Made maker k) = machine.Made (maker_name maker) k
  machine_name (Literal units) = machine.Literal units
  machine_name (ClassObject type) = machine.ClassObject (type_name type)

  -- of a place that there isn't, no object that is made
  abbrev pub name_in : Option Name → machine.Name
  name_in None = machine.Literal []
  name_in (Some name) = machine_name name

  module _ (names : List Name) where
    abbrev pub name_of : Ref → machine.Name
    name_of at = name_in (slice_get names at.0)

    -- a plain value; tokens and return addresses are none
    abbrev pub held : Value → machine.Held
    held (Int n) = machine.Int n
    held (Long n) = machine.Long n
    held (Float bits) = machine.Float bits
    held (Double bits) = machine.Double bits
    held Null = machine.Null
    held (Pointer at) = machine.Reference (name_of at)
    held (Token class number) = machine.Null
    held (ReturnAddress pc) = machine.Null

-- a value that fields and elements may hold: a plain one, and a reference only to one of the first so many objects
abbrev pub is_settled : ℕ → Value → Bool
is_settled count (Pointer at) = nat_lt at.0 count
is_settled count (Token class number) = false
is_settled count (ReturnAddress pc) = false
is_settled count _ = true

abbrev pub Settled : ℕ → Value → Type 0
Settled count v = is_settled count v ≡ true

-- ---- objects

abbrev pub IsSettledContent : ℕ → Content → Type 0
IsSettledContent count (Values values) = AllByRecursion (Settled count) values
IsSettledContent count _ = Unit {0}

-- The fields of an object have their references in an order that is a parameter: those of the class's objects.
module _ (heads : List ClassHead) (fields : List ℕ → List Reference) (names : List Name) where
  abbrev pub object_of : Maker → Content → worlds.Object
  object_of (Class class) (Values values) = worlds.Instance (zip (fields (name_at heads class.0)) (map (held heads names) values))
  object_of (Array type) (Values values) = worlds.Array (map (held heads names) values)
  object_of maker (Text units) = worlds.Text units
  object_of maker Fixed = worlds.Instance []

  -- an object that was made, with its name; the others aren't listed
  abbrev pub listed_one : Name → Content → List (machine.Name × worlds.Object)
  listed_one (Made maker k) content = (machine_name heads (Made maker k), object_of maker content) ∷ []
  listed_one name content = []

  -- the objects of these names, the oldest first
  abbrev pub listed : List Name → List Content → List (machine.Name × worlds.Object)
  listed [] contents = []
  listed (name ∷ others) [] = []
  listed (name ∷ others) (content ∷ contents) = listed_one name content ++ listed others contents

-- the heap is that of a world of the machine, which lists the newest object first
pub record IsHeapOf (heads : List ClassHead) (fields : List ℕ → List Reference) (things : Things) (heap : List (machine.Name × worlds.Object)) : Type 0 where
  pub whole : length things.contents ≡ length things.names
  pub settled : AllByRecursion (IsSettledContent (length things.names)) things.contents
  pub same : heap ≡ reverse (listed heads fields things.names things.names things.contents)

-- of the objects of these names, only the one at the place may have that name
abbrev pub IsAlone : List ClassHead → List Name → ℕ → machine.Name → Type 0
IsAlone heads [] at a = Unit {0}
IsAlone heads (name ∷ others) zero a = AllByRecursion (λ other. machine.same_name (machine_name heads other) a ≡ false) others
IsAlone heads (name ∷ others) (suc at) a = (machine.same_name (machine_name heads name) a ≡ false) × IsAlone heads others at a

-- ---- numbers

-- behind these, the next object of its name
abbrev pub IsNext : List Name → Name → Type 0
IsNext before (Made maker k) = k ≡ suc (made before maker)
IsNext before name = place_of before name ≡ None

-- behind those, each of these is the next object of its name
abbrev pub AreNumbered : List Name → List Name → Type 0
AreNumbered before [] = Unit {0}
AreNumbered before (name ∷ names) = IsNext before name × AreNumbered (before ++ name ∷ []) names

-- a heap whose objects are numbered, and the class machine's that it stands for
pub record Stands (heads : List ClassHead) (fields : List ℕ → List Reference) (things : Things) (heap : List (machine.Name × worlds.Object)) : Type 0 where
  pub objects : IsHeapOf heads fields things heap
  pub numbered : AreNumbered [] things.names
