-- What the functions on operands do, for each naming of what the operands stand for.
use Rattle.std.specs.Prelude.{◌≡◌, ℕ, ℤ, true, List, [], ◌∷◌, Option, Some, None}
use Rattle.class_machine.specs.declared.kinds.Kind.{Kind}
use Rattle.class_machine.specs.declared.kinds.Slots.{Slots}
use Rattle.class_machine.specs.Values as machine
use Rattle.class_machine.specs.ClassFiles.{Place}
use Rattle.class_machine.specs.Effect as definition
use Rattle.machine_values.specs.declared.values.Ref.{Ref}
use Rattle.machine_values.specs.declared.values.Value.{Value}
use Rattle.machine_values.specs.Stacks.{Stack}
use Rattle.machine_values.specs.Standing.{is_settled}
use Rattle.machine_values.specs.States.{is_known, is_known_object}
use Rattle.machine_frames.specs.declared.effect.Effect.{Effect}
use Rattle.machine_frames.specs.declared.operands.Group.{Group}
use Rattle.machine_frames.specs.declared.operands.Group.TheVariants as group
use Rattle.machine_frames.specs.Naming.{Naming, reference, held, value, values}
use Rattle.machine_frames.specs.Effects.{Form, effect_in, is_effect_within, AreKnown}

-- how the definition goes on with what is popped and the operands that are left
abbrev pub Onward : Type 0 → Type 0
Onward X = X → List (machine.Value Place) → definition.Effect Place

-- ---- pushes

abbrev pub Pushes : Stack → Value → Stack → Type 0
Pushes s v t = (n : Naming) (method : ℕ) → definition.pushed s.room (value n method v) (values n method s.values) ≡ Some (values n method t.values)

abbrev pub Overflows : Stack → Value → Type 0
Overflows s v = (n : Naming) (method : ℕ) → definition.pushed s.room (value n method v) (values n method s.values) ≡ None

-- ---- pops

abbrev pub LacksInt : Stack → Type 0
LacksInt s = (n : Naming) (method : ℕ) (go : Onward ℤ) → definition.pop_int (values n method s.values) go ≡ definition.Broken

abbrev pub LacksLong : Stack → Type 0
LacksLong s = (n : Naming) (method : ℕ) (go : Onward ℤ) → definition.pop_long (values n method s.values) go ≡ definition.Broken

abbrev pub PopsReference : Stack → Option Ref → Stack → Type 0
PopsReference s a t = (n : Naming) (method : ℕ) (go : Onward (Option machine.Name)) → definition.pop_reference (values n method s.values) go ≡ go (reference n a) (values n method t.values)

abbrev pub LacksReference : Stack → Type 0
LacksReference s = (n : Naming) (method : ℕ) (go : Onward (Option machine.Name)) → definition.pop_reference (values n method s.values) go ≡ definition.Broken

abbrev pub PopsKind : Kind → Stack → Value → Stack → Type 0
PopsKind k s v t = (n : Naming) (method : ℕ) (go : Onward machine.Held) → definition.pop_held k (values n method s.values) go ≡ go (held n v) (values n method t.values)

abbrev pub LacksKind : Kind → Stack → Type 0
LacksKind k s = (n : Naming) (method : ℕ) (go : Onward machine.Held) → definition.pop_held k (values n method s.values) go ≡ definition.Broken

abbrev pub PopsNarrow : Stack → Value → Stack → Type 0
PopsNarrow s v t = (n : Naming) (method : ℕ) (go : Onward (machine.Value Place)) → definition.pop_narrow (values n method s.values) go ≡ go (value n method v) (values n method t.values)

abbrev pub LacksNarrow : Stack → Type 0
LacksNarrow s = (n : Naming) (method : ℕ) (go : Onward (machine.Value Place)) → definition.pop_narrow (values n method s.values) go ≡ definition.Broken

-- the values, the topmost first
abbrev pub in_group : Group → List Value
in_group group.Zero = []
in_group (group.One v) = v ∷ []
in_group (group.Two v u) = v ∷ u ∷ []

abbrev pub PopsSlots : Slots → Stack → Group → Stack → Type 0
PopsSlots slots s g t = (n : Naming) (method : ℕ) (go : Onward (List (machine.Value Place))) → definition.pop_slots slots (values n method s.values) go ≡ go (values n method (in_group g)) (values n method t.values)

abbrev pub LacksSlots : Slots → Stack → Type 0
LacksSlots slots s = (n : Naming) (method : ℕ) (go : Onward (List (machine.Value Place))) → definition.pop_slots slots (values n method s.values) go ≡ definition.Broken

abbrev pub Puts : Stack → Group → Stack → Type 0
Puts s g t = (n : Naming) (method : ℕ) (go : List (machine.Value Place) → definition.Effect Place) → definition.put s.room (values n method (in_group g)) (values n method s.values) go ≡ go (values n method t.values)

abbrev pub LacksRoom : Stack → Group → Type 0
LacksRoom s g = (n : Naming) (method : ℕ) (go : List (machine.Value Place) → definition.Effect Place) → definition.put s.room (values n method (in_group g)) (values n method s.values) go ≡ definition.Broken

-- ---- instructions that see the operands alone

-- the operands as they were, under the form, come to the effect with the operands as they are, whatever the locals
abbrev pub Works : Stack → Stack → Effect → (Stack → Form) → Type 0
Works s t e form = (n : Naming) (method : ℕ) (ls : List (machine.Local Place)) → effect_in n method e (values n method t.values) ls ≡ form s (values n method s.values) ls

-- the value is on top, or there was no room
abbrev pub PushesOn : Stack → Value → Stack → Effect → Type 0
PushesOn s v t e = (n : Naming) (method : ℕ) (ls : List (machine.Local Place)) → effect_in n method e (values n method t.values) ls ≡ definition.push_on s.room (value n method v) (values n method s.values) ls

-- the same for one naming
abbrev pub WorksUnder : Naming → Stack → Stack → Effect → (Stack → Form) → Type 0
WorksUnder n s t e form = (method : ℕ) (ls : List (machine.Local Place)) → effect_in n method e (values n method t.values) ls ≡ form s (values n method s.values) ls

-- an effect that refers to no object
abbrev pub IsFree : Effect → Type 0
IsFree e = (count : ℕ) → is_effect_within count e ≡ true

-- ---- which objects are referred to: where the operands refer to none but the first so many

-- the operands that are left neither
pub record StaysKnown (s t : Stack) : Type 0 where
  pub stays : (count : ℕ) → AreKnown count s.values → AreKnown count t.values

-- nor once the value is pushed, if it doesn't
pub record PushesKnown (s : Stack) (v : Value) (t : Stack) : Type 0 where
  pub pushes : (count : ℕ) → AreKnown count s.values → is_known count v ≡ true → AreKnown count t.values

pub record PutsKnown (s : Stack) (g : Group) (t : Stack) : Type 0 where
  pub puts : (count : ℕ) → AreKnown count s.values → AreKnown count (in_group g) → AreKnown count t.values

-- nor the value
pub record IsKnownValue (s : Stack) (v : Value) : Type 0 where
  pub known : (count : ℕ) → AreKnown count s.values → is_known count v ≡ true

pub record AreKnownIn (s : Stack) (g : Group) : Type 0 where
  pub known : (count : ℕ) → AreKnown count s.values → AreKnown count (in_group g)

pub record IsKnownReference (s : Stack) (a : Option Ref) : Type 0 where
  pub known : (count : ℕ) → AreKnown count s.values → is_known_object count a ≡ true

pub record IsSettledValue (s : Stack) (v : Value) : Type 0 where
  pub settled : (count : ℕ) → AreKnown count s.values → is_settled count v ≡ true

-- nor the effect
pub record IsKnownEffect (s : Stack) (e : Effect) : Type 0 where
  pub known : (count : ℕ) → AreKnown count s.values → is_effect_within count e ≡ true
