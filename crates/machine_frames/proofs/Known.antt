-- Which objects operands and effects refer to, over several steps.
use Rattle.machine_values.specs.declared.values.Ref.{Ref}
use Rattle.machine_values.specs.declared.values.Value.{Value}
use Rattle.machine_values.specs.Stacks.{Stack}
use Rattle.std.specs.Prelude.{Option}
use Rattle.machine_frames.specs.declared.operands.Group.{Group}
use Rattle.machine_frames.specs.Operands.{StaysKnown, PushesKnown, PutsKnown, IsKnownValue, AreKnownIn, IsKnownReference}

pub still_known : (s t u : Stack) → StaysKnown s t → StaysKnown t u → StaysKnown s u
still_known s t u h k = record { stays = λ count all. k.stays count (h.stays count all) }

pub known_before : (s t : Stack) (v : Value) → StaysKnown s t → IsKnownValue t v → IsKnownValue s v
known_before s t v h k = record { known = λ count all. k.known count (h.stays count all) }

pub reference_before : (s t : Stack) (a : Option Ref) → StaysKnown s t → IsKnownReference t a → IsKnownReference s a
reference_before s t a h k = record { known = λ count all. k.known count (h.stays count all) }

pub group_before : (s t : Stack) (g : Group) → StaysKnown s t → AreKnownIn t g → AreKnownIn s g
group_before s t g h k = record { known = λ count all. k.known count (h.stays count all) }

pub pushed : (o s : Stack) (v : Value) (t : Stack) → StaysKnown o s → IsKnownValue o v → PushesKnown s v t → StaysKnown o t
pushed o s v t h k p = record { stays = λ count all. p.pushes count (h.stays count all) (k.known count all) }

pub put : (o s : Stack) (g : Group) (t : Stack) → StaysKnown o s → AreKnownIn o g → PutsKnown s g t → StaysKnown o t
put o s g t h k p = record { stays = λ count all. p.puts count (h.stays count all) (k.known count all) }
