-- What the functions for calls take from the operands.
use Rattle.std.specs.Prelude.{◌≡◌, ℕ, Bool, true, false, ◌&&◌, List, [], ◌∷◌, map, reverse}
use Rattle.std.specs.List.{AllByRecursion}
use Rattle.class_file.specs.Pool.{Reference}
use Rattle.class_heads.specs.Hierarchy.{name_at}
use Rattle.class_machine.specs.declared.kinds.Kind.{Kind}
use Rattle.class_machine.specs.declared.kinds.Mode.{Mode}
use Rattle.class_machine.specs.Values as machine
use Rattle.class_machine.specs.ClassFiles.{Place}
use Rattle.class_machine.specs.Descriptors.{kind_in, parameters_in}
use Rattle.class_machine.specs.Effect as definition
use Rattle.machine_values.specs.declared.values.Value.{Value}
use Rattle.machine_values.specs.declared.frames.Frame.{Frame}
use Rattle.machine_values.specs.Stacks.{Stack}
use Rattle.machine_values.specs.Standing.{Settled}
use Rattle.machine_values.specs.States.{is_known_object}
use Rattle.machine_frames.specs.declared.calls.Receiver.{Receiver}
use Rattle.machine_frames.specs.declared.calls.Receiver.TheVariants.{Object, Announced}
use Rattle.machine_frames.specs.Naming.{Naming, reference, held, values}
use Rattle.machine_frames.specs.Effects.{AreKnown}
use Rattle.machine_frames.specs.Kinds.{is_of}
use Rattle.machine_frames.specs.Operands.{Onward}
use Rattle.machine_frames.specs.Named.{effect_on, content_of, Breaks}

-- ---- arguments, of types that have these kinds

abbrev pub kinds_of : List (List ℕ) → List Kind
kinds_of types = map kind_in types

abbrev pub PopsArguments : List Kind → Stack → List Value → Stack → Type 0
PopsArguments kinds s vs t = (n : Naming) (method : ℕ) (types : List (List ℕ)) (go : Onward (List machine.Held)) → kinds_of types ≡ kinds
    → definition.pop_arguments (reverse types) [] (values n method s.values) go ≡ go (map (held n) vs) (values n method t.values)

abbrev pub LacksArguments : List Kind → Stack → Type 0
LacksArguments kinds s = (n : Naming) (method : ℕ) (types : List (List ℕ)) (go : Onward (List machine.Held)) → kinds_of types ≡ kinds
    → definition.pop_arguments (reverse types) [] (values n method s.values) go ≡ definition.Broken

-- the topmost values are of the kinds, the first kind's topmost
abbrev pub fits : List Kind → List Value → Bool
fits [] vs = true
fits (k ∷ ks) [] = false
fits (k ∷ ks) (v ∷ vs) = is_of k v && fits ks vs

-- ---- calls of methods whose parameters have these kinds

abbrev pub kinds_for : Reference → List Kind
kinds_for r = kinds_of (parameters_in r.member.descriptor)

abbrev pub CallsStatic : List Kind → Frame → List Value → Frame → Type 0
CallsStatic kinds f vs g = (n : Naming) (r : Reference) → kinds_for r ≡ kinds → effect_on n f (definition.invoke Mode.Static r) ≡ definition.CallStatic r (map (held n) vs) (content_of n g)

abbrev pub StaticCallBreaks : List Kind → Frame → Type 0
StaticCallBreaks kinds f = (n : Naming) (r : Reference) → kinds_for r ≡ kinds → Breaks n f (definition.invoke Mode.Static r)

-- into a method of the object, or into a constructor for the token
abbrev pub called : Naming → Bool → Reference → Receiver → List machine.Held → machine.Content Place → definition.Effect Place
called n special r (Object a) given c = definition.CallOn special r (reference n a) given c
called n special r (Announced class number) given c = definition.received special r (machine.Token (name_at n.heads class.0) number) given c

-- what is on top is a receiver
abbrev pub PopsReceiver : Stack → Receiver → Stack → Type 0
PopsReceiver s receiver t = (n : Naming) (method : ℕ) (special : Bool) (r : Reference) (given : List machine.Held) (ls : List (machine.Local Place))
    → definition.pop (values n method s.values) (λ v rest. definition.received special r v given (machine.content rest ls)) ≡ called n special r receiver given (machine.content (values n method t.values) ls)

abbrev pub LacksReceiver : Stack → Type 0
LacksReceiver s = (n : Naming) (method : ℕ) (special : Bool) (r : Reference) (given : List machine.Held) (ls : List (machine.Local Place))
    → definition.pop (values n method s.values) (λ v rest. definition.received special r v given (machine.content rest ls)) ≡ definition.Broken

abbrev pub CallsOn : List Kind → Frame → Receiver → List Value → Frame → Type 0
CallsOn kinds f receiver vs g = (n : Naming) (special : Bool) (r : Reference) → kinds_for r ≡ kinds → effect_on n f (definition.invoke_on special r) ≡ called n special r receiver (map (held n) vs) (content_of n g)

abbrev pub CallBreaks : List Kind → Frame → Type 0
CallBreaks kinds f = (n : Naming) (special : Bool) (r : Reference) → kinds_for r ≡ kinds → Breaks n f (definition.invoke_on special r)

-- ---- which objects they refer to: where the operands refer to none but the first so many, nor do they

abbrev pub AreSettled : ℕ → List Value → Type 0
AreSettled count vs = AllByRecursion (Settled count) vs

pub record AreSettledIn (s : Stack) (vs : List Value) : Type 0 where
  pub settled : (count : ℕ) → AreKnown count s.values → AreSettled count vs

abbrev pub is_receiver_within : ℕ → Receiver → Bool
is_receiver_within count (Object a) = is_known_object count a
is_receiver_within count (Announced class number) = true

pub record IsKnownReceiver (s : Stack) (receiver : Receiver) : Type 0 where
  pub known : (count : ℕ) → AreKnown count s.values → is_receiver_within count receiver ≡ true
