-- The object below the arguments of a call.
use Rattle.std.specs.Prelude.{◌≡◌, ℕ, zero, suc, true, List, [], ◌∷◌, length, slice_get, Option, Some, None, option_and_then, refl}
use Rattle.std.specs.List.{AllByRecursion}
use Rattle.std.specs.Option.{option_map}
use Rattle.std.proofs.Common.{◌∙◌, ap}
use Rattle.std.proofs.lemmas.Option.{slice_get-map}
use Rattle.class_file.specs.Pool.{Reference}
use Rattle.class_heads.specs.declared.types.ClassHead.{ClassHead}
use Rattle.class_machine.specs.declared.kinds.Mode.{Mode}
use Rattle.class_machine.specs.Descriptors.{parameters_in}
use Rattle.machine_values.specs.declared.names.Name.{Name}
use Rattle.machine_values.specs.declared.values.Value.{Value}
use Rattle.machine_values.specs.declared.values.Value.TheVariants.{Int, Long, Float, Double, Null, Reference as Pointer, Token, ReturnAddress}
use Rattle.machine_values.specs.declared.frames.Frame.{Frame}
use Rattle.machine_values.specs.Standing.{name_of}
use Rattle.machine_values.specs.States.{value_in, machine_frame, is_known, is_known_object, IsFrameWithin}
use Rattle.machine_steps.specs.Parts as parts
use Rattle.machine_steps.specs.Parts.{receiver_below}
use Rattle.machine_invokes.specs.Peeking.{object_in, object_below, receiver_in}

-- ---- of the machine's frame

module _ (heads : List ClassHead) (methods : ℕ → Reference) (names : List Name) where
  value_seen : (method : ℕ) (v : Value) → parts.object_in (Some (value_in heads methods names method v)) ≡ option_map (name_of heads names) (object_in v)
  value_seen method (Int x) = refl
  value_seen method (Long x) = refl
  value_seen method (Float bits) = refl
  value_seen method (Double bits) = refl
  value_seen method Null = refl
  value_seen method (Pointer at) = refl
  value_seen method (Token class number) = refl
  value_seen method (ReturnAddress pc) = refl

  there_seen : (method : ℕ) (o : Option Value) → parts.object_in (option_map (value_in heads methods names method) o) ≡ option_map (name_of heads names) (option_and_then object_in o)
  there_seen method None = refl
  there_seen method (Some v) = value_seen method v

  pub below_seen : (g : Frame) (arguments : ℕ) → receiver_below arguments (machine_frame heads methods names g).content.operands ≡ option_map (name_of heads names) (object_below arguments g)
  below_seen g arguments =
      ap parts.object_in (slice_get-map (value_in heads methods names g.method.0) g.operands.values arguments) ∙ there_seen g.method.0 (slice_get g.operands.values arguments)

-- ---- the heap has it

value_known : (count : ℕ) (v : Value) → is_known count v ≡ true → is_known_object count (object_in v) ≡ true
value_known count (Int x) h = refl
value_known count (Long x) h = refl
value_known count (Float bits) h = refl
value_known count (Double bits) h = refl
value_known count Null h = refl
value_known count (Pointer at) h = h
value_known count (Token class number) h = refl
value_known count (ReturnAddress pc) h = refl

there_known : (count : ℕ) (vs : List Value) (i : ℕ) → AllByRecursion (λ v. is_known count v ≡ true) vs → is_known_object count (option_and_then object_in (slice_get vs i)) ≡ true
there_known count [] i all = refl
there_known count (v ∷ vs) zero all = value_known count v all.0
there_known count (v ∷ vs) (suc i) all = there_known count vs i all.1

pub receiver_known : (mode : Mode) (descriptor : List ℕ) (f : Frame) (count : ℕ) → IsFrameWithin count f → is_known_object count (receiver_in mode descriptor f) ≡ true
receiver_known Mode.Static descriptor f count within = refl
receiver_known Mode.Special descriptor f count within = there_known count f.operands.values (length (parameters_in descriptor)) within.operands
receiver_known Mode.Virtual descriptor f count within = there_known count f.operands.values (length (parameters_in descriptor)) within.operands
receiver_known Mode.Interface descriptor f count within = there_known count f.operands.values (length (parameters_in descriptor)) within.operands
