-- What refers to none but the first so many objects refers to none but more of them.
use Rattle.std.specs.Prelude.{◌≡◌, ℕ, ◌≤◌, true, nat_lt, List, [], ◌∷◌, Option, Some, None, refl}
use Rattle.std.specs.List.{AllByRecursion}
use Rattle.std.proofs.Common.{arith}
use Rattle.std.proofs.lemmas.Bool.{and_parts, and_from, ltb-true, lt-ltb}
use Rattle.machine_values.specs.declared.values.Ref.{Ref}
use Rattle.machine_values.specs.declared.values.Value.{Value}
use Rattle.machine_values.specs.declared.values.Value.TheVariants.{Int, Long, Float, Double, Null, Reference as Pointer, Token, ReturnAddress}
use Rattle.machine_values.specs.declared.values.Local.{Local}
use Rattle.machine_values.specs.declared.values.Local.TheVariants.{Unset, Holds, Second}
use Rattle.machine_values.specs.declared.frames.Destination.{Destination}
use Rattle.machine_values.specs.declared.frames.Destination.TheVariants.{Prints, Appends, Gives}
use Rattle.machine_values.specs.declared.frames.Purpose.{Purpose}
use Rattle.machine_values.specs.declared.frames.Purpose.TheVariants.{Ordinary, Constructs, Initialises, Within}
use Rattle.machine_values.specs.declared.frames.Frame.{Frame}
use Rattle.machine_values.specs.declared.state.Due.{Due}
use Rattle.machine_values.specs.declared.state.Due.TheVariants as due
use Rattle.machine_values.specs.Standing.{Settled}
use Rattle.machine_values.specs.States.{is_known, is_known_local, is_known_object, is_known_destination, is_known_purpose, IsFrameWithin, IsDueWithin}

module _ (n k : ℕ) (more : n ≤ k) where
  at_more : (at : ℕ) → nat_lt at n ≡ true → nat_lt at k ≡ true
  at_more at h = let below = ltb-true at n h in lt-ltb at k (omega arith)

  pub known_more : (v : Value) → is_known n v ≡ true → is_known k v ≡ true
  known_more (Pointer at) h = at_more at.0 h
  known_more (Int i) h = refl
  known_more (Long i) h = refl
  known_more (Float bits) h = refl
  known_more (Double bits) h = refl
  known_more Null h = refl
  known_more (Token class number) h = refl
  known_more (ReturnAddress pc) h = refl

  pub settled_more : (v : Value) → Settled n v → Settled k v
  settled_more (Pointer at) h = at_more at.0 h
  settled_more (Int i) h = refl
  settled_more (Long i) h = refl
  settled_more (Float bits) h = refl
  settled_more (Double bits) h = refl
  settled_more Null h = refl
  settled_more (Token class number) h = h
  settled_more (ReturnAddress pc) h = h

  local_more : (l : Local) → is_known_local n l ≡ true → is_known_local k l ≡ true
  local_more Unset h = refl
  local_more (Holds v) h = known_more v h
  local_more Second h = refl

  object_more : (o : Option Ref) → is_known_object n o ≡ true → is_known_object k o ≡ true
  object_more None h = refl
  object_more (Some at) h = at_more at.0 h

  destination_more : (d : Destination) → is_known_destination n d ≡ true → is_known_destination k d ≡ true
  destination_more (Prints line) h = refl
  destination_more (Appends buffer) h = at_more buffer.0 h
  destination_more Gives h = refl

  purpose_more : (p : Purpose) → is_known_purpose n p ≡ true → is_known_purpose k p ≡ true
  purpose_more Ordinary h = refl
  purpose_more Constructs h = refl
  purpose_more (Initialises class) h = refl
  purpose_more (Within wait) h =
      let both = and_parts (is_known_object n wait.describes) (is_known_destination n wait.destination) h in
      and_from (is_known_object k wait.describes) (is_known_destination k wait.destination) (object_more wait.describes both.0) (destination_more wait.destination both.1)

  all_more : {X : Type 0} (P Q : X → Type 0) → ((x : X) → P x → Q x) → (xs : List X) → AllByRecursion P xs → AllByRecursion Q xs
  all_more P Q each [] h = tt
  all_more P Q each (x ∷ xs) h = (each x h.0, all_more P Q each xs h.1)

  pub frame_more : (f : Frame) → IsFrameWithin n f → IsFrameWithin k f
  frame_more f h = record {
    operands = all_more (λ v. is_known n v ≡ true) (λ v. is_known k v ≡ true) known_more f.operands.values h.operands;
    locals = all_more (λ l. is_known_local n l ≡ true) (λ l. is_known_local k l ≡ true) local_more f.locals h.locals;
    monitor = object_more f.monitor h.monitor;
    purpose = purpose_more f.purpose h.purpose;
  }

  pub frames_more : (fs : List Frame) → AllByRecursion (IsFrameWithin n) fs → AllByRecursion (IsFrameWithin k) fs
  frames_more fs h = all_more (IsFrameWithin n) (IsFrameWithin k) frame_more fs h

  pub due_more : (d : Due) → IsDueWithin n d → IsDueWithin k d
  due_more due.Nothing h = tt
  due_more (due.NativeEntry method given) h = all_more (Settled n) (Settled k) settled_more given h
  due_more (due.Finally ending) h = tt
