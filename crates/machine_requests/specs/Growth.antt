-- What was there keeps its name when objects are added: values, frames and what is due stand for the same.
use Rattle.std.specs.Prelude.{◌≡◌, ℕ, zero, suc, ◌<◌, true, ◌&&◌, nat_lt, List, [], ◌∷◌, ◌++◌, map, length, slice_get, Option, Some, None, refl}
use Rattle.std.specs.List.{AllByRecursion}
use Rattle.std.specs.Option.{option_map}
use Rattle.std.proofs.Common.{◌∙◌, ap, arith}
use Rattle.std.proofs.lemmas.Bool.{and_parts, ltb-true}
use Rattle.class_file.specs.Pool.{Reference}
use Rattle.class_heads.specs.declared.types.ClassHead.{ClassHead}
use Rattle.class_machine.specs.Values as machine
use Rattle.class_machine.specs.LibraryCalls as calls
use Rattle.class_machine.specs.Turn as turns
use Rattle.class_machine.specs.Machine as machines
use Rattle.machine_values.specs.declared.values.Ref.{Ref}
use Rattle.machine_values.specs.declared.values.Value.{Value}
use Rattle.machine_values.specs.declared.values.Value.TheVariants.{Int, Long, Float, Double, Null, Reference as Pointer, Token, ReturnAddress}
use Rattle.machine_values.specs.declared.values.Local.{Local}
use Rattle.machine_values.specs.declared.values.Local.TheVariants.{Unset, Holds, Second}
use Rattle.machine_values.specs.declared.names.Name.{Name}
use Rattle.machine_values.specs.declared.frames.Destination.{Destination}
use Rattle.machine_values.specs.declared.frames.Destination.TheVariants.{Prints, Appends, Gives}
use Rattle.machine_values.specs.declared.frames.Wait.{Wait}
use Rattle.machine_values.specs.declared.frames.Purpose.{Purpose}
use Rattle.machine_values.specs.declared.frames.Purpose.TheVariants.{Ordinary, Constructs, Initialises, Within}
use Rattle.machine_values.specs.declared.frames.Frame.{Frame}
use Rattle.machine_values.specs.declared.state.Due.{Due}
use Rattle.machine_values.specs.declared.state.Due.TheVariants as due
use Rattle.machine_values.specs.Standing.{name_in, name_of, held, Settled}
use Rattle.machine_values.specs.States.{value_in, local_in, machine_destination, described, machine_wait, machine_purpose, machine_content, machine_frame, machine_due, is_known, is_known_local, is_known_object, is_known_destination, is_known_purpose, IsFrameWithin, IsDueWithin}

both_cons : {X : Type 0} (x y : X) (xs ys : List X) → x ≡ y → xs ≡ ys → x ∷ xs ≡ y ∷ ys
both_cons x y xs ys p q = ap (λ z. z ∷ xs) p ∙ ap (λ zs. y ∷ zs) q

pub get_before : {X : Type 0} (xs more : List X) (i : ℕ) → i < length xs → slice_get (xs ++ more) i ≡ slice_get xs i
get_before [] more i h = absurd (omega arith)
get_before (x ∷ xs) more zero h = refl
get_before (x ∷ xs) more (suc i) h = get_before xs more i (omega arith)

pub settled_known : (n : ℕ) (v : Value) → Settled n v → is_known n v ≡ true
settled_known n (Pointer at) h = h
settled_known n (Int k) h = refl
settled_known n (Long k) h = refl
settled_known n (Float bits) h = refl
settled_known n (Double bits) h = refl
settled_known n Null h = refl
settled_known n (Token class number) h = refl
settled_known n (ReturnAddress pc) h = refl

module _ (heads : List ClassHead) (names more : List Name) where
  pub name_stays : (at : Ref) → nat_lt at.0 (length names) ≡ true → name_of heads (names ++ more) at ≡ name_of heads names at
  name_stays at h = ap (name_in heads) (get_before names more at.0 (ltb-true at.0 (length names) h))

  pub held_stays : (v : Value) → is_known (length names) v ≡ true → held heads (names ++ more) v ≡ held heads names v
  held_stays (Pointer at) h = ap machine.Reference (name_stays at h)
  held_stays (Int k) h = refl
  held_stays (Long k) h = refl
  held_stays (Float bits) h = refl
  held_stays (Double bits) h = refl
  held_stays Null h = refl
  held_stays (Token class number) h = refl
  held_stays (ReturnAddress pc) h = refl

  pub all_held_stay : (vs : List Value) → AllByRecursion (Settled (length names)) vs → map (held heads (names ++ more)) vs ≡ map (held heads names) vs
  all_held_stay [] h = refl
  all_held_stay (v ∷ vs) h = both_cons _ _ _ _ (held_stays v (settled_known (length names) v h.0)) (all_held_stay vs h.1)

  pub object_stays : (o : Option Ref) → is_known_object (length names) o ≡ true → option_map (name_of heads (names ++ more)) o ≡ option_map (name_of heads names) o
  object_stays None h = refl
  object_stays (Some at) h = ap Some (name_stays at h)

  -- ---- frames

  module _ (methods : ℕ → Reference) where
    value_stays : (method : ℕ) (v : Value) → is_known (length names) v ≡ true → value_in heads methods (names ++ more) method v ≡ value_in heads methods names method v
    value_stays method (Pointer at) h = ap (λ a. machine.Plain (machine.Reference a)) (name_stays at h)
    value_stays method (Int k) h = refl
    value_stays method (Long k) h = refl
    value_stays method (Float bits) h = refl
    value_stays method (Double bits) h = refl
    value_stays method Null h = refl
    value_stays method (Token class number) h = refl
    value_stays method (ReturnAddress pc) h = refl

    local_stays : (method : ℕ) (l : Local) → is_known_local (length names) l ≡ true → local_in heads methods (names ++ more) method l ≡ local_in heads methods names method l
    local_stays method Unset h = refl
    local_stays method (Holds v) h = ap machine.Holds (value_stays method v h)
    local_stays method Second h = refl

    values_stay : (method : ℕ) (vs : List Value) → AllByRecursion (λ v. is_known (length names) v ≡ true) vs → map (value_in heads methods (names ++ more) method) vs ≡ map (value_in heads methods names method) vs
    values_stay method [] h = refl
    values_stay method (v ∷ vs) h = both_cons _ _ _ _ (value_stays method v h.0) (values_stay method vs h.1)

    locals_stay : (method : ℕ) (ls : List Local) → AllByRecursion (λ l. is_known_local (length names) l ≡ true) ls → map (local_in heads methods (names ++ more) method) ls ≡ map (local_in heads methods names method) ls
    locals_stay method [] h = refl
    locals_stay method (l ∷ ls) h = both_cons _ _ _ _ (local_stays method l h.0) (locals_stay method ls h.1)

    destination_stays : (d : Destination) → is_known_destination (length names) d ≡ true → machine_destination heads methods (names ++ more) d ≡ machine_destination heads methods names d
    destination_stays (Prints line) h = refl
    destination_stays (Appends buffer) h = ap calls.Appends (name_stays buffer h)
    destination_stays Gives h = refl

    described_stays : (o : Option Ref) (rest : calls.Wait) → is_known_object (length names) o ≡ true → described heads methods (names ++ more) o rest ≡ described heads methods names o rest
    described_stays None rest h = refl
    described_stays (Some x) rest h = ap (λ a. calls.Describes a rest) (name_stays x h)

    wait_stays : (wait : Wait) → (is_known_object (length names) wait.describes && is_known_destination (length names) wait.destination) ≡ true
        → machine_wait heads methods (names ++ more) wait ≡ machine_wait heads methods names wait
    wait_stays wait h =
        let both = and_parts (is_known_object (length names) wait.describes) (is_known_destination (length names) wait.destination) h in
        described_stays wait.describes (machine_destination heads methods (names ++ more) wait.destination) both.0
        ∙ ap (described heads methods names wait.describes) (destination_stays wait.destination both.1)

    purpose_stays : (p : Purpose) → is_known_purpose (length names) p ≡ true → machine_purpose heads methods (names ++ more) p ≡ machine_purpose heads methods names p
    purpose_stays Ordinary h = refl
    purpose_stays Constructs h = refl
    purpose_stays (Initialises class) h = refl
    purpose_stays (Within wait) h = ap turns.Within (wait_stays wait h)

    content_stays : (f : Frame) → IsFrameWithin (length names) f → machine_content heads methods (names ++ more) f.method.0 f ≡ machine_content heads methods names f.method.0 f
    content_stays f h =
        ap (λ ops. machine.content ops (map (local_in heads methods (names ++ more) f.method.0) f.locals)) (values_stay f.method.0 f.operands.values h.operands)
        ∙ ap (machine.content (map (value_in heads methods names f.method.0) f.operands.values)) (locals_stay f.method.0 f.locals h.locals)

    pub frame_stays : (f : Frame) → IsFrameWithin (length names) f → machine_frame heads methods (names ++ more) f ≡ machine_frame heads methods names f
    frame_stays f h =
        let p = content_stays f h in let q = object_stays f.monitor h.monitor in let r = purpose_stays f.purpose h.purpose in cc

    pub frames_stay : (fs : List Frame) → AllByRecursion (IsFrameWithin (length names)) fs → map (machine_frame heads methods (names ++ more)) fs ≡ map (machine_frame heads methods names) fs
    frames_stay [] h = refl
    frames_stay (f ∷ fs) h = both_cons _ _ _ _ (frame_stays f h.0) (frames_stay fs h.1)

    pub due_stays : (d : Due) → IsDueWithin (length names) d → machine_due heads methods (names ++ more) d ≡ machine_due heads methods names d
    due_stays due.Nothing h = refl
    due_stays (due.NativeEntry method given) h = ap (machines.NativeEntry (methods method.0)) (all_held_stay given h)
    due_stays (due.Finally ending) h = refl
