-- Which objects operands, effects and frames refer to, as forms need it.
use Rattle.std.proofs.Common.{◌≡◌, ℕ, ℤ, true, ◌&&◌, Option, Some, refl, sym, ◌∙◌, ap}
use Rattle.aj_names.specs.declared.ids.ClassId.{ClassId}
use Rattle.class_machine.specs.declared.kinds.Element.{Element}
use Rattle.machine_values.specs.declared.values.Ref.{Ref}
use Rattle.machine_values.specs.declared.values.Value.{Value}
use Rattle.machine_values.specs.declared.values.Value.TheVariants.{Int, Long, Float, Double, Null, Token}
use Rattle.machine_values.specs.declared.frames.Frame.{Frame}
use Rattle.machine_values.specs.Stacks.{Stack}
use Rattle.machine_values.specs.Standing.{is_settled}
use Rattle.machine_values.specs.States.{is_known_object, IsFrameWithin}
use Rattle.machine_frames.specs.declared.operands.Group.{Group}
use Rattle.machine_frames.specs.declared.effect.Request.TheVariants.{ArrayStore}
use Rattle.machine_frames.specs.declared.effect.Effect.TheVariants.{Ask, Throw}
use Rattle.machine_frames.specs.Operands.{StaysKnown, PushesKnown, PutsKnown, IsKnownValue, AreKnownIn, IsKnownReference, IsSettledValue, IsKnownEffect}
use Rattle.machine_frames.proofs.Known.{still_known, known_before, group_before, pushed, put}

-- ---- plain values are pushed

pub pushed_int : (s t : Stack) (n : ℤ) → PushesKnown s (Int n) t → StaysKnown s t
pushed_int s t n p = record { stays = λ count all. p.pushes count all refl }

pub pushed_long : (s t : Stack) (n : ℤ) → PushesKnown s (Long n) t → StaysKnown s t
pushed_long s t n p = record { stays = λ count all. p.pushes count all refl }

pub pushed_float : (s t : Stack) (bits : ℕ) → PushesKnown s (Float bits) t → StaysKnown s t
pushed_float s t bits p = record { stays = λ count all. p.pushes count all refl }

pub pushed_double : (s t : Stack) (bits : ℕ) → PushesKnown s (Double bits) t → StaysKnown s t
pushed_double s t bits p = record { stays = λ count all. p.pushes count all refl }

pub pushed_null : (s t : Stack) → PushesKnown s Null t → StaysKnown s t
pushed_null s t p = record { stays = λ count all. p.pushes count all refl }

pub pushed_token : (s t : Stack) (class : ClassId) (number : ℕ) → PushesKnown s (Token class number) t → StaysKnown s t
pushed_token s t class number p = record { stays = λ count all. p.pushes count all refl }

-- ---- what was popped is put back

pub half_exchanged : (o s t u : Stack) (top : Value) → StaysKnown o s → IsKnownValue o top → StaysKnown s t → PushesKnown t top u → StaysKnown o u
half_exchanged o s t u top h k h' p = pushed o t top u (still_known o s t h h') k p

pub exchanged : (o s t u v : Stack) (top below : Value) → StaysKnown o s → IsKnownValue o top → StaysKnown s t → IsKnownValue s below → PushesKnown t top u → PushesKnown u below v → StaysKnown o v
exchanged o s t u v top below h k h' k' p p' = pushed o u below v (half_exchanged o s t u top h k h' p) (known_before o s below h k') p'

pub duplicated : (o s t u : Stack) (top : Group) → StaysKnown o s → AreKnownIn o top → StaysKnown s t → PutsKnown t top u → StaysKnown o u
duplicated o s t u top h k h' p = put o t top u (still_known o s t h h') k p

pub duplicated_under : (o s t u v : Stack) (top below : Group) → StaysKnown o s → AreKnownIn o top → StaysKnown s t → AreKnownIn s below → PutsKnown t top u → PutsKnown u below v → StaysKnown o v
duplicated_under o s t u v top below h k h' k' p p' = put o u below v (duplicated o s t u top h k h' p) (group_before o s below h k') p'

pub duplicated_twice : (o s t u v w : Stack) (top below : Group) → StaysKnown o s → AreKnownIn o top → StaysKnown s t → AreKnownIn s below → PutsKnown t top u → PutsKnown u below v → PutsKnown v top w → StaysKnown o w
duplicated_twice o s t u v w top below h k h' k' p p' p'' = put o v top w (duplicated_under o s t u v top below h k h' k' p p') k p''

-- ---- effects

pub throw_known : (s : Stack) (a : Option Ref) (at : Ref) → IsKnownReference s a → a ≡ Some at → IsKnownEffect s (Throw at)
throw_known s a at h e = record { known = λ count all. ap (is_known_object count) (sym e) ∙ h.known count all }

pub store_known : (o s t : Stack) (e : Element) (a : Option Ref) (i : ℤ) (v : Value) → IsSettledValue o v → StaysKnown o s → StaysKnown s t → IsKnownReference t a → IsKnownEffect o (Ask (ArrayStore e a i v))
store_known o s t e a i v h k k' r = record {
  known = λ count all.
      ap (λ b. b && is_settled count v) (r.known count (k'.stays count (k.stays count all))) ∙ h.settled count all;
}

-- ---- frames

pub frame_stays : (count : ℕ) (f : Frame) (ops : Stack) → StaysKnown f.operands ops → IsFrameWithin count f → IsFrameWithin count (record f { operands = ops })
frame_stays count f ops h w = record { operands = h.stays count w.operands; locals = w.locals; monitor = w.monitor; purpose = w.purpose }

pub known_in_frame : (count : ℕ) (f : Frame) (t : Stack) (a : Option Ref) → StaysKnown f.operands t → IsKnownReference t a → IsFrameWithin count f → is_known_object count a ≡ true
known_in_frame count f t a h k w = k.known count (h.stays count w.operands)
