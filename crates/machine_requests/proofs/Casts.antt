-- What the class machine answers of types.
use Rattle.std.specs.Prelude.{◌≡◌, ℕ, Bool, true, false, if◌then◌else◌, List, length, Option, Some, None, refl, pos}
use Rattle.std.proofs.Common.{sym, subst}
use Rattle.class_machine.specs.declared.kinds.Fault.{Fault}
use Rattle.class_machine.specs.Values as machine
use Rattle.class_machine.specs.Effect.{Cast, IsInstance}
use Rattle.class_machine.specs.Answers as answers
use Rattle.machine_values.specs.declared.values.Ref.{Ref}
use Rattle.machine_values.specs.declared.values.Value.TheVariants.{Int, Null, Reference as Pointer}
use Rattle.machine_values.specs.Standing.{name_of}
use Rattle.machine_values.specs.States.{is_known_object}
use Rattle.machine_values.specs.Things.{Things}
use Rattle.machine_requests.specs.declared.reply.Reply.{Reply}
use Rattle.machine_requests.specs.declared.reply.Reply.TheVariants.{Gives, Faults}
use Rattle.machine_requests.specs.Shares.{Others}
use Rattle.machine_requests.specs.Replies.{Replies, IsAnswerWhere, object}
use Rattle.machine_requests.specs.Objects.{IsBelow}

abbrev pub cast_reply : Option Ref → Bool → Reply
cast_reply None below = Gives Null
cast_reply (Some at) below = if below then Gives (Pointer at) else Faults Fault.ClassCast

abbrev pub instance_reply : Option Ref → Bool → Reply
instance_reply None below = Gives (Int (pos 0))
instance_reply (Some at) below = if below then Gives (Int (pos 1)) else Gives (Int (pos 0))

pub cast_answer : (things : Things) (others : Others) (class : List ℕ) (o : Option Ref) (below : Bool) → is_known_object (length things.names) o ≡ true
    → IsAnswerWhere (IsBelow things o class below) things others (λ s names. Cast class (object s names o)) things others (cast_reply o below)
cast_answer things others class None below known s w is distinct shares = (refl, refl, shares)
cast_answer things others class (Some at) below known s w is distinct shares =
    subst (λ (b : Bool). Replies s things others w (if below then Gives (Pointer at) else Faults Fault.ClassCast) (if b then answers.Gives (machine.Reference (name_of s.heads things.names at)) w else answers.Faults Fault.ClassCast))
    (sym (is.is at refl)) (by below) where
      by : (b : Bool) → Replies s things others w (if b then Gives (Pointer at) else Faults Fault.ClassCast) (if b then answers.Gives (machine.Reference (name_of s.heads things.names at)) w else answers.Faults Fault.ClassCast)
      by true = (refl, known, shares)
      by false = (refl, shares)

pub instance_answer : (things : Things) (others : Others) (class : List ℕ) (o : Option Ref) (below : Bool) → is_known_object (length things.names) o ≡ true
    → IsAnswerWhere (IsBelow things o class below) things others (λ s names. IsInstance class (object s names o)) things others (instance_reply o below)
instance_answer things others class None below known s w is distinct shares = (refl, refl, shares)
instance_answer things others class (Some at) below known s w is distinct shares =
    subst (λ (b : Bool). Replies s things others w (if below then Gives (Int (pos 1)) else Gives (Int (pos 0))) (answers.Gives (answers.truth b) w)) (sym (is.is at refl)) (by below) where
      by : (b : Bool) → Replies s things others w (if b then Gives (Int (pos 1)) else Gives (Int (pos 0))) (answers.Gives (answers.truth b) w)
      by true = (refl, refl, shares)
      by false = (refl, refl, shares)
