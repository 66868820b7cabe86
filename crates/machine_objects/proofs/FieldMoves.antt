-- Reading and writing a field, as the machine does it.
use Rattle.std.specs.Prelude.{◌≡◌, ℕ, Bool, true, false, if◌then◌else◌, List, Option, Some, None, refl}
use Rattle.std.proofs.Common.{sym, ap, ◌∙◌, subst}
use Rattle.std.specs.Option.{option_map}
use Rattle.class_file.specs.declared.types.ClassFile.{ClassFile}
use Rattle.class_file.specs.Pool.{Reference}
use Rattle.class_world.specs.Tables.{Known}
use Rattle.class_machine.specs.declared.kinds.Access.TheVariants as Access
use Rattle.class_machine.specs.declared.kinds.Fault.{Fault}
use Rattle.class_machine.specs.declared.kinds.Kind.{Kind}
use Rattle.class_machine.specs.Answers as answers
use Rattle.class_machine.specs.Answers.{answer}
use Rattle.class_machine.specs.Classes.{Classes, member_text}
use Rattle.class_machine.specs.ClassFiles.{class_code}
use Rattle.class_machine.specs.Descriptors.{kind_in, element_of, narrowed}
use Rattle.class_machine.specs.Effect as definition
use Rattle.class_machine.specs.Effect.{GetField, PutField}
use Rattle.class_machine.specs.Operations.{FieldAccess}
use Rattle.class_machine.specs.Turn.{Free, Link, instance_field, missing_member}
use Rattle.class_machine.specs.Values as machine
use Rattle.class_machine.specs.World as worlds
use Rattle.class_machine.specs.World.{World, object_at, read_field, written, write_field}
use Rattle.machine_frames.specs.Naming.{reference, held as named_value}
use Rattle.machine_values.specs.declared.observed.Ending.TheVariants.{Unresolved}
use Rattle.machine_values.specs.declared.names.Name.{Name}
use Rattle.machine_values.specs.declared.state.MachineState.{MachineState}
use Rattle.machine_values.specs.declared.values.Ref.{Ref}
use Rattle.machine_values.specs.declared.values.Value.{Value}
use Rattle.machine_values.specs.Standing.{name_of, held}
use Rattle.machine_values.specs.Things.{Things}
use Rattle.machine_requests.specs.declared.reply.Reply.{Reply}
use Rattle.machine_requests.specs.Replies.{Replies, IsLonger}
use Rattle.machine_requests.specs.Shares.{others_of}
use Rattle.machine_steps.specs.declared.step.Step.{Step}
use Rattle.machine_steps.specs.declared.step.Step.TheVariants.{Ended}
use Rattle.machine_steps.specs.Executing.{executes}
use Rattle.machine_steps.specs.Moves.{Moves, MovesWithLocals, faults}
use Rattle.machine_steps.specs.Programs.{Machine, IsMachine}
use Rattle.machine_objects.specs.Fields.{IsInstanceField, LacksInstanceField, Reads, Writes}
use Rattle.machine_objects.specs.Taking.{IsTakenFrom, Takes, access_form}
use Rattle.machine_objects.specs.Following.{keeps_answers, KeepsAnswers, Follows}
use Rattle.machine_objects.proofs.Asked.{IsForm, refused_moves, answered_moves, fault_moves}
use Rattle.machine_objects.proofs.Unchanged.{names_are, same_but, no_longer, kept_shares, kept_filled}

-- ---- the search

module _ (k : Known) (r : Reference) where
  field_link : (m : Machine) → Link
  field_link m = instance_field (class_code m.files) m.setting.classes r (m.setting.classes.field r)

  pub missing : LacksInstanceField k r → (m : Machine) → IsMachine k m → instance_field (class_code m.files) m.setting.classes r (m.setting.classes.field r) ≡ missing_member r
  missing lacks m is =
      ap (λ (fs : List ClassFile). instance_field (class_code fs) m.setting.classes r (m.setting.classes.field r)) is.files
      ∙ ap (λ (cs : Classes). instance_field (class_code k.files) cs r (cs.field r)) is.classes ∙ lacks

  pub free : (class position : ℕ) → IsInstanceField k r class position → (m : Machine) → IsMachine k m → instance_field (class_code m.files) m.setting.classes r (m.setting.classes.field r) ≡ Free
  free class position field m is =
      ap (instance_field (class_code m.files) m.setting.classes r) (ap (λ (cs : Classes). cs.field r) is.classes ∙ field.is)

-- ---- answers that are left

given_kept : (w : World) (b : Bool) (h : machine.Held) → keeps_answers w (if b then answers.Gives h w else answers.Refuses)
given_kept w true h = refl
given_kept w false h = tt

done_kept : (w : World) (b : Bool) (after : World) → after.answers ≡ w.answers → keeps_answers w (if b then answers.Done after else answers.Refuses)
done_kept w true after e = e
done_kept w false after e = tt

written_kept : (w : World) (a : machine.Name) (r : Reference) (v : machine.Held) (object : Option worlds.Object) → (written w a r v object).answers ≡ w.answers
written_kept w a r v None = refl
written_kept w a r v (Some object) = refl

get_kept : (cs : Classes) (w : World) (r : Reference) (a : Option machine.Name) → KeepsAnswers w (answer cs w (GetField r a))
get_kept cs w r None = record { kept = tt }
get_kept cs w r (Some a) = let q = answers.declared cs r in record { kept = given_kept w (cs.is_subtype (machine.class_of a) q.class) (read_field w a q) }

put_kept : (cs : Classes) (w : World) (r : Reference) (a : Option machine.Name) (v : machine.Held) → KeepsAnswers w (answer cs w (PutField r a v))
put_kept cs w r None v = record { kept = tt }
put_kept cs w r (Some a) v =
    let q = answers.declared cs r in
    let put = narrowed (element_of q.member.descriptor) v in
    record { kept = done_kept w (cs.is_subtype (machine.class_of a) q.class) (write_field w a q put) (written_kept w a q put (object_at w a)) }

-- ---- reading

pub get_form : (r : Reference) (kind : Kind) → kind ≡ kind_in r.member.descriptor → IsForm (FieldAccess Access.GetField r) (access_form Access.GetField r kind)
get_form r kind e = record { is = λ s ops ls. ap (λ (q : Kind). definition.access_field s.room Access.GetField r q ops ls) (sym e) }

pub put_form : (r : Reference) (kind : Kind) → kind ≡ kind_in r.member.descriptor → IsForm (FieldAccess Access.PutField r) (access_form Access.PutField r kind)
put_form r kind e = record { is = λ s ops ls. ap (λ (q : Kind). definition.access_field s.room Access.PutField r q ops ls) (sym e) }

module _ (k : Known) (old mid new : MachineState) (r : Reference) (kind : Kind) (of : kind ≡ kind_in r.member.descriptor) (object : Option Ref) (vs : List Value)
    (takes : Takes (access_form Access.GetField r kind) (λ n. GetField r (reference n object)) vs old mid) where
  pub get_missing : LacksInstanceField k r → Moves k old new (Ended (Unresolved (member_text r))) (executes (FieldAccess Access.GetField r))
  get_missing lacks =
      refused_moves k old mid new (FieldAccess Access.GetField r) (access_form Access.GetField r kind) (λ n. GetField r (reference n object)) vs (get_form r kind of) takes.from takes.asks
      (Unresolved (member_text r)) (λ m is. missing k r lacks m is)

  pub get_moves : (step : Step) (reply : Reply) (class position : ℕ) → IsInstanceField k r class position → Reads k mid.heap class position object reply → Follows k mid new step reply vs
      → Moves k old new step (executes (FieldAccess Access.GetField r))
  get_moves step reply class position field reads follows =
      answered_moves k old mid new (FieldAccess Access.GetField r) (access_form Access.GetField r kind) (λ n. GetField r (reference n object)) vs (get_form r kind of) takes.from takes.asks
      step reply (same_but old mid takes.same) (no_longer old mid takes.same) (λ m is. free k r class position field m is)
      (λ m left t is runs. record {
        replies = subst (λ (names : List Name). Replies m.setting mid.heap (others_of mid) t.world reply (answer m.setting.classes t.world (GetField r (option_map (name_of m.setting.heads names) object)))) (names_are old mid takes.same)
            (reads m (others_of mid) t.world r is field (kept_shares old mid takes.same m left t runs) (kept_filled old mid takes.same m left t runs));
        filled = kept_filled old mid takes.same m left t runs;
        kept = get_kept m.setting.classes t.world r (option_map (name_of m.setting.heads old.heap.names) object);
      }) follows

-- ---- writing

module _ (k : Known) (old mid new : MachineState) (r : Reference) (kind : Kind) (of : kind ≡ kind_in r.member.descriptor) (object : Option Ref) (v : Value) (vs : List Value)
    (takes : Takes (access_form Access.PutField r kind) (λ n. PutField r (reference n object) (named_value n v)) vs old mid) where
  pub put_missing : LacksInstanceField k r → Moves k old new (Ended (Unresolved (member_text r))) (executes (FieldAccess Access.PutField r))
  put_missing lacks =
      refused_moves k old mid new (FieldAccess Access.PutField r) (access_form Access.PutField r kind) (λ n. PutField r (reference n object) (named_value n v)) vs (put_form r kind of) takes.from takes.asks
      (Unresolved (member_text r)) (λ m is. missing k r lacks m is)

  pub put_null : (step : Step) (class position : ℕ) → IsInstanceField k r class position → object ≡ None → MovesWithLocals k old new step (faults Fault.NullPointer) → Moves k old new step (executes (FieldAccess Access.PutField r))
  put_null step class position field null moves =
      fault_moves k old mid new (FieldAccess Access.PutField r) (access_form Access.PutField r kind) (λ n. PutField r (reference n object) (named_value n v)) vs (put_form r kind of) takes.from takes.asks
      step Fault.NullPointer (λ m is. free k r class position field m is)
      (λ m w. ap (λ (o : Option Ref). answer m.setting.classes w (PutField r (option_map (name_of m.setting.heads old.heap.names) o) (held m.setting.heads old.heap.names v))) null) moves

  module _ (heap : Things) where
    abbrev after : MachineState
    after = record mid { heap = heap }

    abbrev from_after : IsTakenFrom vs old after
    from_after = record { frame = takes.from.frame; left = takes.from.left; some = takes.from.some; there = takes.from.there; set = takes.from.set; taken = takes.from.taken; within = takes.from.within }

    longer_after : heap.names ≡ mid.heap.names → IsLonger old.heap heap
    longer_after names = ((no_longer old mid takes.same).0, names ∙ (no_longer old mid takes.same).1)

    pub put_moves : (step : Step) (reply : Reply) (class position : ℕ) (at : Ref) → IsInstanceField k r class position → object ≡ Some at → heap.names ≡ mid.heap.names → Writes k mid.heap heap class position r.member.descriptor at v reply
        → Follows k after new step reply vs → Moves k old new step (executes (FieldAccess Access.PutField r))
    put_moves step reply class position at field is_at names writes follows =
        answered_moves k old after new (FieldAccess Access.PutField r) (access_form Access.PutField r kind) (λ n. PutField r (reference n object) (named_value n v)) vs (put_form r kind of) from_after takes.asks
        step reply (ap (λ (s : MachineState). record s { heap = heap }) takes.same) (longer_after names)
        (λ m is. free k r class position field m is)
        (λ m left t is runs.
        let one = writes m (others_of mid) t.world r is field refl (kept_shares old mid takes.same m left t runs) (kept_filled old mid takes.same m left t runs) in
        let P : Option Ref → List Name → Type 0 = λ o all. Replies m.setting heap (others_of mid) t.world reply (answer m.setting.classes t.world (PutField r (option_map (name_of m.setting.heads all) o) (held m.setting.heads all v))) in
        record {
          replies = subst (λ o. P o old.heap.names) (sym is_at) (subst (P (Some at)) (names_are old mid takes.same) one.replies);
          filled = one.filled;
          kept = put_kept m.setting.classes t.world r (option_map (name_of m.setting.heads old.heap.names) object) (held m.setting.heads old.heap.names v);
        }) follows
