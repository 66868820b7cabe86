-- A static field that is read.
use Rattle.std.specs.Prelude.{◌≡◌, ℕ, Bool, true, false, if◌then◌else◌, List, length, Some, refl}
use Rattle.std.specs.Option.{unwrap_or}
use Rattle.std.proofs.Common.{sym, ap, ◌∙◌, subst}
use Rattle.std.proofs.lemmas.Bool.{false≢true}
use Rattle.class_file.specs.Pool.{Reference}
use Rattle.class_world.specs.Tables.{Known}
use Rattle.class_machine.specs.declared.kinds.Access.TheVariants as access
use Rattle.class_machine.specs.declared.kinds.Element.{Element}
use Rattle.class_machine.specs.declared.kinds.Kind.{Kind}
use Rattle.class_machine.specs.declared.kinds.Kind.TheVariants as kind
use Rattle.class_machine.specs.Answers as answers
use Rattle.class_machine.specs.Answers.{declared, of_type}
use Rattle.class_machine.specs.ClassFiles.{Place, class_code}
use Rattle.class_machine.specs.Descriptors.{element_of, element_kind, kind_in}
use Rattle.class_machine.specs.Effect as definition
use Rattle.class_machine.specs.Effect.{Effect, Ask}
use Rattle.class_machine.specs.Events as events
use Rattle.class_machine.specs.Machine.{State, moved}
use Rattle.class_machine.specs.Operations.{FieldAccess}
use Rattle.class_machine.specs.Turn as turns
use Rattle.class_machine.specs.Turn.{Turn, stops, stays, replied, taken}
use Rattle.class_machine.specs.Values.{Held, Plain, has_room, held_width, is_held, kind_of, kind_width, pushed_on, same_kind}
use Rattle.class_machine.specs.World.{find_field}
use Rattle.machine_values.specs.declared.observed.Ending.TheVariants.{Broken}
use Rattle.machine_values.specs.declared.script.Answer.{Answer}
use Rattle.machine_values.specs.declared.state.MachineState.{MachineState}
use Rattle.machine_values.specs.declared.values.Value.{Value}
use Rattle.machine_values.specs.Standing.{is_settled, Settled}
use Rattle.machine_values.specs.Things.{Things}
use Rattle.machine_requests.specs.declared.reply.Reply.{Reply}
use Rattle.machine_requests.specs.declared.reply.Reply.TheVariants.{Gives, Done, Faults, Refuses}
use Rattle.machine_requests.specs.Replies.{Replies, IsAnswerWhere}
use Rattle.machine_requests.specs.Shares.{Others, others_of}
use Rattle.machine_requests.specs.Statics.{IsField, IsInitial}
use Rattle.machine_steps.specs.declared.step.Step.{Step}
use Rattle.machine_steps.specs.declared.step.Step.TheVariants.{Ended}
use Rattle.machine_steps.specs.Moves.{Moves}
use Rattle.machine_steps.specs.Programs.{Machine, IsMachine}
use Rattle.machine_steps.specs.Runs.{Runs, Stepped}
use Rattle.machine_invocations.specs.Returning.{takes_back}
use Rattle.machine_invocations.proofs.Locked.{distinct_in}
use Rattle.machine_statics.specs.StaticFields.{Reads}
use Rattle.machine_statics.specs.Triggers.{takes, MovesWhere}

-- ---- widths

same_width : (k l : Kind) → same_kind k l ≡ true → kind_width k ≡ kind_width l
same_width kind.Int kind.Int h = refl
same_width kind.Long kind.Long h = refl
same_width kind.Float kind.Float h = refl
same_width kind.Double kind.Double h = refl
same_width kind.Reference kind.Reference h = refl
same_width kind.Int kind.Long h = absurd (false≢true h)
same_width kind.Int kind.Float h = absurd (false≢true h)
same_width kind.Int kind.Double h = absurd (false≢true h)
same_width kind.Int kind.Reference h = absurd (false≢true h)
same_width kind.Long kind.Int h = absurd (false≢true h)
same_width kind.Long kind.Float h = absurd (false≢true h)
same_width kind.Long kind.Double h = absurd (false≢true h)
same_width kind.Long kind.Reference h = absurd (false≢true h)
same_width kind.Float kind.Int h = absurd (false≢true h)
same_width kind.Float kind.Long h = absurd (false≢true h)
same_width kind.Float kind.Double h = absurd (false≢true h)
same_width kind.Float kind.Reference h = absurd (false≢true h)
same_width kind.Double kind.Int h = absurd (false≢true h)
same_width kind.Double kind.Long h = absurd (false≢true h)
same_width kind.Double kind.Float h = absurd (false≢true h)
same_width kind.Double kind.Reference h = absurd (false≢true h)
same_width kind.Reference kind.Int h = absurd (false≢true h)
same_width kind.Reference kind.Long h = absurd (false≢true h)
same_width kind.Reference kind.Float h = absurd (false≢true h)
same_width kind.Reference kind.Double h = absurd (false≢true h)

same_both : {X : Type 0} (b : Bool) (x : X) → (if b then x else x) ≡ x
same_both true x = refl
same_both false x = refl

same_twice : {X : Type 0} (b : Bool) (x y : X) → (if b then (if b then x else y) else y) ≡ (if b then x else y)
same_twice true x y = refl
same_twice false x y = refl

-- what is asked of the statics of a state
abbrev pub Answers : MachineState → ℕ → Element → Value → Reply → Type 0
Answers old number e initial reply =
    (things : Things) (others : Others) (r : Reference) → others.statics ≡ old.statics → Settled (length things.names) initial
    → IsAnswerWhere (λ s. IsField r number e s × IsInitial things number initial s) things others (λ s names. definition.GetStatic r) things others reply

module _ (k : Known) (old : MachineState) (r : Reference) (number : ℕ) (e : Element) (initial : Value) (reply : Reply) (asked : Answers old number e initial reply)
    (m : Machine) (left : List Answer) (t : State Place) (f : turns.Frame Place) (is : IsMachine k m) (runs : Runs m old left t) (reads : Reads r number e old.heap initial m f) where
  abbrev type : List ℕ
  type = (declared m.setting.classes r).member.descriptor

  abbrev value : Held
  value = unwrap_or (find_field t.world.statics (declared m.setting.classes r)) (m.setting.classes.initial (declared m.setting.classes r))

  abbrev if_held : Bool → answers.Reply
  if_held b = if b then answers.Gives value t.world else answers.Refuses

  replies : Replies m.setting old.heap (others_of old) t.world reply (if_held (is_held (kind_in type) value))
  replies = asked old.heap (others_of old) r refl reads.settled m.setting t.world (reads.field, reads.starts) (distinct_in k m is) runs.shares

  abbrev roomy : Bool
  roomy = has_room f.room (kind_width (kind_in r.member.descriptor)) f.content.operands

  abbrev next : Place
  next = (class_code m.files).next f.place

  abbrev after : Bool → Bool → Turn Place
  after room b = if room then replied (class_code m.files) m.setting.classes f f.content t.world (if_held b) else stops events.Broken

  taken_if : (room : Bool) → taken (class_code m.files) m.setting.classes f t.world (if room then Ask (definition.GetStatic r) f.content else definition.Broken) ≡ after room (is_held (kind_in type) value)
  taken_if true = refl
  taken_if false = refl

  abbrev pushed : ℕ → Held → Turn Place
  pushed n h = if has_room f.room n f.content.operands then stays (class_code m.files) m.setting.classes next (pushed_on (Plain h) f.content) t.world else stops events.Broken

  same_kinds : kind_in r.member.descriptor ≡ kind_in type
  same_kinds =
      ap element_kind (reads.element ∙ sym (ap (λ (q : Reference). element_of q.member.descriptor) reads.field.declared ∙ reads.field.element))

  widths : is_held (kind_in type) value ≡ true → held_width value ≡ kind_width (kind_in r.member.descriptor)
  widths h = sym (ap kind_width same_kinds ∙ same_width (kind_in type) (kind_of value) h)

  given_same : (v : Value) (b : Bool) → is_held (kind_in type) value ≡ b → Replies m.setting old.heap (others_of old) t.world (Gives v) (if_held b)
      → takes_back false (Some v) old m t f ≡ takes (FieldAccess access.GetStatic r) m t f
  given_same v true holds given =
      let there = stays (class_code m.files) m.setting.classes next (pushed_on (Plain value) f.content) t.world in
      ap (λ h. pushed (held_width h) h) given.0
      ∙ sym (same_twice (has_room f.room (held_width value) f.content.operands) there (stops events.Broken))
      ∙ ap (λ n. if has_room f.room n f.content.operands then pushed (held_width value) value else stops events.Broken) (widths holds)
      ∙ sym (taken_if roomy ∙ ap (after roomy) holds)
  given_same v false holds given = absurd given

  -- a value that was given is that of the machine
  pub gives : (below : List (turns.Frame Place)) (v : Value) → reply ≡ Gives v → (new : MachineState) (step : Step)
      → Stepped m new left step (moved (class_code m.files) m.setting.classes t.due (takes_back false (Some v) old m t f) t.world f below)
      → Stepped m new left step (moved (class_code m.files) m.setting.classes t.due (takes (FieldAccess access.GetStatic r) m t f) t.world f below)
  gives below v same new step h =
      subst (λ x. Stepped m new left step (moved (class_code m.files) m.setting.classes t.due x t.world f below))
      (given_same v (is_held (kind_in type) value) refl (subst (λ q. Replies m.setting old.heap (others_of old) t.world q (if_held (is_held (kind_in type) value))) same replies)) h

  settled_if : (v : Value) (b : Bool) → Replies m.setting old.heap (others_of old) t.world (Gives v) (if_held b) → is_settled (length old.heap.names) v ≡ true
  settled_if v true given = given.1
  settled_if v false given = absurd given

  pub settled : (v : Value) → reply ≡ Gives v → is_settled (length old.heap.names) v ≡ true
  settled v same = settled_if v (is_held (kind_in type) value) (subst (λ q. Replies m.setting old.heap (others_of old) t.world q (if_held (is_held (kind_in type) value))) same replies)

  -- where none was given, the run is Broken
  broken_if : (q : Reply) → ((v : Value) → q ≡ Gives v → ⊥) → (b : Bool) → is_held (kind_in type) value ≡ b → Replies m.setting old.heap (others_of old) t.world q (if_held b) → takes (FieldAccess access.GetStatic r) m t f ≡ stops events.Broken
  broken_if (Gives v) other b holds given = absurd (other v refl)
  broken_if Done other true holds given = absurd given
  broken_if Done other false holds given = absurd given
  broken_if (Faults fault) other true holds given = absurd given
  broken_if (Faults fault) other false holds given = absurd given
  broken_if Refuses other true holds given = absurd given
  broken_if Refuses other false holds given = taken_if roomy ∙ ap (after roomy) holds ∙ same_both roomy (stops events.Broken)

  pub broken : (below : List (turns.Frame Place)) (new : MachineState) → ((v : Value) → reply ≡ Gives v → ⊥)
      → Stepped m new left (Ended Broken) (moved (class_code m.files) m.setting.classes t.due (takes (FieldAccess access.GetStatic r) m t f) t.world f below)
  broken below new other =
      subst (λ x. Stepped m new left (Ended Broken) (moved (class_code m.files) m.setting.classes t.due x t.world f below))
      (sym (broken_if reply other (is_held (kind_in type) value) refl replies)) refl

module _ (k : Known) (old new : MachineState) (r : Reference) (number : ℕ) (e : Element) (initial : Value) (reply : Reply) (asked : Answers old number e initial reply) where
  pub read_given : (v : Value) → reply ≡ Gives v → (step : Step) → Moves k old new step (takes_back false (Some v) old) → MovesWhere k (Reads r number e old.heap initial) old new step (takes (FieldAccess access.GetStatic r))
  read_given v same step moves m left t f below is runs top reads = gives k old r number e initial reply asked m left t f is runs reads below v same new step (moves m left t f below is runs top)

  pub read_unsettled : (v : Value) → reply ≡ Gives v → is_settled (length old.heap.names) v ≡ false → MovesWhere k (Reads r number e old.heap initial) old new (Ended Broken) (takes (FieldAccess access.GetStatic r))
  read_unsettled v same out m left t f below is runs top reads = absurd (false≢true (sym out ∙ settled k old r number e initial reply asked m left t f is runs reads v same))

  pub read_broken : ((v : Value) → reply ≡ Gives v → ⊥) → MovesWhere k (Reads r number e old.heap initial) old new (Ended Broken) (takes (FieldAccess access.GetStatic r))
  read_broken other m left t f below is runs top reads = broken k old r number e initial reply asked m left t f is runs reads below new other
