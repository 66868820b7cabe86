-- Exceptions that are thrown and those that the machine makes, by the way that they go.
use Rattle.std.specs.Prelude.{◌≡◌, ℕ, ◌≤◌, ◌<◌, Bool, true, false, ◌&&◌, if◌then◌else◌, nat_le, is_some, List, [], ◌∷◌, ◌++◌, map, reverse, length, Option, Some, None, refl}
use Rattle.std.specs.List.{AllByRecursion}
use Rattle.std.specs.Option.{unwrap_or}
use Rattle.std.proofs.Common.{sym, ◌∙◌, ap, subst, arith, eq-eqb, length-append}
use Rattle.std.proofs.lemmas.Bool.{and_parts}
use Rattle.std.specs.Str.{bytes_eq}
use Rattle.std.specs.Cmp.Lexicographic.{bytes_decides}
use Rattle.class_file.specs.Pool.{Reference}
use Rattle.class_heads.specs.Hierarchy.{name_at}
use Rattle.class_world.specs.Tables.{Known}
use Rattle.class_machine.specs.declared.kinds.Fault.{Fault}
use Rattle.class_machine.specs.Events as events
use Rattle.class_machine.specs.Values as machine
use Rattle.class_machine.specs.Values.{class_of, same_name}
use Rattle.class_machine.specs.Descriptors.{blank, element_of}
use Rattle.class_machine.specs.Classes.{same_member, same_type, Classes, fault_class}
use Rattle.class_machine.specs.World as worlds
use Rattle.class_machine.specs.World.{World, find_field, field_of, object_at, read_field, text_of, message_field, message_of, blank_fields, is_text_class, new_object, next_name, make}
use Rattle.class_machine.specs.Turn as turns
use Rattle.class_machine.specs.Machine as machines
use Rattle.class_machine.specs.Machine.{State, back_in, handled, catching, unwound}
use Rattle.class_machine.specs.ClassFiles.{Place, class_code}
use Rattle.event_machine.specs.Outcome as outcomes
use Rattle.machine_values.specs.declared.values.Ref.{Ref}
use Rattle.machine_values.specs.declared.frames.Frame.{Frame}
use Rattle.machine_values.specs.declared.observed.Ending.TheVariants as endings
use Rattle.machine_values.specs.declared.script.Answer.{Answer}
use Rattle.machine_values.specs.declared.state.MachineState.{MachineState}
use Rattle.machine_values.specs.Things.{Things}
use Rattle.machine_values.specs.Standing.{name_of}
use Rattle.machine_values.specs.States.{machine_due, IsFrameWithin, IsDueWithin}
use Rattle.machine_values.specs.Observed.{machine_answer}
use Rattle.machine_requests.specs.Growth.{frames_stay, due_stays}
use Rattle.machine_requests.specs.Objects.{AreFilled, IsNew}
use Rattle.machine_requests.specs.Replies.{IsLonger}
use Rattle.machine_requests.specs.Shares.{Shares, others_of}
use Rattle.machine_steps.specs.declared.step.Step.{Step}
use Rattle.machine_steps.specs.declared.step.Step.TheVariants.{Ended}
use Rattle.machine_steps.specs.Programs.{Machine, IsMachine}
use Rattle.machine_steps.specs.Runs.{Runs, Stepped}
use Rattle.machine_steps.specs.Moves.{MovesWithLocals, faults, raises}
use Rattle.machine_steps.specs.Running.{seen_by, waiting}
use Rattle.machine_steps.specs.Within.{frames_more, due_more}
use Rattle.machine_steps.specs.Going.{all_reversed}
use Rattle.machine_steps.specs.Unwinding.{Passes, FailsFor, Unwinds}
use Rattle.machine_steps.specs.Messages.{HasMessage}
use Rattle.machine_steps.specs.Unwound.{out_of_initialiser, out_of_all}

-- ---- of the running frame only its locals count

module _ (m : Machine) (due : machines.Due) (f : turns.Frame Place) (c : machine.Content Place) (below : List (turns.Frame Place)) where
  back : (a b : Bool) (place : Place) (d : machine.Content Place) (w : World)
      → back_in (class_code m.files) m.setting.classes due (turns.frame_at f f.place c) (if a then (if b then turns.Stays place d w else turns.stops events.Broken) else turns.stops events.Broken) below
      ≡ back_in (class_code m.files) m.setting.classes due f (if a then (if b then turns.Stays place d w else turns.stops events.Broken) else turns.stops events.Broken) below
  back true true place d w = refl
  back true false place d w = refl
  back false true place d w = refl
  back false false place d w = refl

  handled_same : (o : Option (turns.Handler Place)) (x : machine.Name) (w : World) (otherwise : machines.Step (State Place)) → c.locals ≡ f.content.locals
      → handled (class_code m.files) m.setting.classes due o x w (turns.frame_at f f.place c) below otherwise ≡ handled (class_code m.files) m.setting.classes due o x w f below otherwise
  handled_same None x w otherwise locals = refl
  handled_same (Some h) x w otherwise locals =
      let d : List (machine.Local Place) → machine.Content Place = λ ls. machine.content (machine.Plain (machine.Reference x) ∷ []) ls in
      let stands = is_some ((class_code m.files).line h.place) in
      back (nat_le 1 f.room) stands h.place (d c.locals) w
      ∙ ap (λ ls. back_in (class_code m.files) m.setting.classes due f (if nat_le 1 f.room then (if stands then turns.Stays h.place (d ls) w else turns.stops events.Broken) else turns.stops events.Broken) below) locals

  pub locals_decide : (x : machine.Name) (w : World) → c.locals ≡ f.content.locals
      → unwound (class_code m.files) m.setting.classes due x w (turns.frame_at f f.place c ∷ below) ≡ unwound (class_code m.files) m.setting.classes due x w (f ∷ below)
  locals_decide x w locals =
      handled_same (machines.handler_of (class_code m.files) m.setting.classes x f) x w
      (machines.out_of (class_code m.files) m.setting.classes due f.purpose (unwound (class_code m.files) m.setting.classes due x (machines.leaving f.monitor w) below)) locals

-- ---- an exception that is thrown

pub unwinds_raised : (k : Known) (old new : MachineState) (step : Step) (class : ℕ) (at : Ref)
    → ((m : Machine) (answers : List Answer) (t : State Place) → IsMachine k m → Runs m old answers t → class_of (name_of m.setting.heads old.heap.names at) ≡ name_at k.heads class)
    → Unwinds k old new step class at → MovesWithLocals k old new step (raises (λ m. name_of m.setting.heads old.heap.names at))
unwinds_raised k old new step class at of_class unwinds m answers t f below c is runs same locals =
    let x = name_of m.setting.heads old.heap.names at in
    subst (Stepped m new answers step) (
    ap (unwound (class_code m.files) m.setting.classes t.due x t.world) same ∙ sym (locals_decide m t.due f c below x t.world locals)
    ) (unwinds m answers t is (of_class m answers t is runs) runs)

pub fails_unwinds : (k : Known) (old new : MachineState) (class failed : ℕ) (at : Ref) (name : List ℕ) → FailsFor k class old.frames.items failed → name ≡ name_at k.heads failed
    → Unwinds k old new (Ended (endings.InitFailed name)) class at
fails_unwinds k old new class failed at name fails named m answers t is of_class runs =
    let x = name_of m.setting.heads old.heap.names at in
    subst (Stepped m new answers (Ended (endings.InitFailed name))) (sym (
    ap (unwound (class_code m.files) m.setting.classes t.due x t.world) runs.frames.frames ∙ out_of_initialiser k m is old.heap.names class x of_class t.due old.frames.items failed t.world fails
    )) (ap events.InitFailed (named ∙ ap (λ heads. name_at heads failed) (sym is.heads)))

pub leaves_unwinds : (k : Known) (old new : MachineState) (class : ℕ) (at : Ref) (name : List ℕ) (message : Option (List ℕ)) → AllByRecursion (Passes k class) old.frames.items → name ≡ name_at k.heads class
    → HasMessage k old at message
    → Unwinds k old new (Ended (endings.Uncaught name message)) class at
leaves_unwinds k old new class at name message passed named told m answers t is of_class runs =
    let x = name_of m.setting.heads old.heap.names at in
    subst (Stepped m new answers (Ended (endings.Uncaught name message))) (sym (
    ap (unwound (class_code m.files) m.setting.classes t.due x t.world) runs.frames.frames ∙ out_of_all k m is old.heap.names class x of_class t.due old.frames.items t.world passed
    )) (ap (λ n. events.Uncaught n message) (named ∙ sym of_class) ∙ ap (events.Uncaught (class_of x)) (sym (told m answers t is runs)))

-- ---- the message of a new object

same_itself : (class : List ℕ) (k : ℕ) → same_name (machine.Made class k) (machine.Made class k) ≡ true
same_itself class k = ap (λ b. b && bytes_eq class class) (eq-eqb k k refl) ∙ (bytes_decides class class).1 refl

null_blank : (r : Reference) → same_member r message_field ≡ true → blank (element_of r.member.descriptor) ≡ machine.Null
null_blank r same =
    let both = and_parts (same_type r.member message_field.member) (bytes_eq r.class message_field.class) same in
    let type = and_parts (bytes_eq r.member.name message_field.member.name) (bytes_eq r.member.descriptor message_field.member.descriptor) both.0 in
    ap (λ d. blank (element_of d)) ((bytes_decides r.member.descriptor message_field.member.descriptor).0 type.1)

blank_message : (fields : List Reference) → unwrap_or (find_field (blank_fields fields) message_field) machine.Null ≡ machine.Null
blank_message [] = refl
blank_message (r ∷ fields) = by (same_member r message_field) refl (blank_message fields) where
  by : (b : Bool) → same_member r message_field ≡ b → unwrap_or (find_field (blank_fields fields) message_field) machine.Null ≡ machine.Null
      → unwrap_or (if b then Some (blank (element_of r.member.descriptor)) else find_field (blank_fields fields) message_field) machine.Null ≡ machine.Null
  by true e others = null_blank r e
  by false e others = others

new_message_field : (cs : Classes) (class : List ℕ) → field_of (Some (new_object cs class)) message_field ≡ machine.Null
new_message_field cs class = by (is_text_class class) where
  by : (b : Bool) → field_of (Some (if b then worlds.Text [] else worlds.Instance (blank_fields (cs.fields class)))) message_field ≡ machine.Null
  by true = refl
  by false = blank_message (cs.fields class)

pub new_message : (cs : Classes) (w : World) (class : List ℕ) → message_of (make cs w class).1 (make cs w class).0 ≡ None
new_message cs w class =
    let made = make cs w class in
    let found : object_at made.1 made.0 ≡ Some (new_object cs class) =
    ap (λ (b : Bool). if b then Some (new_object cs class) else worlds.find_made w.heap made.0) (same_itself class _) in
    ap (λ o. text_of made.1 (field_of o message_field)) found ∙ ap (text_of made.1) (new_message_field cs class)

-- ---- the heap has another object

pub grown_runs : (m : Machine) (old mid : MachineState) (answers : List Answer) (t : State Place) (w : World) → mid ≡ record old { heap = mid.heap } → IsLonger old.heap mid.heap
    → Shares m.setting mid.heap (others_of old) w → w.answers ≡ t.world.answers → AreFilled mid.heap m.setting → Runs m old answers t → Runs m mid answers (record t { world = w })
grown_runs m old mid answers t w same longer shares kept filled runs =
    let names = old.heap.names in
    let many : length names ≤ length mid.heap.names = let e = ap length longer.1 in let n = length-append names longer.0 in omega arith in
    let P : MachineState → Type 0 = λ s. Runs m s answers (record t { world = w }) in
    subst P (sym same) (record {
      shares = shares;
      frames = record {
        frames = runs.frames.frames ∙ sym (
            ap (λ all. waiting m all old.frames.items) longer.1
            ∙ frames_stay m.setting.heads names longer.0 m.methods (reverse old.frames.items) (all_reversed (IsFrameWithin (length names)) old.frames.items runs.frames.frames_within)
            );
        due = runs.frames.due ∙ sym (ap (λ all. machine_due m.setting.heads m.methods all old.due) longer.1 ∙ due_stays m.setting.heads names longer.0 m.methods old.due runs.frames.due_within);
        frames_within = frames_more (length names) (length mid.heap.names) many old.frames.items runs.frames.frames_within;
        due_within = due_more (length names) (length mid.heap.names) many old.due runs.frames.due_within;
      };
      answers = kept ∙ runs.answers;
      filled = filled;
    })

-- ---- an exception that the machine makes

module _ (k : Known) (old new : MachineState) (fault : Fault) (class : ℕ) (named : name_at k.heads class ≡ fault_class fault) where
  pub made_caught : (mid : MachineState) (step : Step) (at : Ref) → mid ≡ record old { heap = mid.heap } → IsLonger old.heap mid.heap
      → ((m : Machine) (w : World) → IsMachine k m → Shares m.setting old.heap (others_of old) w → IsNew m.setting (name_at k.heads class) w mid.heap (others_of old) at)
      → ((m : Machine) (w : World) → IsMachine k m → Shares m.setting old.heap (others_of old) w → AreFilled old.heap m.setting → AreFilled mid.heap m.setting) → Unwinds k mid new step class at → MovesWithLocals k old new step (faults fault)
  made_caught mid step at same longer made filled unwinds m answers t f below c is runs frames locals =
      let one : IsNew m.setting (name_at k.heads class) t.world mid.heap (others_of old) at = made m t.world is runs.shares in
      let n : List ℕ → machine.Name × World = λ name. make m.setting.classes t.world name in
      let name : name_of m.setting.heads mid.heap.names at ≡ (n (fault_class fault)).0 = one.name ∙ ap (λ x. (n x).0) named in
      let w = (n (name_at k.heads class)).1 in
      let grown = grown_runs m old mid answers t w same longer one.shares refl (filled m t.world is runs.shares runs.filled) runs in
      let of_class : class_of (name_of m.setting.heads mid.heap.names at) ≡ name_at k.heads class = ap class_of name ∙ sym named in
      let thrown : machine.Name → World → List (turns.Frame Place) → machines.Step (State Place) = λ x v fs. unwound (class_code m.files) m.setting.classes t.due x v fs in
      subst (Stepped m new answers step) (
      ap (λ x. thrown x w t.frames) name ∙ ap (λ x. thrown (n (fault_class fault)).0 (n x).1 t.frames) named ∙ ap (thrown (n (fault_class fault)).0 (n (fault_class fault)).1) frames
      ∙ sym (locals_decide m t.due f c below (n (fault_class fault)).0 (n (fault_class fault)).1 locals)
      ) (unwinds m answers (record t { world = w }) is of_class grown)

  pub made_fails : (failed : ℕ) (name : List ℕ) → FailsFor k class old.frames.items failed → name ≡ name_at k.heads failed → MovesWithLocals k old new (Ended (endings.InitFailed name)) (faults fault)
  made_fails failed name fails is_name m answers t f below c is runs frames locals =
      let made = make m.setting.classes t.world (fault_class fault) in
      subst (Stepped m new answers (Ended (endings.InitFailed name))) (sym (
      locals_decide m t.due f c below made.0 made.1 locals ∙ ap (unwound (class_code m.files) m.setting.classes t.due made.0 made.1) (sym frames ∙ runs.frames.frames)
      ∙ out_of_initialiser k m is old.heap.names class made.0 (sym named) t.due old.frames.items failed made.1 fails
      )) (ap events.InitFailed (is_name ∙ ap (λ heads. name_at heads failed) (sym is.heads)))

  pub made_leaves : (name : List ℕ) → AllByRecursion (Passes k class) old.frames.items → name ≡ name_at k.heads class → MovesWithLocals k old new (Ended (endings.Uncaught name None)) (faults fault)
  made_leaves name passed is_name m answers t f below c is runs frames locals =
      let made = make m.setting.classes t.world (fault_class fault) in
      subst (Stepped m new answers (Ended (endings.Uncaught name None))) (sym (
      locals_decide m t.due f c below made.0 made.1 locals ∙ ap (unwound (class_code m.files) m.setting.classes t.due made.0 made.1) (sym frames ∙ runs.frames.frames)
      ∙ out_of_all k m is old.heap.names class made.0 (sym named) t.due old.frames.items made.1 passed
      )) (ap (λ n. events.Uncaught n None) (is_name ∙ named) ∙ ap (events.Uncaught (fault_class fault)) (sym (new_message m.setting.classes t.world (fault_class fault))))
