-- Casts and tests of types, as the machine does them.
use Rattle.std.specs.Prelude.{◌≡◌, ℕ, ◌&&◌, not, Bool, true, false, if◌then◌else◌, is_some, List, Option, Some, None, refl}
use Rattle.std.proofs.Common.{sym, ap, ◌∙◌, subst}
use Rattle.std.proofs.lemmas.Bool.{false≢true}
use Rattle.std.specs.Option.{option_map}
use Rattle.class_world.specs.Tables.{Known}
use Rattle.class_machine.specs.declared.kinds.Fault.{Fault}
use Rattle.class_machine.specs.Answers as answers
use Rattle.class_machine.specs.Answers.{answer}
use Rattle.class_machine.specs.Classes.{Classes, dotted}
use Rattle.class_machine.specs.ClassFiles.{class_code}
use Rattle.class_machine.specs.Effect as definition
use Rattle.class_machine.specs.Effect.{Request, Cast, IsInstance}
use Rattle.class_machine.specs.Operations.{Operation, CheckCast, InstanceOf}
use Rattle.class_machine.specs.Turn.{Free, Link, asked_link, or_free, missing_class}
use Rattle.class_machine.specs.Values as machine
use Rattle.class_machine.specs.World.{World}
use Rattle.machine_frames.specs.Naming.{reference}
use Rattle.machine_values.specs.declared.observed.Ending.TheVariants.{Unresolved}
use Rattle.machine_values.specs.declared.names.Name.{Name}
use Rattle.machine_values.specs.declared.state.MachineState.{MachineState}
use Rattle.machine_values.specs.declared.values.Ref.{Ref}
use Rattle.machine_values.specs.declared.values.Value.{Value}
use Rattle.machine_values.specs.Standing.{name_of}
use Rattle.machine_requests.specs.declared.reply.Reply.{Reply}
use Rattle.machine_requests.specs.Objects.{IsBelow}
use Rattle.machine_requests.specs.Replies.{Replies, IsAnswerWhere}
use Rattle.machine_requests.specs.Replies as replies
use Rattle.machine_requests.specs.Shares.{Others, others_of}
use Rattle.machine_requests.specs.Telling.{AreDistinct}
use Rattle.machine_steps.specs.declared.step.Step.{Step}
use Rattle.machine_steps.specs.declared.step.Step.TheVariants.{Ended}
use Rattle.machine_steps.specs.Executing.{executes}
use Rattle.machine_steps.specs.Moves.{Moves}
use Rattle.machine_steps.specs.Programs.{Machine, IsMachine}
use Rattle.machine_invocations.specs.Methods.{classes_in}
use Rattle.machine_objects.specs.Types.{TellsType}
use Rattle.machine_objects.specs.Taking.{Takes}
use Rattle.machine_objects.specs.Following.{keeps_answers, KeepsAnswers, Follows}
use Rattle.machine_objects.proofs.Asked.{IsForm, refused_moves, answered_moves}
use Rattle.machine_objects.proofs.Unchanged.{names_are, same_but, no_longer, kept_shares, kept_filled}

-- ---- classes

module _ (k : Known) (class : List ℕ) (m : Machine) (is : IsMachine k m) where
  pub class_free : (classes_in k).knows class ≡ true → or_free (m.setting.classes.knows class) (missing_class class) ≡ Free
  class_free e = ap (λ (b : Bool). or_free b (missing_class class)) (ap (λ (cs : Classes). cs.knows class) is.classes ∙ e)

  pub class_missing : (classes_in k).knows class ≡ false → or_free (m.setting.classes.knows class) (missing_class class) ≡ missing_class class
  class_missing e = ap (λ (b : Bool). or_free b (missing_class class)) (ap (λ (cs : Classes). cs.knows class) is.classes ∙ e)

both_parts : (o : Option Ref) (b : Bool) → (is_some o && not b) ≡ true → (at : Ref) × (o ≡ Some at) × (b ≡ false)
both_parts None b e = absurd (false≢true e)
both_parts (Some at) true e = absurd (false≢true e)
both_parts (Some at) false e = (at, refl, refl)

-- ---- an instruction that asks about an object

module _ (k : Known) (operation : Operation) (ask : Option machine.Name → Request) (class : List ℕ) (is_form : IsForm operation (λ room. definition.ask_of ask))
    (link_none : (m : Machine) → asked_link (class_code m.files) m.setting.classes (ask None) ≡ Free)
    (link_some : (m : Machine) (a : machine.Name) → asked_link (class_code m.files) m.setting.classes (ask (Some a)) ≡ or_free (m.setting.classes.knows class) (missing_class class))
    (kept : (cs : Classes) (w : World) (a : Option machine.Name) → KeepsAnswers w (answer cs w (ask a)))
    (old mid new : MachineState) (object : Option Ref) (vs : List Value) (takes : Takes (λ room. definition.ask_of ask) (λ n. ask (reference n object)) vs old mid) where
  abbrev link_for : Machine → Option Ref → Link
  link_for m o = asked_link (class_code m.files) m.setting.classes (ask (option_map (name_of m.setting.heads old.heap.names) o))

  pub question_missing : (lacks : Bool) → lacks ≡ (is_some object && not ((classes_in k).knows class)) → lacks ≡ true → Moves k old new (Ended (Unresolved (dotted class))) (executes operation)
  question_missing lacks is holds =
      let parts = both_parts object ((classes_in k).knows class) (sym is ∙ holds) in
      refused_moves k old mid new operation (λ room. definition.ask_of ask) (λ n. ask (reference n object)) vs is_form takes.from takes.asks (Unresolved (dotted class))
      (λ m there. ap (link_for m) parts.1 ∙ link_some m (name_of m.setting.heads old.heap.names parts.0) ∙ class_missing k class m there parts.2)

  question_free : (o : Option Ref) (b : Bool) → (classes_in k).knows class ≡ b → (is_some o && not b) ≡ false → (m : Machine) → IsMachine k m → link_for m o ≡ Free
  question_free None b e other m is = link_none m
  question_free (Some at) true e other m is = link_some m (name_of m.setting.heads old.heap.names at) ∙ class_free k class m is e
  question_free (Some at) false e other m is = absurd (false≢true (sym other))

  pub question_moves : (lacks : Bool) → lacks ≡ (is_some object && not ((classes_in k).knows class)) → lacks ≡ false → (below : Bool) → TellsType k mid.heap object class below
      → (reply : Reply) → ((others : Others) → IsAnswerWhere (IsBelow mid.heap object class below) mid.heap others (λ s names. ask (replies.object s names object)) mid.heap others reply)
      → (step : Step) → Follows k mid new step reply vs → Moves k old new step (executes operation)
  question_moves lacks is other below tells reply answered step follows =
      answered_moves k old mid new operation (λ room. definition.ask_of ask) (λ n. ask (reference n object)) vs is_form takes.from takes.asks step reply (same_but old mid takes.same) (no_longer old mid takes.same)
      (λ m there. question_free object ((classes_in k).knows class) refl (sym is ∙ other) m there)
      (λ m left t there runs.
      let shares = kept_shares old mid takes.same m left t runs in
      record {
        replies = subst (λ (names : List Name). Replies m.setting mid.heap (others_of mid) t.world reply (answer m.setting.classes t.world (ask (option_map (name_of m.setting.heads names) object)))) (names_are old mid takes.same)
            (answered (others_of mid) m.setting t.world (tells m (others_of mid) t.world there shares) (subst AreDistinct (sym there.heads) there.distinct) shares);
        filled = kept_filled old mid takes.same m left t runs;
        kept = kept m.setting.classes t.world (option_map (name_of m.setting.heads old.heap.names) object);
      }) follows

-- ---- casts and tests

pub cast_form : (class : List ℕ) → IsForm (CheckCast class) (λ room. definition.ask_of (Cast class))
cast_form class = record { is = λ s ops ls. refl }

pub test_form : (class : List ℕ) → IsForm (InstanceOf class) (λ room. definition.ask_of (IsInstance class))
test_form class = record { is = λ s ops ls. refl }

pub cast_kept : (class : List ℕ) (cs : Classes) (w : World) (a : Option machine.Name) → KeepsAnswers w (answer cs w (Cast class a))
cast_kept class cs w None = record { kept = refl }
cast_kept class cs w (Some a) = record { kept = by (cs.is_subtype (machine.class_of a) class) } where
  by : (b : Bool) → keeps_answers w (if b then answers.Gives (machine.Reference a) w else answers.Faults Fault.ClassCast)
  by true = refl
  by false = tt

pub test_kept : (class : List ℕ) (cs : Classes) (w : World) (a : Option machine.Name) → KeepsAnswers w (answer cs w (IsInstance class a))
test_kept class cs w None = record { kept = refl }
test_kept class cs w (Some a) = record { kept = refl }
