-- What an instruction that asks makes of its frame.
use Rattle.std.specs.Prelude.{◌≡◌, List, Some, refl}
use Rattle.std.proofs.Common.{sym, ap, ◌∙◌, subst}
use Rattle.class_world.specs.Tables.{Known}
use Rattle.class_machine.specs.declared.kinds.Fault.{Fault}
use Rattle.class_machine.specs.Answers as answers
use Rattle.class_machine.specs.Answers.{answer}
use Rattle.class_machine.specs.ClassFiles.{Place, class_code}
use Rattle.class_machine.specs.Effect as definition
use Rattle.class_machine.specs.Events as events
use Rattle.class_machine.specs.Machine.{State, moved}
use Rattle.class_machine.specs.Operations.{Operation}
use Rattle.class_machine.specs.Turn as turns
use Rattle.class_machine.specs.Turn.{Free, Refused, asked_link, linked, resolved, effect_at, executed, replied, setting, stops}
use Rattle.class_machine.specs.Values as machine
use Rattle.class_machine.specs.Values.{Content}
use Rattle.class_machine.specs.World.{World}
use Rattle.machine_frames.specs.Effects.{operands_of, locals_of}
use Rattle.machine_frames.specs.Named.{content_of}
use Rattle.machine_frames.specs.Naming.{Naming}
use Rattle.machine_values.specs.declared.observed.Ending.{Ending}
use Rattle.machine_values.specs.declared.observed.Ending.TheVariants.{Broken}
use Rattle.machine_values.specs.declared.script.Answer.{Answer}
use Rattle.machine_values.specs.declared.state.MachineState.{MachineState}
use Rattle.machine_values.specs.declared.values.Value.{Value}
use Rattle.machine_values.specs.Observed.{machine_ending}
use Rattle.machine_requests.specs.declared.reply.Reply.{Reply}
use Rattle.machine_requests.specs.Objects.{AreFilled}
use Rattle.machine_requests.specs.Replies.{Replies, IsLonger}
use Rattle.machine_requests.specs.Shares.{others_of}
use Rattle.machine_steps.specs.declared.step.Step.{Step}
use Rattle.machine_steps.specs.declared.step.Step.TheVariants.{Ended}
use Rattle.machine_steps.specs.Executing.{executes}
use Rattle.machine_steps.specs.Giving.{naming_of}
use Rattle.machine_steps.specs.Moves.{Moves, MovesWithLocals, faults}
use Rattle.machine_steps.specs.Programs.{Machine, IsMachine}
use Rattle.machine_steps.specs.Running.{seen_by, waiting, frames_are, moves_at}
use Rattle.machine_steps.specs.Runs.{Runs, Stepped}
use Rattle.machine_objects.specs.Taking.{RoomForm, Breaks, IsTakenFrom}
use Rattle.machine_objects.specs.Following.{KeepsAnswers, front_of, Follows}
use Rattle.machine_objects.proofs.Followed.{split}

-- the operation does that to operands and locals
pub record IsForm (operation : Operation) (form : RoomForm) : Type 0 where
  pub is : (s : definition.Setting) (ops : List (machine.Value Place)) (ls : List (machine.Local Place)) → definition.effect s operation ops ls ≡ form s.room ops ls

-- ---- the turn

module _ (m : Machine) (f : turns.Frame Place) (w : World) (operation : Operation) (form : RoomForm) (is : IsForm operation form) where
  breaks_turn : form f.room f.content.operands f.content.locals ≡ definition.Broken → executed (class_code m.files) m.setting.classes f w (Some operation) ≡ stops events.Broken
  breaks_turn e = ap (resolved (class_code m.files) m.setting.classes f w) (is.is (setting (class_code m.files) m.setting.classes f) f.content.operands f.content.locals ∙ e)

  module _ (request : definition.Request) (c : Content Place) (e : form f.room f.content.operands f.content.locals ≡ definition.Ask request c) where
    asks : executed (class_code m.files) m.setting.classes f w (Some operation) ≡ linked (class_code m.files) m.setting.classes f w (definition.Ask request c) (asked_link (class_code m.files) m.setting.classes request)
    asks = ap (resolved (class_code m.files) m.setting.classes f w) (is.is (setting (class_code m.files) m.setting.classes f) f.content.operands f.content.locals ∙ e)

    pub free_turn : asked_link (class_code m.files) m.setting.classes request ≡ Free
        → executed (class_code m.files) m.setting.classes f w (Some operation) ≡ replied (class_code m.files) m.setting.classes f c w (answer m.setting.classes w request)
    free_turn free = asks ∙ ap (linked (class_code m.files) m.setting.classes f w (definition.Ask request c)) free

    refused_turn : (ending : events.Ending) → asked_link (class_code m.files) m.setting.classes request ≡ Refused ending → executed (class_code m.files) m.setting.classes f w (Some operation) ≡ stops ending
    refused_turn ending refused = asks ∙ ap (linked (class_code m.files) m.setting.classes f w (definition.Ask request c)) refused

-- ---- the step

pub breaks_moves : (k : Known) (old new : MachineState) (operation : Operation) (form : RoomForm) → IsForm operation form → Breaks form old → Moves k old new (Ended Broken) (executes operation)
breaks_moves k old new operation form is breaks m left t f below machine runs same =
    subst (λ turn. Stepped m new left (Ended Broken) (moved (class_code m.files) m.setting.classes t.due turn t.world f below)) (sym (breaks_turn m f t.world operation form is (breaks m left t f below runs same))) refl

-- what the machine answers, and what there is then
pub record Answers (m : Machine) (mid : MachineState) (t : State Place) (reply : Reply) (request : definition.Request) : Type 0 where
  pub replies : Replies m.setting mid.heap (others_of mid) t.world reply (answer m.setting.classes t.world request)
  pub filled : AreFilled mid.heap m.setting
  pub kept : KeepsAnswers t.world (answer m.setting.classes t.world request)

module _ (k : Known) (old mid new : MachineState) (operation : Operation) (form : RoomForm) (request : Naming → definition.Request) (vs : List Value) (is : IsForm operation form) (from : IsTakenFrom vs old mid)
    (asks : (n : Naming) → form from.frame.operands.room (operands_of n from.frame) (locals_of n from.frame) ≡ definition.Ask (request n) (content_of n from.left)) where
  module _ (m : Machine) (left : List Answer) (t : State Place) (step : Step) where
    abbrev seen : turns.Frame Place
    seen = seen_by m old.heap.names from.frame

    abbrev below : List (turns.Frame Place)
    below = waiting m old.heap.names (front_of old)

    abbrev By : turns.Turn Place → Type 0
    By turn = Stepped m new left step (moved (class_code m.files) m.setting.classes t.due turn t.world seen below)

  pub refused_moves : (ending : Ending) → ((m : Machine) → IsMachine k m → asked_link (class_code m.files) m.setting.classes (request (naming_of m old)) ≡ Refused (machine_ending ending)) → Moves k old new (Ended ending) (executes operation)
  refused_moves ending refused =
      moves_at k old new (Ended ending) (executes operation) (front_of old) from.frame (split vs old mid from) (λ m left t there runs.
      subst (By m left t (Ended ending)) (sym (refused_turn m (seen m left t (Ended ending)) t.world operation form is (request (naming_of m old)) (content_of (naming_of m old) from.left) (asks (naming_of m old)) (machine_ending ending) (refused m there))) refl)

  pub answered_moves : (step : Step) (reply : Reply) → mid ≡ record old { frames = mid.frames; heap = mid.heap } → IsLonger old.heap mid.heap
      → ((m : Machine) → IsMachine k m → asked_link (class_code m.files) m.setting.classes (request (naming_of m old)) ≡ Free)
      → ((m : Machine) (left : List Answer) (t : State Place) → IsMachine k m → Runs m old left t → Answers m mid t reply (request (naming_of m old)))
      → Follows k mid new step reply vs → Moves k old new step (executes operation)
  answered_moves step reply same longer free answered follows =
      moves_at k old new step (executes operation) (front_of old) from.frame (split vs old mid from) (λ m left t there runs.
      let a = answered m left t there runs in
      subst (By m left t step) (sym (free_turn m (seen m left t step) t.world operation form is (request (naming_of m old)) (content_of (naming_of m old) from.left) (asks (naming_of m old)) (free m there)))
      (follows m left t old (answer m.setting.classes t.world (request (naming_of m old))) from there runs same longer a.replies a.filled a.kept))

  -- where the machine answers an exception, from the state as it was
  pub fault_moves : (step : Step) (fault : Fault) → ((m : Machine) → IsMachine k m → asked_link (class_code m.files) m.setting.classes (request (naming_of m old)) ≡ Free)
      → ((m : Machine) (w : World) → answer m.setting.classes w (request (naming_of m old)) ≡ answers.Faults fault) → MovesWithLocals k old new step (faults fault) → Moves k old new step (executes operation)
  fault_moves step fault free answered moves =
      moves_at k old new step (executes operation) (front_of old) from.frame (split vs old mid from) (λ m left t there runs.
      let c = content_of (naming_of m old) from.left in
      subst (By m left t step) (sym (
      free_turn m (seen m left t step) t.world operation form is (request (naming_of m old)) c (asks (naming_of m old)) (free m there)
      ∙ ap (replied (class_code m.files) m.setting.classes (seen m left t step) c t.world) (answered m t.world)
      ))
      (moves m left t (seen m left t step) (below m left t step) c there runs (frames_are m old left t (front_of old) from.frame runs (split vs old mid from)) (ap (locals_of (naming_of m old)) from.taken.rest)))
