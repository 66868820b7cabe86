-- What a reply makes of the running frame is what the machine makes of it by its answer.
use Rattle.std.specs.Prelude.{◌≡◌, ◌≤◌, Bool, true, false, if◌then◌else◌, is_some, List, ◌∷◌, reverse, length, refl}
use Rattle.std.proofs.Common.{sym, ◌∙◌, ap, subst, arith, length-append}
use Rattle.class_world.specs.Tables.{Known}
use Rattle.class_machine.specs.declared.kinds.Fault.{Fault}
use Rattle.class_machine.specs.Answers as answers
use Rattle.class_machine.specs.Answers.{answer}
use Rattle.class_machine.specs.Events as events
use Rattle.class_machine.specs.Values as machine
use Rattle.class_machine.specs.Values.{Held, held_width, has_room, pushed_on}
use Rattle.class_machine.specs.World.{World}
use Rattle.class_machine.specs.Turn as turns
use Rattle.class_machine.specs.Machine as machines
use Rattle.class_machine.specs.Machine.{State, moved}
use Rattle.class_machine.specs.ClassFiles.{Place, class_code}
use Rattle.machine_values.specs.declared.script.Answer.{Answer}
use Rattle.machine_values.specs.declared.state.MachineState.{MachineState}
use Rattle.machine_values.specs.States.{machine_due, IsFrameWithin}
use Rattle.machine_requests.specs.declared.reply.Reply.{Reply}
use Rattle.machine_requests.specs.declared.reply.Reply.TheVariants.{Gives, Done, Faults, Refuses}
use Rattle.machine_requests.specs.Growth.{frames_stay, due_stays}
use Rattle.machine_requests.specs.Replies.{Replies}
use Rattle.machine_requests.specs.Shares.{Shares, others_of}
use Rattle.machine_frames.specs.declared.effect.Request.{Request}
use Rattle.machine_frames.specs.Effects.{request_in}
use Rattle.machine_steps.specs.declared.step.Step.{Step}
use Rattle.machine_steps.specs.declared.step.Step.TheVariants.{Ended}
use Rattle.machine_values.specs.declared.observed.Ending.TheVariants.{Broken}
use Rattle.machine_steps.specs.Giving.{naming_of}
use Rattle.machine_steps.specs.Going.{all_reversed}
use Rattle.machine_steps.specs.Moves.{Moves}
use Rattle.machine_steps.specs.Programs.{Machine, IsMachine}
use Rattle.machine_steps.specs.Running.{waiting}
use Rattle.machine_steps.specs.Runs.{Runs, Stepped}
use Rattle.machine_steps.specs.Within.{frames_more, due_more}
use Rattle.machine_basics.specs.Turns.{asks, follows}
use Rattle.machine_basics.specs.Replied.{IsReply, IsSettledReply}
use Rattle.machine_basics.proofs.Asked.{Plainly, answers_plainly}

-- ---- the state after the reply

replied_runs : (k : Known) (old mid : MachineState) (request : Request) (reply : Reply) → IsReply k old request mid reply → (m : Machine) (left : List Answer) (t : State Place) (w : World)
    → IsMachine k m → Shares m.setting mid.heap (others_of mid) w → w.answers ≡ t.world.answers → Runs m old left t → Runs m mid left (record t { world = w })
replied_runs k old mid request reply is m left t w machine shares kept runs =
    let names = old.heap.names in
    let many : length names ≤ length mid.heap.names = let e = ap length is.names.1 in let n = length-append names is.names.0 in omega arith in
    let P : MachineState → Type 0 = λ s. Runs m s left (record t { world = w }) in
    subst P (sym is.same) (record {
      shares = subst (λ (s : MachineState). Shares m.setting mid.heap (others_of s) w) is.same shares;
      frames = record {
        frames = runs.frames.frames ∙ sym (
            ap (λ all. waiting m all old.frames.items) is.names.1
            ∙ frames_stay m.setting.heads names is.names.0 m.methods (reverse old.frames.items) (all_reversed (IsFrameWithin (length names)) old.frames.items runs.frames.frames_within)
            );
        due = runs.frames.due ∙ sym (ap (λ all. machine_due m.setting.heads m.methods all old.due) is.names.1 ∙ due_stays m.setting.heads names is.names.0 m.methods old.due runs.frames.due_within);
        frames_within = frames_more (length names) (length mid.heap.names) many old.frames.items runs.frames.frames_within;
        due_within = due_more (length names) (length mid.heap.names) many old.due runs.frames.due_within;
      };
      answers = kept ∙ runs.answers;
      filled = is.filled m t.world machine runs.shares runs.filled;
    })

-- ---- going on

-- a turn within the frame is the same whatever the world was
stays_alike : (m : Machine) (due : machines.Due) (b : Bool) (place : Place) (c : machine.Content Place) (u v w : World) (f : turns.Frame Place) (below : List (turns.Frame Place))
    → moved (class_code m.files) m.setting.classes due (if b then turns.Stays place c u else turns.stops events.Broken) v f below
    ≡ moved (class_code m.files) m.setting.classes due (if b then turns.Stays place c u else turns.stops events.Broken) w f below
stays_alike m due true place c u v w f below = refl
stays_alike m due false place c u v w f below = refl

given_alike : (m : Machine) (due : machines.Due) (room b : Bool) (place : Place) (c : machine.Content Place) (u v w : World) (f : turns.Frame Place) (below : List (turns.Frame Place))
    → moved (class_code m.files) m.setting.classes due (if room then (if b then turns.Stays place c u else turns.stops events.Broken) else turns.stops events.Broken) v f below
    ≡ moved (class_code m.files) m.setting.classes due (if room then (if b then turns.Stays place c u else turns.stops events.Broken) else turns.stops events.Broken) w f below
given_alike m due true b place c u v w f below = stays_alike m due b place c u v w f below
given_alike m due false b place c u v w f below = refl

module _ (k : Known) (old mid new : MachineState) (request : Request) (step : Step) where
  module _ (m : Machine) (left : List Answer) (t : State Place) (f : turns.Frame Place) (below : List (turns.Frame Place)) (machine_is : IsMachine k m) (runs : Runs m old left t) (same : t.frames ≡ f ∷ below) where
    abbrev Goes : answers.Reply → Type 0
    Goes r = Stepped m new left step (moved (class_code m.files) m.setting.classes t.due (turns.replied (class_code m.files) m.setting.classes f f.content t.world r) t.world f below)

    abbrev next : Place
    next = (class_code m.files).next f.place

    by : (reply : Reply) (r : answers.Reply) → IsReply k old request mid reply → Plainly t.world r → Replies m.setting mid.heap (others_of mid) t.world reply r
        → (reply ≡ Refuses → step ≡ Ended Broken) → (IsSettledReply (length mid.heap.names) reply → Moves k mid new step (follows mid reply)) → Goes r
    by (Gives v) (answers.Gives h w) is plain replies stops moves =
        let after = replied_runs k old mid request (Gives v) is m left t w machine_is replies.2 plain runs in
        let stepped = moves replies.1 m left (record t { world = w }) f below machine_is after same in
        let given = subst (λ (y : Held). Stepped m new left step (moved (class_code m.files) m.setting.classes t.due
        (if has_room f.room (held_width y) f.content.operands then turns.stays (class_code m.files) m.setting.classes next (pushed_on (machine.Plain y) f.content) w else turns.stops events.Broken) w f below)) replies.0 stepped in
        subst (Stepped m new left step) (given_alike m t.due (has_room f.room (held_width h) f.content.operands) (is_some ((class_code m.files).line next)) next (pushed_on (machine.Plain h) f.content) w w t.world f below) given
    by Done (answers.Done w) is plain replies stops moves =
        let after = replied_runs k old mid request Done is m left t w machine_is replies plain runs in
        subst (Stepped m new left step) (stays_alike m t.due (is_some ((class_code m.files).line next)) next f.content w w t.world f below) (moves tt m left (record t { world = w }) f below machine_is after same)
    by (Faults a) (answers.Faults b) is plain replies stops moves =
        let after = replied_runs k old mid request (Faults a) is m left t t.world machine_is replies.1 refl runs in
        subst (λ (x : Fault). Stepped m new left step (moved (class_code m.files) m.setting.classes t.due (turns.fails (class_code m.files) m.setting.classes x f.content t.world) t.world f below)) replies.0
        (moves tt m left t f below machine_is after same)
    by Refuses answers.Refuses is plain replies stops moves = subst (λ (s : Step). Stepped m new left s (moved (class_code m.files) m.setting.classes t.due (turns.stops events.Broken) t.world f below)) (sym (stops refl)) refl
    by (Gives v) (answers.Done w) is plain replies stops moves = absurd replies
    by (Gives v) (answers.Faults b) is plain replies stops moves = absurd replies
    by (Gives v) answers.Refuses is plain replies stops moves = absurd replies
    by Done (answers.Gives h w) is plain replies stops moves = absurd replies
    by Done (answers.Faults b) is plain replies stops moves = absurd replies
    by Done answers.Refuses is plain replies stops moves = absurd replies
    by (Faults a) (answers.Gives h w) is plain replies stops moves = absurd replies
    by (Faults a) (answers.Done w) is plain replies stops moves = absurd replies
    by (Faults a) answers.Refuses is plain replies stops moves = absurd replies
    by Refuses (answers.Gives h w) is plain replies stops moves = absurd replies
    by Refuses (answers.Done w) is plain replies stops moves = absurd replies
    by Refuses (answers.Faults b) is plain replies stops moves = absurd replies

  pub asked_moves : (reply : Reply) → IsReply k old request mid reply → (reply ≡ Refuses → step ≡ Ended Broken) → (IsSettledReply (length mid.heap.names) reply → Moves k mid new step (follows mid reply)) → Moves k old new step (asks old request)
  asked_moves reply is stops moves m left t f below machine_is runs same =
      by m left t f below machine_is runs same reply (answer m.setting.classes t.world (request_in (naming_of m old) request)) is
      (answers_plainly m.setting.classes t.world (naming_of m old) request) (is.replies m t.world machine_is runs.shares) stops moves
