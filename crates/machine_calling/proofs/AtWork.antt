-- A call of the library, once its rule has done its work.
use Rattle.std.specs.Prelude.{◌≡◌, ◌≤◌, List, map, length, Option, Some, None, refl}
use Rattle.std.specs.Option.{option_map}
use Rattle.std.proofs.Common.{sym, ap, ◌∙◌, subst, arith, length-append}
use Rattle.boot_library.specs.declared.rule.LibraryRule.{LibraryRule}
use Rattle.class_world.specs.Tables.{Known}
use Rattle.class_machine.specs.Classes.{Classes}
use Rattle.class_machine.specs.ClassFiles.{Place, class_code}
use Rattle.class_machine.specs.LibraryCalls as calls
use Rattle.class_machine.specs.Machine.{State}
use Rattle.class_machine.specs.Turn as turns
use Rattle.class_machine.specs.Values.{Name, Held}
use Rattle.class_machine.specs.World.{World}
use Rattle.machine_values.specs.declared.script.Answer.{Answer}
use Rattle.machine_values.specs.declared.state.MachineState.{MachineState}
use Rattle.machine_values.specs.declared.values.Ref.{Ref}
use Rattle.machine_values.specs.declared.values.Value.{Value}
use Rattle.machine_values.specs.Standing.{name_of, held}
use Rattle.machine_values.specs.States.{machine_due}
use Rattle.machine_values.specs.Things.{Things}
use Rattle.machine_requests.specs.Growth.{due_stays}
use Rattle.machine_requests.specs.Replies.{IsLonger}
use Rattle.machine_requests.specs.Shares.{HasFrames}
use Rattle.machine_rules.specs.declared.work.Work.{Work}
use Rattle.machine_rules.specs.Fields.{StaysWhole}
use Rattle.machine_rules.specs.Ruling as rules
use Rattle.machine_rules.specs.Works.{IsSettingOf, DoesWhole}
use Rattle.machine_steps.specs.Going.{waiting_stay}
use Rattle.machine_steps.specs.Programs.{Machine, IsMachine}
use Rattle.machine_steps.specs.Running.{waiting}
use Rattle.machine_steps.specs.Runs.{Runs}
use Rattle.machine_steps.specs.Within.{frames_more, due_more}
use Rattle.machine_works.specs.Finishing.{IsSound, IsAtWork, StandsAtWork}
use Rattle.machine_works.specs.Sound as sound
use Rattle.machine_parts.specs.Lines.{StandsForOne}

pub is_setting : (k : Known) (m : Machine) → IsMachine k m → IsSettingOf k m.setting
is_setting k m is = record { heads = is.heads; classes = is.classes; distinct = is.distinct }

ruled_same : (m : Machine) (w : World) (rule : LibraryRule) (o : Option Name) (given : List Held) → rules.ruled m.setting.classes w rule o given ≡ turns.ruled (class_code m.files) m.setting.classes w rule o given
ruled_same m w rule None given = refl
ruled_same m w rule (Some a) given = refl

-- with more objects
frames_longer : (m : Machine) (old : MachineState) (heap : Things) (t : State Place) → IsLonger old.heap heap → HasFrames m.setting.heads m.methods old t → HasFrames m.setting.heads m.methods (record old { heap = heap }) t
frames_longer m old heap t longer has =
    let names = old.heap.names in
    let many : length names ≤ length heap.names = let e = ap length longer.1 in let n = length-append names longer.0 in omega arith in
    record {
      frames = has.frames ∙ sym (ap (λ all. waiting m all old.frames.items) longer.1 ∙ waiting_stay m names longer.0 old.frames.items has.frames_within);
      due = has.due ∙ sym (ap (λ all. machine_due m.setting.heads m.methods all old.due) longer.1 ∙ due_stays m.setting.heads names longer.0 m.methods old.due has.due_within);
      frames_within = frames_more (length names) (length heap.names) many old.frames.items has.frames_within;
      due_within = due_more (length names) (length heap.names) many old.due has.due_within;
    }

module _ (k : Known) (old : MachineState) (heap : Things) (rule : LibraryRule) (receiver : Option Ref) (given : List Value) (work : Work) (longer : IsLonger old.heap heap)
    (does : DoesWhole k old.heap (λ s names w. rules.ruled s.classes w rule (option_map (name_of s.heads names) receiver) (map (held s.heads names) given)) heap work) (whole : StaysWhole k old.heap heap) where
  -- what the machine's rule says, with the receiver and the arguments
  abbrev pub asked : Machine → State Place → calls.Work
  asked m t = turns.ruled (class_code m.files) m.setting.classes t.world rule (option_map (name_of m.setting.heads old.heap.names) receiver) (map (held m.setting.heads old.heap.names) given)

  pub at_work : (m : Machine) (left : List Answer) (t : State Place) → IsMachine k m → Runs m old left t → IsAtWork k m (record old { heap = heap }) left t work (asked m t)
  at_work m left t is runs =
      let a = option_map (name_of m.setting.heads old.heap.names) receiver in
      let vs = map (held m.setting.heads old.heap.names) given in
      subst (IsAtWork k m (record old { heap = heap }) left t work) (ruled_same m t.world rule a vs)
      (record {
        is = is;
        frames = frames_longer m old heap t longer runs.frames;
        answers = runs.answers;
        filled = whole m.setting _ t.world (is_setting k m is) runs.shares runs.filled;
        works = does m.setting _ t.world (is_setting k m is) runs.shares runs.filled;
        sound = subst (IsSound m.setting.classes t.world) (sym (ruled_same m t.world rule a vs)) (sound.ruled (class_code m.files) m.setting.classes t.world rule a vs);
      })

  pub stands_at_work : StandsForOne k old → StandsAtWork k (record old { heap = heap }) work
  stands_at_work somewhere = record {
    machine = somewhere.machine;
    left = somewhere.left;
    there = somewhere.there;
    other = asked somewhere.machine somewhere.there;
    at = at_work somewhere.machine somewhere.left somewhere.there somewhere.is somewhere.runs;
  }
