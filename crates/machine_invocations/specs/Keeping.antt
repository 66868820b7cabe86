-- What a refused call leaves of a state.
use Rattle.std.specs.Prelude.{◌≡◌, ◌≤◌, List, [], length, refl}
use Rattle.std.proofs.Common.{sym, ◌∙◌, ap, subst, arith, length-append}
use Rattle.std.specs.List.{AllByRecursion}
use Rattle.std.proofs.lemmas.List.{append-nil}
use Rattle.class_world.specs.Tables.{Known}
use Rattle.class_machine.specs.ClassFiles.{Place}
use Rattle.class_machine.specs.Machine.{State}
use Rattle.class_machine.specs.World.{World}
use Rattle.machine_values.specs.declared.names.Name.{Name}
use Rattle.machine_values.specs.declared.script.Answer.{Answer}
use Rattle.machine_values.specs.declared.state.MachineState.{MachineState}
use Rattle.machine_values.specs.States.{machine_due, IsFrameWithin, IsDueWithin}
use Rattle.machine_requests.specs.Growth.{due_stays}
use Rattle.machine_requests.specs.Objects.{AreFilled}
use Rattle.machine_requests.specs.Replies.{IsLonger}
use Rattle.machine_requests.specs.Shares.{Shares, others_of}
use Rattle.machine_steps.specs.Programs.{Machine, IsMachine}
use Rattle.machine_steps.specs.Runs.{Runs}
use Rattle.machine_steps.specs.Running.{waiting}
use Rattle.machine_steps.specs.Within.{frames_more, due_more}
use Rattle.machine_steps.specs.Going.{waiting_stay}

-- The frames and what is due are the same. Objects may have been added that no world tells of: whatever world of the machine the
-- heap and the tables stood for, they stand for it still.
pub record Keeps (k : Known) (old new : MachineState) : Type 0 where
  pub frames : new.frames.items ≡ old.frames.items
  pub due : new.due ≡ old.due
  pub statics : new.statics ≡ old.statics
  pub begun : new.begun ≡ old.begun
  pub names : IsLonger old.heap new.heap
  pub shares : (m : Machine) (w : World) → IsMachine k m → Shares m.setting old.heap (others_of old) w → Shares m.setting new.heap (others_of new) w
  pub filled : (m : Machine) (w : World) → IsMachine k m → Shares m.setting old.heap (others_of old) w → AreFilled old.heap m.setting → AreFilled new.heap m.setting

-- so the state stands for what it stood for
pub keeps_runs : (k : Known) (old new : MachineState) → Keeps k old new → (m : Machine) (left : List Answer) (t : State Place) → IsMachine k m → Runs m old left t → Runs m new left t
keeps_runs k old new keeps m left t is runs =
    let names = old.heap.names in
    let more = keeps.names.0 in
    let longer = keeps.names.1 in
    let many : length names ≤ length new.heap.names = let e = ap length longer in let n = length-append names more in omega arith in
    record {
      shares = keeps.shares m t.world is runs.shares;
      frames = record {
        frames = runs.frames.frames ∙ sym (
            ap (waiting m new.heap.names) keeps.frames ∙ ap (λ (all : List Name). waiting m all old.frames.items) longer
            ∙ waiting_stay m names more old.frames.items runs.frames.frames_within
            );
        due = runs.frames.due ∙ sym (
            ap (machine_due m.setting.heads m.methods new.heap.names) keeps.due ∙ ap (λ (all : List Name). machine_due m.setting.heads m.methods all old.due) longer
            ∙ due_stays m.setting.heads names more m.methods old.due runs.frames.due_within
            );
        frames_within = subst (AllByRecursion (IsFrameWithin (length new.heap.names))) (sym keeps.frames) (frames_more (length names) (length new.heap.names) many old.frames.items runs.frames.frames_within);
        due_within = subst (IsDueWithin (length new.heap.names)) (sym keeps.due) (due_more (length names) (length new.heap.names) many old.due runs.frames.due_within);
      };
      answers = runs.answers;
      filled = keeps.filled m t.world is runs.shares runs.filled;
    }

-- the state is as it was; only the room for its frames may be another
pub record IsSame (old new : MachineState) : Type 0 where
  pub rest : new ≡ record old { frames = new.frames }
  pub frames : new.frames.items ≡ old.frames.items

pub same_keeps : (k : Known) (old new : MachineState) → IsSame old new → Keeps k old new
same_keeps k old new same =
    subst (λ (s : MachineState). s.frames.items ≡ old.frames.items → Keeps k old s) (sym same.rest)
    (λ e. record {
      frames = e;
      due = refl;
      statics = refl;
      begun = refl;
      names = ([], sym (append-nil old.heap.names));
      shares = λ m w is shares. shares;
      filled = λ m w is shares filled. filled;
    }) same.frames
