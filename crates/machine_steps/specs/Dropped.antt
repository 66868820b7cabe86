-- A state whose topmost frames are left.
use Rattle.std.specs.Prelude.{◌≡◌, ℕ, suc, zero, List, [], ◌∷◌, map, reverse, take, drop, length, refl}
use Rattle.std.specs.List.{AllByRecursion}
use Rattle.std.proofs.Common.{sym, ◌∙◌, ap, subst}
use Rattle.class_heads.specs.declared.types.ClassHead.{ClassHead}
use Rattle.class_world.specs.Tables.{Known}
use Rattle.class_machine.specs.World.{World}
use Rattle.class_machine.specs.Machine.{State, leaving}
use Rattle.class_machine.specs.Values as machine
use Rattle.class_machine.specs.ClassFiles.{Place}
use Rattle.std.specs.Prelude.{Option, Some, None}
use Rattle.machine_values.specs.declared.names.Name.{Name}
use Rattle.machine_values.specs.declared.frames.Frame.{Frame}
use Rattle.machine_values.specs.declared.script.Answer.{Answer}
use Rattle.machine_values.specs.declared.state.MachineState.{MachineState}
use Rattle.machine_values.specs.Things.{Things}
use Rattle.machine_values.specs.States.{machine_due, IsFrameWithin, IsDueWithin}
use Rattle.machine_requests.specs.Telling.{AreDistinct}
use Rattle.machine_requests.specs.Shares.{Setting, Shares, others_of}
use Rattle.machine_requests.specs.Replies.{object}
use Rattle.machine_requests.specs.Objects.{AreFilled}
use Rattle.machine_steps.specs.Programs.{Machine, IsMachine}
use Rattle.machine_steps.specs.Runs.{IsMethod, IsDueFormed, IsFormed, Runs}
use Rattle.machine_steps.specs.Running.{waiting}
use Rattle.machine_steps.specs.Leaving.{left_by, Drops}

pub all_taken : {A : Type 0} (P : A → Type 0) (n : ℕ) (xs : List A) → AllByRecursion P xs → AllByRecursion P (take n xs)
all_taken P zero xs h = tt
all_taken P (suc n) [] h = tt
all_taken P (suc n) (x ∷ xs) h = (h.0, all_taken P n xs h.1)

pub formed_dropped : (k : Known) (old new : MachineState) (count : ℕ) → Drops old new count → IsFormed k old → IsFormed k new
formed_dropped k old new count drops formed = record {
  statics = ap (λ (s : MachineState). length s.statics) drops.rest ∙ formed.statics;
  begun = ap (λ (s : MachineState). length s.begun) drops.rest ∙ formed.begun;
  frames = subst (AllByRecursion (λ (h : Frame). IsMethod k h.method.0)) (sym drops.frames) (all_taken (λ (h : Frame). IsMethod k h.method.0) count old.frames.items formed.frames);
  due = subst (IsDueFormed k) (sym (ap (λ (s : MachineState). s.due) drops.rest)) formed.due;
}

answers_kept : (s : Setting) (names : List Name) (gs : List Frame) (w : World) → (left_by s names gs w).answers ≡ w.answers
answers_kept s names [] w = refl
answers_kept s names (g ∷ gs) w = answers_kept s names gs (leaving (object s names g.monitor) w) ∙ one (object s names g.monitor) where
  one : (a : Option machine.Name) → (leaving a w).answers ≡ w.answers
  one None = refl
  one (Some a) = refl

pub dropped_runs : (k : Known) (m : Machine) (old new : MachineState) (answers : List Answer) (t : State Place) (count : ℕ) → IsMachine k m → Drops old new count → Runs m old answers t
    → Runs m new answers (record t { frames = waiting m old.heap.names (take count old.frames.items); world = left_by m.setting old.heap.names (reverse (drop count old.frames.items)) t.world })
dropped_runs k m old new answers t count is drops runs =
    let names = old.heap.names in
    let w = left_by m.setting names (reverse (drop count old.frames.items)) t.world in
    let heap : new.heap ≡ old.heap = ap (λ (s : MachineState). s.heap) drops.rest in
    let due : new.due ≡ old.due = ap (λ (s : MachineState). s.due) drops.rest in
    let within = runs.frames.frames_within in
    record {
      shares = subst (λ (h : Things). Shares m.setting h (others_of new) w) (sym heap)
          (drops.shares m.setting t.world (subst AreDistinct (sym is.heads) is.distinct) within runs.shares);
      frames = record {
        frames = sym (ap (λ (fs : List Frame). waiting m new.heap.names fs) drops.frames ∙ ap (λ (h : Things). waiting m h.names (take count old.frames.items)) heap);
        due = runs.frames.due ∙ sym (ap (λ (h : Things). machine_due m.setting.heads m.methods h.names new.due) heap ∙ ap (machine_due m.setting.heads m.methods names) due);
        frames_within = subst (λ (h : Things). AllByRecursion (IsFrameWithin (length h.names)) new.frames.items) (sym heap)
            (subst (AllByRecursion (IsFrameWithin (length names))) (sym drops.frames) (all_taken (IsFrameWithin (length names)) count old.frames.items within));
        due_within = subst (λ (h : Things). IsDueWithin (length h.names) new.due) (sym heap) (subst (IsDueWithin (length names)) (sym due) runs.frames.due_within);
      };
      answers = answers_kept m.setting names (reverse (drop count old.frames.items)) t.world ∙ runs.answers;
      filled = subst (λ (h : Things). AreFilled h m.setting) (sym heap) runs.filled;
    }
