-- What was taken is put back.
use Rattle.std.specs.Prelude.{◌≡◌, ℕ, List, [], ◌∷◌, ◌++◌, map, reverse, length}
use Rattle.std.specs.List.{AllByRecursion}
use Rattle.std.proofs.Common.{sym, ◌∙◌, ap, subst, append_assoc}
use Rattle.std.proofs.lemmas.List.{append_cancel_right, map-append, reverse-append}
use Rattle.class_world.specs.Tables.{Known}
use Rattle.class_machine.specs.ClassFiles.{Place}
use Rattle.class_machine.specs.Machine.{State}
use Rattle.class_machine.specs.Turn as turns
use Rattle.class_machine.specs.World.{World}
use Rattle.machine_values.specs.declared.frames.Frame.{Frame}
use Rattle.machine_values.specs.declared.names.Name.{Name}
use Rattle.machine_values.specs.declared.script.Answer.{Answer}
use Rattle.machine_values.specs.declared.state.MachineState.{MachineState}
use Rattle.machine_values.specs.declared.values.Value.{Value}
use Rattle.machine_values.specs.States.{IsFrameWithin}
use Rattle.machine_requests.specs.Objects.{AreFilled}
use Rattle.machine_requests.specs.Shares.{Shares, others_of}
use Rattle.machine_steps.specs.Giving.{with_values}
use Rattle.machine_steps.specs.Programs.{Machine}
use Rattle.machine_steps.specs.Running.{seen_by, waiting, all_front, all_last}
use Rattle.machine_steps.specs.Runs.{IsMethod, IsFormed, Runs}
use Rattle.machine_invocations.specs.Keeping.{Keeps}
use Rattle.machine_invokes.specs.Taking.{Takes, PutsBack}

-- ---- what holds of all

all_behind : {A : Type 0} (P : A → Type 0) (xs ys : List A) → AllByRecursion P (xs ++ ys) → AllByRecursion P ys
all_behind P [] ys h = h
all_behind P (x ∷ xs) ys h = all_behind P xs ys h.1

all_joined : {A : Type 0} (P : A → Type 0) (xs ys : List A) → AllByRecursion P xs → AllByRecursion P ys → AllByRecursion P (xs ++ ys)
all_joined P [] ys h g = g
all_joined P (x ∷ xs) ys h g = (h.0, all_joined P xs ys h.1 g)

all_again : {A : Type 0} (P : A → Type 0) (rest above : List A) (f g : A) → AllByRecursion P (rest ++ f ∷ []) → AllByRecursion P (rest ++ g ∷ above) → AllByRecursion P (rest ++ f ∷ above)
all_again P rest above f g were are = all_joined P rest (f ∷ above) (all_front P rest f were) (all_last P rest f were, (all_behind P rest (g ∷ above) are).1)

-- ---- the state as it was

module _ (k : Known) (old mid new final : MachineState) (vs : List Value) (takes : Takes old mid vs) (index : ℕ) (at : length takes.rest ≡ index) (puts : PutsBack index vs new final) where
  abbrev now : Frame
  now = with_values takes.before takes.left

  items_back : (above : List Frame) → new.frames.items ≡ takes.rest ++ now ∷ above → final.frames.items ≡ takes.rest ++ takes.before ∷ above
  items_back above items = puts.frames takes.rest above takes.before now at items takes.taken

  pub keeps_back : Keeps k mid new → Keeps k old final
  keeps_back keeps =
      let S : Machine → World → MachineState → Type 0 = λ m w s. Shares m.setting s.heap (others_of s) w in
      let there = λ (m : Machine) (w : World) (shares : Shares m.setting old.heap (others_of old) w). subst (S m w) (sym takes.turned.same) shares in
      record {
        frames = items_back [] (keeps.frames ∙ takes.turned.after) ∙ sym takes.turned.before;
        due = ap (λ (s : MachineState). s.due) puts.same ∙ keeps.due ∙ ap (λ (s : MachineState). s.due) takes.turned.same;
        statics = ap (λ (s : MachineState). s.statics) puts.same ∙ keeps.statics ∙ ap (λ (s : MachineState). s.statics) takes.turned.same;
        begun = ap (λ (s : MachineState). s.begun) puts.same ∙ keeps.begun ∙ ap (λ (s : MachineState). s.begun) takes.turned.same;
        names = (keeps.names.0, ap (λ (s : MachineState). s.heap.names) puts.same ∙ keeps.names.1 ∙ ap (λ (s : MachineState). s.heap.names ++ keeps.names.0) takes.turned.same);
        shares = λ m w is shares. subst (S m w) (sym puts.same) (keeps.shares m w is (there m w shares));
        filled = λ m w is shares filled.
            subst (λ (s : MachineState). AreFilled s.heap m.setting) (sym puts.same)
            (keeps.filled m w is (there m w shares) (subst (λ (s : MachineState). AreFilled s.heap m.setting) (sym takes.turned.same) filled));
      }

  pub formed_back : (above : List Frame) → new.frames.items ≡ takes.rest ++ now ∷ above → IsFormed k old → IsFormed k new → IsFormed k final
  formed_back above items were are =
      let P : Frame → Type 0 = λ f. IsMethod k f.method.0 in
      subst (λ (s : MachineState). s.frames.items ≡ takes.rest ++ takes.before ∷ above → IsFormed k s) (sym puts.same)
      (λ e. record {
        statics = are.statics;
        begun = are.begun;
        frames = subst (AllByRecursion P) (sym e) (all_again P takes.rest above takes.before now (subst (AllByRecursion P) takes.turned.before were.frames) (subst (AllByRecursion P) items are.frames));
        due = are.due;
      }) (items_back above items)

-- ---- frames above it

abbrev seen_in : Machine → List Name → Frame → turns.Frame Place
seen_in m names f = seen_by m names f

reversed_at : {A : Type 0} (rest above : List A) (x : A) → reverse (rest ++ x ∷ above) ≡ reverse above ++ x ∷ reverse rest
reversed_at rest above x = reverse-append rest (x ∷ above) ∙ ap (λ xs. xs ++ reverse rest) (reverse-append (x ∷ []) above) ∙ append_assoc (reverse above) (x ∷ []) (reverse rest)

seen_at : (m : Machine) (names : List Name) (rest above : List Frame) (f : Frame)
    → map (seen_in m names) (reverse (rest ++ f ∷ above)) ≡ map (seen_in m names) (reverse above) ++ seen_in m names f ∷ waiting m names rest
seen_at m names rest above f = ap (map (seen_in m names)) (reversed_at rest above f) ∙ map-append (seen_in m names) (reverse above) (f ∷ reverse rest)

-- the frame is as it was, below the frames that were put above it
pub back_runs : (m : Machine) (old new final : MachineState) (left : List Answer) (u : State Place) (rest above : List Frame) (f g : Frame) (top : List (turns.Frame Place))
    → AllByRecursion (IsFrameWithin (length new.heap.names)) (rest ++ f ∷ []) → new.frames.items ≡ rest ++ g ∷ above → final.frames.items ≡ rest ++ f ∷ above → final ≡ record new { frames = final.frames }
    → Runs m new left u → u.frames ≡ top ++ seen_in m new.heap.names g ∷ waiting m new.heap.names rest
    → Runs m final left (record u { frames = top ++ seen_in m new.heap.names f ∷ waiting m new.heap.names rest })
back_runs m old new final left u rest above f g top were items back same runs frames =
    let names = new.heap.names in
    let n = length names in
    let on_top : top ≡ map (seen_in m names) (reverse above) =
    append_cancel_right top (map (seen_in m names) (reverse above)) (seen_in m names g ∷ waiting m names rest)
    (sym frames ∙ runs.frames.frames ∙ ap (λ (fs : List Frame). map (seen_in m names) (reverse fs)) items ∙ seen_at m names rest above g) in
    subst (λ (s : MachineState). s.frames.items ≡ rest ++ f ∷ above → Runs m s left (record u { frames = top ++ seen_in m names f ∷ waiting m names rest })) (sym same)
    (λ e. record {
      shares = runs.shares;
      frames = record {
        frames = ap (λ (fs : List (turns.Frame Place)). fs ++ seen_in m names f ∷ waiting m names rest) on_top ∙ sym (ap (λ (fs : List Frame). map (seen_in m names) (reverse fs)) e ∙ seen_at m names rest above f);
        due = runs.frames.due;
        frames_within = subst (AllByRecursion (IsFrameWithin n)) (sym e) (all_again (IsFrameWithin n) rest above f g were (subst (AllByRecursion (IsFrameWithin n)) items runs.frames.frames_within));
        due_within = runs.frames.due_within;
      };
      answers = runs.answers;
      filled = runs.filled;
    }) back
