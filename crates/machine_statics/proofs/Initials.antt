-- What a static field holds from the start is in the heap, which stands for what it stood for.
use Rattle.std.specs.Prelude.{◌≡◌, ℕ, zero, suc, ◌≤◌, List, [], ◌∷◌, ◌++◌, length, slice_index_or, Option, Some, None, refl}
use Rattle.std.specs.List.{AllByRecursion}
use Rattle.std.specs.Option.{option_map}
use Rattle.std.proofs.Common.{sym, ap, ◌∙◌, subst, arith, length-append}
use Rattle.class_file.specs.Pool.{Reference}
use Rattle.class_heads.specs.declared.types.FieldHead.{FieldHead}
use Rattle.class_heads.specs.declared.types.ClassHead.{ClassHead}
use Rattle.class_world.specs.Tables.{Known}
use Rattle.class_machine.specs.ClassFiles.{Place}
use Rattle.class_machine.specs.Declarations.{declared_in}
use Rattle.class_machine.specs.Machine.{State}
use Rattle.class_machine.specs.World.{World}
use Rattle.machine_values.specs.declared.names.Name.{Name}
use Rattle.machine_values.specs.declared.script.Answer.{Answer}
use Rattle.machine_values.specs.declared.state.MachineState.{MachineState}
use Rattle.machine_values.specs.declared.values.Value.{Value}
use Rattle.machine_values.specs.Standing.{held, Settled}
use Rattle.machine_values.specs.States.{IsStaticWithin}
use Rattle.machine_values.specs.Things.{Things}
use Rattle.machine_fields.specs.Constants.{IsHeld}
use Rattle.machine_fields.specs.Settings.{world_setting}
use Rattle.machine_requests.specs.Growth.{held_stays, settled_known}
use Rattle.machine_requests.specs.Objects.{StaysFilled}
use Rattle.machine_requests.specs.Replies.{IsLonger}
use Rattle.machine_requests.specs.Shares.{Others, Setting, Shares, others_of}
use Rattle.machine_requests.specs.Statics.{IsInitial}
use Rattle.machine_requests.specs.Telling.{AreDistinct}
use Rattle.machine_steps.specs.Programs.{IsRunnable, Machine, IsMachine}
use Rattle.machine_steps.specs.Runs.{Runs}
use Rattle.machine_steps.specs.Within.{settled_more}
use Rattle.machine_invocations.specs.Keeping.{Keeps}
use Rattle.machine_invocations.specs.Standards.{machine_of, by_machine}
use Rattle.machine_statics.proofs.Bare.{bare}

-- ---- static fields as objects are added

static_more : (n k : ℕ) → n ≤ k → (o : Option Value) → IsStaticWithin n o → IsStaticWithin k o
static_more n k more None h = tt
static_more n k more (Some v) h = settled_more n k more v h

statics_more : (n k : ℕ) → n ≤ k → (os : List (Option Value)) → AllByRecursion (IsStaticWithin n) os → AllByRecursion (IsStaticWithin k) os
statics_more n k more [] h = tt
statics_more n k more (o ∷ os) h = (static_more n k more o h.0, statics_more n k more os h.1)

static_at : (n : ℕ) (os : List (Option Value)) (i : ℕ) → AllByRecursion (IsStaticWithin n) os → IsStaticWithin n (slice_index_or os i None)
static_at n [] zero h = tt
static_at n [] (suc i) h = tt
static_at n (o ∷ os) zero h = h.0
static_at n (o ∷ os) (suc i) h = static_at n os i h.1

static_stays : (heads : List ClassHead) (names more : List Name) (o : Option Value) → IsStaticWithin (length names) o → option_map (held heads names) o ≡ option_map (held heads (names ++ more)) o
static_stays heads names more None h = refl
static_stays heads names more (Some v) h = ap Some (sym (held_stays heads names more v (settled_known (length names) v h)))

-- ---- the heap with the value

module _ (k : Known) (runnable : IsRunnable k) (old : MachineState) (heap : Things) (v : Value) (head : ClassHead) (field : FieldHead) (longer : IsLonger old.heap heap)
    (holds : (others : Others) (w : World) → AreDistinct k.heads → Shares (world_setting k) old.heap others w → IsHeld (world_setting k) ((world_setting k).classes.initial (declared_in head.name field.name)) heap others w v)
    (filled : (s : Setting) → StaysFilled old.heap heap s) where
  abbrev bare_others : Others
  bare_others = record (others_of old) { statics = [] }

  module _ (fields methods : ℕ → Reference) (is : IsMachine k (machine_of k fields methods)) (w : World) (shares : Shares (machine_of k fields methods).setting old.heap (others_of old) w) where
    few_shares : Shares (world_setting k) old.heap bare_others w
    few_shares = record {
      heap = shares.heap;
      fit = shares.fit;
      statics = λ n below. absurd (omega arith);
      statics_within = tt;
      begun = shares.begun;
      monitors = shares.monitors;
      monitors_within = shares.monitors_within;
      unentered = shares.unentered;
    }

    held_there : IsHeld (world_setting k) ((world_setting k).classes.initial (declared_in head.name field.name)) heap bare_others w v
    held_there = holds bare_others w is.distinct few_shares

    many : length old.heap.names ≤ length heap.names
    many = let e = ap length longer.1 in let n = length-append old.heap.names longer.0 in omega arith

    all_shares : Shares (machine_of k fields methods).setting heap (others_of old) w
    all_shares =
        let after = held_there.shares in
        record {
          heap = after.heap;
          fit = after.fit;
          statics = λ n below.
              shares.statics n below ∙ static_stays k.heads old.heap.names longer.0 (slice_index_or old.statics n None) (static_at (length old.heap.names) old.statics n shares.statics_within)
              ∙ ap (λ names. option_map (held k.heads names) (slice_index_or old.statics n None)) (sym longer.1);
          statics_within = statics_more (length old.heap.names) (length heap.names) many old.statics shares.statics_within;
          begun = after.begun;
          monitors = after.monitors;
          monitors_within = after.monitors_within;
          unentered = after.unentered;
        }

  pub keeps_initial : (mid : MachineState) → mid ≡ record old { heap = heap } → Keeps k old mid
  keeps_initial mid same =
      subst (Keeps k old) (sym same)
      (record {
        frames = refl;
        due = refl;
        statics = refl;
        begun = refl;
        names = longer;
        shares = λ m w is shares. by_machine k (λ x. Shares x.setting old.heap (others_of old) w → Shares x.setting heap (others_of old) w) m (λ fields methods there s. all_shares fields methods there w s) is shares;
        filled = λ m w is shares was. filled m.setting (bare k runnable m is) shares.heap.objects.whole was;
      })

  pub initial_there : (m : Machine) (left : List Answer) (t : State Place) → IsMachine k m → Runs m old left t → (number : ℕ) → m.setting.field_names number ≡ declared_in head.name field.name → (things : Things) → things ≡ heap
      → IsInitial things number v m.setting × Settled (length things.names) v
  initial_there m left t is runs number named things same =
      subst (λ (h : Things). IsInitial h number v m.setting × Settled (length h.names) v) (sym same)
      (by_machine k (λ x. Shares x.setting old.heap (others_of old) t.world → x.setting.field_names number ≡ declared_in head.name field.name → IsInitial heap number v x.setting × Settled (length heap.names) v) m
      (λ fields methods there s n.
      let h = held_there fields methods there t.world s in
      (record { same = ap (world_setting k).classes.initial n ∙ sym h.same }, h.settled)) is runs.shares named)
