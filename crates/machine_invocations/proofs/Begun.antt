-- The state after a trigger.
use Rattle.std.specs.Prelude.{◌≡◌, ℕ, suc, ◌<◌, ◌==◌, Bool, true, false, not, List, [], ◌∷◌, ◌++◌, map, reverse, length, Result, Ok, Err, OnErr, refl}
use Rattle.std.proofs.Common.{sym, ap, ◌∙◌, subst, arith}
use Rattle.std.proofs.lemmas.Bool.{ne_eqb}
use Rattle.std.specs.List.{AllByRecursion}
use Rattle.std.proofs.lemmas.List.{map-append, reverse-append, append-nil, length-map, length-reverse}
use Rattle.class_file.specs.Pool.{Reference}
use Rattle.class_heads.specs.Hierarchy.{name_at}
use Rattle.class_world.specs.Tables.{Known}
use Rattle.class_machine.specs.Classes.{marked}
use Rattle.class_machine.specs.ClassFiles.{Place, class_code}
use Rattle.class_machine.specs.Machine.{State}
use Rattle.class_machine.specs.Turn as turns
use Rattle.class_machine.specs.Turn.{initialisers, pending}
use Rattle.machine_values.specs.declared.frames.Frame.{Frame}
use Rattle.machine_values.specs.declared.script.Answer.{Answer}
use Rattle.machine_values.specs.declared.state.MachineState.{MachineState}
use Rattle.machine_values.specs.States.{machine_frame, IsFrameWithin}
use Rattle.machine_steps.specs.Programs.{Machine, IsMachine}
use Rattle.machine_steps.specs.Runs.{IsMethod, IsFormed, Runs}
use Rattle.machine_invocations.specs.Methods.{classes_in}
use Rattle.machine_invocations.specs.Standards.{machine_of, by_machine}
use Rattle.machine_invocations.specs.Keeping.{Keeps}
use Rattle.machine_invocations.specs.Initialising.{ArePending, HasBegun, names_upward, has_frame, Begins}
use Rattle.machine_invocations.proofs.Names.{superclasses_named}

-- ---- what is left where nothing was done

pub keeps_same : (k : Known) (old new : MachineState) → new ≡ record old { frames = new.frames } → new.frames.items ≡ old.frames.items → Keeps k old new
keeps_same k old new same items =
    subst (λ (s : MachineState). s.frames.items ≡ old.frames.items → Keeps k old s) (sym same)
    (λ e. record {
      frames = e;
      due = refl;
      statics = refl;
      begun = refl;
      names = ([], sym (append-nil old.heap.names));
      shares = λ m w is shares. shares;
      filled = λ m w is shares filled. filled;
    }) items

pub on_err : {T E P : Type 0} (r : Result T E) → P → OnErr r P
on_err (Ok x) p = tt
on_err (Err e) p = p

pub formed_same : (k : Known) (old new : MachineState) → new ≡ record old { frames = new.frames } → new.frames.items ≡ old.frames.items → IsFormed k old → IsFormed k new
formed_same k old new same items formed =
    subst (λ (s : MachineState). s.frames.items ≡ old.frames.items → IsFormed k s) (sym same)
    (λ e. record { statics = formed.statics; begun = formed.begun; frames = subst (AllByRecursion (λ (f : Frame). IsMethod k f.method.0)) (sym e) formed.frames; due = formed.due }) items

-- ---- frames

all_append : {X : Type 0} (P : X → Type 0) (xs ys : List X) → AllByRecursion P xs → AllByRecursion P ys → AllByRecursion P (xs ++ ys)
all_append P [] ys h g = g
all_append P (x ∷ xs) ys h g = (h.0, all_append P xs ys h.1 g)

frame_there : (fs : List (turns.Frame Place)) → has_frame fs ≡ not (length fs == 0)
frame_there [] = refl
frame_there (f ∷ fs) = sym (ap not (ne_eqb (suc (length fs)) 0 (λ e. let none : suc (length fs) ≡ 0 = e in absurd (omega arith))))

pub none_fresh : (fresh : List Frame) (some : Bool) → some ≡ not (length fresh == 0) → some ≡ false → fresh ≡ []
none_fresh [] some e none = refl
none_fresh (f ∷ fresh) some e none = absurd (let bad : true ≡ false = ap not (sym (ne_eqb (suc (length fresh)) 0 (λ e. let zero : suc (length fresh) ≡ 0 = e in absurd (omega arith)))) ∙ sym e ∙ none in cc)

module _ (k : Known) (old : MachineState) (frames : MachineState) (fresh : List Frame) (begun : List Bool) (class : ℕ)
    (within : class < length k.heads) (pends : ArePending k old.begun class fresh) (added : frames.frames.items ≡ old.frames.items ++ fresh)
    (marks : (others : List (List ℕ)) → HasBegun k old.begun others → HasBegun k begun (marked others (names_upward k class))) where
  abbrev pub after : MachineState
  after = record old { frames = frames.frames; begun = begun }

  pub begins_formed : length begun ≡ length k.heads → IsFormed k old → IsFormed k after
  begins_formed len formed = record {
    statics = formed.statics;
    begun = len;
    frames = subst (AllByRecursion (λ (f : Frame). IsMethod k f.method.0)) (sym added) (all_append (λ (f : Frame). IsMethod k f.method.0) old.frames.items fresh formed.frames pends.bare.methods);
    due = formed.due;
  }

  module _ (fields methods : ℕ → Reference) (is : IsMachine k (machine_of k fields methods)) (answers : List Answer) (t : State Place) (runs : Runs (machine_of k fields methods) old answers t) where
    abbrev name : List ℕ
    name = name_at k.heads class

    upward : (classes_in k).superclasses name ≡ names_upward k class
    upward = superclasses_named k class is.distinct within

    has : HasBegun k old.begun t.world.begun
    has = runs.shares.begun

    pending_is : pending (class_code k.files) (classes_in k) t.world name ≡ map (machine_frame k.heads methods old.heap.names) (reverse fresh)
    pending_is =
        ap (initialisers (class_code k.files) (classes_in k) t.world.begun) upward ∙ sym (pends.same fields methods old.heap.names t.world.begun is has)

    frames_are : pending (class_code k.files) (classes_in k) t.world name ++ t.frames ≡ map (machine_frame k.heads methods old.heap.names) (reverse frames.frames.items)
    frames_are =
        let mf = machine_frame k.heads methods old.heap.names in
        ap (λ fs. fs ++ t.frames) pending_is ∙ ap (λ fs. map mf (reverse fresh) ++ fs) runs.frames.frames
        ∙ sym (map-append mf (reverse fresh) (reverse old.frames.items)) ∙ ap (map mf) (sym (reverse-append old.frames.items fresh)) ∙ ap (λ fs. map mf (reverse fs)) (sym added)

    pub begins_there : (some : Bool) → some ≡ not (length fresh == 0) → Begins (machine_of k fields methods) after answers t name some
    begins_there some e = record {
      runs = record {
        shares = record {
          heap = runs.shares.heap;
          fit = runs.shares.fit;
          statics = runs.shares.statics;
          statics_within = runs.shares.statics_within;
          begun = subst (λ classes. HasBegun k begun (marked t.world.begun classes)) (sym upward) (marks t.world.begun has);
          monitors = runs.shares.monitors;
          monitors_within = runs.shares.monitors_within;
          unentered = runs.shares.unentered;
        };
        frames = record {
          frames = frames_are;
          due = runs.frames.due;
          frames_within = subst (AllByRecursion (IsFrameWithin (length old.heap.names))) (sym added) (all_append (IsFrameWithin (length old.heap.names)) old.frames.items fresh runs.frames.frames_within (pends.bare.within (length old.heap.names)));
          due_within = runs.frames.due_within;
        };
        answers = runs.answers;
        filled = runs.filled;
      };
      pushed =
          let mf = machine_frame k.heads methods old.heap.names in
          ap has_frame pending_is ∙ frame_there (map mf (reverse fresh))
          ∙ ap (λ n. not (n == 0)) (length-map (reverse fresh) mf ∙ length-reverse fresh) ∙ sym e;
    }

  pub begins : (new : MachineState) (some : Bool) → new ≡ after → some ≡ not (length fresh == 0)
      → (m : Machine) (answers : List Answer) (t : State Place) → IsMachine k m → Runs m old answers t → Begins m new answers t (name_at k.heads class) some
  begins new some same e m answers t is runs =
      by_machine k (λ x. (answers : List Answer) (t : State Place) → Runs x old answers t → Begins x new answers t (name_at k.heads class) some) m
      (λ fields methods there left u r. subst (λ s. Begins (machine_of k fields methods) s left u (name_at k.heads class) some) (sym same) (begins_there fields methods there left u r some e))
      is answers t runs
