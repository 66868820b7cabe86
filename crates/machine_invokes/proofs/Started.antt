-- The trigger of the class of a static method.
use Rattle.std.specs.Prelude.{◌≡◌, ℕ, zero, suc, ◌<◌, ◌++◌, ◌&&◌, Bool, true, false, if◌then◌else◌, List, [], ◌∷◌, map, length, slice_index_or, Some, None, Result, Ok, Err, IfOk, refl}
use Rattle.std.specs.List.{AllByRecursion, list_all}
use Rattle.std.proofs.Common.{sym, ◌∙◌, ap, subst, arith}
use Rattle.std.proofs.lemmas.Bool.{and_parts}
use Rattle.std.proofs.lemmas.List.{append-nil}
use Rattle.aj_names.specs.declared.ids.MethodId.{MethodId}
use Rattle.class_file.specs.Pool.{Reference}
use Rattle.class_heads.specs.Hierarchy.{name_at, superclasses}
use Rattle.class_world.specs.Tables.{Known}
use Rattle.class_machine.specs.ClassFiles.{Place, class_code}
use Rattle.class_machine.specs.Classes.{is_among, marked}
use Rattle.class_machine.specs.Machine.{State}
use Rattle.class_machine.specs.Turn as turns
use Rattle.class_machine.specs.Turn.{initialisers, pending, own_initialiser}
use Rattle.class_machine.specs.World.{begin}
use Rattle.machine_values.specs.declared.frames.Frame.{Frame}
use Rattle.machine_values.specs.declared.script.Answer.{Answer}
use Rattle.machine_values.specs.declared.state.MachineState.{MachineState}
use Rattle.machine_values.specs.declared.values.Value.{Value}
use Rattle.machine_values.specs.Standing.{is_settled}
use Rattle.machine_steps.specs.Programs.{Machine, IsMachine}
use Rattle.machine_steps.specs.Runs.{Runs}
use Rattle.machine_invocations.specs.Initialising.{AddsFrames, Begins as BeginsIn, HasBegun, has_frame, names_upward}
use Rattle.machine_invocations.specs.Methods.{classes_in, Sees}
use Rattle.machine_invocations.specs.Standards.{machine_of, by_machine}
use Rattle.machine_invocations.proofs.Names.{superclasses_named}
use Rattle.machine_invokes.specs.Beginning.{HaveBegun}
use Rattle.machine_invokes.specs.Starting.{GoesOn, Triggers, Waiting, AreFine, Starts, StartsAtTop, StartsClass}
use Rattle.machine_invokes.specs.declared.starting.Start.{Start}
use Rattle.machine_invokes.specs.declared.starting.Start.TheVariants.{Missing, Breaks, Begins, Runs as Goes}
use Rattle.machine_invokes.specs.declared.choosing.Choice.TheVariants as choice
use Rattle.machine_invokes.specs.Choosing.{ChoosesStatic, LacksRoom}

-- ---- where all have begun

index_within : (xs : List Bool) (n : ℕ) → slice_index_or xs n false ≡ true → n < length xs
index_within [] n h = absurd (let e : false ≡ true = h in cc)
index_within (x ∷ xs) zero h = omega arith
index_within (x ∷ xs) (suc n) h = let less = index_within xs n h in omega (arith, less)

module _ (k : Known) (begun : List Bool) (names : List (List ℕ)) (len : length begun ≡ length k.heads) (has : HasBegun k begun names) where
  among : (place : ℕ) → slice_index_or begun place false ≡ true → is_among names (name_at k.heads place) ≡ true
  among place h = let less = index_within begun place h in has place (omega (arith, less, len)) ∙ h

  none_marked : (places : List ℕ) → AllByRecursion (λ (place : ℕ). slice_index_or begun place false ≡ true) places → marked names (map (name_at k.heads) places) ≡ names
  none_marked [] all = refl
  none_marked (place ∷ places) all =
      ap (λ (b : Bool). if b then marked names (map (name_at k.heads) places) else name_at k.heads place ∷ marked names (map (name_at k.heads) places)) (among place all.0) ∙ none_marked places all.1

  none_pends : (places : List ℕ) → AllByRecursion (λ (place : ℕ). slice_index_or begun place false ≡ true) places → initialisers (class_code k.files) (classes_in k) names (map (name_at k.heads) places) ≡ []
  none_pends [] all = refl
  none_pends (place ∷ places) all =
      ap (λ (b : Bool). initialisers (class_code k.files) (classes_in k) names (map (name_at k.heads) places) ++ (if b then [] else own_initialiser (class_code k.files) (classes_in k) (name_at k.heads place) ((classes_in k).initialiser (name_at k.heads place)))) (among place all.0)
      ∙ ap (λ (fs : List (turns.Frame Place)). fs ++ []) (none_pends places all.1)

module _ (k : Known) (old : MachineState) (class : ℕ) (within : class < length k.heads) (len : length old.begun ≡ length k.heads) where
  pub begun_goes : (name : List ℕ) → name_at k.heads class ≡ name → HaveBegun k old.begun class → Triggers k old old name None
  begun_goes name named have = record {
    same = refl;
    there = λ m left t is runs. by_machine k (λ x. Runs x old left t → GoesOn x old left t name) m (λ fields methods there here.
        let up : (classes_in k).superclasses name ≡ names_upward k class = ap ((classes_in k).superclasses) (sym named) ∙ superclasses_named k class there.distinct within in
        let has : HasBegun k old.begun t.world.begun = here.shares.begun in
        let mark : marked t.world.begun ((classes_in k).superclasses name) ≡ t.world.begun = ap (marked t.world.begun) up ∙ none_marked k old.begun t.world.begun len has (superclasses k.heads class) have.all in
        record {
          none = ap (initialisers (class_code k.files) (classes_in k) t.world.begun) up ∙ none_pends k old.begun t.world.begun len has (superclasses k.heads class) have.all;
          runs = subst (λ (b : List (List ℕ)). Runs (machine_of k fields methods) old left (record t { world = record t.world { begun = b } })) (sym mark) here;
        }) is runs;
  }

-- ---- where some hadn't

some_frame : (fs : List (turns.Frame Place)) → has_frame fs ≡ true → (f : turns.Frame Place) × (others : List (turns.Frame Place)) × (fs ≡ f ∷ others)
some_frame [] h = absurd (let e : false ≡ true = h in cc)
some_frame (f ∷ fs) h = (f, fs, refl)

no_frame : (fs : List (turns.Frame Place)) → has_frame fs ≡ false → fs ≡ []
no_frame [] h = refl
no_frame (f ∷ fs) h = absurd (let e : true ≡ false = h in cc)

module _ (k : Known) (old new : MachineState) (class name : List ℕ) (some : Bool) (named : class ≡ name) (adds : AddsFrames old new some)
    (begins : (m : Machine) (left : List Answer) (t : State Place) → IsMachine k m → Runs m old left t → BeginsIn m new left t class some) where
  pub some_wait : some ≡ true → Waiting k old new name
  some_wait is_some = record {
    put = record { own = adds.own; frames = adds.frames; same = adds.same };
    there = λ m left t is runs.
        let b = subst (λ (c : List ℕ). BeginsIn m new left t c some) named (begins m left t is runs) in
        let first = some_frame (pending (class_code m.files) m.setting.classes t.world name) (b.pushed ∙ is_some) in
        record { first = first.0; others = first.1; some = first.2; runs = b.runs };
  }

  pub none_wait : (before : List Bool) → before ≡ old.begun → some ≡ false → Triggers k old new name (Some before)
  none_wait before saved is_none = record {
    same = (saved, adds.same, adds.frames ∙ ap (λ own. old.frames.items ++ own) (adds.none is_none) ∙ append-nil old.frames.items);
    there = λ m left t is runs.
        let b = subst (λ (c : List ℕ). BeginsIn m new left t c some) named (begins m left t is runs) in
        let none = no_frame (pending (class_code m.files) m.setting.classes t.world name) (b.pushed ∙ is_none) in
        record {
          none = none;
          runs = subst (λ (fs : List (turns.Frame Place)). Runs m new left (record t { frames = fs ++ t.frames; world = begin m.setting.classes t.world name })) none b.runs;
        };
  }

-- ---- arguments that are fine

pub all_hold : {X : Type 0} (p : X → Bool) (xs : List X) → AllByRecursion (λ x. p x ≡ true) xs → list_all p xs ≡ true
all_hold p [] h = refl
all_hold p (x ∷ xs) h = ap (λ (b : Bool). b && list_all p xs) h.0 ∙ all_hold p xs h.1

pub all_found : {X : Type 0} (p : X → Bool) (xs : List X) → list_all p xs ≡ true → AllByRecursion (λ x. p x ≡ true) xs
all_found p [] h = tt
all_found p (x ∷ xs) h = let both = and_parts (p x) (list_all p xs) h in (both.0, all_found p xs both.1)

pub if_ok : {X E : Type 0} (r : Result X E) (P Q : X → Type 0) → ((x : X) → P x → Q x) → IfOk r P → IfOk r Q
if_ok (Ok x) P Q h p = h x p
if_ok (Err e) P Q h p = p

-- ---- the call

module _ (k : Known) (old : MachineState) (r : Reference) (given : List Value) (f : Frame) (same : (rest : List Frame) (g : Frame) → old.frames.items ≡ rest ++ g ∷ [] → f ≡ g) where
  pub missing_starts : ChoosesStatic k f r given choice.Missing → StartsAtTop k old old r given Missing
  missing_starts chooses rest g top = subst (λ (h : Frame). Starts k h r given old old Missing) (same rest g top) (refl, λ fields methods is fine. chooses fields methods old.heap.names is)

  pub broken_starts : ChoosesStatic k f r given choice.Breaks → StartsAtTop k old old r given Breaks
  broken_starts chooses rest g top = subst (λ (h : Frame). Starts k h r given old old Breaks) (same rest g top) (refl, λ fields methods is fine. chooses fields methods old.heap.names is)

  pub class_starts : (new : MachineState) (method : MethodId) (start : Start) → ChoosesStatic k f r given (choice.Runs method) → AreFine old given → StartsClass k old new method.0 start → StartsAtTop k old new r given start
  class_starts new method start chooses fine starts rest g top = subst (λ (h : Frame). Starts k h r given old new start) (same rest g top) (by start starts) where
    by : (x : Start) → StartsClass k old new method.0 x → Starts k f r given old new x
    by Missing none = absurd none
    by Breaks none = absurd none
    by Begins waits = record { class = chooses.method.name.class; link = λ fields methods is fine'. chooses.link fields methods old.heap.names is; waiting = waits chooses.method chooses.sees }
    by (Goes id saved) goes = record {
      method = chooses.method;
      sees = subst (λ n. Sees k n chooses.method) (sym goes.0) chooses.sees;
      found = chooses.found;
      link = λ fields methods is fine'. chooses.link fields methods old.heap.names is;
      roomy = subst (λ n. LacksRoom k f n false) (sym goes.0) chooses.roomy;
      fine = fine;
      triggers = goes.1 chooses.method chooses.sees;
    }

pub unsettled_starts : (k : Known) (old : MachineState) (r : Reference) (given : List Value) → list_all (is_settled (length old.heap.names)) given ≡ false → StartsAtTop k old old r given Breaks
unsettled_starts k old r given isnt rest g top = (refl, λ fields methods is fine. absurd (let e : true ≡ false = sym (all_hold (is_settled (length old.heap.names)) given fine) ∙ isnt in cc))
