-- What becomes of an instruction that needs a class initialised.
use Rattle.std.specs.Prelude.{◌≡◌, Bool, true, false, if◌then◌else◌, List, [], ◌∷◌, ◌++◌, Some, None, refl}
use Rattle.std.proofs.Common.{sym, ap, ◌∙◌, subst, inl, inr}
use Rattle.std.specs.Prelude.{◌⊎◌, ℕ, map, reverse}
use Rattle.std.proofs.lemmas.Bool.{false≢true}
use Rattle.class_world.specs.Tables.{Known}
use Rattle.class_machine.specs.ClassFiles.{Place, class_code}
use Rattle.class_machine.specs.Effect.{Effect, is_broken}
use Rattle.class_machine.specs.Events as events
use Rattle.class_machine.specs.Machine as machines
use Rattle.class_machine.specs.Machine.{Due, State, moved}
use Rattle.class_machine.specs.Operations.{Operation}
use Rattle.class_machine.specs.Turn as turns
use Rattle.class_machine.specs.Turn.{Turn, Stays, Completes, Enters, Leaves, Begins, Raises, Finishes, Link, Refused, Needs, stops, pending, link, linked, initialised, resolved, taken}
use Rattle.class_machine.specs.World.{World, begin}
use Rattle.machine_values.specs.declared.frames.Frame.{Frame}
use Rattle.machine_values.specs.declared.observed.Ending.TheVariants.{Unresolved, Broken}
use Rattle.machine_values.specs.declared.script.Answer.{Answer}
use Rattle.machine_values.specs.declared.state.MachineState.{MachineState}
use Rattle.machine_steps.specs.declared.step.Step.{Step}
use Rattle.machine_steps.specs.declared.step.Step.TheVariants.{Went, Ended}
use Rattle.machine_steps.specs.Executing.{executes}
use Rattle.machine_steps.specs.Moves.{Moves}
use Rattle.machine_steps.specs.Programs.{Machine, IsMachine}
use Rattle.machine_steps.specs.Running.{seen_by, waiting, first_same, others_same, frames_are}
use Rattle.machine_steps.specs.Runs.{Runs, Stepped}
use Rattle.machine_invocations.specs.Initialising as starting
use Rattle.machine_invocations.specs.Initialising.{has_frame, begun_state}
use Rattle.machine_statics.specs.Triggers.{effect_of, takes, MovesWhere}

-- ---- the running frame

last_split : {A : Type 0} (xs : List A) → (xs ≡ []) ⊎ ((rest : List A) × (g : A) × (xs ≡ rest ++ g ∷ []))
last_split [] = inl refl
last_split {A} (x ∷ xs) = by (last_split xs) where
  by : (xs ≡ []) ⊎ ((rest : List A) × (g : A) × (xs ≡ rest ++ g ∷ [])) → (x ∷ xs ≡ []) ⊎ ((rest : List A) × (g : A) × (x ∷ xs ≡ rest ++ g ∷ []))
  by (inl e) = inr ([], x, ap (λ ys. x ∷ ys) e)
  by (inr r) = inr (x ∷ r.0, r.1, ap (λ ys. x ∷ ys) r.2)

-- no frame of the machine runs where none is kept
pub none_runs : (m : Machine) (old : MachineState) (left : List Answer) (t : State Place) (f : turns.Frame Place) (below : List (turns.Frame Place)) → old.frames.items ≡ [] → Runs m old left t → t.frames ≡ f ∷ below → ⊥
none_runs m old left t f below none runs top =
    let e : [] ≡ f ∷ below = sym (runs.frames.frames ∙ ap (λ fs. map (seen_by m old.heap.names) (reverse fs)) none) ∙ top in cc

-- what holds where the last frame kept is the machine's running one, holds of whatever running frame it has
pub at_top : (k : Known) (old : MachineState) (P : Machine → List Answer → State Place → turns.Frame Place → List (turns.Frame Place) → Type 0)
    → ((rest : List Frame) (g : Frame) → old.frames.items ≡ rest ++ g ∷ [] → (m : Machine) (left : List Answer) (t : State Place) → IsMachine k m → Runs m old left t → P m left t (seen_by m old.heap.names g) (waiting m old.heap.names rest))
    → (m : Machine) (left : List Answer) (t : State Place) (f : turns.Frame Place) (below : List (turns.Frame Place)) → IsMachine k m → Runs m old left t → t.frames ≡ f ∷ below → P m left t f below
at_top k old P by m left t f below is runs top = split (last_split old.frames.items) where
  split : (old.frames.items ≡ []) ⊎ ((rest : List Frame) × (g : Frame) × (old.frames.items ≡ rest ++ g ∷ [])) → P m left t f below
  split (inl none) = absurd (none_runs m old left t f below none runs top)
  split (inr r) =
      let all : seen_by m old.heap.names r.1 ∷ waiting m old.heap.names r.0 ≡ f ∷ below = sym (frames_are m old left t r.0 r.1 runs r.2) ∙ top in
      subst (λ (x : turns.Frame Place). P m left t x below) (first_same _ _ _ _ all)
      (subst (λ (xs : List (turns.Frame Place)). P m left t (seen_by m old.heap.names r.1) xs) (others_same _ _ _ _ all) (by r.0 r.1 r.2 m left t is runs))

-- the same, of a frame that is the last one
pub at_last : (k : Known) (old : MachineState) (P : Machine → List Answer → State Place → turns.Frame Place → List (turns.Frame Place) → Type 0) (rest : List Frame) (g : Frame) → old.frames.items ≡ rest ++ g ∷ []
    → ((m : Machine) (left : List Answer) (t : State Place) → IsMachine k m → Runs m old left t → P m left t (seen_by m old.heap.names g) (waiting m old.heap.names rest))
    → (m : Machine) (left : List Answer) (t : State Place) (f : turns.Frame Place) (below : List (turns.Frame Place)) → IsMachine k m → Runs m old left t → t.frames ≡ f ∷ below → P m left t f below
at_last k old P rest g split by m left t f below is runs top =
    let all : seen_by m old.heap.names g ∷ waiting m old.heap.names rest ≡ f ∷ below = sym (frames_are m old left t rest g runs split) ∙ top in
    subst (λ (x : turns.Frame Place). P m left t x below) (first_same _ _ _ _ all)
    (subst (λ (xs : List (turns.Frame Place)). P m left t (seen_by m old.heap.names g) xs) (others_same _ _ _ _ all) (by m left t is runs))

-- ---- turns that say nothing as the run ends

abbrev pub is_quiet : Turn Place → Bool
is_quiet (Finishes (Some event) ending) = false
is_quiet turn = true

pub quiet_if : (b : Bool) (x y : Turn Place) → is_quiet x ≡ true → is_quiet y ≡ true → is_quiet (if b then x else y) ≡ true
quiet_if true x y h g = h
quiet_if false x y h g = g

module _ (m : Machine) (due : Due) (f : turns.Frame Place) (below : List (turns.Frame Place)) where
  -- the world before doesn't matter for them
  pub same_world : (turn : Turn Place) (w w' : World) → is_quiet turn ≡ true → moved (class_code m.files) m.setting.classes due turn w f below ≡ moved (class_code m.files) m.setting.classes due turn w' f below
  same_world (Stays place c u) w w' q = refl
  same_world (Completes said super place c u) w w' q = refl
  same_world (Enters callee c u) w w' q = refl
  same_world (Leaves result u) w w' q = refl
  same_world (Begins frames u) w w' q = refl
  same_world (Raises said x c u) w w' q = refl
  same_world (Finishes None ending) w w' q = refl
  same_world (Finishes (Some event) ending) w w' q = absurd (false≢true q)

-- ---- one instruction

module _ (m : Machine) (t : State Place) (f : turns.Frame Place) (below : List (turns.Frame Place)) (e : Effect Place) where
  abbrev turn : Turn Place
  turn = resolved (class_code m.files) m.setting.classes f t.world e

  abbrev to_step : Turn Place → machines.Step (State Place)
  to_step x = moved (class_code m.files) m.setting.classes t.due x t.world f below

  pub broken_turn : is_broken e ≡ true → turn ≡ stops events.Broken
  broken_turn h = ap (λ b. if b then stops events.Broken else linked (class_code m.files) m.setting.classes f t.world e (link (class_code m.files) m.setting.classes f e)) h

  linked_turn : (l : Link) → is_broken e ≡ false → link (class_code m.files) m.setting.classes f e ≡ l → turn ≡ linked (class_code m.files) m.setting.classes f t.world e l
  linked_turn l sound is =
      ap (λ b. if b then stops events.Broken else linked (class_code m.files) m.setting.classes f t.world e (link (class_code m.files) m.setting.classes f e)) sound
      ∙ ap (linked (class_code m.files) m.setting.classes f t.world e) is

  pub broken_there : (new : MachineState) (left : List Answer) → is_broken e ≡ true → Stepped m new left (Ended Broken) (to_step turn)
  broken_there new left h = subst (λ x. Stepped m new left (Ended Broken) (to_step x)) (sym (broken_turn h)) refl

  pub refused_there : (new : MachineState) (left : List Answer) (text name : List ℕ) → is_broken e ≡ false → link (class_code m.files) m.setting.classes f e ≡ Refused (events.Unresolved name) → text ≡ name
      → Stepped m new left (Ended (Unresolved text)) (to_step turn)
  refused_there new left text name sound refused same =
      subst (λ x. Stepped m new left (Ended (Unresolved text)) (to_step x)) (sym (linked_turn (Refused (events.Unresolved name)) sound refused)) (ap events.Unresolved same)

  module _ (class : List ℕ) (sound : is_broken e ≡ false) (needs : link (class_code m.files) m.setting.classes f e ≡ Needs class) where
    -- initialisers come first
    pub begins_first : (new : MachineState) (left : List Answer) → t.frames ≡ f ∷ below → starting.Begins m new left t class true → Stepped m new left Went (to_step turn)
    begins_first new left top begins =
        subst (λ x. Stepped m new left Went (to_step x)) (sym (linked_turn (Needs class) sound needs)) (by (pending (class_code m.files) m.setting.classes t.world class) refl begins.pushed) where
          by : (p : List (turns.Frame Place)) → pending (class_code m.files) m.setting.classes t.world class ≡ p → has_frame p ≡ true → Stepped m new left Went (to_step (initialised (class_code m.files) m.setting.classes f t.world e class p))
          by [] same some = absurd (false≢true some)
          by (g ∷ frames) same some =
              subst (λ fs. Runs m new left (record t { frames = fs; world = begin m.setting.classes t.world class })) (ap (λ p. p ++ t.frames) same ∙ ap (λ fs. (g ∷ frames) ++ fs) top) begins.runs

    -- no initialiser was pending
    none_pending : (mid : MachineState) (left : List Answer) → starting.Begins m mid left t class false → pending (class_code m.files) m.setting.classes t.world class ≡ []
    none_pending mid left begins = by (pending (class_code m.files) m.setting.classes t.world class) refl begins.pushed where
      by : (p : List (turns.Frame Place)) → pending (class_code m.files) m.setting.classes t.world class ≡ p → has_frame p ≡ false → pending (class_code m.files) m.setting.classes t.world class ≡ []
      by [] same none = same
      by (g ∷ frames) same none = absurd (false≢true (sym none))

    pub begins_none : (mid new : MachineState) (left : List Answer) (step : Step) → t.frames ≡ f ∷ below → starting.Begins m mid left t class false
        → is_quiet (taken (class_code m.files) m.setting.classes f (begin m.setting.classes t.world class) e) ≡ true
        → ((u : State Place) → u.due ≡ t.due → u.world ≡ begin m.setting.classes t.world class → Runs m mid left u → u.frames ≡ f ∷ below → Stepped m new left step (moved (class_code m.files) m.setting.classes u.due (taken (class_code m.files) m.setting.classes f u.world e) u.world f below))
        → Stepped m new left step (to_step turn)
    begins_none mid new left step top begins quiet goes =
        let none = none_pending mid left begins in
        let w = begin m.setting.classes t.world class in
        subst (λ x. Stepped m new left step (to_step x)) (sym (linked_turn (Needs class) sound needs ∙ ap (initialised (class_code m.files) m.setting.classes f t.world e class) none))
        (subst (Stepped m new left step) (same_world m t.due f below (taken (class_code m.files) m.setting.classes f w e) w t.world quiet)
        (goes (begun_state m t class) refl refl begins.runs (ap (λ p. p ++ t.frames) none ∙ top)))

-- ---- whole steps

module _ (k : Known) (old : MachineState) (operation : Operation) where
  abbrev pub IsSound : Type 0
  IsSound = (m : Machine) (left : List Answer) (t : State Place) (f : turns.Frame Place) (below : List (turns.Frame Place)) → IsMachine k m → Runs m old left t → t.frames ≡ f ∷ below → is_broken (effect_of operation m f) ≡ false

  abbrev pub Links : Link → Type 0
  Links l = (m : Machine) (f : turns.Frame Place) → IsMachine k m → is_broken (effect_of operation m f) ≡ false → link (class_code m.files) m.setting.classes f (effect_of operation m f) ≡ l

  pub breaks : (new : MachineState) → ((m : Machine) (left : List Answer) (t : State Place) (f : turns.Frame Place) (below : List (turns.Frame Place)) → IsMachine k m → Runs m old left t → t.frames ≡ f ∷ below → is_broken (effect_of operation m f) ≡ true)
      → Moves k old new (Ended Broken) (executes operation)
  breaks new h m left t f below is runs top = broken_there m t f below (effect_of operation m f) new left (h m left t f below is runs top)

  pub refuses : (new : MachineState) (text name : List ℕ) → IsSound → Links (Refused (events.Unresolved name)) → text ≡ name → Moves k old new (Ended (Unresolved text)) (executes operation)
  refuses new text name sound links same m left t f below is runs top =
      let ok = sound m left t f below is runs top in refused_there m t f below (effect_of operation m f) new left text name ok (links m f is ok) same

  module _ (mid begun : MachineState) (class : List ℕ) (sound : IsSound) (links : Links (Needs class)) (keeps : (m : Machine) (left : List Answer) (t : State Place) → IsMachine k m → Runs m old left t → Runs m mid left t) where
    abbrev pub Starts : Bool → Type 0
    Starts some = (m : Machine) (left : List Answer) (t : State Place) → IsMachine k m → Runs m mid left t → starting.Begins m begun left t class some

    pub goes_up : (some : Bool) → some ≡ true → Starts some → Moves k old begun Went (executes operation)
    goes_up some e starts m left t f below is runs top =
        let ok = sound m left t f below is runs top in
        begins_first m t f below (effect_of operation m f) class ok (links m f is ok) begun left top (subst (starting.Begins m begun left t class) e (starts m left t is (keeps m left t is runs)))

    pub goes_on : (some : Bool) → some ≡ false → Starts some → (new : MachineState) (step : Step) (Holds : Machine → turns.Frame Place → Type 0)
        → ((m : Machine) (left : List Answer) (t : State Place) (f : turns.Frame Place) (below : List (turns.Frame Place)) → IsMachine k m → Runs m old left t → t.frames ≡ f ∷ below → Holds m f)
        → ((m : Machine) (w : World) (f : turns.Frame Place) → is_quiet (taken (class_code m.files) m.setting.classes f w (effect_of operation m f)) ≡ true)
        → MovesWhere k Holds begun new step (takes operation) → Moves k old new step (executes operation)
    goes_on some e starts new step Holds holds quiet moves m left t f below is runs top =
        let ok = sound m left t f below is runs top in
        begins_none m t f below (effect_of operation m f) class ok (links m f is ok) begun new left step top
        (subst (starting.Begins m begun left t class) e (starts m left t is (keeps m left t is runs)))
        (quiet m (begin m.setting.classes t.world class) f)
        (λ u due world there same. moves m left u f below is there same (holds m left t f below is runs top))
