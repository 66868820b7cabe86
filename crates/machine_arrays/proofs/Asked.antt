-- What the machine makes of an instruction that asks for arrays of arrays.
use Rattle.std.specs.Prelude.{◌≡◌, ℕ, ◌⊎◌, Bool, true, false, if◌then◌else◌, is_some, List, [], ◌∷◌, ◌++◌, map, reverse, take, length, ℤ, Some, refl}
use Rattle.std.specs.List.{list_any}
use Rattle.std.proofs.Common.{sym, ◌∙◌, ap, subst, inl, inr}
use Rattle.aj_names.specs.declared.types.FieldType.{FieldType}
use Rattle.class_file.specs.Code.{has_dimensions}
use Rattle.class_world.specs.Tables.{Known}
use Rattle.class_machine.specs.declared.kinds.Fault.{Fault}
use Rattle.class_machine.specs.Answers as answers
use Rattle.class_machine.specs.Answers.{is_negative, make_arrays, new_arrays}
use Rattle.class_machine.specs.Classes.{Classes, dotted}
use Rattle.class_machine.specs.ClassFiles.{Place, class_code}
use Rattle.class_machine.specs.Effect.{Ask, MakeArray, Effect}
use Rattle.class_machine.specs.Events as events
use Rattle.class_machine.specs.Machine as machines
use Rattle.class_machine.specs.Machine.{State, moved}
use Rattle.class_machine.specs.Operations.{NewArrays}
use Rattle.class_machine.specs.Turn as turns
use Rattle.class_machine.specs.Turn.{Turn, Stays, stops, stays, fails, replied, resolved, linked, or_free, missing_class}
use Rattle.class_machine.specs.Values as machine
use Rattle.class_machine.specs.Values.{Held, Content, Plain, pushed_on, has_room, held_width}
use Rattle.class_machine.specs.World.{World}
use Rattle.machine_values.specs.declared.frames.Frame.{Frame}
use Rattle.machine_values.specs.declared.names.Name.{Name}
use Rattle.machine_values.specs.declared.observed.Ending.TheVariants.{Broken, Unresolved}
use Rattle.machine_values.specs.declared.state.MachineState.{MachineState}
use Rattle.machine_values.specs.declared.values.Ref.{Ref}
use Rattle.machine_values.specs.declared.values.Value.TheVariants as value
use Rattle.machine_values.specs.Standing.{name_of}
use Rattle.machine_values.specs.Types.{type_name}
use Rattle.machine_requests.specs.Replies.{IsLonger}
use Rattle.machine_requests.specs.Shares.{Setting, others_of}
use Rattle.machine_requests.specs.Telling.{AreDistinct}
use Rattle.machine_steps.specs.declared.step.Step.{Step}
use Rattle.machine_steps.specs.declared.step.Step.TheVariants.{Ended}
use Rattle.machine_steps.specs.Executing.{executes}
use Rattle.machine_steps.specs.Giving.{naming_of}
use Rattle.machine_steps.specs.Going.{moves_turned}
use Rattle.machine_steps.specs.Moves.{Turning, Moves, MovesWithLocals, faults}
use Rattle.machine_steps.specs.Programs.{Machine, IsMachine, IsRunnable}
use Rattle.machine_steps.specs.Raised.{grown_runs}
use Rattle.machine_steps.specs.Running.{seen_by, waiting, moves_at}
use Rattle.machine_steps.specs.Runs.{IsFormed, Stepped}
use Rattle.machine_invocations.specs.Returning.{takes_back}
use Rattle.machine_arrays.specs.Made.{IsMade, Makes, KeepsFilled}
use Rattle.machine_arrays.specs.Named.{knows}
use Rattle.machine_arrays.specs.Stepping.{LacksSizes, TakesSizes, asks, makes_arrays}
use Rattle.machine_arrays.proofs.Fieldless.{bare_arrays}
use Rattle.machine_arrays.proofs.Taken.{last_or_none, taken_turned}
use Rattle.machine_arrays.proofs.Worlds.{same_answers}

-- ---- the search, and the sizes

module _ (m : Machine) (t : State Place) (f : turns.Frame Place) (below : List (turns.Frame Place)) where
  abbrev to_step : Turn Place → machines.Step (State Place)
  to_step turn = moved (class_code m.files) m.setting.classes t.due turn t.world f below

  abbrev asked : List ℕ → List ℤ → Effect Place
  asked named sizes = Ask (MakeArray (Some named) named sizes) f.content

  abbrev linked_by : List ℕ → List ℤ → Bool → Turn Place
  linked_by named sizes known = linked (class_code m.files) m.setting.classes f t.world (asked named sizes) (or_free known (missing_class named))

  abbrev judged : Bool → Held × World → Turn Place
  judged bad made = replied (class_code m.files) m.setting.classes f f.content t.world (if bad then answers.Faults Fault.NegativeArraySize else answers.Gives made.0 made.1)

  known_here : (k : Known) → IsMachine k m → (named : List ℕ) → m.setting.classes.knows named ≡ knows k named
  known_here k is named = ap (λ (cs : Classes). cs.knows named) is.classes

  pub unknown_turn : (k : Known) → IsMachine k m → (named : List ℕ) (sizes : List ℤ) → knows k named ≡ false → asks named sizes m t f ≡ stops (events.Unresolved (dotted named))
  unknown_turn k is named sizes none = ap (linked_by named sizes) (known_here k is named ∙ none)

  known_turn : (k : Known) → IsMachine k m → (named : List ℕ) (sizes : List ℤ) (bad : Bool) → knows k named ≡ true → list_any is_negative sizes ≡ bad → asks named sizes m t f ≡ judged bad (make_arrays named sizes t.world)
  known_turn k is named sizes bad known sign =
      ap (linked_by named sizes) (known_here k is named ∙ known) ∙ ap (λ (b : Bool). judged b (make_arrays named sizes t.world)) sign

pub unresolved : (k : Known) (old new : MachineState) (named : List ℕ) (sizes : List ℤ) (text : List ℕ) → knows k named ≡ false → text ≡ dotted named → Moves k old new (Ended (Unresolved text)) (asks named sizes)
unresolved k old new named sizes text none is_text m left t f below is runs same =
    subst (λ turn. Stepped m new left (Ended (Unresolved text)) (to_step m t f below turn)) (sym (unknown_turn m t f below k is named sizes none)) (ap events.Unresolved is_text)

pub negative : (k : Known) (old new : MachineState) (step : Step) (named : List ℕ) (sizes : List ℤ) → knows k named ≡ true → list_any is_negative sizes ≡ true → MovesWithLocals k old new step (faults Fault.NegativeArraySize)
    → Moves k old new step (asks named sizes)
negative k old new step named sizes known sign moves m left t f below is runs same =
    subst (λ turn. Stepped m new left step (to_step m t f below turn)) (sym (known_turn m t f below k is named sizes true known sign)) (moves m left t f below f.content is runs same refl)

-- ---- the arrays are given

-- the world of the state doesn't count where the turn stays
stays_same : (m : Machine) (due : machines.Due) (f : turns.Frame Place) (below : List (turns.Frame Place)) (place : Place) (c : Content Place) (w v u : World)
    → moved (class_code m.files) m.setting.classes due (stays (class_code m.files) m.setting.classes place c w) v f below ≡ moved (class_code m.files) m.setting.classes due (stays (class_code m.files) m.setting.classes place c w) u f below
stays_same m due f below place c w v u = by (is_some ((class_code m.files).line place)) where
  by : (b : Bool) → moved (class_code m.files) m.setting.classes due (if b then Stays place c w else stops events.Broken) v f below ≡ moved (class_code m.files) m.setting.classes due (if b then Stays place c w else stops events.Broken) u f below
  by true = refl
  by false = refl

given_same : (m : Machine) (due : machines.Due) (f : turns.Frame Place) (below : List (turns.Frame Place)) (room : Bool) (place : Place) (c : Content Place) (w v u : World)
    → moved (class_code m.files) m.setting.classes due (if room then stays (class_code m.files) m.setting.classes place c w else stops events.Broken) v f below
    ≡ moved (class_code m.files) m.setting.classes due (if room then stays (class_code m.files) m.setting.classes place c w else stops events.Broken) u f below
given_same m due f below true place c w v u = stays_same m due f below place c w v u
given_same m due f below false place c w v u = refl

pub given : (k : Known) (old mid new : MachineState) (step : Step) (type : FieldType) (named : List ℕ) (sizes : List ℤ) (array : Ref) → IsRunnable k → knows k named ≡ true → list_any is_negative sizes ≡ false → type_name type ≡ named
    → mid ≡ record old { heap = mid.heap } → IsLonger old.heap mid.heap → Makes old.heap mid.heap type sizes array → ((s : Setting) → KeepsFilled old.heap mid.heap s) → Moves k mid new step (takes_back false (Some (value.Reference array)) mid)
    → Moves k old new step (asks named sizes)
given k old mid new step type named sizes array runnable known sign is_named same longer makes filled moves m left t f below is runs frames =
    let w = t.world in
    let made = make_arrays named sizes w in
    let distinct : AreDistinct m.setting.heads = subst AreDistinct (sym is.heads) is.distinct in
    let is_made : IsMade m.setting mid.heap (others_of old) array made =
    subst (λ (n : List ℕ). IsMade m.setting mid.heap (others_of old) array (make_arrays n sizes w)) is_named (makes m.setting (others_of old) w distinct runs.shares) in
    let grown = grown_runs m old mid left t made.1 same longer is_made.shares (same_answers named sizes w) (filled m.setting (bare_arrays k m runnable is) runs.shares.heap.objects.whole runs.filled) runs in
    let there = (class_code m.files).next f.place in
    let h = machine.Reference (name_of m.setting.heads mid.heap.names array) in
    subst (Stepped m new left step) (
    given_same m t.due f below (has_room f.room (held_width h) f.content.operands) there (pushed_on (Plain h) f.content) made.1 made.1 w
    ∙ ap (λ (v : Held). to_step m t f below (replied (class_code m.files) m.setting.classes f f.content w (answers.Gives v made.1))) is_made.value
    ∙ ap (to_step m t f below) (sym (known_turn m t f below k is named sizes false known sign))
    ) (moves m left (record t { world = made.1 }) f below is grown frames)

-- ---- the whole instruction

no_frame : (k : Known) (old new : MachineState) (step : Step) (turning : Turning) → old.frames.items ≡ [] → Moves k old new step turning
no_frame k old new step turning none m left t f below is runs same =
    absurd (impossible (sym same ∙ runs.frames.frames ∙ ap (λ (fs : List Frame). map (seen_by m old.heap.names) (reverse fs)) none)) where
      impossible : f ∷ below ≡ [] → ⊥
      impossible e = cc

lacking_top : (k : Known) (old new : MachineState) (named : List ℕ) (dims : ℕ) (rest : List Frame) (g : Frame) → old.frames.items ≡ rest ++ g ∷ [] → LacksSizes dims old → Moves k old new (Ended Broken) (makes_arrays true named dims)
lacking_top k old new named dims rest g top lacks =
    moves_at k old new (Ended Broken) (makes_arrays true named dims) rest g top (λ m left t is runs.
    let f = seen_by m old.heap.names g in
    subst (λ (e : Effect Place). Stepped m new left (Ended Broken) (moved (class_code m.files) m.setting.classes t.due (resolved (class_code m.files) m.setting.classes f t.world e) t.world f (waiting m old.heap.names rest)))
    (sym (lacks rest g top (naming_of m old) (Some named) named)) refl)

pub lacking : (k : Known) (old new : MachineState) (named : List ℕ) (dims : ℕ) → LacksSizes dims old → Moves k old new (Ended Broken) (makes_arrays true named dims)
lacking k old new named dims lacks = by (last_or_none old.frames.items) where
  by : (old.frames.items ≡ []) ⊎ ((rest : List Frame) × (g : Frame) × (old.frames.items ≡ rest ++ g ∷ [])) → Moves k old new (Ended Broken) (makes_arrays true named dims)
  by (inl none) = no_frame k old new (Ended Broken) (makes_arrays true named dims) none
  by (inr (rest, g, top)) = lacking_top k old new named dims rest g top lacks

-- what the frame held doesn't count
same_asked : (m : Machine) (due : machines.Due) (w : World) (f : turns.Frame Place) (c : Content Place) (below : List (turns.Frame Place)) (named : List ℕ) (sizes : List ℤ)
    → moved (class_code m.files) m.setting.classes due (resolved (class_code m.files) m.setting.classes (record f { content = c }) w (Ask (MakeArray (Some named) named sizes) c)) w (record f { content = c }) below
    ≡ moved (class_code m.files) m.setting.classes due (resolved (class_code m.files) m.setting.classes f w (Ask (MakeArray (Some named) named sizes) c)) w f below
same_asked m due w f c below named sizes = by (m.setting.classes.knows named) where
  step_of : turns.Frame Place → Turn Place → machines.Step (State Place)
  step_of g turn = moved (class_code m.files) m.setting.classes due turn w g below

  staying : (b : Bool) (place : Place) (d : Content Place) (v : World)
      → moved (class_code m.files) m.setting.classes due (if b then Stays place d v else stops events.Broken) w (record f { content = c }) below ≡ moved (class_code m.files) m.setting.classes due (if b then Stays place d v else stops events.Broken) w f below
  staying true place d v = refl
  staying false place d v = refl

  giving : (room b : Bool) (place : Place) (d : Content Place) (v : World)
      → moved (class_code m.files) m.setting.classes due (if room then (if b then Stays place d v else stops events.Broken) else stops events.Broken) w (record f { content = c }) below
      ≡ moved (class_code m.files) m.setting.classes due (if room then (if b then Stays place d v else stops events.Broken) else stops events.Broken) w f below
  giving true b place d v = staying b place d v
  giving false b place d v = refl

  answered : (bad : Bool) (made : Held × World)
      → moved (class_code m.files) m.setting.classes due (replied (class_code m.files) m.setting.classes (record f { content = c }) c w (if bad then answers.Faults Fault.NegativeArraySize else answers.Gives made.0 made.1)) w (record f { content = c }) below
      ≡ moved (class_code m.files) m.setting.classes due (replied (class_code m.files) m.setting.classes f c w (if bad then answers.Faults Fault.NegativeArraySize else answers.Gives made.0 made.1)) w f below
  answered true made = refl
  answered false made = giving (has_room f.room (held_width made.0) c.operands) (is_some ((class_code m.files).line ((class_code m.files).next f.place))) ((class_code m.files).next f.place) (pushed_on (Plain made.0) c) made.1

  by : (known : Bool)
      → moved (class_code m.files) m.setting.classes due (linked (class_code m.files) m.setting.classes (record f { content = c }) w (Ask (MakeArray (Some named) named sizes) c) (or_free known (missing_class named))) w (record f { content = c }) below
      ≡ moved (class_code m.files) m.setting.classes due (linked (class_code m.files) m.setting.classes f w (Ask (MakeArray (Some named) named sizes) c) (or_free known (missing_class named))) w f below
  by true = answered (list_any is_negative sizes) (make_arrays named sizes w)
  by false = refl

pub executed : (k : Known) (old mid new : MachineState) (step : Step) (named : List ℕ) (dims : ℕ) (sizes : List ℤ) → TakesSizes dims old sizes mid → Moves k mid new step (asks named sizes) → Moves k old new step (makes_arrays true named dims)
executed k old mid new step named dims sizes h moves =
    moves_turned k old mid new step (asks named sizes) (makes_arrays true named dims) (take h.at old.frames.items) h.before h.after (taken_turned dims old sizes mid h) (h.within (length old.heap.names)) moves (λ m left t is runs.
    let below = waiting m old.heap.names (take h.at old.frames.items) in
    let f = seen_by m old.heap.names h.before in
    let g = seen_by m old.heap.names h.after in
    let frame : g ≡ record f { content = g.content } = seen_after m old.heap.names h.before h.after h.taken.rest h.taken.taken.room in
    ap (λ (x : turns.Frame Place). moved (class_code m.files) m.setting.classes t.due (resolved (class_code m.files) m.setting.classes x t.world (Ask (MakeArray (Some named) named sizes) g.content)) t.world x below) frame
    ∙ same_asked m t.due t.world f g.content below named sizes
    ∙ ap (λ (e : Effect Place). moved (class_code m.files) m.setting.classes t.due (resolved (class_code m.files) m.setting.classes f t.world e) t.world f below) (sym (h.sizes (naming_of m old) (Some named) named))) where
      seen_after : (m : Machine) (names : List Name) (f g : Frame) → g ≡ record f { operands = g.operands } → g.operands.room ≡ f.operands.room → seen_by m names g ≡ record (seen_by m names f) { content = (seen_by m names g).content }
      seen_after m names f g rest room =
          let h : Frame = record f { operands = g.operands } in
          ap (seen_by m names) rest
          ∙ ap (λ (r : ℕ). record (seen_by m names f) { content = (seen_by m names h).content; room = r }) room
          ∙ ap (λ (c : Content Place). record (seen_by m names f) { content = c }) (sym (ap (λ (x : Frame). (seen_by m names x).content) rest))

-- the array type has so many dimensions
pub fitting : (k : Known) (old new : MachineState) (step : Step) (named : List ℕ) (dims : ℕ) → has_dimensions dims named ≡ true → Moves k old new step (makes_arrays true named dims) → Moves k old new step (executes (NewArrays named dims))
fitting k old new step named dims fit moves = subst (λ (b : Bool). Moves k old new step (makes_arrays b named dims)) (sym fit) moves

-- it hasn't
pub unfit : (k : Known) (old new : MachineState) (named : List ℕ) (dims : ℕ) → has_dimensions dims named ≡ false → Moves k old new (Ended Broken) (executes (NewArrays named dims))
unfit k old new named dims e m left t f below is runs top =
    subst (λ (b : Bool). Stepped m new left (Ended Broken) (moved (class_code m.files) m.setting.classes t.due (makes_arrays b named dims m t f) t.world f below)) (sym e) refl

-- ---- formed

pub grown_formed : (k : Known) (old mid : MachineState) → mid ≡ record old { heap = mid.heap } → IsFormed k old → IsFormed k mid
grown_formed k old mid same formed = subst (IsFormed k) (sym same) (record { statics = formed.statics; begun = formed.begun; frames = formed.frames; due = formed.due })
