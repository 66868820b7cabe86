-- What becomes of the running frame at a native call.
use Rattle.std.specs.Prelude.{◌≡◌, ◌≤◌, ◌||◌, Bool, true, false, if◌then◌else◌, is_some, List, ◌∷◌, map, length, Option, Some, None, refl}
use Rattle.std.proofs.Common.{sym, ap, ◌∙◌, subst, arith, length-append}
use Rattle.std.proofs.lemmas.Bool.{false≢true}
use Rattle.class_world.specs.Tables.{Known}
use Rattle.class_machine.specs.ClassFiles.{Place, class_code}
use Rattle.class_machine.specs.Events as events
use Rattle.class_machine.specs.Machine as machines
use Rattle.class_machine.specs.Machine.{State, moved, taking, telling, unwound}
use Rattle.class_machine.specs.Turn as turns
use Rattle.class_machine.specs.Turn.{Turn, Stays, Completes, stops, completes, given_back}
use Rattle.class_machine.specs.Values.{Held, Content, held_width, has_room, pushed_on, Plain}
use Rattle.class_machine.specs.World.{World}
use Rattle.event_machine.specs.Outcome as outcomes
use Rattle.machine_values.specs.declared.observed.Ending.{Ending}
use Rattle.machine_values.specs.declared.observed.Ending.TheVariants as endings
use Rattle.machine_values.specs.declared.observed.Event.{Event}
use Rattle.machine_values.specs.declared.script.Answer.{Answer}
use Rattle.machine_values.specs.declared.state.MachineState.{MachineState}
use Rattle.machine_values.specs.declared.values.Ref.{Ref}
use Rattle.machine_values.specs.declared.values.Value.{Value}
use Rattle.machine_values.specs.Observed.{machine_answer, machine_event, machine_ending}
use Rattle.machine_values.specs.Standing.{name_of}
use Rattle.machine_values.specs.States.{machine_due}
use Rattle.machine_values.specs.Things.{Things}
use Rattle.machine_requests.specs.Growth.{due_stays}
use Rattle.machine_requests.specs.Replies.{IsLonger}
use Rattle.machine_requests.specs.Shares.{others_of}
use Rattle.machine_steps.specs.declared.step.Step.{Step}
use Rattle.machine_steps.specs.declared.step.Step.TheVariants.{Went, Said, Ended, NotMine}
use Rattle.machine_steps.specs.Ends.{ends}
use Rattle.machine_steps.specs.Going.{waiting_stay}
use Rattle.machine_steps.specs.Moves.{Moves, MovesWithLocals, raises}
use Rattle.machine_steps.specs.Programs.{Machine}
use Rattle.machine_steps.specs.Running.{waiting}
use Rattle.machine_steps.specs.Runs.{IsFormed, Runs, Stepped}
use Rattle.machine_steps.specs.Tellings.{StandsFor, Tells}
use Rattle.machine_steps.specs.Within.{frames_more, due_more}
use Rattle.machine_invocations.specs.Returning.{result_held, purpose_back, takes_back}
use Rattle.machine_natives.specs.Calls.{ComesBack, GoesOut, EndsScript}
use Rattle.machine_natives.specs.Throwables.{Holds}

-- ---- the heap has more objects, and the script fewer answers

abbrev pub with_heap : MachineState → Things → MachineState
with_heap old heap = record old { heap = heap }

pub answered_runs : (m : Machine) (old : MachineState) (heap : Things) (left rest : List Answer) (t : State Place) (w : World) → IsLonger old.heap heap → Holds m heap (others_of old) w → w.answers ≡ map machine_answer rest → Runs m old left t
    → Runs m (with_heap old heap) rest (record t { world = w })
answered_runs m old heap left rest t w longer holds answers runs =
    let names = old.heap.names in
    let many : length names ≤ length heap.names = let e = ap length longer.1 in let n = length-append names longer.0 in omega arith in
    record {
      shares = holds.shares;
      frames = record {
        frames = runs.frames.frames ∙ sym (ap (λ all. waiting m all old.frames.items) longer.1 ∙ waiting_stay m names longer.0 old.frames.items runs.frames.frames_within);
        due = runs.frames.due ∙ sym (ap (λ all. machine_due m.setting.heads m.methods all old.due) longer.1 ∙ due_stays m.setting.heads names longer.0 m.methods old.due runs.frames.due_within);
        frames_within = frames_more (length names) (length heap.names) many old.frames.items runs.frames.frames_within;
        due_within = due_more (length names) (length heap.names) many old.due runs.frames.due_within;
      };
      answers = answers;
      filled = holds.filled;
    }

pub with_heap_formed : (k : Known) (old : MachineState) (heap : Things) → IsFormed k old → IsFormed k (with_heap old heap)
with_heap_formed k old heap formed = record { statics = formed.statics; begun = formed.begun; frames = formed.frames; due = formed.due }

-- ---- the result goes to the frame

or_false : (b : Bool) → b ≡ (b || false)
or_false true = refl
or_false false = refl

never : (ending : events.Ending) → events.Broken ≡ ending → events.is_broken ending ≡ false → ⊥
never ending e fine = false≢true (sym fine ∙ ap events.is_broken (sym e))

abbrev ended : events.Ending → machines.Step (State Place)
ended ending = outcomes.Ended ending

same_ending : (a b : events.Ending) → ended a ≡ ended b → a ≡ b
same_ending a b e = cc

module _ (m : Machine) (due : machines.Due) (f : turns.Frame Place) (below : List (turns.Frame Place)) (event : events.Event) where
  abbrev by : World → Turn Place → machines.Step (State Place)
  by w turn = moved (class_code m.files) m.setting.classes due turn w f below

  abbrev next : Place
  next = (class_code m.files).next f.place

  abbrev stands : Bool
  stands = is_some ((class_code m.files).line next)

  abbrev stay : Bool → World → Content Place → Turn Place
  stay b w c = if b then Stays next c w else stops events.Broken

  abbrev complete : Option events.Event → Bool → Bool → World → Content Place → Turn Place
  complete said super b w c = if b then Completes said super next c w else stops events.Broken

  plain_told : (w : World) (b : Bool) (c : Content Place) → telling (Some event) w (by w (stay b w c)) ≡ by w (complete (Some event) false b w c)
  plain_told w true c = ap (λ (x : Bool). outcomes.Said event (record { frames = record f { place = next; content = c; constructed = x } ∷ below; world = w; due = due })) (or_false f.constructed)
  plain_told w false c = refl

  super_told : (w : World) (b : Bool) (c : Content Place) → telling (Some event) w (by w (complete None true b w c)) ≡ by w (complete (Some event) true b w c)
  super_told w true c = refl
  super_told w false c = refl

  abbrev taken : Bool → Option Held → World → Turn Place
  taken super h w = taking (class_code m.files) m.setting.classes (purpose_back super) h w f

  abbrev given : World → Bool → Option Held → Turn Place
  given w super h = given_back (class_code m.files) m.setting.classes f h f.content (λ all. completes (class_code m.files) m.setting.classes (Some event) super next all w)

  super_roomed : (w : World) (room : Bool) (c : Content Place) → telling (Some event) w (by w (if room then complete None true stands w c else stops events.Broken)) ≡ by w (if room then complete (Some event) true stands w c else stops events.Broken)
  super_roomed w true c = super_told w stands c
  super_roomed w false c = refl

  plain_roomed : (w : World) (room : Bool) (c : Content Place) → telling (Some event) w (by w (if room then stay stands w c else stops events.Broken)) ≡ by w (if room then complete (Some event) false stands w c else stops events.Broken)
  plain_roomed w true c = plain_told w stands c
  plain_roomed w false c = refl

  pub told_same : (w : World) (super : Bool) (h : Option Held) → telling (Some event) w (by w (taken super h w)) ≡ by w (given w super h)
  told_same w true None = super_told w stands f.content
  told_same w true (Some h) = super_roomed w (has_room f.room (held_width h) f.content.operands) (pushed_on (Plain h) f.content)
  told_same w false None = plain_told w stands f.content
  told_same w false (Some h) = plain_roomed w (has_room f.room (held_width h) f.content.operands) (pushed_on (Plain h) f.content)

  -- it is no ending but Broken
  stay_ends : (w : World) (room b : Bool) (c : Content Place) (ending : events.Ending) → by w (if room then stay b w c else stops events.Broken) ≡ outcomes.Ended ending → events.is_broken ending ≡ false → ⊥
  stay_ends w true true c ending e fine = absurd cc
  stay_ends w true false c ending e fine = never ending (same_ending events.Broken ending e) fine
  stay_ends w false b c ending e fine = never ending (same_ending events.Broken ending e) fine

  complete_ends : (w : World) (room b : Bool) (c : Content Place) (ending : events.Ending) → by w (if room then complete None true b w c else stops events.Broken) ≡ outcomes.Ended ending → events.is_broken ending ≡ false → ⊥
  complete_ends w true true c ending e fine = absurd cc
  complete_ends w true false c ending e fine = never ending (same_ending events.Broken ending e) fine
  complete_ends w false b c ending e fine = never ending (same_ending events.Broken ending e) fine

  pub taken_ends : (w : World) (super : Bool) (h : Option Held) (ending : events.Ending) → by w (taken super h w) ≡ outcomes.Ended ending → events.is_broken ending ≡ false → ⊥
  taken_ends w true None ending e fine = complete_ends w true stands f.content ending e fine
  taken_ends w true (Some h) ending e fine = complete_ends w (has_room f.room (held_width h) f.content.operands) stands (pushed_on (Plain h) f.content) ending e fine
  taken_ends w false None ending e fine = stay_ends w true stands f.content ending e fine
  taken_ends w false (Some h) ending e fine = stay_ends w (has_room f.room (held_width h) f.content.operands) stands (pushed_on (Plain h) f.content) ending e fine

  -- from whatever world it went on
  pub given_alike : (u v w : World) (super : Bool) (h : Option Held) → by u (given w super h) ≡ by v (given w super h)
  given_alike u v w super None = either true stands f.content where
    either : (room b : Bool) (c : Content Place) → by u (if room then complete (Some event) super b w c else stops events.Broken) ≡ by v (if room then complete (Some event) super b w c else stops events.Broken)
    either true true c = refl
    either true false c = refl
    either false b c = refl
  given_alike u v w super (Some h) = either (has_room f.room (held_width h) f.content.operands) stands (pushed_on (Plain h) f.content) where
    either : (room b : Bool) (c : Content Place) → by u (if room then complete (Some event) super b w c else stops events.Broken) ≡ by v (if room then complete (Some event) super b w c else stops events.Broken)
    either true true c = refl
    either true false c = refl
    either false b c = refl

pub comes_back : (k : Known) (old mid new : MachineState) (event : Event) (super : Bool) (value : Option Value) (step result : Step) → Moves k old mid step (takes_back super value old) → Tells mid event step new result → ComesBack k old new event super value result
comes_back k old mid new event super value step result moves tells m left t f below is runs top =
    let e = machine_event event in
    let h = result_held m old value in
    let outcome = by m t.due f below e t.world (taken m t.due f below e super h t.world) in
    subst (Stepped m new left result) (told_same m t.due f below e t.world super h)
    (tells m left t.world outcome (λ ending same fine. absurd (taken_ends m t.due f below e t.world super h ending same fine)) (moves m left t f below is runs top))

-- ---- an exception

ended_step : (m : Machine) (state : MachineState) (left : List Answer) (step : Step) (ending : events.Ending) → Stepped m state left step (outcomes.Ended ending) → events.is_broken ending ≡ false → ends step ≡ true
ended_step m state left Went ending h fine = absurd h
ended_step m state left (Said event) ending h fine = absurd h
ended_step m state left NotMine ending h fine = absurd h
ended_step m state left (Ended e) ending h fine = over e (subst (λ x. events.is_broken x ≡ false) (sym h) fine) where
  over : (e : Ending) → events.is_broken (machine_ending e) ≡ false → ends (Ended e) ≡ true
  over (endings.Returned value) fine = refl
  over (endings.Uncaught class message) fine = refl
  over (endings.InitFailed class) fine = refl
  over (endings.Exit status) fine = refl
  over (endings.Unmodelled op) fine = refl
  over (endings.Unresolved name) fine = refl
  over endings.ScriptEnds fine = refl
  over endings.Broken fine = absurd cc

pub goes_out : (k : Known) (old mid new : MachineState) (event : Event) (x : Ref) (step result : Step) → MovesWithLocals k old mid step (raises (λ m. name_of m.setting.heads old.heap.names x)) → (ends step ≡ true → mid ≡ old)
    → Tells mid event step new result → GoesOut k old new event x result
goes_out k old mid new event x step result moves kept tells m left t f below is runs top =
    let outcome = unwound (class_code m.files) m.setting.classes t.due (name_of m.setting.heads old.heap.names x) t.world (f ∷ below) in
    let raised : Stepped m mid left step outcome = moves m left t f below f.content is runs top refl in
    tells m left t.world outcome (λ ending same fine.
    subst (λ (s : MachineState). StandsFor m s left t.world) (sym (kept (ended_step m mid left step ending (subst (Stepped m mid left step) same raised) fine)))
    (record { shares = runs.shares; answers = runs.answers; filled = runs.filled })) raised

-- ---- the script ends

pub script_ends : (old new : MachineState) (event : Event) (result : Step) → Tells old event (Ended endings.ScriptEnds) new result → EndsScript old new event result
script_ends old new event result tells m left t runs =
    tells m left t.world (outcomes.Ended events.ScriptEnds) (λ ending same fine. record { shares = runs.shares; answers = runs.answers; filled = runs.filled }) refl
