-- The end of a call without a frame.
use Rattle.std.specs.Prelude.{◌≡◌, ◌||◌, Bool, true, false, if◌then◌else◌, is_some, List, ◌∷◌, Option, Some, None, refl}
use Rattle.std.proofs.Common.{sym, ap, ◌∙◌, subst}
use Rattle.std.proofs.lemmas.Bool.{false≢true}
use Rattle.class_world.specs.Tables.{Known}
use Rattle.class_machine.specs.ClassFiles.{Place, class_code}
use Rattle.class_machine.specs.Events as events
use Rattle.class_machine.specs.Machine as machines
use Rattle.class_machine.specs.Machine.{State, moved, taking, telling}
use Rattle.class_machine.specs.Turn as turns
use Rattle.class_machine.specs.Turn.{Turn, Stays, Completes, Enters, Leaves, Begins, Raises, Finishes, stops, given_back, completes}
use Rattle.class_machine.specs.Values.{Held, Content, held_width, has_room, pushed_on, Plain}
use Rattle.class_machine.specs.World.{World}
use Rattle.event_machine.specs.Outcome as outcomes
use Rattle.machine_values.specs.declared.observed.Event.{Event}
use Rattle.machine_values.specs.declared.state.MachineState.{MachineState}
use Rattle.machine_values.specs.declared.values.Value.{Value}
use Rattle.machine_values.specs.Observed.{machine_event}
use Rattle.machine_steps.specs.declared.step.Step.{Step}
use Rattle.machine_steps.specs.Moves.{Moves}
use Rattle.machine_steps.specs.Programs.{Machine}
use Rattle.machine_steps.specs.Runs.{Stepped}
use Rattle.machine_steps.specs.Tellings.{Tells}
use Rattle.machine_invocations.specs.Returning.{result_held, purpose_back, takes_back}
use Rattle.machine_works.specs.Finishing.{ends_call}

or_false : (b : Bool) → (b || false) ≡ b
or_false true = refl
or_false false = refl

module _ (m : Machine) (t : State Place) (f : turns.Frame Place) (below : List (turns.Frame Place)) where
  abbrev pub to_step : World → Turn Place → machines.Step (State Place)
  to_step w turn = moved (class_code m.files) m.setting.classes t.due turn w f below

  abbrev next : Place
  next = (class_code m.files).next f.place

  abbrev there : Bool
  there = is_some ((class_code m.files).line next)

  abbrev staying : Bool → Content Place → Turn Place
  staying b c = if b then Stays next c t.world else stops events.Broken

  abbrev completing : Option events.Event → Bool → Bool → Content Place → World → Turn Place
  completing said super b c w = if b then Completes said super next c w else stops events.Broken

  abbrev pub ending : Option events.Event → Bool → Option Held → World → Turn Place
  ending said super h w = given_back (class_code m.files) m.setting.classes f h f.content (λ all. completes (class_code m.files) m.setting.classes said super next all w)

  -- ---- turns that say nothing at an ending

  abbrev pub is_quiet : Turn Place → Bool
  is_quiet (Finishes (Some said) other) = false
  is_quiet turn = true

  -- they come to the same in any world
  pub anywhere : (turn : Turn Place) → is_quiet turn ≡ true → (w w' : World) → to_step w turn ≡ to_step w' turn
  anywhere (Stays place c u) quiet w w' = refl
  anywhere (Completes said super place c u) quiet w w' = refl
  anywhere (Enters callee c u) quiet w w' = refl
  anywhere (Leaves v u) quiet w w' = refl
  anywhere (Begins frames u) quiet w w' = refl
  anywhere (Raises said x c u) quiet w w' = refl
  anywhere (Finishes None other) quiet w w' = refl
  anywhere (Finishes (Some said) other) quiet w w' = absurd cc

  quiet_at : (said : Option events.Event) (super : Bool) (w : World) (b : Bool) (c : Content Place) → is_quiet (completing said super b c w) ≡ true
  quiet_at said super w true c = refl
  quiet_at said super w false c = refl

  quiet_roomed : (said : Option events.Event) (super : Bool) (w : World) (room b : Bool) (c : Content Place) → is_quiet (if room then completing said super b c w else stops events.Broken) ≡ true
  quiet_roomed said super w true b c = quiet_at said super w b c
  quiet_roomed said super w false b c = refl

  pub ending_quiet : (said : Option events.Event) (super : Bool) (h : Option Held) (w : World) → is_quiet (ending said super h w) ≡ true
  ending_quiet said super None w = quiet_at said super w there f.content
  ending_quiet said super (Some h) w = quiet_roomed said super w (has_room f.room (held_width h) f.content.operands) there (pushed_on (Plain h) f.content)

  -- ---- a result that is taken back

  stays_completes : (b : Bool) (c : Content Place) → to_step t.world (staying b c) ≡ to_step t.world (completing None false b c t.world)
  stays_completes true c =
      ap (λ (b : Bool). machines.went (class_code m.files) m.setting.classes t.due t.world (record f { place = next; content = c; constructed = b } ∷ below)) (sym (or_false f.constructed))
  stays_completes false c = refl

  roomed : (room b : Bool) (c : Content Place) → to_step t.world (if room then staying b c else stops events.Broken) ≡ to_step t.world (if room then completing None false b c t.world else stops events.Broken)
  roomed true b c = stays_completes b c
  roomed false b c = refl

  pub taking_ends : (super : Bool) (h : Option Held) → to_step t.world (taking (class_code m.files) m.setting.classes (purpose_back super) h t.world f) ≡ to_step t.world (ending None super h t.world)
  taking_ends true None = refl
  taking_ends true (Some h) = refl
  taking_ends false None = stays_completes there f.content
  taking_ends false (Some h) = roomed (has_room f.room (held_width h) f.content.operands) there (pushed_on (Plain h) f.content)

  -- ---- with an event

  module _ (said : events.Event) (super : Bool) (w : World) where
    told_at : (b : Bool) (c : Content Place) → telling (Some said) w (to_step w (completing None super b c w)) ≡ to_step w (completing (Some said) super b c w)
    told_at true c = refl
    told_at false c = refl

    told_roomed : (room b : Bool) (c : Content Place)
        → telling (Some said) w (to_step w (if room then completing None super b c w else stops events.Broken)) ≡ to_step w (if room then completing (Some said) super b c w else stops events.Broken)
    told_roomed true b c = told_at b c
    told_roomed false b c = refl

    pub telling_ends : (h : Option Held) → telling (Some said) w (to_step w (ending None super h w)) ≡ to_step w (ending (Some said) super h w)
    telling_ends None = told_at there f.content
    telling_ends (Some h) = told_roomed (has_room f.room (held_width h) f.content.operands) there (pushed_on (Plain h) f.content)

  -- it comes to no ending but Broken
  module _ (super : Bool) (w : World) (other : events.Ending) (fine : events.is_broken other ≡ false) where
    abbrev over : events.Ending → machines.Step (State Place)
    over e = outcomes.Ended e

    breaks : over events.Broken ≡ over other → ⊥
    breaks e = let same : events.Broken ≡ other = cc in false≢true (sym fine ∙ sym (ap events.is_broken same))

    ends_at : (b : Bool) (c : Content Place) → to_step w (completing None super b c w) ≡ over other → ⊥
    ends_at true c e = absurd cc
    ends_at false c e = breaks e

    ends_roomed : (room b : Bool) (c : Content Place) → to_step w (if room then completing None super b c w else stops events.Broken) ≡ over other → ⊥
    ends_roomed true b c e = ends_at b c e
    ends_roomed false b c e = breaks e

    pub never_ends : (h : Option Held) → to_step w (ending None super h w) ≡ over other → ⊥
    never_ends None e = ends_at there f.content e
    never_ends (Some h) e = ends_roomed (has_room f.room (held_width h) f.content.operands) there (pushed_on (Plain h) f.content) e

-- ---- the end of a call

module _ (k : Known) (old : MachineState) (super : Bool) (value : Option Value) where
  pub ends_silent : (new : MachineState) (step : Step) → Moves k old new step (takes_back super value old) → Moves k old new step (ends_call None super value old)
  ends_silent new step moves m left t f below is runs top =
      subst (Stepped m new left step) (taking_ends m t f below super (result_held m old value)) (moves m left t f below is runs top)

  pub ends_telling : (mid new : MachineState) (before step : Step) (said : Event) → Moves k old mid before (takes_back super value old) → Tells mid said before new step → Moves k old new step (ends_call (Some said) super value old)
  ends_telling mid new before step said moves tells m left t f below is runs top =
      let h = result_held m old value in
      subst (Stepped m new left step) (telling_ends m t f below (machine_event said) super t.world h)
      (tells m left t.world (to_step m t f below t.world (ending m t f below None super h t.world)) (λ other e fine. absurd (never_ends m t f below super t.world other fine h e))
      (subst (Stepped m mid left before) (taking_ends m t f below super h) (moves m left t f below is runs top)))
