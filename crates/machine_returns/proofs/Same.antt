-- A frame that goes on as the running one goes on where control comes back to it.
use Rattle.std.specs.Prelude.{◌≡◌, Bool, true, false, if◌then◌else◌, is_some, List, Option, Some, None, refl}
use Rattle.class_machine.specs.ClassFiles.{Place, class_code}
use Rattle.class_machine.specs.Events as events
use Rattle.class_machine.specs.Machine as machines
use Rattle.class_machine.specs.Machine.{State, moved, back_in}
use Rattle.class_machine.specs.Turn as turns
use Rattle.class_machine.specs.Turn.{Turn, Completes, stops, given_back, completes}
use Rattle.class_machine.specs.Values.{Held, Plain, Content, has_room, held_width, pushed_on}
use Rattle.class_machine.specs.World.{World}
use Rattle.machine_steps.specs.Programs.{Machine}

module _ (m : Machine) (due : machines.Due) (u : World) (f : turns.Frame Place) (below : List (turns.Frame Place)) (said : Option events.Event) where
  abbrev on : Turn Place → machines.Step (State Place)
  on turn = moved (class_code m.files) m.setting.classes due turn u f below

  abbrev back : Turn Place → machines.Step (State Place)
  back turn = back_in (class_code m.files) m.setting.classes due f turn below

  abbrev next : Place
  next = (class_code m.files).next f.place

  abbrev completing : Bool → Content Place → Turn Place
  completing b c = if b then Completes said false next c u else stops events.Broken

  same_at : (b : Bool) (c : Content Place) → on (completing b c) ≡ back (completing b c)
  same_at true c = refl
  same_at false c = refl

  same_roomed : (room b : Bool) (c : Content Place) → on (if room then completing b c else stops events.Broken) ≡ back (if room then completing b c else stops events.Broken)
  same_roomed true b c = same_at b c
  same_roomed false b c = refl

  -- with the result of a call, and its event
  abbrev pub ending : Option Held → Turn Place
  ending h = given_back (class_code m.files) m.setting.classes f h f.content (λ all. completes (class_code m.files) m.setting.classes said false next all u)

  pub same_back : (h : Option Held) → on (ending h) ≡ back (ending h)
  same_back None = same_at (is_some ((class_code m.files).line next)) f.content
  same_back (Some h) = same_roomed (has_room f.room (held_width h) f.content.operands) (is_some ((class_code m.files).line next)) (pushed_on (Plain h) f.content)
