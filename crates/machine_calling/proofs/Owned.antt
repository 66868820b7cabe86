-- Turns that don't hang on what the frame held before the instruction.
use Rattle.std.specs.Prelude.{◌≡◌, ℕ, Bool, true, false, if◌then◌else◌, is_some, nat_le, List, [], ◌∷◌, Option, Some, None, refl}
use Rattle.std.proofs.Common.{sym, ap, ◌∙◌}
use Rattle.aj_names.specs.declared.types.FieldType.{FieldType}
use Rattle.class_file.specs.Pool.{Reference}
use Rattle.class_heads.specs.Hierarchy.{is_array}
use Rattle.class_machine.specs.Classes.{Method, member_text}
use Rattle.class_machine.specs.ClassFiles.{Place, class_code}
use Rattle.class_machine.specs.Events as events
use Rattle.class_machine.specs.LibraryCalls as calls
use Rattle.class_machine.specs.Natives as natives
use Rattle.class_machine.specs.Turn as turns
use Rattle.class_machine.specs.Turn.{Turn, Purpose, Entry, Frame, stops, completes, given_back, enter_at, enters, enter_within, gives_class, loads, pending, worked, responded}
use Rattle.class_machine.specs.Values.{Name, Held, Content, held_width, arguments_width, has_room, pushed_on, Plain}
use Rattle.class_machine.specs.Values as machine
use Rattle.class_machine.specs.World.{World, begin}
use Rattle.machine_values.specs.Types.{type_name}
use Rattle.machine_steps.specs.Programs.{Machine}
use Rattle.machine_invocations.specs.Initialising.{has_frame}
use Rattle.machine_natives.specs.Calls.{is_lack}
use Rattle.machine_works.specs.Finishing.{comes_first}
use Rattle.machine_invokes.specs.Preparing.{is_own}

-- a class is loaded
abbrev pub is_load : calls.Work → Bool
is_load (calls.Loads class) = true
is_load work = false

module _ (m : Machine) (f : Frame Place) where
  completes_own : (said : Option events.Event) (super : Bool) (place : Place) (c : Content Place) (w : World) → is_own (completes (class_code m.files) m.setting.classes said super place c w) ≡ true
  completes_own said super place c w = by (is_some ((class_code m.files).line place)) where
    by : (b : Bool) → is_own (if b then turns.Completes said super place c w else stops events.Broken) ≡ true
    by true = refl
    by false = refl

  given_own : (v : Option Held) (go : Content Place → Turn Place) → ((c : Content Place) → is_own (go c) ≡ true) → is_own (given_back (class_code m.files) m.setting.classes f v f.content go) ≡ true
  given_own None go own = own f.content
  given_own (Some h) go own = by (has_room f.room (held_width h) f.content.operands) where
    by : (b : Bool) → is_own (if b then go (pushed_on (Plain h) f.content) else stops events.Broken) ≡ true
    by true = own (pushed_on (Plain h) f.content)
    by false = refl

  pub enters_own : (purpose : Purpose) (w : World) (r : Reference) (callee : Method) (receiver : Option Name) (given : List Held) (e : Option (Entry Place))
      → is_own (enters (class_code m.files) m.setting.classes purpose f.content w r callee receiver given e) ≡ true
  enters_own purpose w r callee receiver given None = refl
  enters_own purpose w r callee receiver given (Some e) = by (nat_le (arguments_width given) e.locals) where
    by : (b : Bool) → is_own (if b then turns.Enters (turns.entered purpose callee receiver given e) f.content (turns.entering (turns.lock_of callee receiver) w) else stops events.Broken) ≡ true
    by true = refl
    by false = refl

  within_own : (w : World) (callee : Method) (a : Name) (wait : calls.Wait) → is_own (enter_within (class_code m.files) m.setting.classes f.content w callee a wait) ≡ true
  within_own w callee a wait = by callee.is_native where
    by : (b : Bool)
        → is_own (if b then stops (events.Unresolved (member_text callee.name))
        else enters (class_code m.files) m.setting.classes (turns.Within wait) f.content w callee.name callee (Some a) (machine.Reference a ∷ []) ((class_code m.files).method callee.name)) ≡ true
    by true = refl
    by false = enters_own (turns.Within wait) w callee.name callee (Some a) (machine.Reference a ∷ []) ((class_code m.files).method callee.name)

  gives_own : (w : World) (class : List ℕ) → is_own (gives_class (class_code m.files) m.setting.classes f f.content w class) ≡ true
  gives_own w class =
      given_own (Some (machine.Reference (machine.ClassObject class))) (λ all. completes (class_code m.files) m.setting.classes None false ((class_code m.files).next f.place) all w)
      (λ c. completes_own None false ((class_code m.files).next f.place) c w)

  -- ---- the work of the library

  pub worked_own : (w : World) (super : Bool) (work : calls.Work) → is_load work ≡ false → is_own (worked (class_code m.files) m.setting.classes f f.content w super work) ≡ true
  worked_own w super (calls.Results said v w') plain =
      given_own v (λ all. completes (class_code m.files) m.setting.classes said super ((class_code m.files).next f.place) all w') (λ c. completes_own said super ((class_code m.files).next f.place) c w')
  worked_own w super (calls.Throws x w') plain = refl
  worked_own w super (calls.Faults fault) plain = refl
  worked_own w super (calls.Calls callee a wait w') plain = within_own w' callee a wait
  worked_own w super (calls.Loads class) plain = absurd cc
  worked_own w super (calls.Exits status) plain = refl
  worked_own w super calls.Misuses plain = refl

  -- no initialisers come first
  pub loads_own : (w : World) (super : Bool) (type : FieldType) → comes_first type m w ≡ false → is_own (worked (class_code m.files) m.setting.classes f f.content w super (calls.Loads (type_name type))) ≡ true
  loads_own w super type none = by (is_array (type_name type)) none where
    at : (p : List (Frame Place)) → has_frame p ≡ false → is_own (loads (class_code m.files) m.setting.classes f f.content w (type_name type) p) ≡ true
    at [] e = gives_own (begin m.setting.classes w (type_name type)) (type_name type)
    at (g ∷ frames) e = absurd cc

    by : (b : Bool) → (if b then false else has_frame (pending (class_code m.files) m.setting.classes w (type_name type))) ≡ false
        → is_own (if b then gives_class (class_code m.files) m.setting.classes f f.content w (type_name type)
        else loads (class_code m.files) m.setting.classes f f.content w (type_name type) (pending (class_code m.files) m.setting.classes w (type_name type))) ≡ true
    by true e = gives_own w (type_name type)
    by false e = at (pending (class_code m.files) m.setting.classes w (type_name type)) e

  -- ---- native calls

  pub responded_own : (super : Bool) (event : events.Event) (x : natives.Response) → is_lack x ≡ false → is_own (responded (class_code m.files) m.setting.classes f f.content super event x) ≡ true
  responded_own super event (natives.Returns v w) fits =
      given_own v (λ all. completes (class_code m.files) m.setting.classes (Some event) super ((class_code m.files).next f.place) all w) (λ c. completes_own (Some event) super ((class_code m.files).next f.place) c w)
  responded_own super event (natives.Throws x w) fits = refl
  responded_own super event natives.Lacks fits = absurd cc
