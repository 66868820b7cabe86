-- What a search comes to, and on an object a selection.
use Rattle.std.specs.Prelude.{◌≡◌, ℕ, ◌&&◌, not, Bool, true, false, nat_le, nat_lt, List, map, length, Option, Some, None}
use Rattle.aj_names.specs.declared.ids.MethodId.{MethodId}
use Rattle.class_file.specs.Pool.{Reference}
use Rattle.class_world.specs.Tables.{Known}
use Rattle.class_machine.specs.declared.kinds.Fault.{Fault}
use Rattle.class_machine.specs.ClassFiles.{Place, class_code}
use Rattle.class_machine.specs.Classes.{Method, member_text}
use Rattle.class_machine.specs.Effect as definition
use Rattle.class_machine.specs.Events as events
use Rattle.class_machine.specs.Turn as turns
use Rattle.class_machine.specs.Turn.{Frame, Link, Refused, Needs, Turn, Entry, missing_member, instance_method, static_method, callable, linked, runs, purpose_of, has_result_room, is_frameless, stops}
use Rattle.class_machine.specs.Values.{Held, Name as Object, arguments_width}
use Rattle.class_machine.specs.World.{World}
use Rattle.machine_values.specs.declared.frames.Frame as kept
use Rattle.machine_values.specs.declared.names.Name.{Name}
use Rattle.machine_values.specs.declared.values.Ref.{Ref}
use Rattle.machine_values.specs.declared.values.Value.{Value}
use Rattle.machine_values.specs.Standing.{name_of, held}
use Rattle.machine_values.specs.Things.{Things}
use Rattle.machine_requests.specs.Telling.{AreFit}
use Rattle.machine_steps.specs.Programs.{IsMachine}
use Rattle.machine_steps.specs.Running.{seen_by}
use Rattle.machine_steps.specs.Runs.{IsMethod}
use Rattle.machine_invocations.specs.Methods.{classes_in, Sees}
use Rattle.machine_invocations.specs.Standards.{machine_of}
use Rattle.machine_invokes.specs.declared.choosing.Choice.{Choice}
use Rattle.machine_invokes.specs.declared.choosing.Choice.TheVariants.{Missing, Breaks, Runs}

-- ---- the method

abbrev pub RunsMethod : Known → Choice → Type 0
RunsMethod k (Runs method) = IsMethod k method.0
RunsMethod k choice = Unit {0}

-- the search finds that method of objects, or there is none
pub record FindsOne (k : Known) (r : Reference) (number : ℕ) : Type 0 where
  pub method : Method
  pub sees : Sees k number method
  pub found : (classes_in k).method r ≡ Some method
  pub instance : method.is_static ≡ false

abbrev pub FindsInstance : Known → Reference → Option MethodId → Type 0
FindsInstance k r None = instance_method (class_code k.files) (classes_in k) r ((classes_in k).method r) ≡ missing_member r
FindsInstance k r (Some method) = FindsOne k r method.0

-- the method's code, and whether its locals take the arguments
pub record TakesArguments (k : Known) (given : List Value) (names : List Name) (m : Method) (fit : Bool) : Type 0 where
  pub entry : Entry Place
  pub code : (class_code k.files).method m.name ≡ Some entry
  pub fits : nat_le (arguments_width (map (held k.heads names) given)) entry.locals ≡ fit

abbrev pub HasLocals : Known → ℕ → List Value → Option Bool → Type 0
HasLocals k number given None = (fields methods : ℕ → Reference) (m : Method) → IsMachine k (machine_of k fields methods) → Sees k number m → (class_code k.files).method m.name ≡ None
HasLocals k number given (Some fit) = (fields methods : ℕ → Reference) (names : List Name) (m : Method) → IsMachine k (machine_of k fields methods) → Sees k number m → TakesArguments k given names m fit

module _ (k : Known) (g : kept.Frame) where
  -- the frame as the machine sees it, where methods and objects have these names
  abbrev pub seen_as : (ℕ → Reference) → (ℕ → Reference) → List Name → Frame Place
  seen_as fields methods names = seen_by (machine_of k fields methods) names g

  -- ---- room

  abbrev pub result_room : (ℕ → Reference) → (ℕ → Reference) → List Name → Method → Bool
  result_room fields methods names m = has_result_room (class_code k.files) (classes_in k) (seen_as fields methods names) (seen_as fields methods names).content m

  abbrev pub HasRoom : ℕ → Bool → Type 0
  HasRoom number has = (fields methods : ℕ → Reference) (names : List Name) (m : Method) → Sees k number m → result_room fields methods names m ≡ has

  abbrev pub LacksRoom : ℕ → Bool → Type 0
  LacksRoom number lacks = (fields methods : ℕ → Reference) (names : List Name) (m : Method) → Sees k number m → (is_frameless m && not (result_room fields methods names m)) ≡ lacks

  -- ---- static methods

  -- what may follow the search, where the choice is such
  abbrev pub goes_by : Reference → Choice → Link → Link
  goes_by r Missing onward = missing_member r
  goes_by r Breaks onward = Refused events.Broken
  goes_by r (Runs method) onward = onward

  -- a call with these arguments
  abbrev pub call_link : (ℕ → Reference) → (ℕ → Reference) → List Name → Reference → List Value → Method → Link → Link
  call_link fields methods names r given m onward =
      callable (class_code k.files) (classes_in k) (seen_as fields methods names) (seen_as fields methods names).content r (map (held k.heads names) given) m onward

  pub record CalledSo (r : Reference) (given : List Value) (number : ℕ) (choice : Choice) : Type 0 where
    pub link : (fields methods : ℕ → Reference) (names : List Name) (m : Method) (onward : Link) → IsMachine k (machine_of k fields methods) → Sees k number m
        → call_link fields methods names r given m onward ≡ goes_by r choice onward

  -- where it runs, there is room for its result
  abbrev pub IsRoomy : ℕ → Choice → Type 0
  IsRoomy number (Runs method) = (method.0 ≡ number) × LacksRoom number false
  IsRoomy number choice = Unit {0}

  pub record IsCalled (given : List Value) (number : ℕ) (choice : Choice) : Type 0 where
    pub called : (r : Reference) → CalledSo r given number choice
    pub roomy : IsRoomy number choice

  -- the link of the search
  abbrev pub static_link : (ℕ → Reference) → (ℕ → Reference) → List Name → Reference → List Value → Link
  static_link fields methods names r given =
      static_method (class_code k.files) (classes_in k) (seen_as fields methods names) (seen_as fields methods names).content r (map (held k.heads names) given) ((classes_in k).method r)

  pub record RunsStatic (r : Reference) (given : List Value) (number : ℕ) : Type 0 where
    pub method : Method
    pub sees : Sees k number method
    pub found : (classes_in k).method r ≡ Some method
    pub link : (fields methods : ℕ → Reference) (names : List Name) → IsMachine k (machine_of k fields methods) → static_link fields methods names r given ≡ Needs method.name.class
    pub roomy : LacksRoom number false

  abbrev pub ChoosesStatic : Reference → List Value → Choice → Type 0
  ChoosesStatic r given Missing = (fields methods : ℕ → Reference) (names : List Name) → IsMachine k (machine_of k fields methods) → static_link fields methods names r given ≡ missing_member r
  ChoosesStatic r given Breaks = (fields methods : ℕ → Reference) (names : List Name) → IsMachine k (machine_of k fields methods) → static_link fields methods names r given ≡ Refused events.Broken
  ChoosesStatic r given (Runs method) = RunsStatic r given method.0

  -- ---- methods of objects

  -- what is made of a call on the object, or on null
  abbrev pub call_turn : (ℕ → Reference) → (ℕ → Reference) → List Name → World → Bool → Reference → Option Object → List Held → Turn Place
  call_turn fields methods names w special r a given =
      let f = seen_as fields methods names in
      linked (class_code k.files) (classes_in k) f w (definition.CallOn special r a given f.content) (instance_method (class_code k.files) (classes_in k) r ((classes_in k).method r))

  -- the exception that null makes
  abbrev pub null_turn : (ℕ → Reference) → (ℕ → Reference) → List Name → World → Turn Place
  null_turn fields methods names w = turns.fails (class_code k.files) (classes_in k) Fault.NullPointer (seen_as fields methods names).content w

  -- whatever the arguments are, a call on null comes to that
  abbrev pub by_null : (ℕ → Reference) → (ℕ → Reference) → List Name → World → Reference → Choice → Turn Place
  by_null fields methods names w r Missing = stops (events.Unresolved (member_text r))
  by_null fields methods names w r Breaks = stops events.Broken
  by_null fields methods names w r (Runs method) = null_turn fields methods names w

  abbrev pub ChoosesNull : Reference → Choice → Type 0
  ChoosesNull r choice = (fields methods : ℕ → Reference) (names : List Name) (w : World) (special : Bool) (given : List Held) → call_turn fields methods names w special r None given ≡ by_null fields methods names w r choice

  -- the method that runs on the object
  abbrev pub run_turn : (ℕ → Reference) → (ℕ → Reference) → List Name → World → Bool → Reference → Method → Object → List Held → Turn Place
  run_turn fields methods names w special r m a given =
      runs (class_code k.files) (classes_in k) (purpose_of (class_code k.files) (classes_in k) special r) (seen_as fields methods names) (seen_as fields methods names).content w r m (Some a) given

  module _ (heap : Things) (special : Bool) (at : Ref) where
    abbrev pub object_there : Object
    object_there = name_of k.heads heap.names at

    pub record RunsOn (go : (ℕ → Reference) → (ℕ → Reference) → World → Reference → List Held → Turn Place) (fields methods : ℕ → Reference) (number : ℕ) : Type 0 where
      pub method : Method
      pub sees : Sees k number method
      pub turn : (w : World) (r : Reference) (given : List Held) → go fields methods w r given ≡ run_turn fields methods heap.names w special r method object_there given
      pub roomy : LacksRoom number false

    abbrev pub ByChoice : ((ℕ → Reference) → (ℕ → Reference) → World → Reference → List Held → Turn Place) → (ℕ → Reference) → (ℕ → Reference) → Choice → Type 0
    ByChoice go fields methods Missing = (w : World) (r : Reference) (given : List Held) → go fields methods w r given ≡ stops (events.Unresolved (member_text r))
    ByChoice go fields methods Breaks = (w : World) (r : Reference) (given : List Held) → go fields methods w r given ≡ stops events.Broken
    ByChoice go fields methods (Runs method) = RunsOn go fields methods method.0

    -- what becomes of the found method
    abbrev pub found_turn : Method → (ℕ → Reference) → (ℕ → Reference) → World → Reference → List Held → Turn Place
    found_turn m fields methods w r given =
        turns.call_on (class_code k.files) (classes_in k) (seen_as fields methods heap.names) (seen_as fields methods heap.names).content w special r m given (Some object_there)

    abbrev pub ChoosesFrom : ℕ → Choice → Type 0
    ChoosesFrom number choice =
        (fields methods : ℕ → Reference) (found : Method) → IsMachine k (machine_of k fields methods) → AreFit (length k.heads) heap.names → nat_lt at.0 (length heap.names) ≡ true → Sees k number found
        → ByChoice (found_turn found) fields methods choice

    pub record ChosenOn (r : Reference) (fields methods : ℕ → Reference) (number : ℕ) : Type 0 where
      pub method : Method
      pub sees : Sees k number method
      pub turn : (w : World) (given : List Held) → call_turn fields methods heap.names w special r (Some object_there) given ≡ run_turn fields methods heap.names w special r method object_there given
      pub roomy : LacksRoom number false

    abbrev pub ComesTo : Reference → (ℕ → Reference) → (ℕ → Reference) → Choice → Type 0
    ComesTo r fields methods Missing = (w : World) (given : List Held) → call_turn fields methods heap.names w special r (Some object_there) given ≡ stops (events.Unresolved (member_text r))
    ComesTo r fields methods Breaks = (w : World) (given : List Held) → call_turn fields methods heap.names w special r (Some object_there) given ≡ stops events.Broken
    ComesTo r fields methods (Runs method) = ChosenOn r fields methods method.0

    abbrev pub ChoosesOn : Reference → Choice → Type 0
    ChoosesOn r choice =
        (fields methods : ℕ → Reference) → IsMachine k (machine_of k fields methods) → AreFit (length k.heads) heap.names → nat_lt at.0 (length heap.names) ≡ true → ComesTo r fields methods choice
