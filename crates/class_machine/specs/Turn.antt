-- What an instruction makes of its frame (JVMS 3.6, 5.5, 6). The code and its places are a parameter, and so are the
-- classes. The order within a step: Broken by the effect; what the instruction names and the search doesn't find; pending
-- initialisers; null; Broken by the class of an object; selection; all else.
use Rattle.std.specs.Prelude.{ℕ, ◌&&◌, ◌||◌, Bool, true, false, not, if◌then◌else◌, List, [], ◌∷◌, ◌++◌, map, replicate, is_some, nat_le, ◌-◌, Option, Some, None}
use Rattle.std.specs.Option.{option_map}
use Rattle.class_file.specs.Pool.{Reference}
use Rattle.class_heads.specs.Hierarchy.{is_array}
use Rattle.class_machine.specs.declared.kinds.Fault.{Fault}
use Rattle.class_machine.specs.Values.{Name, ClassObject, class_of, throwable_class, Held, Reference as Pointer, held_width, arguments_width, Plain, ReturnAddress, Local, Unset, Content, content, pushed_on, has_room, kind_width, argument_locals, filled_in, filled_local}
use Rattle.class_machine.specs.Descriptors.{kind_in, result_in}
use Rattle.class_machine.specs.Events.{Event, Ending, Exit, Unresolved, Unmodelled, ScriptEnds}
use Rattle.class_machine.specs.Events as events
use Rattle.class_machine.specs.Classes.{dotted, member_text, is_constructor, Field, Method, Classes, is_among, select, select_special, fault_class}
use Rattle.class_machine.specs.World.{World, make, begin, enter_monitor}
use Rattle.class_machine.specs.Operations.{Operation}
use Rattle.class_machine.specs.Effect.{Request, GetStatic, PutStatic, GetField, PutField, MakeArray, Cast, IsInstance, LoadClass, Setting, Effect, On, Jump, Enter, Back, Ask, Announce, CallStatic, CallOn, Build, Leave, Fail, Throw, is_broken, effect}
use Rattle.class_machine.specs.Effect as effects
use Rattle.class_machine.specs.Answers.{Reply, Gives, Done, Faults, Refuses, answer}
use Rattle.boot_library.specs.declared.rule.LibraryRule.{LibraryRule}
use Rattle.class_machine.specs.LibraryCalls.{Wait, Work, Results, Throws, Calls, Loads, Exits, Misuses, by_rule, by_static_rule}
use Rattle.class_machine.specs.LibraryCalls as work
use Rattle.class_machine.specs.Natives.{Response, Returns, Lacks, respond, native_event}
use Rattle.class_machine.specs.Natives as native

-- ---- code

-- where a method begins, the room of its operands, and how many locals it has
pub record Entry (P : Type 0) : Type 0 where
  pub start : P
  pub room : ℕ
  pub locals : ℕ

-- an entry of the exception table: what it catches, and where control goes; without a class it catches all
pub record Handler (P : Type 0) : Type 0 where
  pub catch : Option (List ℕ)
  pub place : P

-- code at places
pub record Code (P : Type 0) : Type 0 where
  -- the instruction at a place, if one begins there
  pub line : P → Option Operation
  -- the place behind the instruction
  pub next : P → P
  -- the target of that number
  pub target : P → ℕ → P
  -- the entries that cover the place, in their order
  pub handlers : P → List (Handler P)
  -- of the methods that have code
  pub method : Reference → Option (Entry P)

-- ---- frames

-- what becomes of a frame's result
pub data Purpose : Type 0 where
  -- it goes to the frame below, which waits at its call
  Ordinary : Purpose
  -- it is a this or super call of the constructor below
  Constructs : Purpose
  -- it initialises the class: the frame below goes on where it stands
  Initialises : (class : List ℕ) → Purpose
  -- it goes to the library call of the frame below
  Within : (wait : Wait) → Purpose

pub record Frame (P : Type 0) : Type 0 where
  pub method : Reference
  pub place : P
  pub content : Content P
  -- how many slots its operands may take
  pub room : ℕ
  -- of a synchronized method, the object whose monitor it entered
  pub monitor : Option Name
  -- of a constructor, whether its this or super call has returned
  pub constructed : Bool
  pub purpose : Purpose

abbrev pub frame_at : {P : Type 0} → Frame P → P → Content P → Frame P
frame_at f place c = record f { place = place; content = c }

-- what an instruction makes of its frame
pub data Turn (P : Type 0) : Type 0 where
  -- on at a place, where an instruction stands
  Stays : (place : P) (c : Content P) (w : World) → Turn P
  -- the same, after a call without a frame: with its event, and whether it was a this or super call
  Completes : (said : Option Event) (super : Bool) (place : P) (c : Content P) (w : World) → Turn P
  -- into the callee; the frame waits at its place, with what is left
  Enters : (callee : Frame P) (c : Content P) (w : World) → Turn P
  Leaves : (result : Option Held) (w : World) → Turn P
  -- initialisers come first, and the instruction is executed again
  Begins : (initialisers : List (Frame P)) (w : World) → Turn P
  -- an exception, after the event of the native call that throws it; what the frame holds then
  Raises : (said : Option Event) (x : Name) (c : Content P) (w : World) → Turn P
  -- the run is over, one step after the event if there is one
  Finishes : (said : Option Event) (ending : Ending) → Turn P

abbrev pub stops : {P : Type 0} → Ending → Turn P
stops ending = Finishes None ending

-- what the search for what the instruction names comes to
pub data Link : Type 0 where
  -- nothing is missing, and no class is to be initialised
  Free : Link
  Refused : (ending : Ending) → Link
  -- this class is to be initialised
  Needs : (class : List ℕ) → Link

abbrev pub missing_member : Reference → Link
missing_member r = Refused (Unresolved (member_text r))

abbrev pub missing_class : List ℕ → Link
missing_class class = Refused (Unresolved (dotted class))

abbrev pub or_free : Bool → Link → Link
or_free true link = Free
or_free false link = link

-- ---- calls

-- a native method, or one of the library
abbrev pub is_frameless : Method → Bool
is_frameless m = m.is_native || is_some m.rule

-- a synchronized method enters a monitor: that of its receiver, or of its class's object
abbrev pub lock_of : Method → Option Name → Option Name
lock_of m receiver = if m.is_synchronized then Some (of_receiver receiver) else None where
  of_receiver : Option Name → Name
  of_receiver None = ClassObject m.name.class
  of_receiver (Some a) = a

abbrev pub entering : Option Name → World → World
entering None w = w
entering (Some a) w = enter_monitor w a

abbrev pub with_receiver : Option Name → List Held → List Held
with_receiver None given = given
with_receiver (Some a) given = Pointer a ∷ given

-- the locals of a call
abbrev pub filled : {P : Type 0} → ℕ → List Held → List (Local P)
filled n given = argument_locals given ++ replicate (n - arguments_width given) Unset

-- the frame of a method, with its arguments as the first locals
abbrev pub entered : {P : Type 0} → Purpose → Method → Option Name → List Held → Entry P → Frame P
entered purpose m receiver given e =
    record { method = m.name; place = e.start; content = content [] (filled e.locals given); room = e.room; monitor = lock_of m receiver; constructed = false; purpose = purpose }

module _ {P : Type 0} (code : Code P) (cs : Classes) where
  -- ---- calls, before anything is done

  -- the room of the result of a call that has no frame
  abbrev pub room_for_result : Frame P → Content P → Option (List ℕ) → Bool
  room_for_result f c None = true
  room_for_result f c (Some type) = has_room f.room (kind_width (kind_in type)) c.operands

  abbrev pub has_result_room : Frame P → Content P → Method → Bool
  has_result_room f c m = room_for_result f c (result_in m.name.member.descriptor)

  -- the arguments fit the locals of the method
  abbrev pub entry_fits : Reference → List Held → Link → Option (Entry P) → Link
  entry_fits r given go None = missing_member r
  entry_fits r given go (Some e) = if nat_le (arguments_width given) e.locals then go else Refused events.Broken

  -- a call without a frame has room for its result, and any other one has code whose locals take the arguments
  abbrev pub callable : Frame P → Content P → Reference → List Held → Method → Link → Link
  callable f c r given m go =
      if is_frameless m then (if has_result_room f c m then go else Refused events.Broken) else entry_fits r given go (code.method m.name)

  -- ---- searches (JVMS 5.4.3)

  abbrev pub static_field : Reference → Option Field → Link
  static_field r None = missing_member r
  static_field r (Some field) = if field.is_static then Needs field.name.class else missing_member r

  abbrev pub instance_field : Reference → Option Field → Link
  instance_field r None = missing_member r
  instance_field r (Some field) = if field.is_static then missing_member r else Free

  abbrev pub static_method : Frame P → Content P → Reference → List Held → Option Method → Link
  static_method f c r given None = missing_member r
  static_method f c r given (Some m) = if m.is_static then callable f c r given m (Needs m.name.class) else missing_member r

  abbrev pub instance_method : Reference → Option Method → Link
  instance_method r None = missing_member r
  instance_method r (Some m) = if m.is_static then missing_member r else Free

  abbrev pub known_class : List ℕ → Link
  known_class class = or_free (cs.knows class) (missing_class class)

  abbrev pub asked_link : Request → Link
  asked_link (GetStatic r) = static_field r (cs.field r)
  asked_link (PutStatic r v) = static_field r (cs.field r)
  asked_link (GetField r a) = instance_field r (cs.field r)
  asked_link (PutField r a v) = instance_field r (cs.field r)
  asked_link (MakeArray (Some class) type sizes) = known_class class
  asked_link (Cast class (Some a)) = known_class class
  asked_link (IsInstance class (Some a)) = known_class class
  asked_link (LoadClass class) = known_class class
  asked_link _ = Free

  -- what the effect needs of the classes before it is taken
  abbrev pub link : Frame P → Effect P → Link
  link f (Ask request c) = asked_link request
  link f (Announce class c) = if cs.has_objects class then Needs class else missing_class class
  link f (CallStatic r given c) = static_method f c r given (cs.method r)
  link f (CallOn special r a given c) = instance_method r (cs.method r)
  link f (Build r class number given c) = instance_method r (cs.method r)
  link f _ = Free

  -- ---- going on

  -- jumping or falling to where no instruction is breaks the run
  abbrev pub stays : P → Content P → World → Turn P
  stays place c w = if is_some (code.line place) then Stays place c w else stops events.Broken

  abbrev pub completes : Option Event → Bool → P → Content P → World → Turn P
  completes said super place c w = if is_some (code.line place) then Completes said super place c w else stops events.Broken

  -- an exception that the machine makes is a new object
  abbrev pub fails : Fault → Content P → World → Turn P
  fails fault c w = given (make cs w (fault_class fault)) where
    given : Name × World → Turn P
    given made = Raises None made.0 c made.1

  -- on with the result on top, where there is room for it
  abbrev pub given_back : Frame P → Option Held → Content P → (Content P → Turn P) → Turn P
  given_back f None c go = go c
  given_back f (Some v) c go = if has_room f.room (held_width v) c.operands then go (pushed_on (Plain v) c) else stops events.Broken

  abbrev pub replied : Frame P → Content P → World → Reply → Turn P
  replied f c w (Gives v w') = given_back f (Some v) c (λ all. stays (code.next f.place) all w')
  replied f c w (Done w') = stays (code.next f.place) c w'
  replied f c w (Faults fault) = fails fault c w
  replied f c w Refuses = stops events.Broken

  -- ---- initialisation (JVMS 2.17.4, 5.5)

  abbrev pub initialiser_at : List ℕ → Reference → Option (Entry P) → List (Frame P)
  initialiser_at class method None = []
  initialiser_at class method (Some e) =
      record { method = method; place = e.start; content = content [] (replicate e.locals Unset); room = e.room; monitor = None; constructed = false; purpose = Initialises class } ∷ []

  abbrev pub own_initialiser : List ℕ → Option Method → List (Frame P)
  own_initialiser class None = []
  own_initialiser class (Some m) = initialiser_at class m.name (code.method m.name)

  -- of these classes, which go upward, the initialisers of those that haven't begun, the highest one's first
  abbrev pub initialisers : List (List ℕ) → List (List ℕ) → List (Frame P)
  initialisers begun [] = []
  initialisers begun (class ∷ above) =
      initialisers begun above ++ (if is_among begun class then [] else own_initialiser class (cs.initialiser class))

  -- the frames of the initialisers that are pending at a trigger of the class
  abbrev pub pending : World → List ℕ → List (Frame P)
  pending w class = initialisers w.begun (cs.superclasses class)

  -- ---- calls

  abbrev pub enter_at : Purpose → Content P → World → Method → Option Name → List Held → Entry P → Turn P
  enter_at purpose c w m receiver given e =
      if nat_le (arguments_width given) e.locals
      then Enters (entered purpose m receiver given e) c (entering (lock_of m receiver) w) else stops events.Broken

  -- into the method's code; where it has none, the named member is unresolved
  abbrev pub enters : Purpose → Content P → World → Reference → Method → Option Name → List Held → Option (Entry P) → Turn P
  enters purpose c w r m receiver given None = stops (Unresolved (member_text r))
  enters purpose c w r m receiver given (Some e) = enter_at purpose c w m receiver given e

  abbrev pub is_this_or_super : Purpose → Bool
  is_this_or_super Constructs = true
  is_this_or_super _ = false

  -- a native call: its event, and what the script answers
  abbrev pub responded : Frame P → Content P → Bool → Event → Response → Turn P
  responded f c super event (Returns v w) = given_back f v c (λ all. completes (Some event) super (code.next f.place) all w)
  responded f c super event (native.Throws x w) = Raises (Some event) x c w
  responded f c super event Lacks = Finishes (Some event) ScriptEnds

  -- toString or getMessage of a class outside the library, within a library call
  abbrev pub enter_within : Content P → World → Method → Name → Wait → Turn P
  enter_within c w m a wait =
      if m.is_native then stops (Unresolved (member_text m.name)) else enters (Within wait) c w m.name m (Some a) (Pointer a ∷ []) (code.method m.name)

  -- on with the object that stands for the class
  abbrev pub gives_class : Frame P → Content P → World → List ℕ → Turn P
  gives_class f c w class = given_back f (Some (Pointer (ClassObject class))) c (λ all. completes None false (code.next f.place) all w)

  -- Class.forName triggers initialisation, and is then executed again
  abbrev pub loads : Frame P → Content P → World → List ℕ → List (Frame P) → Turn P
  loads f c w class [] = gives_class f c (begin cs w class) class
  loads f c w class (g ∷ frames) = Begins (g ∷ frames) (begin cs w class)

  -- what a library call makes of its frame; an array type initialises nothing
  abbrev pub worked : Frame P → Content P → World → Bool → Work → Turn P
  worked f c w super (Results said v w') = given_back f v c (λ all. completes said super (code.next f.place) all w')
  worked f c w super (Throws x w') = Raises None x c w'
  worked f c w super (work.Faults fault) = fails fault c w
  worked f c w super (Calls m a wait w') = enter_within c w' m a wait
  worked f c w super (Loads class) = if is_array class then gives_class f c w class else loads f c w class (pending w class)
  worked f c w super (Exits status) = stops (Exit status)
  worked f c w super Misuses = stops events.Broken

  abbrev pub ruled : World → LibraryRule → Option Name → List Held → Work
  ruled w rule None given = by_static_rule cs w rule given
  ruled w rule (Some a) given = by_rule cs w rule a given

  abbrev pub by_body : Purpose → Frame P → Content P → World → Reference → Method → Option Name → List Held → Option LibraryRule → Turn P
  by_body purpose f c w r m receiver given (Some rule) = worked f c w (is_this_or_super purpose) (ruled w rule receiver given)
  by_body purpose f c w r m receiver given None = enters purpose c w r m receiver (with_receiver receiver given) (code.method m.name)

  abbrev pub by_kind : Purpose → Frame P → Content P → World → Reference → Method → Option Name → List Held → Turn P
  by_kind purpose f c w r m receiver given =
      if m.is_native
      then responded f c (is_this_or_super purpose) (native_event w m.name (with_receiver receiver given)) (respond cs w m.name)
      else by_body purpose f c w r m receiver given m.rule

  -- the method that is to run, named by r in the instruction
  abbrev pub runs : Purpose → Frame P → Content P → World → Reference → Method → Option Name → List Held → Turn P
  runs purpose f c w r m receiver given =
      if is_frameless m && not (has_result_room f c m) then stops events.Broken else by_kind purpose f c w r m receiver given

  abbrev pub runs_selected : Purpose → Frame P → Content P → World → Reference → Name → List Held → Option Method → Turn P
  runs_selected purpose f c w r a given None = stops (Unresolved (member_text r))
  runs_selected purpose f c w r a given (Some m) = runs purpose f c w r m (Some a) given

  -- `invokespecial` of a constructor on an object is a this or super call
  abbrev pub purpose_of : Bool → Reference → Purpose
  purpose_of special r = if special && is_constructor r then Constructs else Ordinary

  abbrev pub selection : Frame P → Bool → Name → Method → Option Method
  selection f true a m = select_special cs f.method.class m
  selection f false a m = select cs (class_of a) m

  -- the object is an instance of the class that declares the found method, if that is no interface
  abbrev pub serves_as : Name → Method → Bool
  serves_as a m = cs.is_interface m.name.class || cs.is_subtype (class_of a) m.name.class

  abbrev pub call_on : Frame P → Content P → World → Bool → Reference → Method → List Held → Option Name → Turn P
  call_on f c w special r m given None = if is_frameless m && not (has_result_room f c m) then stops events.Broken else fails Fault.NullPointer c w
  call_on f c w special r m given (Some a) =
      if serves_as a m then runs_selected (purpose_of special r) f c w r a given (selection f special a m) else stops events.Broken

  -- every copy of the token becomes the object
  abbrev pub built : ℕ → Held → Content P → Content P
  built number object c = content (map (filled_in number object) c.operands) (map (filled_local number object) c.locals)

  abbrev pub build_made : Frame P → Content P → Reference → ℕ → Method → List Held → Name × World → Turn P
  build_made f c r number m given made = runs Ordinary f (built number (Pointer made.0) c) made.1 r m (Some made.0) given

  -- the constructor's class is the token's or a superclass of it
  abbrev pub build : Frame P → Content P → World → Reference → List ℕ → ℕ → Method → List Held → Turn P
  build f c w r class number m given =
      if is_among (cs.superclasses class) m.name.class then build_made f c r number m given (make cs w class) else stops events.Broken

  -- with the method that the search found
  abbrev pub with_method : Option Method → (Method → Turn P) → Turn P
  with_method None go = stops events.Broken
  with_method (Some m) go = go m

  -- ---- the effect is taken

  abbrev pub taken : Frame P → World → Effect P → Turn P
  taken f w (On c) = stays (code.next f.place) c w
  taken f w (Jump i c) = stays (code.target f.place i) c w
  taken f w (Enter i c) = stays (code.target f.place i) (pushed_on (ReturnAddress (code.next f.place)) c) w
  taken f w (Back place c) = stays place c w
  taken f w (Ask request c) = replied f c w (answer cs w request)
  taken f w (Announce class c) = stays (code.next f.place) c w
  taken f w (CallStatic r given c) = with_method (cs.method r) (λ m. runs Ordinary f c w r m None given)
  taken f w (CallOn special r a given c) = with_method (cs.method r) (λ m. call_on f c w special r m given a)
  taken f w (Build r class number given c) = with_method (cs.method r) (λ m. build f c w r class number m given)
  taken f w (Leave result) = Leaves result w
  taken f w (Fail fault) = fails fault f.content w
  taken f w (Throw a) = if cs.is_subtype (class_of a) throwable_class then Raises None a f.content w else stops events.Broken
  taken f w (effects.Unmodelled op) = stops (Unmodelled op)
  taken f w effects.Broken = stops events.Broken

  abbrev pub initialised : Frame P → World → Effect P → List ℕ → List (Frame P) → Turn P
  initialised f w e class [] = taken f (begin cs w class) e
  initialised f w e class (g ∷ frames) = Begins (g ∷ frames) (begin cs w class)

  abbrev pub linked : Frame P → World → Effect P → Link → Turn P
  linked f w e Free = taken f w e
  linked f w e (Refused ending) = stops ending
  linked f w e (Needs class) = initialised f w e class (pending w class)

  abbrev pub resolved : Frame P → World → Effect P → Turn P
  resolved f w e = if is_broken e then stops events.Broken else linked f w e (link f e)

  abbrev pub setting : Frame P → Setting
  setting f = record { room = f.room; result = option_map kind_in (result_in f.method.member.descriptor) }

  abbrev pub effect_at : Frame P → Operation → Effect P
  effect_at f operation = effect (setting f) operation f.content.operands f.content.locals

  abbrev pub executed : Frame P → World → Option Operation → Turn P
  executed f w None = stops events.Broken
  executed f w (Some operation) = resolved f w (effect_at f operation)

  -- what the instruction at the frame's place makes of the frame
  abbrev pub turn : Frame P → World → Turn P
  turn f w = executed f w (code.line f.place)
