-- What the law of one step speaks of: code whose instructions stand elsewhere, maybe with others among them; class tables
-- and worlds that answer alike what an instruction asks.
use Rattle.std.specs.Prelude.{◌≡◌, ℕ, ◌+◌, true, List, [], ◌∷◌, map, Option, Some, None, is_some}
use Rattle.class_file.specs.Pool.{Reference}
use Rattle.class_machine.specs.declared.kinds.Fault.{Fault}
use Rattle.class_machine.specs.Values.{Name, class_of, throwable_class, Held, Local}
use Rattle.class_machine.specs.Descriptors.{result_in}
use Rattle.class_machine.specs.Events.{Event, Ending, Broken}
use Rattle.class_machine.specs.Classes.{Method, Classes, fault_class}
use Rattle.class_machine.specs.World.{World, make, begin, enter_monitor}
use Rattle.class_machine.specs.Effect.{Effect, Ask, Announce, CallStatic, CallOn, Build, Throw}
use Rattle.class_machine.specs.Answers.{Reply, Gives, Done, Faults, Refuses, answer}
use Rattle.boot_library.specs.declared.rule.LibraryRule.{LibraryRule}
use Rattle.class_machine.specs.LibraryCalls.{Wait, Work, Results, Throws, Calls, Loads, Exits, Misuses}
use Rattle.class_machine.specs.LibraryCalls as work
use Rattle.class_machine.specs.Natives.{Response, Returns, Lacks, respond, native_event}
use Rattle.class_machine.specs.Natives as native
use Rattle.class_machine.specs.Turn.{Entry, Handler, Code, Needs, Frame, Turn, Stays, Completes, Enters, Leaves, Begins, Raises, Finishes, asked_link, link, pending, ruled, selection, serves_as, with_receiver}
use Rattle.class_machine.specs.Renaming.{grown, is_bare}

-- A frame whose code is woven: its method, more room, and more locals behind its own, which hold no token.
pub record Growth (Q : Type 0) : Type 0 where
  pub method : Reference
  pub room : ℕ
  pub locals : List (Local Q)
  pub bare : is_bare locals ≡ true

-- methods with results of one type
pub record SameResult (m n : Reference) : Type 0 where
  pub result : result_in n.member.descriptor ≡ result_in m.member.descriptor

-- ---- code

-- Who goes to the place p arrives at `f p`; the instruction of the place p stands at `at p`.
module _ {P Q : Type 0} (f at : P → Q) (code : Code P) (code' : Code Q) where
  pub record Stands (p : P) : Type 0 where
    pub line : code'.line (at p) ≡ code.line p
    pub next : code'.next (at p) ≡ f (code.next p)
    pub target : (i : ℕ) → code'.target (at p) i ≡ f (code.target p i)

  -- methods begin where they began, with more room and more locals
  abbrev pub EntryKept : Option (Entry P) → Option (Entry Q) → Type 0
  EntryKept None o = o ≡ None
  EntryKept (Some e) o = (more n : ℕ) × (o ≡ Some (record { start = f e.start; room = e.room + more; locals = e.locals + n }))

  -- of the whole code: where an instruction was, one is
  pub record Arrives : Type 0 where
    pub lands : (p : P) → is_some (code.line p) ≡ true → is_some (code'.line (f p)) ≡ true
    pub method : (m : Reference) → EntryKept (code.method m) (code'.method m)

-- ---- answers

module _ (Alike : World → World → Type 0) where
  abbrev pub ReplyKept : Reply → Reply → Type 0
  ReplyKept (Gives v w) r = (w' : World) × Alike w w' × (r ≡ Gives v w')
  ReplyKept (Done w) r = (w' : World) × Alike w w' × (r ≡ Done w')
  ReplyKept (Faults fault) r = r ≡ Faults fault
  ReplyKept Refuses r = Unit {0}

  -- the same object is made
  abbrev pub MadeKept : Name × World → Name × World → Type 0
  MadeKept made made' = (w' : World) × Alike made.1 w' × (made' ≡ (made.0, w'))

  abbrev pub ResponseKept : Response → Response → Type 0
  ResponseKept (Returns v w) r = (w' : World) × Alike w w' × (r ≡ Returns v w')
  ResponseKept (native.Throws x w) r = (w' : World) × Alike w w' × (r ≡ native.Throws x w')
  ResponseKept Lacks r = r ≡ Lacks

  abbrev pub WorkKept : Work → Work → Type 0
  WorkKept (Results said v w) r = (w' : World) × Alike w w' × (r ≡ Results said v w')
  WorkKept (Throws x w) r = (w' : World) × Alike w w' × (r ≡ Throws x w')
  WorkKept (work.Faults fault) r = r ≡ work.Faults fault
  WorkKept (Calls m a wait w) r = (w' : World) × Alike w w' × (r ≡ Calls m a wait w')
  WorkKept (Loads class) r = r ≡ Loads class
  WorkKept (Exits status) r = r ≡ Exits status
  WorkKept Misuses r = Unit {0}

module _ {P Q : Type 0} (f : P → Q) where
  abbrev pub grown_frame : (P → Q) → Growth Q → Frame P → Frame Q
  grown_frame to g x =
      record { method = g.method; place = to x.place; content = grown f g.locals x.content; room = x.room + g.room; monitor = x.monitor; constructed = x.constructed; purpose = x.purpose }

  -- frames that are to start, each at the beginning of its own method
  abbrev pub AllStart : List (Frame P) → List (Frame Q) → Type 0
  AllStart [] ys = ys ≡ []
  AllStart (x ∷ xs) ys = (g : Growth Q) × (rest : List (Frame Q)) × (g.method ≡ x.method) × (ys ≡ grown_frame f g x ∷ rest) × AllStart xs rest

  module _ (Alike : World → World → Type 0) where
    -- Of a turn that ends the run as Broken nothing is claimed.
    abbrev pub EndKept : Option Event → Ending → Turn Q → Type 0
    EndKept said Broken t = Unit {0}
    EndKept said ending t = t ≡ Finishes said ending

    abbrev pub TurnKept : Growth Q → Turn P → Turn Q → Type 0
    TurnKept g (Stays p c w) t = (w' : World) × Alike w w' × (t ≡ Stays (f p) (grown f g.locals c) w')
    TurnKept g (Completes said super p c w) t = (w' : World) × Alike w w' × (t ≡ Completes said super (f p) (grown f g.locals c) w')
    TurnKept g (Enters callee c w) t =
        (w' : World) × Alike w w' × (h : Growth Q) × (h.method ≡ callee.method) × (t ≡ Enters (grown_frame f h callee) (grown f g.locals c) w')
    TurnKept g (Leaves v w) t = (w' : World) × Alike w w' × (t ≡ Leaves v w')
    TurnKept g (Begins xs w) t = (w' : World) × Alike w w' × (ys : List (Frame Q)) × AllStart xs ys × (t ≡ Begins ys w')
    TurnKept g (Raises said x c w) t = (w' : World) × Alike w w' × (t ≡ Raises said x (grown f g.locals c) w')
    TurnKept g (Finishes said ending) t = EndKept said ending t

-- ---- what one effect asks of the classes and the world

module _ {P Q : Type 0} (f : P → Q) (code : Code P) (code' : Code Q) (cs cs' : Classes) (Alike : World → World → Type 0) where
  -- of the worlds as a whole
  pub record Agrees : Type 0 where
    pub made : (w w' : World) → Alike w w' → (fault : Fault) → MadeKept Alike (make cs w (fault_class fault)) (make cs' w' (fault_class fault))
    pub locked : (w w' : World) → Alike w w' → (a : Name) → Alike (enter_monitor w a) (enter_monitor w' a)

  -- at a trigger of the class the same initialisers are pending
  pub record BeginsAlike (class : List ℕ) (w w' : World) : Type 0 where
    pub marked : Alike (begin cs w class) (begin cs' w' class)
    pub frames : AllStart f (pending code cs w class) (pending code' cs' w' class)

  -- the search finds the same
  abbrev pub SearchedAlike : Effect P → Type 0
  SearchedAlike (Ask request c) = asked_link code' cs' request ≡ asked_link code cs request
  SearchedAlike (Announce class c) = cs'.has_objects class ≡ cs.has_objects class
  SearchedAlike (CallStatic r given c) = cs'.method r ≡ cs.method r
  SearchedAlike (CallOn special r a given c) = cs'.method r ≡ cs.method r
  SearchedAlike (Build r class number given c) = cs'.method r ≡ cs.method r
  SearchedAlike _ = Unit {0}

  -- the method, once it is called, does the same
  pub record BodyAlike (w w' : World) (m : Method) (receiver : Option Name) (given : List Held) : Type 0 where
    pub shown : m.is_native ≡ true → native_event w' m.name (with_receiver receiver given) ≡ native_event w m.name (with_receiver receiver given)
    pub responds : m.is_native ≡ true → ResponseKept Alike (respond cs w m.name) (respond cs' w' m.name)
    pub works : (rule : LibraryRule) → m.rule ≡ Some rule → WorkKept Alike (ruled code cs w rule receiver given) (ruled code' cs' w' rule receiver given)
    -- where it loads a class, the same initialisers are pending
    pub loads : (rule : LibraryRule) (class : List ℕ) → m.rule ≡ Some rule → ruled code cs w rule receiver given ≡ Loads class → BeginsAlike class w w'

  -- what the effect asks is answered alike, in a frame x whose growth is y
  abbrev pub AnsweredAlike : Frame P → Frame Q → World → World → Effect P → Type 0
  AnsweredAlike x y w w' (Ask request c) = ReplyKept Alike (answer cs w request) (answer cs' w' request)
  AnsweredAlike x y w w' (CallStatic r given c) = (m : Method) → cs.method r ≡ Some m → BodyAlike w w' m None given
  AnsweredAlike x y w w' (CallOn special r None given c) = Unit {0}
  AnsweredAlike x y w w' (CallOn special r (Some a) given c) =
      (m : Method) → cs.method r ≡ Some m →
      (serves_as code' cs' a m ≡ serves_as code cs a m) × (selection code' cs' y special a m ≡ selection code cs x special a m)
      × ((s : Method) → selection code cs x special a m ≡ Some s → BodyAlike w w' s (Some a) given)
  AnsweredAlike x y w w' (Build r class number given c) =
      (m : Method) → cs.method r ≡ Some m →
      (cs'.superclasses class ≡ cs.superclasses class) × (w1 : World) × Alike ((make cs w class).1) w1 × (make cs' w' class ≡ ((make cs w class).0, w1))
      × BodyAlike ((make cs w class).1) w1 m (Some ((make cs w class).0)) given
  AnsweredAlike x y w w' (Throw a) = cs'.is_subtype (class_of a) throwable_class ≡ cs.is_subtype (class_of a) throwable_class
  AnsweredAlike x y w w' _ = Unit {0}

  -- all of it, in every two worlds that are alike
  pub record Fair (x : Frame P) (y : Frame Q) (e : Effect P) : Type 0 where
    pub searched : SearchedAlike e
    pub begins : (class : List ℕ) → link code cs x e ≡ Needs class → (w w' : World) → Alike w w' → BeginsAlike class w w'
    pub answered : (w w' : World) → Alike w w' → AnsweredAlike x y w w' e

-- ---- exceptions

module _ {P Q : Type 0} (f at : P → Q) (code : Code P) (code' : Code Q) where
  abbrev pub moved_handler : Handler P → Handler Q
  moved_handler h = record { catch = h.catch; place = f h.place }

  -- an exception that comes up at the place goes where it went
  pub record Handles (p : P) : Type 0 where
    pub handlers : code'.handlers (at p) ≡ map moved_handler (code.handlers p)
