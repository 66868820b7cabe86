-- What a call comes to is the same, whatever the frame held before it.
use Rattle.std.specs.Prelude.{◌≡◌, ℕ, ◌&&◌, not, Bool, true, false, if◌then◌else◌, List, [], ◌∷◌, Option, Some, None, refl}
use Rattle.std.proofs.Common.{◌∙◌, ap}
use Rattle.class_file.specs.Pool.{Reference}
use Rattle.class_heads.specs.Hierarchy.{is_array}
use Rattle.boot_library.specs.declared.rule.LibraryRule.{LibraryRule}
use Rattle.class_machine.specs.Classes.{Method, Classes, is_among, is_constructor}
use Rattle.class_machine.specs.declared.kinds.Fault.{Fault}
use Rattle.class_machine.specs.Descriptors.{result_in}
use Rattle.class_machine.specs.Effect.{Effect, CallOn, Build, received}
use Rattle.class_machine.specs.Effect as effects
use Rattle.class_machine.specs.Events as events
use Rattle.class_machine.specs.Events.{Event}
use Rattle.class_machine.specs.LibraryCalls as work
use Rattle.class_machine.specs.LibraryCalls.{Work}
use Rattle.class_machine.specs.Natives as native
use Rattle.class_machine.specs.Natives.{Response, respond, native_event}
use Rattle.class_machine.specs.Turn.{Code, Frame, frame_at, Purpose, Link, Free, Refused, Needs, Turn, stops, missing_member, is_frameless, has_result_room, room_for_result, callable, entry_fits, static_method, fails, given_back, completes, responded, gives_class, loads, worked, pending, initialised, linked, ruled, by_body, by_kind, runs, runs_selected, purpose_of, selection, serves_as, call_on, with_method, build, built, link, resolved, is_this_or_super, with_receiver, Ordinary}
use Rattle.class_machine.specs.Values.{Name, Held, Reference as Pointer, Content, Token}
use Rattle.class_machine.specs.World.{World, begin, make}

module _ {P : Type 0} (code : Code P) (cs : Classes) (f : Frame P) (held : Content P) where
  -- the same frame, with something else
  abbrev pub other : Frame P
  other = frame_at f f.place held

  room_same : (d : Content P) (o : Option (List ℕ)) → room_for_result code cs f d o ≡ room_for_result code cs other d o
  room_same d None = refl
  room_same d (Some type) = refl

  pub has_room_same : (d : Content P) (m : Method) → has_result_room code cs f d m ≡ has_result_room code cs other d m
  has_room_same d m = room_same d (result_in m.name.member.descriptor)

  -- ---- a static method that is called

  callable_same : (d : Content P) (r : Reference) (given : List Held) (m : Method) (onward : Link) → callable code cs f d r given m onward ≡ callable code cs other d r given m onward
  callable_same d r given m onward =
      ap (λ (b : Bool). if is_frameless m then (if b then onward else Refused events.Broken) else entry_fits code cs r given onward (code.method m.name)) (has_room_same d m)

  pub static_same : (d : Content P) (r : Reference) (given : List Held) (found : Option Method) → static_method code cs f d r given found ≡ static_method code cs other d r given found
  static_same d r given None = refl
  static_same d r given (Some m) = ap (λ (l : Link). if m.is_static then l else missing_member r) (callable_same d r given m (Needs m.name.class))

  -- ---- the method that is to run

  given_same : (v : Option Held) (d : Content P) (go : Content P → Turn P) → given_back code cs f v d go ≡ given_back code cs other v d go
  given_same None d go = refl
  given_same (Some v) d go = refl

  responded_same : (d : Content P) (super : Bool) (event : Event) (x : Response) → responded code cs f d super event x ≡ responded code cs other d super event x
  responded_same d super event (native.Returns v w) = given_same v d (λ all. completes code cs (Some event) super (code.next f.place) all w)
  responded_same d super event (native.Throws x w) = refl
  responded_same d super event native.Lacks = refl

  loads_same : (d : Content P) (w : World) (class : List ℕ) (frames : List (Frame P)) → loads code cs f d w class frames ≡ loads code cs other d w class frames
  loads_same d w class [] = refl
  loads_same d w class (g ∷ frames) = refl

  worked_same : (d : Content P) (w : World) (super : Bool) (x : Work) → worked code cs f d w super x ≡ worked code cs other d w super x
  worked_same d w super (work.Results said v w') = given_same v d (λ all. completes code cs said super (code.next f.place) all w')
  worked_same d w super (work.Throws x w') = refl
  worked_same d w super (work.Faults fault) = refl
  worked_same d w super (work.Calls m a wait w') = refl
  worked_same d w super (work.Loads class) = ap (λ (t : Turn P). if is_array class then gives_class code cs f d w class else t) (loads_same d w class (pending code cs w class))
  worked_same d w super (work.Exits status) = refl
  worked_same d w super work.Misuses = refl

  module _ (purpose : Purpose) (d : Content P) (w : World) (r : Reference) where
    body_same : (m : Method) (receiver : Option Name) (given : List Held) (rule : Option LibraryRule) → by_body code cs purpose f d w r m receiver given rule ≡ by_body code cs purpose other d w r m receiver given rule
    body_same m receiver given None = refl
    body_same m receiver given (Some rule) = worked_same d w (is_this_or_super code cs purpose) (ruled code cs w rule receiver given)

    kind_same : (m : Method) (receiver : Option Name) (given : List Held) → by_kind code cs purpose f d w r m receiver given ≡ by_kind code cs purpose other d w r m receiver given
    kind_same m receiver given =
        ap (λ (t : Turn P). if m.is_native then t else by_body code cs purpose f d w r m receiver given m.rule)
        (responded_same d (is_this_or_super code cs purpose) (native_event w m.name (with_receiver receiver given)) (respond cs w m.name))
        ∙ ap (λ (t : Turn P). if m.is_native then responded code cs other d (is_this_or_super code cs purpose) (native_event w m.name (with_receiver receiver given)) (respond cs w m.name) else t)
        (body_same m receiver given m.rule)

    pub runs_same : (m : Method) (receiver : Option Name) (given : List Held) → runs code cs purpose f d w r m receiver given ≡ runs code cs purpose other d w r m receiver given
    runs_same m receiver given =
        ap (λ (b : Bool). if is_frameless m && not b then stops events.Broken else by_kind code cs purpose f d w r m receiver given) (has_room_same d m)
        ∙ ap (λ (t : Turn P). if is_frameless m && not (has_result_room code cs other d m) then stops events.Broken else t) (kind_same m receiver given)

    selected_same : (a : Name) (given : List Held) (o : Option Method) → runs_selected code cs purpose f d w r a given o ≡ runs_selected code cs purpose other d w r a given o
    selected_same a given None = refl
    selected_same a given (Some m) = runs_same m (Some a) given

  -- ---- a call on an object, or on null

  selection_same : (special : Bool) (a : Name) (m : Method) → selection code cs f special a m ≡ selection code cs other special a m
  selection_same true a m = refl
  selection_same false a m = refl

  module _ (d : Content P) (special : Bool) (r : Reference) (given : List Held) where
    call_same : (w : World) (m : Method) (a : Option Name) → call_on code cs f d w special r m given a ≡ call_on code cs other d w special r m given a
    call_same w m None = ap (λ (b : Bool). if is_frameless m && not b then stops events.Broken else fails code cs Fault.NullPointer d w) (has_room_same d m)
    call_same w m (Some a) =
        ap (λ (t : Turn P). if serves_as code cs a m then t else stops events.Broken)
        (selected_same (purpose_of code cs special r) d w r a given (selection code cs f special a m)
        ∙ ap (runs_selected code cs (purpose_of code cs special r) other d w r a given) (selection_same special a m))

    found_same : (w : World) (a : Option Name) (o : Option Method) → with_method code cs o (λ m. call_on code cs f d w special r m given a) ≡ with_method code cs o (λ m. call_on code cs other d w special r m given a)
    found_same w a None = refl
    found_same w a (Some m) = call_same w m a

    begun_same : (w : World) (a : Option Name) (class : List ℕ) (frames : List (Frame P)) → initialised code cs f w (CallOn special r a given d) class frames ≡ initialised code cs other w (CallOn special r a given d) class frames
    begun_same w a class [] = found_same (begin cs w class) a (cs.method r)
    begun_same w a class (g ∷ frames) = refl

    pub linked_same : (w : World) (a : Option Name) (l : Link) → linked code cs f w (CallOn special r a given d) l ≡ linked code cs other w (CallOn special r a given d) l
    linked_same w a Free = found_same w a (cs.method r)
    linked_same w a (Refused ending) = refl
    linked_same w a (Needs class) = begun_same w a class (pending code cs w class)

  -- ---- a call on a token

  module _ (d : Content P) (r : Reference) (class : List ℕ) (number : ℕ) (given : List Held) where
    abbrev builds : Effect P
    builds = Build r class number given d

    build_same : (w : World) (o : Option Method) → with_method code cs o (λ m. build code cs f d w r class number m given) ≡ with_method code cs o (λ m. build code cs other d w r class number m given)
    build_same w None = refl
    build_same w (Some m) =
        let made = make cs w class in
        ap (λ (t : Turn P). if is_among (cs.superclasses class) m.name.class then t else stops events.Broken)
        (runs_same Ordinary (built code cs number (Pointer made.0) d) made.1 r m (Some made.0) given)

    begun_build_same : (w : World) (names : List ℕ) (frames : List (Frame P)) → initialised code cs f w builds names frames ≡ initialised code cs other w builds names frames
    begun_build_same w names [] = build_same (begin cs w names) (cs.method r)
    begun_build_same w names (g ∷ frames) = refl

    linked_build_same : (w : World) (l : Link) → linked code cs f w builds l ≡ linked code cs other w builds l
    linked_build_same w Free = build_same w (cs.method r)
    linked_build_same w (Refused ending) = refl
    linked_build_same w (Needs names) = begun_build_same w names (pending code cs w names)

    pub token_same : (w : World) (special : Bool) → resolved code cs f w (received special r (Token class number) given d) ≡ resolved code cs other w (received special r (Token class number) given d)
    token_same w false = refl
    token_same w true = by (is_constructor r) where
      by : (b : Bool) → resolved code cs f w (if b then builds else effects.Broken) ≡ resolved code cs other w (if b then builds else effects.Broken)
      by true = linked_build_same w (link code cs f builds)
      by false = refl
