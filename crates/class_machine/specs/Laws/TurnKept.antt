-- One step of a frame whose instruction stands elsewhere: the same turn, with the frame grown.
use Rattle.std.proofs.Common.{◌≡◌, ℕ, zero, suc, ◌+◌, ◌-◌, ◌≤◌, Bool, true, false, List, [], ◌∷◌, ◌++◌, map, Option, Some, None, refl, sym, ap, ◌∙◌, arith, append_assoc, subst}
use Rattle.std.specs.Prelude.{nat_le, if◌then◌else◌, replicate, is_some, not, ◌&&◌}
use Rattle.std.specs.Option.{option_map}
use Rattle.std.proofs.lemmas.Bool.Decides.{nat_tests}
use Rattle.std.proofs.lemmas.List.{map-append}
use Rattle.class_file.specs.Pool.{Reference}
use Rattle.class_heads.specs.Hierarchy.{is_array}
use Rattle.class_machine.specs.declared.kinds.Fault.{Fault}
use Rattle.class_machine.specs.Values.{Name, ClassObject, class_of, throwable_class, Held, Reference as Pointer, Plain, ReturnAddress, Unset, Holds, Second, Content, pushed_on, held_width, has_room, is_wide_held, argument_locals, arguments_width}
use Rattle.class_machine.specs.Descriptors.{kind_in, result_in}
use Rattle.class_machine.specs.Events.{Event, Ending, Returned, Uncaught, InitFailed, Exit, Unmodelled, Unresolved, ScriptEnds}
use Rattle.class_machine.specs.Events as events
use Rattle.class_machine.specs.Classes.{dotted, member_text, Method, Classes, is_among}
use Rattle.class_machine.specs.World.{World, make, begin}
use Rattle.class_machine.specs.Operations.{Operation}
use Rattle.class_machine.specs.Effect.{Setting, Effect, On, Jump, Enter, Back, Ask, Announce, CallStatic, CallOn, Build, Leave, Fail, Throw, is_broken, effect}
use Rattle.class_machine.specs.Effect as effects
use Rattle.class_machine.specs.Answers.{Reply, Gives, Done, Faults, Refuses, answer}
use Rattle.boot_library.specs.declared.rule.LibraryRule.{LibraryRule}
use Rattle.class_machine.specs.LibraryCalls.{Wait, Work, Results, Throws, Calls, Loads, Exits, Misuses}
use Rattle.class_machine.specs.LibraryCalls as work
use Rattle.class_machine.specs.Natives.{Response, Returns, Lacks, respond, native_event}
use Rattle.class_machine.specs.Natives as native
use Rattle.class_machine.specs.Turn
use Rattle.class_machine.specs.Turn.{Entry, Code, Link, Free, Refused, Needs, Purpose, Ordinary, Within, Frame, Turn, Stays, Completes, Enters, Leaves, Begins, Raises, Finishes, stops, is_frameless, lock_of, entering, with_receiver, filled}
use Rattle.class_machine.specs.Renaming.{renamed_local, more_locals, grown, grown_effect, Kept, is_bare}
use Rattle.class_machine.specs.Standing.{Growth, SameResult, Stands, EntryKept, Arrives, ReplyKept, ResponseKept, WorkKept, grown_frame, AllStart, EndKept, TurnKept, Agrees, BeginsAlike, SearchedAlike, BodyAlike, AnsweredAlike, Fair}
use Rattle.class_machine.specs.Laws.EffectKept.{built-grown, effect_kept, weight-rs}

-- ---- locals of a call

pub unset-bare : (Q : Type 0) (n : ℕ) → is_bare {P = Q} (replicate n Unset) ≡ true
unset-bare Q zero = refl
unset-bare Q (suc n) = unset-bare Q n

module _ {P Q : Type 0} (f : P → Q) where
  arguments-grown : (hs : List Held) → map (renamed_local f) (argument_locals hs) ≡ argument_locals hs
  arguments-grown [] = refl
  arguments-grown (h ∷ hs) = wide_or (is_wide_held h) h hs (arguments-grown hs)
    where
      wide_or : (b : Bool) (h : Held) (hs : List Held) → map (renamed_local f) (argument_locals hs) ≡ argument_locals hs →
          map (renamed_local f) (if b then Holds (Plain h) ∷ Second ∷ argument_locals hs else Holds (Plain h) ∷ argument_locals hs) ≡ (if b then Holds (Plain h) ∷ Second ∷ argument_locals hs else Holds (Plain h) ∷ argument_locals hs)
      wide_or true h hs e = ap (λ l. Holds (Plain h) ∷ Second ∷ l) e
      wide_or false h hs e = ap (λ l. Holds (Plain h) ∷ l) e

  pub unset-grown : (n m : ℕ) → map (renamed_local f) (replicate n Unset) ++ replicate m Unset ≡ replicate (n + m) Unset
  unset-grown zero m = let e : 0 + m ≡ m = omega arith in rw e refl
  unset-grown (suc n) m = let e : suc n + m ≡ suc (n + m) = omega arith in rw e (ap (λ l. Unset ∷ l) (unset-grown n m))

  filled-grown : (n m : ℕ) (hs : List Held) → arguments_width hs ≤ n → more_locals f (replicate m Unset) (filled n hs) ≡ filled (n + m) hs
  filled-grown n m hs le =
      let e : (n + m) - arguments_width hs ≡ (n - arguments_width hs) + m = omega arith in
      ap (λ l. l ++ replicate m Unset) (map-append (renamed_local f) (argument_locals hs) (replicate (n - arguments_width hs) Unset) ∙ ap (λ l. l ++ map (renamed_local f) (replicate (n - arguments_width hs) Unset)) (arguments-grown hs))
      ∙ append_assoc (argument_locals hs) (map (renamed_local f) (replicate (n - arguments_width hs) Unset)) (replicate m Unset)
      ∙ ap (λ l. argument_locals hs ++ l) (unset-grown (n - arguments_width hs) m ∙ ap (λ k. replicate k Unset) (sym e))

-- ---- one turn

module _ {P Q : Type 0} (f at : P → Q) (code : Code P) (code' : Code Q) (cs cs' : Classes) (Alike : World → World → Type 0) (arrives : Arrives f at code code') (agrees : Agrees f code code' cs cs' Alike) where
  abbrev TK : Growth Q → Turn P → Turn Q → Type 0
  TK = TurnKept f Alike

  stays_at : (g : Growth Q) (p : P) (c : Content P) (w w' : World) → Alike w w' → (b : Bool) → is_some (code.line p) ≡ b →
      TK g (if b then Stays p c w else stops events.Broken) (Turn.stays code' cs' (f p) (grown f g.locals c) w')
  stays_at g p c w w' a true e = (w', a, rw (arrives.lands p e) refl)
  stays_at g p c w w' a false e = tt

  pub stays_kept : (g : Growth Q) (p : P) (c : Content P) (w w' : World) → Alike w w' → TK g (Turn.stays code cs p c w) (Turn.stays code' cs' (f p) (grown f g.locals c) w')
  stays_kept g p c w w' a = stays_at g p c w w' a (is_some (code.line p)) refl

  completes_at : (g : Growth Q) (said : Option Event) (super : Bool) (p : P) (c : Content P) (w w' : World) → Alike w w' → (b : Bool) → is_some (code.line p) ≡ b →
      TK g (if b then Completes said super p c w else stops events.Broken) (Turn.completes code' cs' said super (f p) (grown f g.locals c) w')
  completes_at g said super p c w w' a true e = (w', a, rw (arrives.lands p e) refl)
  completes_at g said super p c w w' a false e = tt

  pub completes_kept : (g : Growth Q) (said : Option Event) (super : Bool) (p : P) (c : Content P) (w w' : World) → Alike w w' →
      TK g (Turn.completes code cs said super p c w) (Turn.completes code' cs' said super (f p) (grown f g.locals c) w')
  completes_kept g said super p c w w' a = completes_at g said super p c w w' a (is_some (code.line p)) refl

  pub fails_kept : (g : Growth Q) (fault : Fault) (c : Content P) (w w' : World) → Alike w w' → TK g (Turn.fails code cs fault c w) (Turn.fails code' cs' fault (grown f g.locals c) w')
  fails_kept g fault c w w' a = let k = agrees.made w w' a fault in (k.0, k.1, ap (λ made. Raises None made.0 (grown f g.locals c) made.1) k.2)

  entering_alike : (w w' : World) → Alike w w' → (o : Option Name) → Alike (entering o w) (entering o w')
  entering_alike w w' a None = a
  entering_alike w w' a (Some x) = agrees.locked w w' a x

  -- ---- calls

  module _ (g : Growth Q) (x : Frame P) (stands : Stands f at code code' x.place) (same : SameResult x.method g.method) where
    abbrev y : Frame Q
    y = grown_frame f at g x

    abbrev gc : Content P → Content Q
    gc = grown f g.locals

    pub next_kept : (c : Content P) (w w' : World) → Alike w w' → TK g (Turn.stays code cs (code.next x.place) c w) (Turn.stays code' cs' (code'.next y.place) (gc c) w')
    next_kept c w w' a = rw stands.next (stays_kept g (code.next x.place) c w w' a)

    pub completed_kept : (said : Option Event) (super : Bool) (c : Content P) (w w' : World) → Alike w w' →
        TK g (Turn.completes code cs said super (code.next x.place) c w) (Turn.completes code' cs' said super (code'.next y.place) (gc c) w')
    completed_kept said super c w w' a = rw stands.next (completes_kept g said super (code.next x.place) c w w' a)

    given_at : (said : Option Event) (super : Bool) (h : Held) (c : Content P) (w w' : World) → Alike w w' → (b : Bool) → has_room x.room (held_width h) c.operands ≡ b →
        TK g (if b then Turn.completes code cs said super (code.next x.place) (pushed_on (Plain h) c) w else stops events.Broken)
        (if has_room y.room (held_width h) (gc c).operands then Turn.completes code' cs' said super (code'.next y.place) (pushed_on (Plain h) (gc c)) w' else stops events.Broken)
    given_at said super h c w w' a true e =
        let heavy = weight-rs f g.locals c.operands in
        let test : has_room y.room (held_width h) (gc c).operands ≡ true = grind (arith, nat_tests) in
        rw test (completed_kept said super (pushed_on (Plain h) c) w w' a)
    given_at said super h c w w' a false e = tt

    given_back_kept : (said : Option Event) (super : Bool) (v : Option Held) (c : Content P) (w w' : World) → Alike w w' →
        TK g (Turn.given_back code cs x v c (λ all. Turn.completes code cs said super (code.next x.place) all w))
        (Turn.given_back code' cs' y v (gc c) (λ all. Turn.completes code' cs' said super (code'.next y.place) all w'))
    given_back_kept said super None c w w' a = completed_kept said super c w w' a
    given_back_kept said super (Some h) c w w' a = given_at said super h c w w' a (has_room x.room (held_width h) c.operands) refl

    on_given : (h : Held) (c : Content P) (w w' : World) → Alike w w' → (b : Bool) → has_room x.room (held_width h) c.operands ≡ b →
        TK g (if b then Turn.stays code cs (code.next x.place) (pushed_on (Plain h) c) w else stops events.Broken)
        (if has_room y.room (held_width h) (gc c).operands then Turn.stays code' cs' (code'.next y.place) (pushed_on (Plain h) (gc c)) w' else stops events.Broken)
    on_given h c w w' a true e =
        let heavy = weight-rs f g.locals c.operands in
        let test : has_room y.room (held_width h) (gc c).operands ≡ true = grind (arith, nat_tests) in
        rw test (next_kept (pushed_on (Plain h) c) w w' a)
    on_given h c w w' a false e = tt

    target_kept : (i : ℕ) (c : Content P) (w w' : World) → Alike w w' → TK g (Turn.stays code cs (code.target x.place i) c w) (Turn.stays code' cs' (code'.target y.place i) (gc c) w')
    target_kept i c w w' a = rw (stands.target i) (stays_kept g (code.target x.place i) c w w' a)

    replied_kept : (c : Content P) (w w' : World) → Alike w w' → (r r' : Reply) → ReplyKept Alike r r' → TK g (Turn.replied code cs x c w r) (Turn.replied code' cs' y (gc c) w' r')
    replied_kept c w w' a (Gives v u) r' k = rw k.2 (on_given v c u k.0 k.1 (has_room x.room (held_width v) c.operands) refl)
    replied_kept c w w' a (Done u) r' k = rw k.2 (next_kept c u k.0 k.1)
    replied_kept c w w' a (Faults fault) r' k = rw k (fails_kept g fault c w w' a)
    replied_kept c w w' a Refuses r' k = tt

    room_kept : (c : Content P) (o : Option (List ℕ)) → Turn.room_for_result code cs x c o ≡ true → Turn.room_for_result code' cs' y (gc c) o ≡ true
    room_kept c None e = refl
    room_kept c (Some type) e = let same = weight-rs f g.locals c.operands in grind (arith, nat_tests)

    enter_at_kept : (purpose : Purpose) (c : Content P) (w w' : World) → Alike w w' → (m : Method) (receiver : Option Name) (given : List Held) (e : Entry P) (more n : ℕ) (b : Bool) → nat_le (arguments_width given) e.locals ≡ b →
        TK g (if b then Enters (Turn.entered purpose m receiver given e) c (entering (lock_of m receiver) w) else stops events.Broken)
        (Turn.enter_at code' cs' purpose (gc c) w' m receiver given (record { start = f e.start; room = e.room + more; locals = e.locals + n }))
    enter_at_kept purpose c w w' a m receiver given e more n true fits =
        let le : arguments_width given ≤ e.locals = grind (arith, nat_tests) in
        let test : nat_le (arguments_width given) (e.locals + n) ≡ true = grind (arith, nat_tests) in
        rw test (entering (lock_of m receiver) w', entering_alike w w' a (lock_of m receiver), record { method = m.name; room = more; locals = replicate n Unset; bare = unset-bare Q n }, refl, rw (filled-grown f e.locals n given le) refl)
    enter_at_kept purpose c w w' a m receiver given e more n false fits = tt

    enters_kept : (purpose : Purpose) (c : Content P) (w w' : World) → Alike w w' → (r : Reference) (m : Method) (receiver : Option Name) (given : List Held) (o : Option (Entry P)) (o' : Option (Entry Q)) → EntryKept f at code code' o o' →
        TK g (Turn.enters code cs purpose c w r m receiver given o) (Turn.enters code' cs' purpose (gc c) w' r m receiver given o')
    enters_kept purpose c w w' a r m receiver given None o' k = rw k refl
    enters_kept purpose c w w' a r m receiver given (Some e) o' k = rw k.2 (enter_at_kept purpose c w w' a m receiver given e k.0 k.1 (nat_le (arguments_width given) e.locals) refl)

    responded_kept : (c : Content P) (super : Bool) (event : Event) (r r' : Response) → ResponseKept Alike r r' → TK g (Turn.responded code cs x c super event r) (Turn.responded code' cs' y (gc c) super event r')
    responded_kept c super event (Returns v w) r' k = rw k.2 (given_back_kept (Some event) super v c w k.0 k.1)
    responded_kept c super event (native.Throws z w) r' k = rw k.2 (k.0, k.1, refl)
    responded_kept c super event Lacks r' k = rw k refl

    within_kept : (c : Content P) (w w' : World) → Alike w w' → (m : Method) (z : Name) (wait : Wait) (b : Bool) →
        TK g (if b then stops (Unresolved (member_text m.name)) else Turn.enters code cs (Within wait) c w m.name m (Some z) (Pointer z ∷ []) (code.method m.name))
        (if b then stops (Unresolved (member_text m.name)) else Turn.enters code' cs' (Within wait) (gc c) w' m.name m (Some z) (Pointer z ∷ []) (code'.method m.name))
    within_kept c w w' a m z wait true = refl
    within_kept c w w' a m z wait false = enters_kept (Within wait) c w w' a m.name m (Some z) (Pointer z ∷ []) (code.method m.name) (code'.method m.name) (arrives.method m.name)

    class_given : (c : Content P) (w w' : World) (class : List ℕ) → Alike w w' → TK g (Turn.gives_class code cs x c w class) (Turn.gives_class code' cs' y (gc c) w' class)
    class_given c w w' class a = given_back_kept None false (Some (Pointer (ClassObject class))) c w w' a

    loads_kept : (c : Content P) (w w' : World) (class : List ℕ) → Alike (begin cs w class) (begin cs' w' class) → (fs : List (Frame P)) (gs : List (Frame Q)) → AllStart f fs gs →
        TK g (Turn.loads code cs x c w class fs) (Turn.loads code' cs' y (gc c) w' class gs)
    loads_kept c w w' class a [] gs k = rw k (class_given c (begin cs w class) (begin cs' w' class) class a)
    loads_kept c w w' class a (h ∷ fs) gs k = rw k.3 (begin cs' w' class, a, _, (k.0, k.1, k.2, refl, k.4), refl)

    loads_either : (c : Content P) (w w' : World) (class : List ℕ) → Alike w w' → BeginsAlike f code code' cs cs' Alike class w w' → (b : Bool) →
        TK g (if b then Turn.gives_class code cs x c w class else Turn.loads code cs x c w class (Turn.pending code cs w class))
        (if b then Turn.gives_class code' cs' y (gc c) w' class else Turn.loads code' cs' y (gc c) w' class (Turn.pending code' cs' w' class))
    loads_either c w w' class a k true = class_given c w w' class a
    loads_either c w w' class a k false = loads_kept c w w' class k.marked (Turn.pending code cs w class) (Turn.pending code' cs' w' class) k.frames

    pub worked_kept : (c : Content P) (w w' : World) → Alike w w' → (super : Bool) (r r' : Work) → WorkKept Alike r r' → ((class : List ℕ) → r ≡ Loads class → BeginsAlike f code code' cs cs' Alike class w w') →
        TK g (Turn.worked code cs x c w super r) (Turn.worked code' cs' y (gc c) w' super r')
    worked_kept c w w' a super (Results said v u) r' k h = rw k.2 (given_back_kept said super v c u k.0 k.1)
    worked_kept c w w' a super (Throws z u) r' k h = rw k.2 (k.0, k.1, refl)
    worked_kept c w w' a super (work.Faults fault) r' k h = rw k (fails_kept g fault c w w' a)
    worked_kept c w w' a super (Calls m z wait u) r' k h = rw k.2 (within_kept c u k.0 k.1 m z wait m.is_native)
    worked_kept c w w' a super (Loads class) r' k h = rw k (loads_either c w w' class a (h class refl) (is_array class))
    worked_kept c w w' a super (Exits status) r' k h = rw k refl
    worked_kept c w w' a super Misuses r' k h = tt

    by_body_kept : (purpose : Purpose) (c : Content P) (w w' : World) → Alike w w' → (r : Reference) (m : Method) (receiver : Option Name) (given : List Held) → BodyAlike f code code' cs cs' Alike w w' m receiver given →
        (o : Option LibraryRule) → m.rule ≡ o → TK g (Turn.by_body code cs purpose x c w r m receiver given o) (Turn.by_body code' cs' purpose y (gc c) w' r m receiver given o)
    by_body_kept purpose c w w' a r m receiver given k (Some rule) e =
        worked_kept c w w' a (Turn.is_this_or_super code cs purpose) (Turn.ruled code cs w rule receiver given) (Turn.ruled code' cs' w' rule receiver given) (k.works rule e) (λ class l. k.loads rule class e l)
    by_body_kept purpose c w w' a r m receiver given k None e = enters_kept purpose c w w' a r m receiver (with_receiver receiver given) (code.method m.name) (code'.method m.name) (arrives.method m.name)

    by_kind_kept : (purpose : Purpose) (c : Content P) (w w' : World) → Alike w w' → (r : Reference) (m : Method) (receiver : Option Name) (given : List Held) → BodyAlike f code code' cs cs' Alike w w' m receiver given → (b : Bool) → m.is_native ≡ b →
        TK g (if b then Turn.responded code cs x c (Turn.is_this_or_super code cs purpose) (native_event w m.name (with_receiver receiver given)) (respond cs w m.name) else Turn.by_body code cs purpose x c w r m receiver given m.rule)
        (if b then Turn.responded code' cs' y (gc c) (Turn.is_this_or_super code' cs' purpose) (native_event w' m.name (with_receiver receiver given)) (respond cs' w' m.name) else Turn.by_body code' cs' purpose y (gc c) w' r m receiver given m.rule)
    by_kind_kept purpose c w w' a r m receiver given k true e = rw (k.shown e) (responded_kept c (Turn.is_this_or_super code cs purpose) _ (respond cs w m.name) (respond cs' w' m.name) (k.responds e))
    by_kind_kept purpose c w w' a r m receiver given k false e = by_body_kept purpose c w w' a r m receiver given k m.rule refl

    unless_full : (b r r' : Bool) → (r ≡ true → r' ≡ true) → (t : Turn P) (t' : Turn Q) → TK g t t' → TK g (if b && not r then stops events.Broken else t) (if b && not r' then stops events.Broken else t')
    unless_full false r r' h t t' k = k
    unless_full true true r' h t t' k = rw (h refl) k
    unless_full true false r' h t t' k = tt

    runs_kept : (purpose : Purpose) (c : Content P) (w w' : World) → Alike w w' → (r : Reference) (m : Method) (receiver : Option Name) (given : List Held) → BodyAlike f code code' cs cs' Alike w w' m receiver given →
        TK g (Turn.runs code cs purpose x c w r m receiver given) (Turn.runs code' cs' purpose y (gc c) w' r m receiver given)
    runs_kept purpose c w w' a r m receiver given k =
        unless_full (is_frameless m) (Turn.has_result_room code cs x c m) (Turn.has_result_room code' cs' y (gc c) m) (room_kept c (result_in m.name.member.descriptor)) _ _
        (by_kind_kept purpose c w w' a r m receiver given k m.is_native refl)

    -- ---- each call

    static_kept : (c : Content P) (w w' : World) → Alike w w' → (r : Reference) (given : List Held) (o : Option Method) → ((m : Method) → o ≡ Some m → BodyAlike f code code' cs cs' Alike w w' m None given) →
        TK g (Turn.with_method code cs o (λ m. Turn.runs code cs Ordinary x c w r m None given)) (Turn.with_method code' cs' o (λ m. Turn.runs code' cs' Ordinary y (gc c) w' r m None given))
    static_kept c w w' a r given None h = tt
    static_kept c w w' a r given (Some m) h = runs_kept Ordinary c w w' a r m None given (h m refl)

    selected_kept : (purpose : Purpose) (c : Content P) (w w' : World) → Alike w w' → (r : Reference) (z : Name) (given : List Held) (o : Option Method) → ((s : Method) → o ≡ Some s → BodyAlike f code code' cs cs' Alike w w' s (Some z) given) →
        TK g (Turn.runs_selected code cs purpose x c w r z given o) (Turn.runs_selected code' cs' purpose y (gc c) w' r z given o)
    selected_kept purpose c w w' a r z given None h = refl
    selected_kept purpose c w w' a r z given (Some s) h = runs_kept purpose c w w' a r s (Some z) given (h s refl)

    either_kept : (b : Bool) (t : Turn P) (t' : Turn Q) → TK g t t' → TK g (if b then t else stops events.Broken) (if b then t' else stops events.Broken)
    either_kept true t t' k = k
    either_kept false t t' k = tt

    on_kept : (c : Content P) (w w' : World) → Alike w w' → (special : Bool) (r : Reference) (z : Name) (given : List Held) (m : Method) →
        Turn.serves_as code' cs' z m ≡ Turn.serves_as code cs z m → Turn.selection code' cs' y special z m ≡ Turn.selection code cs x special z m →
        ((s : Method) → Turn.selection code cs x special z m ≡ Some s → BodyAlike f code code' cs cs' Alike w w' s (Some z) given) →
        TK g (Turn.call_on code cs x c w special r m given (Some z)) (Turn.call_on code' cs' y (gc c) w' special r m given (Some z))
    on_kept c w w' a special r z given m serves selects h =
        rw (serves, selects) (either_kept (Turn.serves_as code cs z m) _ _ (selected_kept (Turn.purpose_of code cs special r) c w w' a r z given (Turn.selection code cs x special z m) h))

    null_kept : (c : Content P) (w w' : World) → Alike w w' → (special : Bool) (r : Reference) (given : List Held) (m : Method) →
        TK g (Turn.call_on code cs x c w special r m given None) (Turn.call_on code' cs' y (gc c) w' special r m given None)
    null_kept c w w' a special r given m =
        unless_full (is_frameless m) (Turn.has_result_room code cs x c m) (Turn.has_result_room code' cs' y (gc c) m) (room_kept c (result_in m.name.member.descriptor)) _ _ (fails_kept g Fault.NullPointer c w w' a)

    called_on_kept : (c : Content P) (w w' : World) → Alike w w' → (special : Bool) (r : Reference) (z : Option Name) (given : List Held) (o : Option Method) → cs.method r ≡ o → AnsweredAlike f code code' cs cs' Alike x y w w' (CallOn special r z given c) →
        TK g (Turn.with_method code cs o (λ m. Turn.call_on code cs x c w special r m given z)) (Turn.with_method code' cs' o (λ m. Turn.call_on code' cs' y (gc c) w' special r m given z))
    called_on_kept c w w' a special r z given None e k = tt
    called_on_kept c w w' a special r None given (Some m) e k = null_kept c w w' a special r given m
    called_on_kept c w w' a special r (Some z) given (Some m) e k = let h = k m e in on_kept c w w' a special r z given m h.0 h.1 h.2

    build_made_kept : (c : Content P) (w1 : World) (made : Name × World) (made' : Name × World) → Alike made.1 w1 → made' ≡ (made.0, w1) → (r : Reference) (number : ℕ) (m : Method) (given : List Held) →
        BodyAlike f code code' cs cs' Alike made.1 w1 m (Some made.0) given → TK g (Turn.build_made code cs x c r number m given made) (Turn.build_made code' cs' y (gc c) r number m given made')
    build_made_kept c w1 made made' a e r number m given k =
        let here = Turn.build_made code cs x c r number m given made in
        subst (λ z. TK g here (Turn.build_made code' cs' y (gc c) r number m given z)) (sym e)
        (subst (λ z. TK g here (Turn.runs code' cs' Ordinary y z w1 r m (Some made.0) given)) (sym (built-grown f g.locals g.bare number (Pointer made.0) c))
        (runs_kept Ordinary (Turn.built code cs number (Pointer made.0) c) made.1 w1 a r m (Some made.0) given k))

    built_kept : (c : Content P) (w w' : World) → Alike w w' → (r : Reference) (class : List ℕ) (number : ℕ) (given : List Held) (o : Option Method) → cs.method r ≡ o → AnsweredAlike f code code' cs cs' Alike x y w w' (Build r class number given c) →
        TK g (Turn.with_method code cs o (λ m. Turn.build code cs x c w r class number m given)) (Turn.with_method code' cs' o (λ m. Turn.build code' cs' y (gc c) w' r class number m given))
    built_kept c w w' a r class number given None e k = tt
    built_kept c w w' a r class number given (Some m) e k =
        let h = k m e in
        rw h.0 (either_kept (is_among (cs.superclasses class) m.name.class) (Turn.build_made code cs x c r number m given (make cs w class)) (Turn.build_made code' cs' y (gc c) r number m given (make cs' w' class))
        (build_made_kept c h.1 (make cs w class) (make cs' w' class) h.2 h.3 r number m given h.4))

    -- ---- the effect is taken

    pub taken_kept : (w w' : World) → Alike w w' → (e : Effect P) → SearchedAlike f code code' cs cs' Alike e → AnsweredAlike f code code' cs cs' Alike x y w w' e →
        TK g (Turn.taken code cs x w e) (Turn.taken code' cs' y w' (grown_effect f g.locals e))
    taken_kept w w' a (On c) s k = next_kept c w w' a
    taken_kept w w' a (Jump i c) s k = target_kept i c w w' a
    taken_kept w w' a (Enter i c) s k = rw stands.next (target_kept i (pushed_on (ReturnAddress (code.next x.place)) c) w w' a)
    taken_kept w w' a (Back p c) s k = stays_kept g p c w w' a
    taken_kept w w' a (Ask q c) s k = replied_kept c w w' a (answer cs w q) (answer cs' w' q) k
    taken_kept w w' a (Announce class c) s k = next_kept c w w' a
    taken_kept w w' a (CallStatic r given c) s k = rw s (static_kept c w w' a r given (cs.method r) k)
    taken_kept w w' a (CallOn special r z given c) s k = rw s (called_on_kept c w w' a special r z given (cs.method r) refl k)
    taken_kept w w' a (Build r class number given c) s k = rw s (built_kept c w w' a r class number given (cs.method r) refl k)
    taken_kept w w' a (Leave v) s k = (w', a, refl)
    taken_kept w w' a (Fail fault) s k = fails_kept g fault x.content w w' a
    taken_kept w w' a (Throw z) s k = rw k (thrown_kept (cs.is_subtype (class_of z) throwable_class) z w w' a)
      where
        thrown_kept : (b : Bool) (z : Name) (w w' : World) → Alike w w' → TK g (if b then Raises None z x.content w else stops events.Broken) (if b then Raises None z y.content w' else stops events.Broken)
        thrown_kept true z w w' a = (w', a, refl)
        thrown_kept false z w w' a = tt
    taken_kept w w' a (effects.Unmodelled op) s k = refl
    taken_kept w w' a effects.Broken s k = tt

    -- ---- searches

    abbrev RefusedKept : Ending → Link → Type 0
    RefusedKept events.Broken l = Unit {0}
    RefusedKept ending l = l ≡ Refused ending

    abbrev LinkKept : Link → Link → Type 0
    LinkKept Free l = l ≡ Free
    LinkKept (Needs class) l = l ≡ Needs class
    LinkKept (Refused ending) l = RefusedKept ending l

    refused_same : (ending : Ending) → RefusedKept ending (Refused ending)
    refused_same (Returned v) = refl
    refused_same (Uncaught class message) = refl
    refused_same (InitFailed class) = refl
    refused_same (Exit status) = refl
    refused_same (Unmodelled op) = refl
    refused_same (Unresolved name) = refl
    refused_same ScriptEnds = refl
    refused_same events.Broken = tt

    link_same : (l : Link) → LinkKept l l
    link_same Free = refl
    link_same (Needs class) = refl
    link_same (Refused ending) = refused_same ending

    fits_at : (more : ℕ) (go : Link) (width locals : ℕ) (b : Bool) → nat_le width locals ≡ b → LinkKept (if b then go else Refused events.Broken) (if nat_le width (locals + more) then go else Refused events.Broken)
    fits_at more go width locals true e = let test : nat_le width (locals + more) ≡ true = grind (arith, nat_tests) in rw test (link_same go)
    fits_at more go width locals false e = tt

    entry_fits_kept : (r : Reference) (given : List Held) (go : Link) (o : Option (Entry P)) (o' : Option (Entry Q)) → EntryKept f at code code' o o' → LinkKept (Turn.entry_fits code cs r given go o) (Turn.entry_fits code' cs' r given go o')
    entry_fits_kept r given go None o' k = rw k refl
    entry_fits_kept r given go (Some e) o' k = rw k.2 (fits_at k.1 go (arguments_width given) e.locals (nat_le (arguments_width given) e.locals) refl)

    callable_at : (b r r' : Bool) → (r ≡ true → r' ≡ true) → (go l l' : Link) → LinkKept l l' → LinkKept (if b then (if r then go else Refused events.Broken) else l) (if b then (if r' then go else Refused events.Broken) else l')
    callable_at true true r' h go l l' k = rw (h refl) (link_same go)
    callable_at true false r' h go l l' k = tt
    callable_at false r r' h go l l' k = k

    callable_kept : (c : Content P) (r : Reference) (given : List Held) (m : Method) (go : Link) → LinkKept (Turn.callable code cs x c r given m go) (Turn.callable code' cs' y (gc c) r given m go)
    callable_kept c r given m go =
        callable_at (is_frameless m) (Turn.has_result_room code cs x c m) (Turn.has_result_room code' cs' y (gc c) m) (room_kept c (result_in m.name.member.descriptor)) go _ _
        (entry_fits_kept r given go (code.method m.name) (code'.method m.name) (arrives.method m.name))

    if_kept : (b : Bool) (l l' d : Link) → LinkKept l l' → LinkKept d d → LinkKept (if b then l else d) (if b then l' else d)
    if_kept true l l' d k h = k
    if_kept false l l' d k h = h

    static_link_kept : (c : Content P) (r : Reference) (given : List Held) (o : Option Method) → LinkKept (Turn.static_method code cs x c r given o) (Turn.static_method code' cs' y (gc c) r given o)
    static_link_kept c r given None = refl
    static_link_kept c r given (Some m) = if_kept m.is_static _ _ _ (callable_kept c r given m (Needs m.name.class)) refl

    instance_link_kept : (r : Reference) (o : Option Method) → LinkKept (Turn.instance_method code cs r o) (Turn.instance_method code' cs' r o)
    instance_link_kept r None = refl
    instance_link_kept r (Some m) = if_kept m.is_static (Refused (Unresolved (member_text r))) (Refused (Unresolved (member_text r))) Free refl refl

    pub link_kept : (e : Effect P) → SearchedAlike f code code' cs cs' Alike e → LinkKept (Turn.link code cs x e) (Turn.link code' cs' y (grown_effect f g.locals e))
    link_kept (On c) s = refl
    link_kept (Jump i c) s = refl
    link_kept (Enter i c) s = refl
    link_kept (Back p c) s = refl
    link_kept (Ask q c) s = rw s (link_same (Turn.asked_link code cs q))
    link_kept (Announce class c) s = rw s (link_same (if cs.has_objects class then Needs class else Refused (Unresolved (dotted class))))
    link_kept (CallStatic r given c) s = rw s (static_link_kept c r given (cs.method r))
    link_kept (CallOn special r z given c) s = rw s (instance_link_kept r (cs.method r))
    link_kept (Build r class number given c) s = rw s (instance_link_kept r (cs.method r))
    link_kept (Leave v) s = refl
    link_kept (Fail fault) s = refl
    link_kept (Throw z) s = refl
    link_kept (effects.Unmodelled op) s = refl
    link_kept effects.Broken s = refl

    -- ---- the whole turn

    pub broken_same : (e : Effect P) → is_broken (grown_effect f g.locals e) ≡ is_broken e
    broken_same (On c) = refl
    broken_same (Jump i c) = refl
    broken_same (Enter i c) = refl
    broken_same (Back p c) = refl
    broken_same (Ask q c) = refl
    broken_same (Announce class c) = refl
    broken_same (CallStatic r given c) = refl
    broken_same (CallOn special r z given c) = refl
    broken_same (Build r class number given c) = refl
    broken_same (Leave v) = refl
    broken_same (Fail fault) = refl
    broken_same (Throw z) = refl
    broken_same (effects.Unmodelled op) = refl
    broken_same effects.Broken = refl

    initialised_kept : (class : List ℕ) (w w' : World) (e : Effect P) → SearchedAlike f code code' cs cs' Alike e → AnsweredAlike f code code' cs cs' Alike x y (begin cs w class) (begin cs' w' class) e →
        Alike (begin cs w class) (begin cs' w' class) → (fs : List (Frame P)) (gs : List (Frame Q)) → AllStart f fs gs →
        TK g (Turn.initialised code cs x w e class fs) (Turn.initialised code' cs' y w' (grown_effect f g.locals e) class gs)
    initialised_kept class w w' e s k a [] gs l = rw l (taken_kept (begin cs w class) (begin cs' w' class) a e s k)
    initialised_kept class w w' e s k a (h ∷ fs) gs l = rw l.3 (begin cs' w' class, a, _, (l.0, l.1, l.2, refl, l.4), refl)

    ended_kept : (ending : Ending) (l : Link) (w' : World) (e' : Effect Q) → RefusedKept ending l → EndKept f Alike None ending (Turn.linked code' cs' y w' e' l)
    ended_kept (Returned v) l w' e' k = rw k refl
    ended_kept (Uncaught class message) l w' e' k = rw k refl
    ended_kept (InitFailed class) l w' e' k = rw k refl
    ended_kept (Exit status) l w' e' k = rw k refl
    ended_kept (Unmodelled op) l w' e' k = rw k refl
    ended_kept (Unresolved name) l w' e' k = rw k refl
    ended_kept ScriptEnds l w' e' k = rw k refl
    ended_kept events.Broken l w' e' k = tt

    linked_kept : (w w' : World) → Alike w w' → (e : Effect P) → Fair f code code' cs cs' Alike x y e → (l : Link) (l' : Link) → Turn.link code cs x e ≡ l → LinkKept l l' →
        TK g (Turn.linked code cs x w e l) (Turn.linked code' cs' y w' (grown_effect f g.locals e) l')
    linked_kept w w' a e fair Free l' h k = rw k (taken_kept w w' a e fair.searched (fair.answered w w' a))
    linked_kept w w' a e fair (Refused ending) l' h k = ended_kept ending l' w' (grown_effect f g.locals e) k
    linked_kept w w' a e fair (Needs class) l' h k =
        let b = fair.begins class h w w' a in
        rw k (initialised_kept class w w' e fair.searched (fair.answered (begin cs w class) (begin cs' w' class) b.marked) b.marked (Turn.pending code cs w class) (Turn.pending code' cs' w' class) b.frames)

    resolved_at : (w w' : World) → Alike w w' → (e : Effect P) → Fair f code code' cs cs' Alike x y e → (b : Bool) → is_broken e ≡ b →
        TK g (if b then stops events.Broken else Turn.linked code cs x w e (Turn.link code cs x e)) (if b then stops events.Broken else Turn.linked code' cs' y w' (grown_effect f g.locals e) (Turn.link code' cs' y (grown_effect f g.locals e)))
    resolved_at w w' a e fair true h = tt
    resolved_at w w' a e fair false h = linked_kept w w' a e fair (Turn.link code cs x e) (Turn.link code' cs' y (grown_effect f g.locals e)) refl (link_kept e fair.searched)

    pub resolved_kept : (w w' : World) → Alike w w' → (e : Effect P) → Fair f code code' cs cs' Alike x y e → TK g (Turn.resolved code cs x w e) (Turn.resolved code' cs' y w' (grown_effect f g.locals e))
    resolved_kept w w' a e fair = rw (broken_same e) (resolved_at w w' a e fair (is_broken e) refl)

    either_broken : (w w' : World) → Alike w w' → (e : Effect P) (e' : Effect Q) → Kept f g.locals e e' → Fair f code code' cs cs' Alike x y e → (b : Bool) → is_broken e ≡ b →
        TK g (if b then stops events.Broken else Turn.linked code cs x w e (Turn.link code cs x e)) (Turn.resolved code' cs' y w' e')
    either_broken w w' a e e' k fair true h = tt
    either_broken w w' a e e' k fair false h =
        let same : e' ≡ grown_effect f g.locals e = k.keeps (λ broken. absurd (let test = ap is_broken broken in cc)) in
        subst (λ z. TK g (Turn.linked code cs x w e (Turn.link code cs x e)) (Turn.resolved code' cs' y w' z)) (sym same)
        (rw (broken_same e, h) (linked_kept w w' a e fair (Turn.link code cs x e) (Turn.link code' cs' y (grown_effect f g.locals e)) refl (link_kept e fair.searched)))

    executed_kept : (w w' : World) → Alike w w' → (o : Option Operation) → ((operation : Operation) → o ≡ Some operation → Fair f code code' cs cs' Alike x y (Turn.effect_at code cs x operation)) →
        TK g (Turn.executed code cs x w o) (Turn.executed code' cs' y w' o)
    executed_kept w w' a None h = tt
    executed_kept w w' a (Some operation) h =
        let e = Turn.effect_at code cs x operation in
        let kept = effect_kept f g.locals g.bare (Turn.setting code cs x) g.room operation x.content.operands x.content.locals in
        either_broken w w' a e (Turn.effect_at code' cs' y operation) (subst (λ t. Kept f g.locals e (effect (record { room = x.room + g.room; result = option_map kind_in t }) operation y.content.operands y.content.locals)) (sym same.result) kept)
        (h operation refl) (is_broken e) refl

    -- the turn of a frame whose instruction stands elsewhere, where what it asks is answered alike
    pub turn_kept : (w w' : World) → Alike w w' → ((operation : Operation) → code.line x.place ≡ Some operation → Fair f code code' cs cs' Alike x y (Turn.effect_at code cs x operation)) →
        TK g (Turn.turn code cs x w) (Turn.turn code' cs' y w')
    turn_kept w w' a h = rw stands.line (executed_kept w w' a (code.line x.place) h)
