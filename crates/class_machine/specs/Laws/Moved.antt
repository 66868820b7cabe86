-- Code that is laid out at other places runs as it did: the two machines are observationally equivalent.
use Rattle.std.proofs.Common.{◌≡◌, Bool, true, false, List, [], ◌∷◌, Option, Some, None, inl, inr, refl, sym, ap, ◌∙◌, IsTrue, ◌⊎◌}
use Rattle.std.specs.Option.{option_map}
use Rattle.event_machine.specs.Outcome.{Went, Said, Ended}
use Rattle.event_machine.specs.Alike.{Alike}
use Rattle.event_machine.specs.Equivalent.{Equivalent}
use Rattle.event_machine.specs.Follows.{no_waits}
use Rattle.event_machine.specs.Laws.{simulated, locked}
use Rattle.class_machine.specs.Values.{Name, Held, Content}
use Rattle.class_machine.specs.Descriptors.{result_in}
use Rattle.class_machine.specs.Events.{Event, Ending, Returned, Uncaught, InitFailed, Exit, Unmodelled, Unresolved, ScriptEnds, Broken, is_broken}
use Rattle.class_machine.specs.Classes.{Classes}
use Rattle.class_machine.specs.World.{World}
use Rattle.class_machine.specs.LibraryCalls.{resume}
use Rattle.class_machine.specs.Natives.{Response, Returns, Throws, Lacks, respond, native_event}
use Rattle.class_machine.specs.Turn.{Handler, Code, Purpose, Ordinary, Constructs, Initialises, Within, Frame, frame_at, Turn, Stays, Completes, Enters, Leaves, Begins, Raises, Finishes}
use Rattle.class_machine.specs.Turn as turns
use Rattle.class_machine.specs.Machine
use Rattle.class_machine.specs.Machine.{Due, Nothing, NativeEntry, Finally, State, Step, leaving, telling, closing, step}
use Rattle.class_machine.specs.Renaming.{grown}
use Rattle.class_machine.specs.Standing.{Growth, SameResult, moved_handler, grown_frame, AllStart, EndKept, TurnKept, Agrees}
use Rattle.class_machine.specs.Moving.{IsMoved, StateMoved}
use Rattle.class_machine.specs.Laws.SameWorld.{Same, agrees_same, begins_same, work_same, turn_same, start_append}
use Rattle.class_machine.specs.Laws.WaitingKept.{taking_kept, constructing_kept, resuming_kept, catching_kept, handler_kept}

module _ {P Q : Type 0} (at : P → Q) (code : Code P) (code' : Code Q) (cs : Classes) (moved : IsMoved at code code') where
  abbrev TK : Growth Q → Turn P → Turn Q → Type 0
  TK = TurnKept at Same

  abbrev OK : Step (State P) → Step (State Q) → Type 0
  OK = Alike is_broken (StateMoved at)

  -- ---- steps that say an event

  said_end : (event : Event) (w : World) (ending : Ending) → OK (Said event (record { frames = []; world = w; due = Finally ending })) (Said event (record { frames = []; world = w; due = Finally ending }))
  said_end event w ending = (refl, record { frames = refl; world = refl; due = refl })

  sound : (ending : Ending) (o : Step (State Q)) → (is_broken ending ≡ false) → IsTrue (is_broken ending) ⊎ (o ≡ Ended ending) → o ≡ Ended ending
  sound ending o e (inl b) = absurd (let same : true ≡ false = sym b ∙ e in cc)
  sound ending o e (inr same) = same

  told_end : (event : Event) (w : World) (ending : Ending) (o' : Step (State Q)) → IsTrue (is_broken ending) ⊎ (o' ≡ Ended ending) → OK (telling (Some event) w (Ended ending)) (telling (Some event) w o')
  told_end event w (Returned v) o' k = rw (sound (Returned v) o' refl k) (said_end event w (Returned v))
  told_end event w (Uncaught class message) o' k = rw (sound (Uncaught class message) o' refl k) (said_end event w (Uncaught class message))
  told_end event w (InitFailed class) o' k = rw (sound (InitFailed class) o' refl k) (said_end event w (InitFailed class))
  told_end event w (Exit status) o' k = rw (sound (Exit status) o' refl k) (said_end event w (Exit status))
  told_end event w (Unmodelled op) o' k = rw (sound (Unmodelled op) o' refl k) (said_end event w (Unmodelled op))
  told_end event w (Unresolved name) o' k = rw (sound (Unresolved name) o' refl k) (said_end event w (Unresolved name))
  told_end event w ScriptEnds o' k = rw (sound ScriptEnds o' refl k) (said_end event w ScriptEnds)
  told_end event w Broken o' k = inl refl

  telling_kept : (said : Option Event) (w : World) (o : Step (State P)) (o' : Step (State Q)) → OK o o' → OK (telling said w o) (telling said w o')
  telling_kept None w o o' k = k
  telling_kept (Some event) w (Went s) (Went t) k = (refl, k)
  telling_kept (Some event) w (Went s) (Said other t) k = absurd k
  telling_kept (Some event) w (Went s) (Ended ending) k = absurd k
  telling_kept (Some event) w (Said other s) (Went t) k = absurd k
  telling_kept (Some event) w (Said other s) (Said another t) k = k
  telling_kept (Some event) w (Said other s) (Ended ending) k = absurd k
  telling_kept (Some event) w (Ended ending) o' k = told_end event w ending o' k

  -- ---- frames

  module _ (due : Due) where
    went_kept : (w : World) (xs : List (Frame P)) (ys : List (Frame Q)) → AllStart at xs ys → OK (Machine.went code cs due w xs) (Machine.went code' cs due w ys)
    went_kept w xs ys k = record { frames = k; world = refl; due = refl }

    -- a frame that goes on at a place
    on_top : (g : Growth Q) (x : Frame P) → g.method ≡ x.method → (p : P) (c : Content P) (xs : List (Frame P)) (ys : List (Frame Q)) → AllStart at xs ys → AllStart at (frame_at x p c ∷ xs) (frame_at (grown_frame at at g x) (at p) (grown at g.locals c) ∷ ys)
    on_top g x m p c xs ys k = (g, ys, m, refl, k)

    completed_on_top : (g : Growth Q) (x : Frame P) → g.method ≡ x.method → (super : Bool) (p : P) (c : Content P) (xs : List (Frame P)) (ys : List (Frame Q)) → AllStart at xs ys →
        AllStart at (Machine.completed code cs due x super p c ∷ xs) (Machine.completed code' cs due (grown_frame at at g x) super (at p) (grown at g.locals c) ∷ ys)
    completed_on_top g x m super p c xs ys k = (g, ys, m, refl, k)

    ended_kept : (said : Option Event) (ending : Ending) (x : Frame Q) (t : Turn Q) (ys : List (Frame Q)) → EndKept at Same said ending t → OK (Ended ending) (Machine.back_in code' cs due x t ys)
    ended_kept said (Returned v) x t ys k = rw k (inr refl)
    ended_kept said (Uncaught class message) x t ys k = rw k (inr refl)
    ended_kept said (InitFailed class) x t ys k = rw k (inr refl)
    ended_kept said (Exit status) x t ys k = rw k (inr refl)
    ended_kept said (Unmodelled op) x t ys k = rw k (inr refl)
    ended_kept said (Unresolved name) x t ys k = rw k (inr refl)
    ended_kept said ScriptEnds x t ys k = rw k (inr refl)
    ended_kept said Broken x t ys k = inl refl

    back_kept : (g : Growth Q) (x : Frame P) → g.method ≡ x.method → (t : Turn P) (t' : Turn Q) (xs : List (Frame P)) (ys : List (Frame Q)) → TK g t t' → AllStart at xs ys →
        OK (Machine.back_in code cs due x t xs) (Machine.back_in code' cs due (grown_frame at at g x) t' ys)
    back_kept g x m (Stays p c w) t' xs ys k l = rw (k.2, sym k.1) (went_kept w _ _ (on_top g x m p c xs ys l))
    back_kept g x m (Completes said super p c w) t' xs ys k l = rw (k.2, sym k.1) (telling_kept said w _ _ (went_kept w _ _ (completed_on_top g x m super p c xs ys l)))
    back_kept g x m (Finishes said ending) t' xs ys k l = ended_kept said ending (grown_frame at at g x) t' ys k
    back_kept g x m (Enters callee c w) t' xs ys k l = inl refl
    back_kept g x m (Leaves v w) t' xs ys k l = inl refl
    back_kept g x m (Begins fs w) t' xs ys k l = inl refl
    back_kept g x m (Raises said n c w) t' xs ys k l = inl refl

    same_result : (g : Growth Q) (x : Frame P) → g.method ≡ x.method → SameResult x.method g.method
    same_result g x m = record { result = ap (λ r. result_in r.member.descriptor) m }

    abbrev agrees : Agrees at code code' cs cs Same
    agrees = agrees_same at at code code' cs moved.arrives

    taken_back : (purpose : Purpose) (v : Option Held) (w : World) (g : Growth Q) (x : Frame P) → g.method ≡ x.method → (xs : List (Frame P)) (ys : List (Frame Q)) → AllStart at xs ys →
        OK (Machine.returned code cs due purpose v w (x ∷ xs)) (Machine.returned code' cs due purpose v w (grown_frame at at g x ∷ ys))
    taken_back (Initialises class) v w g x m xs ys l = went_kept w _ _ (g, ys, m, refl, l)
    taken_back Ordinary v w g x m xs ys l =
        back_kept g x m _ _ xs ys (taking_kept at at code code' cs cs Same moved.arrives agrees g x (moved.stands x.place) (same_result g x m) v w w refl) l
    taken_back Constructs v w g x m xs ys l =
        back_kept g x m _ _ xs ys (constructing_kept at at code code' cs cs Same moved.arrives agrees g x (moved.stands x.place) (same_result g x m) v w w refl) l
    taken_back (Within wait) v w g x m xs ys l =
        back_kept g x m _ _ xs ys (resuming_kept at at code code' cs cs Same moved.arrives agrees g x (moved.stands x.place) (same_result g x m) wait v w w refl (λ h e. work_same (resume wait h w)) (λ h class e f. begins_same at at code code' cs moved.arrives class w w refl)) l

    ended_return : (purpose : Purpose) (v : Option Held) (w : World) → OK (Machine.returned code cs due purpose v w []) (Machine.returned code' cs due purpose v w [])
    ended_return (Initialises class) v w = went_kept w [] [] refl
    ended_return Ordinary v w = inr refl
    ended_return Constructs v w = inr refl
    ended_return (Within wait) v w = inr refl

    returned_kept : (purpose : Purpose) (v : Option Held) (w : World) (xs : List (Frame P)) (ys : List (Frame Q)) → AllStart at xs ys → OK (Machine.returned code cs due purpose v w xs) (Machine.returned code' cs due purpose v w ys)
    returned_kept purpose v w [] ys l = rw l (ended_return purpose v w)
    returned_kept purpose v w (x ∷ xs) ys l = rw l.3 (taken_back purpose v w l.0 x l.2 xs l.1 l.4)

    handled_kept : (g : Growth Q) (x : Frame P) → g.method ≡ x.method → (n : Name) (w : World) (o : Option (Handler P)) (xs : List (Frame P)) (ys : List (Frame Q)) (r : Step (State P)) (r' : Step (State Q)) → AllStart at xs ys → OK r r' →
        OK (Machine.handled code cs due o n w x xs r) (Machine.handled code' cs due (option_map (moved_handler at at code code') o) n w (grown_frame at at g x) ys r')
    handled_kept g x m n w None xs ys r r' l k = k
    handled_kept g x m n w (Some h) xs ys r r' l k =
        back_kept g x m _ _ xs ys (catching_kept at at code code' cs cs Same moved.arrives agrees g x (moved.stands x.place) (same_result g x m) n h.place w w refl) l

    out_kept : (purpose : Purpose) (r : Step (State P)) (r' : Step (State Q)) → OK r r' → OK (Machine.out_of code cs due purpose r) (Machine.out_of code' cs due purpose r')
    out_kept (Initialises class) r r' k = inr refl
    out_kept Ordinary r r' k = k
    out_kept Constructs r r' k = k
    out_kept (Within wait) r r' k = k

    unwound_kept : (n : Name) (w : World) (xs : List (Frame P)) (ys : List (Frame Q)) → AllStart at xs ys → OK (Machine.unwound code cs due n w xs) (Machine.unwound code' cs due n w ys)
    unwound_kept n w [] ys l = rw l (inr refl)
    unwound_kept n w (x ∷ xs) ys l =
        rw (l.3, handler_kept at at code code' cs cs Same moved.arrives agrees l.0 x (moved.stands x.place) (same_result l.0 x l.2) (moved.handles x.place) n (λ class. refl))
        (handled_kept l.0 x l.2 n w (Machine.handler_of code cs n x) xs l.1 _ _ l.4 (out_kept x.purpose _ _ (unwound_kept n (leaving x.monitor w) xs l.1 l.4)))

    finished_kept : (said : Option Event) (ending : Ending) (w : World) (y : Frame Q) (t : Turn Q) (ys : List (Frame Q)) → EndKept at Same said ending t → OK (Machine.finished code cs due said w ending) (Machine.moved code' cs due t w y ys)
    finished_kept said (Returned v) w y t ys k = rw k (telling_kept said w _ _ (inr refl))
    finished_kept said (Uncaught class message) w y t ys k = rw k (telling_kept said w _ _ (inr refl))
    finished_kept said (InitFailed class) w y t ys k = rw k (telling_kept said w _ _ (inr refl))
    finished_kept said (Exit status) w y t ys k = rw k (telling_kept said w _ _ (inr refl))
    finished_kept said (Unmodelled op) w y t ys k = rw k (telling_kept said w _ _ (inr refl))
    finished_kept said (Unresolved name) w y t ys k = rw k (telling_kept said w _ _ (inr refl))
    finished_kept said ScriptEnds w y t ys k = rw k (telling_kept said w _ _ (inr refl))
    finished_kept None Broken w y t ys k = inl refl
    finished_kept (Some event) Broken w y t ys k = inl refl

    moved_kept : (g : Growth Q) (x : Frame P) → g.method ≡ x.method → (t : Turn P) (t' : Turn Q) (w : World) (xs : List (Frame P)) (ys : List (Frame Q)) → TK g t t' → AllStart at xs ys →
        OK (Machine.moved code cs due t w x xs) (Machine.moved code' cs due t' w (grown_frame at at g x) ys)
    moved_kept g x m (Stays p c u) t' w xs ys k l = rw (k.2, sym k.1) (went_kept u _ _ (on_top g x m p c xs ys l))
    moved_kept g x m (Completes said super p c u) t' w xs ys k l = rw (k.2, sym k.1) (telling_kept said u _ _ (went_kept u _ _ (completed_on_top g x m super p c xs ys l)))
    moved_kept g x m (Enters callee c u) t' w xs ys k l = rw (k.4, sym k.1) (went_kept u _ _ (k.2, _, k.3, refl, on_top g x m x.place c xs ys l))
    moved_kept g x m (Leaves v u) t' w xs ys k l = rw (k.2, sym k.1) (returned_kept x.purpose v (leaving x.monitor u) xs ys l)
    moved_kept g x m (Begins fs u) t' w xs ys k l =
        rw (k.4, sym k.1) (went_kept u _ _ (start_append at at code code' cs moved.arrives fs (x ∷ xs) k.2 (grown_frame at at g x ∷ ys) k.3 (g, ys, m, refl, l)))
    moved_kept g x m (Raises said n c u) t' w xs ys k l = rw (k.2, sym k.1) (telling_kept said u _ _ (unwound_kept n u (frame_at x x.place c ∷ xs) (frame_at (grown_frame at at g x) (at x.place) (grown at g.locals c) ∷ ys) (on_top g x m x.place c xs ys l)))
    moved_kept g x m (Finishes said ending) t' w xs ys k l = finished_kept said ending w (grown_frame at at g x) t' ys k

  -- ---- one step, and the run

  closing_kept : (w : World) (due : Due) → OK (closing cs w due) (closing cs w due)
  closing_kept w Nothing = inl refl
  closing_kept w (Finally ending) = inr refl
  closing_kept w (NativeEntry method given) = answered_kept (native_event w method given) (respond cs w method)
    where
      answered_kept : (event : Event) (r : Response) → OK (Machine.answered w event r) (Machine.answered w event r)
      answered_kept event (Returns v u) = (refl, record { frames = refl; world = refl; due = refl })
      answered_kept event (Throws x u) = (refl, record { frames = refl; world = refl; due = refl })
      answered_kept event Lacks = (refl, record { frames = refl; world = refl; due = refl })

  stepped_kept : (due : Due) (w : World) (xs : List (Frame P)) (ys : List (Frame Q)) → AllStart at xs ys → OK (Machine.stepped code cs due w xs) (Machine.stepped code' cs due w ys)
  stepped_kept due w [] ys l = rw l (closing_kept w due)
  stepped_kept due w (x ∷ xs) ys l =
      rw l.3 (moved_kept due l.0 x l.2 (turns.turn code cs x w) (turns.turn code' cs (grown_frame at at l.0 x) w) w xs l.1
      (turn_same at at code code' cs moved.arrives l.0 x (same_result due l.0 x l.2) (ap (λ r. r.class) l.2) (moved.stands x.place) w) l.4)

  pub step_kept : (s : State P) (t : State Q) → StateMoved at s t → OK (step code cs s) (step code' cs t)
  step_kept s t k = rw (sym k.world, sym k.due) (stepped_kept s.due s.world s.frames t.frames k.frames)

  -- code at other places is observationally equivalent
  pub moved_equivalent : (s : State P) (t : State Q) → StateMoved at s t → Equivalent is_broken (step code cs) s (step code' cs) t
  moved_equivalent = simulated is_broken (step code cs) (step code' cs) (StateMoved at) no_waits (λ s t said k. locked is_broken (step code cs) (step code' cs) (StateMoved at) no_waits s t said (step_kept s t k))
