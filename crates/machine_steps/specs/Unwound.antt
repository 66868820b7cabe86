-- What the machine makes of an exception, by the way that it goes.
use Rattle.std.specs.Prelude.{◌≡◌, ℕ, suc, zero, Bool, true, false, if◌then◌else◌, nat_le, is_some, List, [], ◌∷◌, ◌++◌, map, reverse, take, drop, length, slice_get, Option, Some, None, refl}
use Rattle.std.specs.List.{AllByRecursion}
use Rattle.std.specs.Option.{option_map}
use Rattle.std.proofs.Common.{sym, ◌∙◌, ap, subst, arith}
use Rattle.std.proofs.lemmas.List.{reverse-append, append_assoc, append-nil, map-append, take-append-drop}
use Rattle.class_file.specs.Pool.{Reference}
use Rattle.class_heads.specs.Hierarchy.{name_at}
use Rattle.class_world.specs.Tables.{Known}
use Rattle.class_machine.specs.Events as events
use Rattle.class_machine.specs.Values as machine
use Rattle.class_machine.specs.Values.{class_of}
use Rattle.class_machine.specs.World.{World, object_at, text_in, text_of, field_of, read_field, message_field, message_of}
use Rattle.class_machine.specs.Turn as turns
use Rattle.class_machine.specs.Machine as machines
use Rattle.class_machine.specs.Machine.{State, handler_of, leaving, handled, out_of, back_in, catching, unwound, moved}
use Rattle.class_machine.specs.ClassFiles.{Place, place_in, class_code}
use Rattle.event_machine.specs.Outcome as outcomes
use Rattle.machine_values.specs.declared.values.Ref.{Ref}
use Rattle.machine_values.specs.declared.values.Value.TheVariants as values
use Rattle.machine_values.specs.declared.names.Name.{Name}
use Rattle.machine_values.specs.declared.frames.Purpose.{Purpose}
use Rattle.machine_values.specs.declared.frames.Purpose.TheVariants.{Ordinary, Constructs, Initialises, Within}
use Rattle.machine_values.specs.declared.frames.Frame.{Frame}
use Rattle.machine_values.specs.Standing.{name_of, held}
use Rattle.machine_values.specs.States.{machine_purpose}
use Rattle.machine_requests.specs.Replies.{object}
use Rattle.machine_steps.specs.Programs.{Machine, IsMachine}
use Rattle.machine_steps.specs.Moves.{moved_by, goes_on_with}
use Rattle.machine_steps.specs.Running.{seen_by, waiting}
use Rattle.machine_steps.specs.Going.{all_reversed}
use Rattle.machine_steps.specs.Giving.{with_values}
use Rattle.machine_steps.specs.Unwinding.{handler_place, TellsHandler, initialised, Passes, FailsFor}
use Rattle.machine_steps.specs.Leaving.{left_by}

-- ---- lists

pub drop_at : {A : Type 0} (xs : List A) (i : ℕ) (x : A) → slice_get xs i ≡ Some x → xs ≡ take i xs ++ x ∷ drop (suc i) xs
drop_at [] i x at = absurd cc
drop_at (y ∷ xs) zero x at = let e : y ≡ x = cc in ap (λ z. z ∷ xs) e
drop_at (y ∷ xs) (suc i) x at = ap (λ zs. y ∷ zs) (drop_at xs i x at)

-- the last ones first, where that one stands among them
pub reversed_at : {A B : Type 0} (f : A → B) (xs : List A) (i : ℕ) (x : A) → slice_get xs i ≡ Some x
    → map f (reverse xs) ≡ map f (reverse (drop (suc i) xs)) ++ f x ∷ map f (reverse (take i xs))
reversed_at f xs i x at =
    let low = take i xs in
    let high = drop (suc i) xs in
    ap (λ ys. map f (reverse ys)) (drop_at xs i x at) ∙ ap (map f) (
    reverse-append low (x ∷ high) ∙ ap (λ ys. ys ++ reverse low) (reverse-append (x ∷ []) high) ∙ append_assoc (reverse high) (x ∷ []) (reverse low)
    ) ∙ map-append f (reverse high) (x ∷ reverse low)

none_mapped : {A B : Type 0} (f : A → B) (o : Option A) → option_map f o ≡ None → o ≡ None
none_mapped f None e = refl
none_mapped f (Some x) e = absurd cc

some_mapped : {A B : Type 0} (f : A → B) (o : Option A) (y : B) → option_map f o ≡ Some y → (x : A) × (o ≡ Some x) × (f x ≡ y)
some_mapped f None y e = absurd cc
some_mapped f (Some x) y e = (x, refl, cc)

-- ---- messages

module _ (w : World) (ms : List (machine.Name × ℕ)) where
  object_same : (a : machine.Name) → object_at (record w { monitors = ms }) a ≡ object_at w a
  object_same (machine.Made class k) = refl
  object_same (machine.Literal text) = refl
  object_same (machine.ClassObject class) = refl

  text_same : (v : machine.Held) → text_of (record w { monitors = ms }) v ≡ text_of w v
  text_same (machine.Reference a) = ap text_in (object_same a)
  text_same (machine.Int n) = refl
  text_same (machine.Long n) = refl
  text_same (machine.Float bits) = refl
  text_same (machine.Double bits) = refl
  text_same machine.Null = refl

  message_same : (x : machine.Name) → message_of (record w { monitors = ms }) x ≡ message_of w x
  message_same x = text_same (read_field (record w { monitors = ms }) x message_field) ∙ ap (λ o. text_of w (field_of o message_field)) (object_same x)

message_stays : (w : World) (a : Option machine.Name) (x : machine.Name) → message_of (leaving a w) x ≡ message_of w x
message_stays w None x = refl
message_stays w (Some a) x = message_same w (leaving (Some a) w).monitors x

-- ---- frames that the exception passes

module _ (k : Known) (m : Machine) (is : IsMachine k m) (names : List Name) (class : ℕ) (x : machine.Name) (of_class : class_of x ≡ name_at k.heads class) (due : machines.Due) where
  abbrev pub thrown : World → List (turns.Frame Place) → machines.Step (State Place)
  thrown w frames = unwound (class_code m.files) m.setting.classes due x w frames

  onward : (p : Purpose) (step : machines.Step (State Place)) → initialised p ≡ None → out_of (class_code m.files) m.setting.classes due (machine_purpose m.setting.heads m.methods names p) step ≡ step
  onward Ordinary step e = refl
  onward Constructs step e = refl
  onward (Initialises failed) step e = absurd cc
  onward (Within wait) step e = refl

  fails_at : (p : Purpose) (failed : ℕ) (step : machines.Step (State Place)) → initialised p ≡ Some failed
      → out_of (class_code m.files) m.setting.classes due (machine_purpose m.setting.heads m.methods names p) step ≡ outcomes.Ended (events.InitFailed (name_at m.setting.heads failed))
  fails_at Ordinary failed step e = absurd cc
  fails_at Constructs failed step e = absurd cc
  fails_at (Initialises class) failed step e = ap (λ (o : Option ℕ). outcomes.Ended (events.InitFailed (named o))) e where
    named : Option ℕ → List ℕ
    named None = []
    named (Some n) = name_at m.setting.heads n
  fails_at (Within wait) failed step e = absurd cc

  unhandled : (g : Frame) (w : World) (below : List (turns.Frame Place)) → TellsHandler k class g None
      → thrown w (seen_by m names g ∷ below) ≡ out_of (class_code m.files) m.setting.classes due (machine_purpose m.setting.heads m.methods names g.purpose) (thrown (leaving (object m.setting names g.monitor) w) below)
  unhandled g w below handler =
      ap (λ o. handled (class_code m.files) m.setting.classes due o x w (seen_by m names g) below
      (out_of (class_code m.files) m.setting.classes due (machine_purpose m.setting.heads m.methods names g.purpose) (thrown (leaving (object m.setting names g.monitor) w) below)))
      (none_mapped handler_place (handler_of (class_code m.files) m.setting.classes x (seen_by m names g)) (handler m names x is of_class))

  passed_all : (gs : List Frame) (w : World) (below : List (turns.Frame Place)) → AllByRecursion (Passes k class) gs
      → thrown w (map (seen_by m names) gs ++ below) ≡ thrown (left_by m.setting names gs w) below
  passed_all [] w below h = refl
  passed_all (g ∷ gs) w below h =
      unhandled g w (map (seen_by m names) gs ++ below) h.0.handler
      ∙ onward g.purpose (thrown (leaving (object m.setting names g.monitor) w) (map (seen_by m names) gs ++ below)) h.0.onward
      ∙ passed_all gs (leaving (object m.setting names g.monitor) w) below h.1

  message_left : (gs : List Frame) (w : World) → message_of (left_by m.setting names gs w) x ≡ message_of w x
  message_left [] w = refl
  message_left (g ∷ gs) w = message_left gs (leaving (object m.setting names g.monitor) w) ∙ message_stays w (object m.setting names g.monitor) x

  -- down to the frame of that number
  pub down_to : (items : List Frame) (index : ℕ) (g : Frame) (w : World) → slice_get items index ≡ Some g → AllByRecursion (Passes k class) (drop (suc index) items)
      → thrown w (waiting m names items) ≡ thrown (left_by m.setting names (reverse (drop (suc index) items)) w) (seen_by m names g ∷ waiting m names (take index items))
  down_to items index g w there passed =
      ap (thrown w) (reversed_at (seen_by m names) items index g there)
      ∙ passed_all (reverse (drop (suc index) items)) w (seen_by m names g ∷ waiting m names (take index items)) (all_reversed (Passes k class) (drop (suc index) items) passed)

  -- out of an initialiser
  pub out_of_initialiser : (items : List Frame) (failed : ℕ) (w : World) → FailsFor k class items failed → thrown w (waiting m names items) ≡ outcomes.Ended (events.InitFailed (name_at m.setting.heads failed))
  out_of_initialiser items failed w fails =
      let w' = left_by m.setting names (reverse (drop (suc fails.index) items)) w in
      let below = waiting m names (take fails.index items) in
      down_to items fails.index fails.frame w fails.there fails.passed ∙ unhandled fails.frame w' below fails.handler
      ∙ fails_at fails.frame.purpose failed (thrown (leaving (object m.setting names fails.frame.monitor) w') below) fails.initialises

  -- out of the last frame
  pub out_of_all : (items : List Frame) (w : World) → AllByRecursion (Passes k class) items → thrown w (waiting m names items) ≡ outcomes.Ended (events.Uncaught (class_of x) (message_of w x))
  out_of_all items w passed =
      ap (thrown w) (sym (append-nil (waiting m names items))) ∙ passed_all (reverse items) w [] (all_reversed (Passes k class) items passed)
      ∙ ap (λ text. outcomes.Ended (events.Uncaught (class_of x) text)) (message_left (reverse items) w)

  -- ---- the frame that takes it

  both_ways : (a b : Bool) (f e : turns.Frame Place) (at : Place) (c : machine.Content Place) (w : World) (below : List (turns.Frame Place)) → turns.frame_at f at c ≡ turns.frame_at e at c
      → moved (class_code m.files) m.setting.classes due (if a then (if b then turns.Stays at c w else turns.stops events.Broken) else turns.stops events.Broken) w e below
      ≡ back_in (class_code m.files) m.setting.classes due f (if a then (if b then turns.Stays at c w else turns.stops events.Broken) else turns.stops events.Broken) below
  both_ways true true f e at c w below same = ap (λ g. outcomes.Went (record { frames = g ∷ below; world = w; due = due })) (sym same)
  both_ways true false f e at c w below same = refl
  both_ways false true f e at c w below same = refl
  both_ways false false f e at c w below same = refl

  pub taken_there : (g : Frame) (at : Ref) (pc : ℕ) (w : World) (below : List (turns.Frame Place)) → TellsHandler k class g (Some pc) → x ≡ name_of m.setting.heads names at
      → moved_by (goes_on_with (λ m' t. held m'.setting.heads names (values.Reference at)) pc) m (record { frames = seen_by m names (with_values g []) ∷ below; world = w; due = due }) (seen_by m names (with_values g [])) below
      ≡ thrown w (seen_by m names g ∷ below)
  taken_there g at pc w below handler named =
      let f = seen_by m names g in
      let e = seen_by m names (with_values g []) in
      let found = some_mapped handler_place (handler_of (class_code m.files) m.setting.classes x f) (place_in f.method pc) (handler m names x is of_class) in
      let otherwise = out_of (class_code m.files) m.setting.classes due f.purpose (thrown (leaving f.monitor w) below) in
      let there = place_in f.method pc in
      let alone = machine.content (machine.Plain (machine.Reference (name_of m.setting.heads names at)) ∷ []) f.content.locals in
      both_ways (nat_le 1 f.room) (is_some ((class_code m.files).line there)) f e there alone w below refl
      ∙ ap (λ y. back_in (class_code m.files) m.setting.classes due f (catching (class_code m.files) m.setting.classes y there w f) below) (sym named)
      ∙ ap (λ p. back_in (class_code m.files) m.setting.classes due f (catching (class_code m.files) m.setting.classes x p w f) below) (sym found.2)
      ∙ sym (ap (λ o. handled (class_code m.files) m.setting.classes due o x w f below otherwise) found.1)
