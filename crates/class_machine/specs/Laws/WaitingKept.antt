-- Frames that wait at a call, and those that catch an exception: a result, a text and an exception do the same to a frame
-- whose instruction stands elsewhere.
use Rattle.std.proofs.Common.{◌≡◌, ℕ, ◌+◌, Bool, true, false, List, [], ◌∷◌, map, Option, Some, None, refl, arith}
use Rattle.std.specs.Prelude.{nat_le, if◌then◌else◌}
use Rattle.std.specs.Option.{option_map}
use Rattle.std.proofs.lemmas.Bool.Decides.{nat_tests}
use Rattle.class_machine.specs.Values.{Name, Held, Reference as Pointer, Plain, Content, content, pushed_on, held_width, has_room}
use Rattle.class_machine.specs.Events as events
use Rattle.class_machine.specs.Classes.{Classes}
use Rattle.class_machine.specs.World.{World}
use Rattle.class_machine.specs.LibraryCalls.{Wait, Loads, resume}
use Rattle.class_machine.specs.Turn
use Rattle.class_machine.specs.Turn.{Handler, Code, Frame, Turn, stops, Ordinary, Constructs, Within}
use Rattle.class_machine.specs.Machine
use Rattle.class_machine.specs.Renaming.{grown}
use Rattle.class_machine.specs.Standing.{Growth, SameResult, Stands, Handles, moved_handler, Arrives, WorkKept, grown_frame, TurnKept, Agrees, BeginsAlike}
use Rattle.class_machine.specs.Laws.EffectKept.{weight-rs}
use Rattle.class_machine.specs.Laws.TurnKept.{stays_kept, next_kept, completed_kept, worked_kept}

module _ {P Q : Type 0} (f at : P → Q) (code : Code P) (code' : Code Q) (cs cs' : Classes) (Alike : World → World → Type 0) (arrives : Arrives f at code code') (agrees : Agrees f code code' cs cs' Alike) where
  abbrev TK : Growth Q → Turn P → Turn Q → Type 0
  TK = TurnKept f Alike

  module _ (g : Growth Q) (x : Frame P) (stands : Stands f at code code' x.place) (same : SameResult x.method g.method) where
    abbrev y : Frame Q
    y = grown_frame f at g x

    abbrev gc : Content P → Content Q
    gc = grown f g.locals

    room_at : (h : Held) (b : Bool) → has_room x.room (held_width h) x.content.operands ≡ b → (go : Content P → Turn P) (go' : Content Q → Turn Q) → ((c : Content P) → TK g (go c) (go' (gc c))) →
        TK g (if b then go (pushed_on (Plain h) x.content) else stops events.Broken) (if has_room y.room (held_width h) y.content.operands then go' (pushed_on (Plain h) y.content) else stops events.Broken)
    room_at h true e go go' k =
        let heavy = weight-rs f g.locals x.content.operands in
        let test : has_room y.room (held_width h) y.content.operands ≡ true = grind (arith, nat_tests) in
        rw test (k (pushed_on (Plain h) x.content))
    room_at h false e go go' k = tt

    result_kept : (v : Option Held) (w w' : World) (go : Content P → Turn P) (go' : Content Q → Turn Q) → ((c : Content P) → TK g (go c) (go' (gc c))) →
        TK g (Machine.result_taken code cs v w x go) (Machine.result_taken code' cs' v w' y go')
    result_kept None w w' go go' k = k x.content
    result_kept (Some h) w w' go go' k = room_at h (has_room x.room (held_width h) x.content.operands) refl go go' k

    -- the result of a call
    pub taking_kept : (v : Option Held) (w w' : World) → Alike w w' → TK g (Machine.taking code cs Ordinary v w x) (Machine.taking code' cs' Ordinary v w' y)
    taking_kept v w w' a = result_kept v w w' _ _ (λ c. next_kept f at code code' cs cs' Alike arrives agrees g x stands same c w w' a)

    -- the end of a this or super call
    pub constructing_kept : (v : Option Held) (w w' : World) → Alike w w' → TK g (Machine.taking code cs Constructs v w x) (Machine.taking code' cs' Constructs v w' y)
    constructing_kept v w w' a = result_kept v w w' _ _ (λ c. completed_kept f at code code' cs cs' Alike arrives agrees g x stands same None true c w w' a)

    -- the text that a library call waits for
    pub resuming_kept : (wait : Wait) (v : Option Held) (w w' : World) → Alike w w' →
        ((h : Held) → v ≡ Some h → WorkKept Alike (resume wait h w) (resume wait h w')) → ((h : Held) (class : List ℕ) → v ≡ Some h → resume wait h w ≡ Loads class → BeginsAlike f code code' cs cs' Alike class w w') →
        TK g (Machine.taking code cs (Within wait) v w x) (Machine.taking code' cs' (Within wait) v w' y)
    resuming_kept wait None w w' a k l = tt
    resuming_kept wait (Some h) w w' a k l = worked_kept f at code code' cs cs' Alike arrives agrees g x stands same x.content w w' a false (resume wait h w) (resume wait h w') (k h refl) (λ class. l h class refl)

    caught_at : (n : Name) (p : P) (w w' : World) → Alike w w' → (b : Bool) → nat_le 1 x.room ≡ b →
        TK g (if b then Turn.stays code cs p (content (Plain (Pointer n) ∷ []) x.content.locals) w else stops events.Broken) (Machine.catching code' cs' n (f p) w' y)
    caught_at n p w w' a true e =
        let test : nat_le 1 (x.room + g.room) ≡ true = grind (arith, nat_tests) in
        rw test (stays_kept f at code code' cs cs' Alike arrives agrees g p (content (Plain (Pointer n) ∷ []) x.content.locals) w w' a)
    caught_at n p w w' a false e = tt

    -- an exception that the frame catches
    pub catching_kept : (n : Name) (p : P) (w w' : World) → Alike w w' → TK g (Machine.catching code cs n p w x) (Machine.catching code' cs' n (f p) w' y)
    catching_kept n p w w' a = caught_at n p w w' a (nat_le 1 x.room) refl

    first_kept : (n : Name) → ((class : Option (List ℕ)) → Machine.catches code' cs' n class ≡ Machine.catches code cs n class) → (hs : List (Handler P)) →
        Machine.first_handler code' cs' n (map (moved_handler f at code code') hs) ≡ option_map (moved_handler f at code code') (Machine.first_handler code cs n hs)
    first_kept n k [] = refl
    first_kept n k (h ∷ hs) = rw (k h.catch) (either (Machine.catches code cs n h.catch) h (Machine.first_handler code cs n hs) _ (first_kept n k hs))
      where
        either : (b : Bool) (h : Handler P) (o : Option (Handler P)) (o' : Option (Handler Q)) → o' ≡ option_map (moved_handler f at code code') o →
            (if b then Some (moved_handler f at code code' h) else o') ≡ option_map (moved_handler f at code code') (if b then Some h else o)
        either true h o o' e = refl
        either false h o o' e = e

    -- the entry that takes an exception
    pub handler_kept : Handles f at code code' x.place → (n : Name) → ((class : Option (List ℕ)) → Machine.catches code' cs' n class ≡ Machine.catches code cs n class) →
        Machine.handler_of code' cs' n y ≡ option_map (moved_handler f at code code') (Machine.handler_of code cs n x)
    handler_kept handles n k = rw handles.handlers (first_kept n k (code.handlers x.place))
