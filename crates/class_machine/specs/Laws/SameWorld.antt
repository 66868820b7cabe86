-- Where the classes are the same and so is the world, all that the laws ask is met: an instruction does the same at
-- another place, whatever it is.
use Rattle.std.proofs.Common.{◌≡◌, ℕ, Bool, true, false, List, [], ◌∷◌, ◌++◌, Option, Some, None, refl, subst}
use Rattle.std.specs.Prelude.{if◌then◌else◌, replicate}
use Rattle.class_file.specs.Pool.{Reference}
use Rattle.class_machine.specs.Values.{Name, Held, Unset}
use Rattle.class_machine.specs.Classes.{Method, Classes, is_among, fault_class}
use Rattle.class_machine.specs.World.{World, make, enter_monitor}
use Rattle.class_machine.specs.Effect.{Effect, On, Jump, Enter, Back, Ask, Announce, CallStatic, CallOn, Build, Leave, Fail, Throw, Unmodelled, Broken}
use Rattle.class_machine.specs.Answers.{Reply, Gives, Done, Faults, Refuses, answer}
use Rattle.class_machine.specs.LibraryCalls.{Work, Results, Throws, Calls, Loads, Exits, Misuses}
use Rattle.class_machine.specs.LibraryCalls as work
use Rattle.class_machine.specs.Natives.{Response, Returns, Lacks, respond}
use Rattle.class_machine.specs.Natives as native
use Rattle.class_machine.specs.Turn
use Rattle.class_machine.specs.Turn.{Entry, Code, Frame}
use Rattle.class_machine.specs.Standing.{Growth, SameResult, Stands, EntryKept, Arrives, ReplyKept, ResponseKept, WorkKept, grown_frame, AllStart, TurnKept, Agrees, BeginsAlike, SearchedAlike, BodyAlike, AnsweredAlike, Fair}
use Rattle.class_machine.specs.Laws.TurnKept.{unset-bare, unset-grown, turn_kept}

abbrev pub Same : World → World → Type 0
Same w w' = w ≡ w'

reply_same : (r : Reply) → ReplyKept Same r r
reply_same (Gives v w) = (w, refl, refl)
reply_same (Done w) = (w, refl, refl)
reply_same (Faults fault) = refl
reply_same Refuses = tt

response_same : (r : Response) → ResponseKept Same r r
response_same (Returns v w) = (w, refl, refl)
response_same (native.Throws x w) = (w, refl, refl)
response_same Lacks = refl

pub work_same : (r : Work) → WorkKept Same r r
work_same (Results said v w) = (w, refl, refl)
work_same (Throws x w) = (w, refl, refl)
work_same (work.Faults fault) = refl
work_same (Calls m a wait w) = (w, refl, refl)
work_same (Loads class) = refl
work_same (Exits status) = refl
work_same Misuses = tt

module _ {P Q : Type 0} (f at : P → Q) (code : Code P) (code' : Code Q) (cs : Classes) (arrives : Arrives f at code code') where
  pub agrees_same : Agrees f code code' cs cs Same
  agrees_same = record {
    made = λ w w' a fault. subst (λ v. (w1 : World) × ((make cs w (fault_class fault)).1 ≡ w1) × (make cs v (fault_class fault) ≡ ((make cs w (fault_class fault)).0, w1))) a (_, refl, refl);
    locked = λ w w' a x. subst (λ v. enter_monitor w x ≡ enter_monitor v x) a refl;
  }

  pub start_append : (xs us : List (Frame P)) (ys vs : List (Frame Q)) → AllStart f xs ys → AllStart f us vs → AllStart f (xs ++ us) (ys ++ vs)
  start_append [] us ys vs k l = rw k l
  start_append (x ∷ xs) us ys vs k l = rw k.3 (k.0, k.1 ++ vs, k.2, refl, start_append xs us k.1 vs k.4 l)

  initialiser_start : (class : List ℕ) (m : Reference) (o : Option (Entry P)) (o' : Option (Entry Q)) → EntryKept f at code code' o o' → AllStart f (Turn.initialiser_at code cs class m o) (Turn.initialiser_at code' cs class m o')
  initialiser_start class m None o' k = rw k refl
  initialiser_start class m (Some e) o' k = rw k.2 (record { method = m; room = k.0; locals = replicate k.1 Unset; bare = unset-bare Q k.1 }, [], refl, rw (unset-grown f e.locals k.1) refl, refl)

  own_start : (class : List ℕ) (o : Option Method) → AllStart f (Turn.own_initialiser code cs class o) (Turn.own_initialiser code' cs class o)
  own_start class None = refl
  own_start class (Some m) = initialiser_start class m.name (code.method m.name) (code'.method m.name) (arrives.method m.name)

  unless_start : (b : Bool) (xs : List (Frame P)) (ys : List (Frame Q)) → AllStart f xs ys → AllStart f (if b then [] else xs) (if b then [] else ys)
  unless_start true xs ys k = refl
  unless_start false xs ys k = k

  initialisers_start : (begun classes : List (List ℕ)) → AllStart f (Turn.initialisers code cs begun classes) (Turn.initialisers code' cs begun classes)
  initialisers_start begun [] = refl
  initialisers_start begun (class ∷ above) =
      start_append (Turn.initialisers code cs begun above) _ (Turn.initialisers code' cs begun above) _ (initialisers_start begun above)
      (unless_start (is_among begun class) (Turn.own_initialiser code cs class (cs.initialiser class)) (Turn.own_initialiser code' cs class (cs.initialiser class)) (own_start class (cs.initialiser class)))

  pub begins_same : (class : List ℕ) (w w' : World) → Same w w' → BeginsAlike f code code' cs cs Same class w w'
  begins_same class w w' a = subst (λ v. BeginsAlike f code code' cs cs Same class w v) a (record { marked = refl; frames = initialisers_start w.begun (cs.superclasses class) })

  pub body_same : (w : World) (m : Method) (receiver : Option Name) (given : List Held) → BodyAlike f code code' cs cs Same w w m receiver given
  body_same w m receiver given = record {
    shown = λ e. refl;
    responds = λ e. response_same (respond cs w m.name);
    works = λ rule e. work_same (Turn.ruled code cs w rule receiver given);
    loads = λ rule class e l. begins_same class w w refl;
  }

  module _ (g : Growth Q) (x : Frame P) (same : SameResult x.method g.method) (class : g.method.class ≡ x.method.class) where
    abbrev y : Frame Q
    y = grown_frame f at g x

    selection_same : (special : Bool) (a : Name) (m : Method) → Turn.selection code' cs y special a m ≡ Turn.selection code cs x special a m
    selection_same true a m = rw class refl
    selection_same false a m = refl

    searched_same : (e : Effect P) → SearchedAlike f code code' cs cs Same e
    searched_same (On c) = tt
    searched_same (Jump i c) = tt
    searched_same (Enter i c) = tt
    searched_same (Back p c) = tt
    searched_same (Ask q c) = refl
    searched_same (Announce made c) = refl
    searched_same (CallStatic r given c) = refl
    searched_same (CallOn special r z given c) = refl
    searched_same (Build r made number given c) = refl
    searched_same (Leave v) = tt
    searched_same (Fail fault) = tt
    searched_same (Throw z) = tt
    searched_same (Unmodelled op) = tt
    searched_same Broken = tt

    answered_here : (w : World) (e : Effect P) → AnsweredAlike f code code' cs cs Same x y w w e
    answered_here w (On c) = tt
    answered_here w (Jump i c) = tt
    answered_here w (Enter i c) = tt
    answered_here w (Back p c) = tt
    answered_here w (Ask q c) = reply_same (answer cs w q)
    answered_here w (Announce made c) = tt
    answered_here w (CallStatic r given c) = λ m e. body_same w m None given
    answered_here w (CallOn special r None given c) = tt
    answered_here w (CallOn special r (Some z) given c) = λ m e. (refl, selection_same special z m, λ s h. body_same w s (Some z) given)
    answered_here w (Build r made number given c) = λ m e. (refl, (make cs w made).1, refl, refl, body_same ((make cs w made).1) m (Some ((make cs w made).0)) given)
    answered_here w (Leave v) = tt
    answered_here w (Fail fault) = tt
    answered_here w (Throw z) = refl
    answered_here w (Unmodelled op) = tt
    answered_here w Broken = tt

    pub fair_same : (e : Effect P) → Fair f code code' cs cs Same x y e
    fair_same e = record {
      searched = searched_same e;
      begins = λ needed needs w w' a. begins_same needed w w' a;
      answered = λ w w' a. subst (λ v. AnsweredAlike f code code' cs cs Same x y w v e) a (answered_here w e);
    }

    -- an instruction that stands elsewhere in other code of the same classes
    pub turn_same : Stands f at code code' x.place → (w : World) → TurnKept f Same g (Turn.turn code cs x w) (Turn.turn code' cs y w)
    turn_same stands w = turn_kept f at code code' cs cs Same arrives agrees_same g x stands same w w refl (λ operation e. fair_same (Turn.effect_at code cs x operation))
