-- What comes of a text that a call waited for: a result, or nothing at all.
use Rattle.std.specs.Prelude.{ℕ, Bool, true, false, if◌then◌else◌, List, ◌++◌, Option, Some, None}
use Rattle.class_machine.specs.LibraryCalls as calls
use Rattle.class_machine.specs.LibraryCalls.{Wait, Prints, Appends, Gives, Describes, Work, Results, Misuses}
use Rattle.class_machine.specs.Values.{Name, Held, Int, Long, Float, Double, Null, Reference as Pointer}
use Rattle.class_machine.specs.World.{World, Text, units_at, set_object, add_text}

abbrev pub IsPlain : Work → Type 0
IsPlain (Results said v w) = Unit {0}
IsPlain Misuses = Unit {0}
IsPlain other = ⊥

either : (b : Bool) (one other : Work) → IsPlain one → IsPlain other → IsPlain (if b then one else other)
either true one other p q = p
either false one other p q = q

-- what comes of a buffer with that text
abbrev appended_to : List ℕ → Name → World → Option (List ℕ) → Work
appended_to units buffer w None = Misuses
appended_to units buffer w (Some old) = calls.gives (Pointer buffer) (set_object w buffer (Text (old ++ units)))

appended : (units : List ℕ) (buffer : Name) (w : World) → IsPlain (calls.appended units buffer w)
appended units buffer w = by (units_at w buffer) where
  by : (o : Option (List ℕ)) → IsPlain (appended_to units buffer w o)
  by None = tt
  by (Some old) = tt

finish_text : (wait : Wait) (a : Option Name) (units : Option (List ℕ)) (w : World) → IsPlain (calls.finish_text wait a units w)
finish_text (Prints line) a units w = tt
finish_text (Appends buffer) a units w = appended (calls.text_or_null units) buffer w
finish_text Gives a units w = tt
finish_text (Describes x rest) a units w =
    let made = add_text w (calls.described x units) in finish_text rest (Some made.0) (Some (calls.described x units)) made.1

pub resumed : (wait : Wait) (v : Held) (w : World) → IsPlain (calls.resume wait v w)
resumed wait Null w = finish_text wait None None w
resumed wait (Pointer a) w = either (calls.is_string a) (calls.finish_text wait (Some a) (units_at w a) w) Misuses (finish_text wait (Some a) (units_at w a) w) tt
resumed wait (Int n) w = tt
resumed wait (Long n) w = tt
resumed wait (Float n) w = tt
resumed wait (Double n) w = tt
