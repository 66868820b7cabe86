-- Native calls (JVMS 2.10.3): each takes the next answer of the script, which is to fit the type of its result.
use Rattle.std.specs.Prelude.{ℕ, Bool, true, false, List, [], ◌∷◌, map, Option, Some, None, ℤ}
use Rattle.class_file.specs.Pool.{Reference}
use Rattle.class_machine.specs.declared.kinds.Element.{Element}
use Rattle.class_machine.specs.Values.{Name, string_class, throwable_class, Held, Int, Long, Null, Reference as Pointer}
use Rattle.class_machine.specs.Numbers.{same_int}
use Rattle.class_machine.specs.Descriptors.{element_of, low_bits, class_in, result_in}
use Rattle.class_machine.specs.Classes.{Classes}
use Rattle.class_machine.specs.World.{World, shown, add_text, make, message_field, write_field}
use Rattle.class_machine.specs.Events.{Event, Native, Answer}
use Rattle.class_machine.specs.Events as events

-- what comes of an answer
pub data Response : Type 0 where
  Returns : (v : Option Held) (w : World) → Response
  Throws : (x : Name) (w : World) → Response
  -- it is missing or doesn't fit
  Lacks : Response

-- an int of a narrower type is within its range, and a boolean is 0 or 1
abbrev pub is_int_of : Element → ℤ → Bool
is_int_of Element.Long n = false
is_int_of Element.Float n = false
is_int_of Element.Double n = false
is_int_of Element.Reference n = false
is_int_of e n = same_int (low_bits e n) n

abbrev pub is_long : Element → Bool
is_long Element.Long = true
is_long _ = false

abbrev pub is_reference : Element → Bool
is_reference Element.Reference = true
is_reference _ = false

-- a String is a value of the type
abbrev pub takes_text : Classes → Option (List ℕ) → Bool
takes_text cs None = false
takes_text cs (Some class) = cs.is_subtype string_class class

abbrev pub if_fits : Bool → Response → Response
if_fits true r = r
if_fits false r = Lacks

abbrev pub a_text : Name × World → Response
a_text made = Returns (Some (Pointer made.0)) made.1

-- an exception that holds the message
abbrev pub with_message : List ℕ → Name × World → Response
with_message message made = given made.0 (add_text made.1 message) where
  given : Name → Name × World → Response
  given x text = Throws x (write_field text.1 x message_field (Pointer text.0))

abbrev pub thrown : Classes → World → List ℕ → List ℕ → Response
thrown cs w class message = if_fits (cs.is_subtype class throwable_class) (with_message message (make cs w class))

-- an answer to a call of a method with a result of the type
abbrev pub result_of : Classes → World → List ℕ → Answer → Response
result_of cs w type (events.Int n) = if_fits (is_int_of (element_of type) n) (Returns (Some (Int n)) w)
result_of cs w type (events.Long n) = if_fits (is_long (element_of type)) (Returns (Some (Long n)) w)
result_of cs w type events.Null = if_fits (is_reference (element_of type)) (Returns (Some Null) w)
result_of cs w type (events.Text units) = if_fits (takes_text cs (class_in type)) (a_text (add_text w units))
result_of cs w type events.Void = Lacks
result_of cs w type (events.Throw class message) = thrown cs w class message

-- an answer to a call of a method without result
abbrev pub end_of : Classes → World → Answer → Response
end_of cs w events.Void = Returns None w
end_of cs w (events.Throw class message) = thrown cs w class message
end_of cs w _ = Lacks

abbrev pub fitted : Classes → World → Option (List ℕ) → Answer → Response
fitted cs w None a = end_of cs w a
fitted cs w (Some type) a = result_of cs w type a

abbrev pub taken : Classes → World → Option (List ℕ) → List Answer → Response
taken cs w type [] = Lacks
taken cs w type (a ∷ answers) = fitted cs (record w { answers = answers }) type a

-- what the script answers to a call of the method
abbrev pub respond : Classes → World → Reference → Response
respond cs w method = taken cs w (result_in method.member.descriptor) w.answers

-- the event of a native call
abbrev pub native_event : World → Reference → List Held → Event
native_event w method given = Native method (map (shown w) given)
