-- What is observed of a run, and what a script answers to native calls.
use Rattle.std.specs.Prelude.{ℕ, ℤ, List, Option, Bool, true, false}
use Rattle.class_file.specs.Pool.{Reference}

-- A value as an event or an ending shows it.
pub data Shown : Type 0 where
  Int : (n : ℤ) → Shown
  Long : (n : ℤ) → Shown
  Float : (bits : ℕ) → Shown
  Double : (bits : ℕ) → Shown
  Null : Shown
  -- a String, by its UTF-16 units
  Text : (units : List ℕ) → Shown
  -- the object that stands for a class or an array type
  ClassObject : (class : List ℕ) → Shown
  -- any other object, by its class and number
  Object : (class : List ℕ) (k : ℕ) → Shown
  -- an array, by its type and number
  Array : (type : List ℕ) (k : ℕ) → Shown

pub data Event : Type 0 where
  -- a text of UTF-16 units goes to the standard output
  Print : (text : List ℕ) → Event
  -- a native method is called; the receiver of an instance method is the first value
  Native : (method : Reference) (values : List Shown) → Event

pub data Ending : Type 0 where
  -- the entry method returned, with its result if it has one
  Returned : (result : Option Shown) → Ending
  -- an exception left the entry method: its class, and the text that its message field holds
  Uncaught : (class : List ℕ) (message : Option (List ℕ)) → Ending
  -- an exception left the initialiser of this class
  InitFailed : (class : List ℕ) → Ending
  -- System.exit was called
  Exit : (status : ℤ) → Ending
  -- the opcode computes with floating-point numbers
  Unmodelled : (op : ℕ) → Ending
  -- a class or a member is missing: the dotted class, and a dot and the member's name if there is one
  Unresolved : (name : List ℕ) → Ending
  -- a native call found no answer that fits it
  ScriptEnds : Ending
  -- the code did what no verified code does; no more is claimed of such a run
  Broken : Ending

abbrev pub is_broken : Ending → Bool
is_broken Broken = true
is_broken _ = false

-- what a native call answers: a result, nothing, or a new exception of the class with a message
pub data Answer : Type 0 where
  Int : (n : ℤ) → Answer
  Long : (n : ℤ) → Answer
  Null : Answer
  Text : (units : List ℕ) → Answer
  Void : Answer
  Throw : (class : List ℕ) (message : List ℕ) → Answer
