-- Native calls and the script.
use Rattle.std.specs.Prelude.{◌≡◌, ℕ, List, [], ◌∷◌, ◌++◌, codes, Some, None, pos, negsuc}
use Rattle.std.proofs.Common.{refl}
use Rattle.event_machine.specs.Observation.{Observation}
use Rattle.class_file.specs.Pool.{Reference}
use Rattle.class_machine.specs.declared.kinds.Mode.{Mode}
use Rattle.class_machine.specs.declared.kinds.Kind.{Kind}
use Rattle.class_machine.specs.declared.meaning.Basic.{Basic}
use Rattle.class_machine.specs.Start as arguments
use Rattle.class_machine.specs.Events.{Event, Ending, Answer}
use Rattle.class_machine.specs.Events as events
use Rattle.class_machine.specs.Classes.{reference}
use Rattle.class_machine.specs.Listed.{Listed, Row, ListedClass, class, static_method, native_method, runs_with}
use Rattle.class_machine.specs.Declarations.{output_field}
use Rattle.class_machine.specs.Examples.{basic, int, add, int_return, ends, get_static, print_line, invoke}

abbrev pub ask : Reference
ask = reference (codes "C") (codes "ask") (codes "(I)I")

abbrev pub asked : Event
asked = events.Native ask (events.Int (pos 5) ∷ [])

-- class C with a native method ask (I)I and a method main ()I
abbrev pub asking : List Listed → List Row → List ListedClass
asking lines rows = class (codes "C") [] (native_method (codes "ask") (codes "(I)I") ∷ static_method (codes "main") (codes "()I") lines rows ∷ []) ∷ []

abbrev pub answers : List Answer → ℕ → List ListedClass → Observation Event Ending
answers script n program = runs_with script [] n program (reference (codes "C") (codes "main") (codes "()I"))

abbrev pub ask_twice : List ListedClass
ask_twice = asking (int (pos 5) ∷ invoke Mode.Static ask ∷ int (pos 5) ∷ invoke Mode.Static ask ∷ add ∷ int_return ∷ []) []

answered : answers (events.Int (negsuc 0) ∷ events.Int (pos 3) ∷ []) 6 ask_twice ≡ ends (asked ∷ asked ∷ []) (events.Returned (Some (events.Int (pos 2))))
answered = refl

-- the second answer is missing: the ending is one step behind the event
script_ends : answers (events.Int (pos 3) ∷ []) 4 ask_twice ≡ record { events = asked ∷ asked ∷ []; ending = None }
script_ends = refl

script_ended : answers (events.Int (pos 3) ∷ []) 5 ask_twice ≡ ends (asked ∷ asked ∷ []) events.ScriptEnds
script_ended = refl

-- an answer that doesn't fit
unfit : answers (events.Long (pos 3) ∷ []) 3 ask_twice ≡ ends (asked ∷ []) events.ScriptEnds
unfit = refl

-- an answer that throws, caught at the call: the handler prints the exception
abbrev pub wrong : Answer
wrong = events.Throw (codes "java/lang/IllegalStateException") (codes "no")

abbrev pub ask_and_print : List ListedClass
ask_and_print = asking (int (pos 5) ∷ invoke Mode.Static ask ∷ int_return ∷ basic (Basic.Store Kind.Reference 0) ∷ get_static output_field ∷ basic (Basic.Load Kind.Reference 0) ∷ print_line (codes "(Ljava/lang/Object;)V") ∷ int (pos 1) ∷ int_return ∷ []) (record { start = 1; end = 2; handler = 3; catch = Some (codes "java/lang/RuntimeException") } ∷ [])

caught : answers (wrong ∷ []) 8 ask_and_print ≡ ends (asked ∷ events.Print (codes "java.lang.IllegalStateException: no" ++ 10 ∷ []) ∷ []) (events.Returned (Some (events.Int (pos 1))))
caught = refl

-- and not caught: the event in its step, the ending in the next
thrown : answers (wrong ∷ []) 2 ask_twice ≡ record { events = asked ∷ []; ending = None }
thrown = refl

thrown_out : answers (wrong ∷ []) 3 ask_twice ≡ ends (asked ∷ []) (events.Uncaught (codes "java/lang/IllegalStateException") (Some (codes "no")))
thrown_out = refl

-- a native entry has no frame: its event, and its answer in the next step
native_entry : runs_with (events.Int (pos 9) ∷ []) (arguments.Int (pos 5) ∷ []) 2 ask_twice ask ≡ ends (asked ∷ []) (events.Returned (Some (events.Int (pos 9))))
native_entry = refl
