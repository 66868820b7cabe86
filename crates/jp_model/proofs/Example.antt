-- What the machines show of the worked example, by computation from the definitions alone.
use Rattle.std.proofs.Common.{◌≡◌, ℕ, true, List, [], ◌∷◌, ◌++◌, length, Some, None, refl, codes}
use Rattle.std.specs.Option.{unwrap_or}
use Rattle.event_machine.specs.Observation.{Observation, observed}
use Rattle.opcode_table.specs.Decoding.{decoded}
use Rattle.opcode_table.specs.Table.{opcode}
use Rattle.class_file.specs.FirstForm.{is_first_form}
use Rattle.class_machine.specs.declared.kinds.Mode.{Mode}
use Rattle.class_machine.specs.declared.kinds.Slots.TheVariants.{One}
use Rattle.class_machine.specs.declared.meaning.Basic.{Basic}
use Rattle.class_machine.specs.Events.{Event, Print, Ending, Returned, Unresolved, Broken}
use Rattle.class_machine.specs.Start.{start}
use Rattle.class_machine.specs.Declarations.{declared_method}
use Rattle.class_machine.specs.Listed.{Listed, ListedClass, program_heads, program_classes, program_code, no_constant, missing, class, static_method}
use Rattle.class_machine.specs.Examples.{basic, null, invoke, say, said, action, initialiser, void_return, main_action, ends, returns}
use Rattle.class_machine.specs.Run.{class_step, class_start}
use Rattle.jp_model.specs.AspectText.{is_first_aspect, aspect_of}
use Rattle.jp_model.specs.Aspects.{PrintLine, Aspect}
use Rattle.jp_model.specs.JoinPointMachine.{as_activations, step, aspect_step, aspect_start}
use Rattle.jp_model.specs.Headline.{entry_in}
use Rattle.jp_model.specs.Example.{example_class, main_method, example_aspect}

abbrev says_a : Event
says_a = Print (97 ∷ 10 ∷ [])

abbrev says_m : Event
says_m = Print (109 ∷ 10 ∷ [])

-- class and aspect are of the forms that are built
class_formed : is_first_form example_class ≡ true
unfolding decoded opcode
class_formed = refl

aspect_formed : is_first_aspect example_aspect ≡ true
aspect_formed = refl

-- the class has the entry method
main_found : entry_in (example_class ∷ []) (codes "C") (codes "main") [] ≡ Some main_method
main_found = refl

-- what the class alone shows within so many steps
abbrev alone : ℕ → Observation Event Ending
alone n = observed (class_step (example_class ∷ [])) n (class_start (example_class ∷ []) [] main_method [])

-- what it shows under the aspect
abbrev advised : ℕ → Observation Event Ending
advised n = observed (aspect_step (example_class ∷ []) (aspect_of example_aspect ∷ [])) n (aspect_start (example_class ∷ []) [] main_method [])

alone_ends : alone 6 ≡ record { events = says_m ∷ []; ending = Some (Returned None) }
unfolding decoded opcode
alone_ends = refl

alone_goes : alone 5 ≡ record { events = says_m ∷ []; ending = None }
unfolding decoded opcode
alone_goes = refl

-- the advice runs before the call
advised_ends : advised 10 ≡ record { events = says_a ∷ says_m ∷ []; ending = Some (Returned None) }
unfolding decoded opcode
advised_ends = refl

advised_goes : advised 9 ≡ record { events = says_a ∷ says_m ∷ []; ending = None }
unfolding decoded opcode
advised_goes = refl

-- first only the advice is heard
advised_begins : advised 7 ≡ record { events = says_a ∷ []; ending = None }
unfolding decoded opcode
advised_begins = refl

-- ---- advice, initialisers and exceptions

-- before advice at the calls of D.m
abbrev d_aspect : Aspect
d_aspect = record { name = codes "T"; advice = record { pointcut = record { class = codes "D"; method = codes "m" }; body = PrintLine (codes "a") ∷ [] } ∷ [] }

-- what a program shows under it within so many steps, from C.main
abbrev shows : ℕ → List ListedClass → Observation Event Ending
shows n program =
    let code = program_code program in
    let cs = program_classes program in
    let m = unwrap_or (declared_method (program_heads program) (length program) no_constant (action (codes "C") (codes "main")).member (codes "C")) (missing (codes "C") (action (codes "C") (codes "main")).member) in
    observed (step code cs (d_aspect ∷ [])) n (as_activations (start code cs [] m []))

abbrev calls_d : Listed
calls_d = invoke Mode.Static (action (codes "D") (codes "m"))

-- The advice runs once, before the initialiser that the call triggers; the call is then executed again.
advises_once : shows 30 (main_action (calls_d ∷ void_return ∷ []) [] ∷ class (codes "D") [] (initialiser (say (codes "i") ++ void_return ∷ []) ∷ static_method (codes "m") (codes "()V") (say (codes "m") ++ void_return ∷ []) [] ∷ []) ∷ [])
    ≡ returns (said (codes "a") ∷ said (codes "i") ∷ said (codes "m") ∷ [])
advises_once = refl

-- An exception out of the action belongs to the place of the call: the advice ran, and the handler there goes on.
leaves_its_action : shows 30 (main_action (calls_d ∷ void_return ∷ basic (Basic.Pop One) ∷ say (codes "h") ++ void_return ∷ []) (record { start = 0; end = 1; handler = 2; catch = None } ∷ []) ∷ class (codes "D") [] (static_method (codes "m") (codes "()V") (null ∷ basic Basic.Throw ∷ []) [] ∷ []) ∷ [])
    ≡ returns (said (codes "a") ∷ said (codes "h") ∷ [])
leaves_its_action = refl

-- a member that is missing is found missing by the action, after the advice
missing_after_advice : shows 30 (main_action (calls_d ∷ void_return ∷ []) [] ∷ []) ≡ ends (said (codes "a") ∷ []) (Unresolved (codes "D.m"))
missing_after_advice = refl

-- without its receiver the call is no join point: the run is broken, and no advice runs
no_operands : shows 30 (main_action (invoke Mode.Virtual (action (codes "D") (codes "m")) ∷ void_return ∷ []) [] ∷ class (codes "D") [] [] ∷ []) ≡ ends [] Broken
no_operands = refl
