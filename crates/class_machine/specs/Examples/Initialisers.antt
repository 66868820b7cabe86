-- Class initialisation.
use Rattle.std.specs.Prelude.{◌≡◌, [], ◌∷◌, ◌++◌, codes, Some, None, pos}
use Rattle.std.proofs.Common.{refl}
use Rattle.class_machine.specs.declared.kinds.Slots.TheVariants.{One}
use Rattle.class_machine.specs.declared.meaning.Basic.{Basic}
use Rattle.class_machine.specs.Events as events
use Rattle.class_machine.specs.Classes.{reference}
use Rattle.class_machine.specs.Listed.{ListedClass, class, class_below, static_field, static_method}
use Rattle.class_machine.specs.Examples.{basic, int, add, int_return, void_return, null, ends, main_class, main_action, runs, acts, get_static, put_static, say, said, initialiser}

abbrev pub first_class : ListedClass
first_class = class (codes "J") [] (initialiser (say (codes "J") ++ void_return ∷ []) ∷ [])

abbrev pub second_class : ListedClass
second_class = class_below (codes "I") (codes "J") [] (static_field (codes "n") (codes "I") ∷ []) (initialiser (say (codes "I") ++ int (pos 7) ∷ put_static (reference (codes "I") (codes "n") (codes "I")) ∷ void_return ∷ []) ∷ [])

-- The superclass comes first, each initialiser runs once, and the instruction is executed again: 1 step of the trigger,
-- 4 of J's initialiser, 6 of I's, 2 of the two reads and 2 more.
superclass_first : runs 15 (main_class (get_static (reference (codes "I") (codes "n") (codes "I")) ∷ get_static (reference (codes "I") (codes "n") (codes "I")) ∷ add ∷ int_return ∷ []) [] ∷ first_class ∷ second_class ∷ []) ≡ ends (said (codes "J") ∷ said (codes "I") ∷ []) (events.Returned (Some (events.Int (pos 14))))
superclass_first = refl

-- an exception that leaves an initialiser ends the run, whatever the frames below catch
fails_to_start : acts 3 (main_action (get_static (reference (codes "F") (codes "n") (codes "I")) ∷ basic (Basic.Pop One) ∷ void_return ∷ []) (record { start = 0; end = 3; handler = 1; catch = None } ∷ []) ∷ class (codes "F") (static_field (codes "n") (codes "I") ∷ []) (initialiser (null ∷ basic Basic.Throw ∷ []) ∷ []) ∷ []) ≡ ends [] (events.InitFailed (codes "F"))
fails_to_start = refl

-- the entry's own class is initialised before its first instruction
before_entry : acts 9 (class (codes "C") [] (initialiser (say (codes "begin") ++ void_return ∷ []) ∷ static_method (codes "main") (codes "()V") (say (codes "main") ++ void_return ∷ []) [] ∷ []) ∷ []) ≡ record { events = said (codes "begin") ∷ said (codes "main") ∷ []; ending = Some (events.Returned None) }
before_entry = refl
