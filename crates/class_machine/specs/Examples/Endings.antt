-- Each ending once.
use Rattle.std.specs.Prelude.{◌≡◌, [], ◌∷◌, ◌++◌, codes, Some, pos, true}
use Rattle.std.proofs.Common.{refl}
use Rattle.class_machine.specs.declared.kinds.Kind.{Kind}
use Rattle.class_machine.specs.declared.kinds.Slots.TheVariants.{Zero, One}
use Rattle.class_machine.specs.declared.kinds.Constant.TheVariants as constant
use Rattle.class_machine.specs.declared.kinds.Mode.{Mode}
use Rattle.class_machine.specs.declared.meaning.Basic.{Basic}
use Rattle.class_machine.specs.Events as events
use Rattle.class_machine.specs.Values.{system_class}
use Rattle.class_machine.specs.Operations.{New}
use Rattle.class_machine.specs.Classes.{reference}
use Rattle.class_machine.specs.Listed.{class, native_method, runs_with, static_method}
use Rattle.class_machine.specs.Examples.{plain, basic, int, text, null, ends, main_action, acts, invoke, action, say, said, initialiser}
use Rattle.class_machine.specs.Start as arguments

-- the value that the entry returns, a new array of texts: its type and number
returned : runs_with [] (arguments.Texts (codes "a" ∷ codes "b" ∷ []) ∷ []) 2 (class (codes "C") [] (static_method (codes "f") (codes "([Ljava/lang/String;)Ljava/lang/Object;") (basic (Basic.Load Kind.Reference 0) ∷ basic (Basic.Return (Some Kind.Reference)) ∷ []) [] ∷ []) ∷ []) (reference (codes "C") (codes "f") (codes "([Ljava/lang/String;)Ljava/lang/Object;")) ≡ ends [] (events.Returned (Some (events.Array (codes "[Ljava/lang/String;") 1)))
returned = refl

-- new IllegalArgumentException("no") is thrown
uncaught : acts 6 (main_action (plain (New (codes "java/lang/IllegalArgumentException")) ∷ basic (Basic.Duplicate One Zero) ∷ text (codes "no") ∷ invoke Mode.Special (reference (codes "java/lang/IllegalArgumentException") (codes "<init>") (codes "(Ljava/lang/String;)V")) ∷ basic Basic.Throw ∷ []) [] ∷ []) ≡ ends [] (events.Uncaught (codes "java/lang/IllegalArgumentException") (Some (codes "no")))
uncaught = refl

init_failed : acts 3 (main_action (plain (New (codes "F")) ∷ []) [] ∷ class (codes "F") [] (initialiser (null ∷ basic Basic.Throw ∷ []) ∷ []) ∷ []) ≡ ends [] (events.InitFailed (codes "F"))
init_failed = refl

exits : acts 9 (main_action (say (codes "bye") ++ int (pos 3) ∷ invoke Mode.Static (reference system_class (codes "exit") (codes "(I)V")) ∷ []) [] ∷ []) ≡ ends (said (codes "bye") ∷ []) (events.Exit (pos 3))
exits = refl

-- 98 is fadd
unmodelled : acts 3 (main_action (basic (Basic.Constant (constant.Float 7)) ∷ basic (Basic.Constant (constant.Float 8)) ∷ basic (Basic.Unmodelled 98 Kind.Float true Kind.Float) ∷ []) [] ∷ []) ≡ ends [] (events.Unmodelled 98)
unmodelled = refl

unresolved : acts 1 (main_action (invoke Mode.Static (action (codes "a/A") (codes "none")) ∷ []) [] ∷ []) ≡ ends [] (events.Unresolved (codes "a.A.none"))
unresolved = refl

script_ends : runs_with [] [] 2 (class (codes "C") [] (native_method (codes "ask") (codes "()V") ∷ []) ∷ []) (action (codes "C") (codes "ask")) ≡ ends (events.Native (action (codes "C") (codes "ask")) [] ∷ []) events.ScriptEnds
script_ends = refl

-- the kinds come before the float
broken : acts 3 (main_action (int (pos 7) ∷ basic (Basic.Constant (constant.Float 8)) ∷ basic (Basic.Unmodelled 98 Kind.Float true Kind.Float) ∷ []) [] ∷ []) ≡ ends [] events.Broken
broken = refl

-- a print where the code ends is Broken, and says nothing
falls : acts 3 (main_action (say (codes "x")) [] ∷ []) ≡ ends [] events.Broken
falls = refl

-- a missing entry ends the run at step 1
no_code : acts 1 [] ≡ ends [] (events.Unresolved (codes "C.main"))
no_code = refl
