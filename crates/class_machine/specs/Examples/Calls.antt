-- Objects, constructors and the selection of methods.
use Rattle.std.specs.Prelude.{◌≡◌, ℕ, List, [], ◌∷◌, ◌++◌, codes, Some, None, true, pos}
use Rattle.std.proofs.Common.{refl}
use Rattle.class_machine.specs.declared.kinds.Kind.{Kind}
use Rattle.class_machine.specs.declared.kinds.Element.{Element}
use Rattle.class_machine.specs.declared.kinds.Slots.TheVariants.{Zero, One}
use Rattle.class_machine.specs.declared.kinds.Mode.{Mode}
use Rattle.class_machine.specs.declared.kinds.Access.{Access}
use Rattle.class_machine.specs.declared.meaning.Basic.{Basic}
use Rattle.class_machine.specs.Events as events
use Rattle.class_machine.specs.Values.{object_class}
use Rattle.class_machine.specs.Operations.{FieldAccess, New, CheckCast, ReferClass}
use Rattle.class_machine.specs.Classes.{reference}
use Rattle.class_machine.specs.Listed.{Listed, ListedMethod, locked, hidden, class, class_below, interface, object_field, object_method, abstract_method}
use Rattle.class_machine.specs.Declarations.{output_field}
use Rattle.class_machine.specs.Examples.{plain, basic, to, int, int_return, void_return, null, ends, gives, returns, main_class, main_action, runs, acts, invoke, say, said, action, constructor_below, make, get_static, print_line}

-- a method that says a word
abbrev pub speaks : List ℕ → ListedMethod
speaks word = object_method (codes "speak") (codes "()V") (say word ++ void_return ∷ []) []

-- the interface's method is selected from the class of the object upward: B's own, and A's for A
selects : acts 40 (
    interface (codes "S") (abstract_method (codes "speak") (codes "()V") ∷ []) ∷
    class_below (codes "A") object_class (codes "S" ∷ []) [] (constructor_below object_class ∷ speaks (codes "a") ∷ []) ∷
    class_below (codes "B") (codes "A") [] [] (constructor_below (codes "A") ∷ speaks (codes "b") ∷ []) ∷
    main_action (make (codes "B") ++ invoke Mode.Interface (action (codes "S") (codes "speak")) ∷ make (codes "A") ++ invoke Mode.Interface (action (codes "S") (codes "speak")) ∷ void_return ∷ []) [] ∷
    []
    ) ≡ returns (said (codes "b") ∷ said (codes "a") ∷ [])
selects = refl

-- B's private method is passed over, and runs where it is itself found
passes_private : acts 40 (
    class (codes "A") [] (constructor_below object_class ∷ speaks (codes "a") ∷ []) ∷
    class_below (codes "B") (codes "A") [] [] (constructor_below (codes "A") ∷ hidden (speaks (codes "b")) ∷ []) ∷
    main_action (make (codes "B") ++ basic (Basic.Duplicate One Zero) ∷ invoke Mode.Virtual (action (codes "A") (codes "speak")) ∷ invoke Mode.Virtual (action (codes "B") (codes "speak")) ∷ void_return ∷ []) [] ∷
    []
    ) ≡ returns (said (codes "a") ∷ said (codes "b") ∷ [])
passes_private = refl

-- `invokespecial` of a superclass's method starts at the direct superclass: B speaks as A does
speaks_above : acts 40 (
    class (codes "O") [] (constructor_below object_class ∷ speaks (codes "o") ∷ []) ∷
    class_below (codes "A") (codes "O") [] [] (constructor_below (codes "O") ∷ speaks (codes "a") ∷ []) ∷
    class_below (codes "B") (codes "A") [] [] (constructor_below (codes "A") ∷ object_method (codes "speak") (codes "()V") (basic (Basic.Load Kind.Reference 0) ∷ invoke Mode.Special (action (codes "O") (codes "speak")) ∷ void_return ∷ []) [] ∷ []) ∷
    main_action (make (codes "B") ++ invoke Mode.Virtual (action (codes "O") (codes "speak")) ∷ void_return ∷ []) [] ∷
    []
    ) ≡ returns (said (codes "a") ∷ [])
speaks_above = refl

-- two tokens of one class: the inner constructor's object isn't the outer one's
builds : runs 14 (
    main_class (plain (New (codes "A")) ∷ basic (Basic.Duplicate One Zero) ∷ plain (New (codes "A")) ∷ basic (Basic.Duplicate One Zero) ∷ basic (Basic.Store Kind.Reference 0) ∷ invoke Mode.Special (action (codes "A") (codes "<init>")) ∷ invoke Mode.Special (action (codes "A") (codes "<init>")) ∷ basic (Basic.Load Kind.Reference 0) ∷ to (Basic.IfReferences true) 11 ∷ int (pos 3) ∷ int_return ∷ int (pos 4) ∷ int_return ∷ []) [] ∷
    class (codes "A") [] (object_method (codes "<init>") (codes "()V") (void_return ∷ []) [] ∷ []) ∷
    []
    ) ≡ gives (pos 3)
builds = refl

-- a token is no reference to compare
token_compared : runs 3 (main_class (plain (New (codes "C")) ∷ basic (Basic.Duplicate One Zero) ∷ to (Basic.IfReferences true) 3 ∷ int (pos 3) ∷ int_return ∷ []) [] ∷ []) ≡ ends [] events.Broken
token_compared = refl

-- an array has the methods of Object, where the class of its elements is there: this one is the first of its type
array_method : runs 4 (main_class (int (pos 3) ∷ basic (Basic.NewArray Element.Int) ∷ invoke Mode.Virtual (reference (codes "[I") (codes "hashCode") (codes "()I")) ∷ int_return ∷ []) [] ∷ []) ≡ gives (pos 1)
array_method = refl

unknown_array_method : runs 2 (main_class (null ∷ invoke Mode.Virtual (reference (codes "[LGone;") (codes "hashCode") (codes "()I")) ∷ int_return ∷ []) [] ∷ []) ≡ ends [] (events.Unresolved (codes "[LGone;.hashCode"))
unknown_array_method = refl

abbrev pub number_field : Listed
number_field = plain (FieldAccess Access.GetField (reference (codes "B") (codes "n") (codes "B")))

-- a byte field of a superclass, stored to and read
field_of_object : runs 40 (
    main_class (make (codes "B") ++ basic (Basic.Duplicate One Zero) ∷ int (pos 300) ∷ plain (FieldAccess Access.PutField (reference (codes "B") (codes "n") (codes "B"))) ∷ number_field ∷ int_return ∷ []) [] ∷
    class (codes "A") (object_field (codes "n") (codes "B") ∷ []) (constructor_below object_class ∷ []) ∷
    class_below (codes "B") (codes "A") [] [] (constructor_below (codes "A") ∷ []) ∷
    []
    ) ≡ gives (pos 44)
field_of_object = refl

-- the search comes before null, and null before selection
search_first : runs 2 (main_class (null ∷ plain (FieldAccess Access.GetField (reference (codes "C") (codes "n") (codes "I"))) ∷ int_return ∷ []) [] ∷ []) ≡ ends [] (events.Unresolved (codes "C.n"))
search_first = refl

null_receiver : acts 2 (interface (codes "S") (abstract_method (codes "speak") (codes "()V") ∷ []) ∷ main_action (null ∷ invoke Mode.Interface (action (codes "S") (codes "speak")) ∷ void_return ∷ []) [] ∷ []) ≡ ends [] (events.Uncaught (codes "java/lang/NullPointerException") None)
null_receiver = refl

-- null passes a cast to a class that isn't there
null_cast : runs 4 (main_class (null ∷ plain (CheckCast (codes "Gone")) ∷ to (Basic.IfNull true) 3 ∷ int (pos 1) ∷ int_return ∷ []) [] ∷ []) ≡ record { events = []; ending = None }
null_cast = refl

-- the class of a constant is searched, and an array type is known where its element class is
unknown_constant : acts 1 (main_action (plain (ReferClass (codes "Gone")) ∷ void_return ∷ []) [] ∷ []) ≡ ends [] (events.Unresolved (codes "Gone"))
unknown_constant = refl

unknown_element : acts 1 (main_action (plain (ReferClass (codes "[LGone;")) ∷ void_return ∷ []) [] ∷ []) ≡ ends [] (events.Unresolved (codes "[LGone;"))
unknown_element = refl

known_constant : acts 2 (main_action (plain (ReferClass (codes "C")) ∷ void_return ∷ []) [] ∷ []) ≡ returns []
known_constant = refl

-- A constructor that throws has its object all the same: the copy of the token in local 0 is the buffer that `append` then
-- fills.
copies_filled :
    acts 40 (
    main_action (plain (New (codes "java/lang/StringBuffer")) ∷ basic (Basic.Duplicate One Zero) ∷ basic (Basic.Store Kind.Reference 0) ∷ null ∷ invoke Mode.Special (reference (codes "java/lang/StringBuffer") (codes "<init>") (codes "(Ljava/lang/String;)V")) ∷ void_return ∷ basic (Basic.Pop One) ∷ basic (Basic.Load Kind.Reference 0) ∷ basic (Basic.Duplicate One Zero) ∷ int (pos 7) ∷ invoke Mode.Virtual (reference (codes "java/lang/StringBuffer") (codes "append") (codes "(I)Ljava/lang/StringBuffer;")) ∷ basic (Basic.Pop One) ∷ basic (Basic.Store Kind.Reference 1) ∷ get_static output_field ∷ basic (Basic.Load Kind.Reference 1) ∷ print_line (codes "(Ljava/lang/Object;)V") ∷ void_return ∷ []) (record { start = 4; end = 5; handler = 6; catch = None } ∷ []) ∷
    []
    ) ≡ returns (said (codes "7") ∷ [])
copies_filled = refl

-- a synchronized method that is left by an exception leaves its monitor: the count is 0 again
leaves_monitor :
    acts 40 (
    class_below (codes "A") object_class [] [] (constructor_below object_class ∷ locked (object_method (codes "fail") (codes "()V") (null ∷ basic Basic.Throw ∷ []) []) ∷ []) ∷
    main_action (make (codes "A") ++ basic (Basic.Store Kind.Reference 0) ∷ basic (Basic.Load Kind.Reference 0) ∷ invoke Mode.Virtual (action (codes "A") (codes "fail")) ∷ void_return ∷ basic (Basic.Pop One) ∷ basic (Basic.Load Kind.Reference 0) ∷ basic Basic.LeaveMonitor ∷ void_return ∷ []) (record { start = 5; end = 6; handler = 7; catch = None } ∷ []) ∷
    []
    ) ≡ ends [] (events.Uncaught (codes "java/lang/IllegalMonitorStateException") None)
leaves_monitor = refl

-- an interface catches nothing, though the exception's class implements it
interface_catches_nothing :
    acts 20 (
    interface (codes "S") [] ∷
    class_below (codes "X") (codes "java/lang/RuntimeException") (codes "S" ∷ []) [] (constructor_below (codes "java/lang/RuntimeException") ∷ []) ∷
    main_action (make (codes "X") ++ basic Basic.Throw ∷ void_return ∷ []) (record { start = 0; end = 4; handler = 4; catch = Some (codes "S") } ∷ []) ∷
    []
    ) ≡ ends [] (events.Uncaught (codes "X") None)
interface_catches_nothing = refl

-- an object of another class than the one that declares the method: Broken, after null and before selection
wrong_receiver :
    acts 20 (
    class (codes "A") [] (constructor_below object_class ∷ speaks (codes "a") ∷ []) ∷
    class (codes "B") [] (constructor_below object_class ∷ []) ∷
    main_action (make (codes "B") ++ invoke Mode.Virtual (action (codes "A") (codes "speak")) ∷ void_return ∷ []) [] ∷
    []
    ) ≡ ends [] events.Broken
wrong_receiver = refl
