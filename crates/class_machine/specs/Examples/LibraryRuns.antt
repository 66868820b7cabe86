-- Calls of the library.
use Rattle.std.specs.Prelude.{◌≡◌, ℕ, List, [], ◌∷◌, ◌++◌, codes, Some, None, pos, negsuc}
use Rattle.std.proofs.Common.{refl}
use Rattle.class_file.specs.Pool.{Reference}
use Rattle.class_machine.specs.declared.kinds.Kind.{Kind}
use Rattle.class_machine.specs.declared.kinds.Mode.{Mode}
use Rattle.class_machine.specs.declared.meaning.Basic.{Basic}
use Rattle.class_machine.specs.Events as events
use Rattle.class_machine.specs.Values.{object_class, class_class, string_class}
use Rattle.class_machine.specs.Classes.{reference}
use Rattle.class_machine.specs.Listed.{ListedMethod, ListedClass, class, class_below, object_method}
use Rattle.class_machine.specs.Declarations.{output_field}
use Rattle.class_machine.specs.Examples.{basic, int, long, text, int_return, void_return, ends, gives, returns, main_class, main_action, runs, acts, invoke, get_static, print_line, say, said, constructor_below, initialiser, make}

abbrev pub buffer : List ℕ
buffer = codes "java/lang/StringBuffer"

abbrev pub append : List ℕ → Reference
append parameter = reference buffer (codes "append") (40 ∷ parameter ++ codes ")Ljava/lang/StringBuffer;")

abbrev pub to_string : List ℕ → Reference
to_string class = reference class (codes "toString") (codes "()Ljava/lang/String;")

-- "amount " + -5 + 'x' as a compiler of Java 1.4 writes it
concatenates : acts 20 (main_action (get_static output_field ∷ make buffer ++ text (codes "amount ") ∷ invoke Mode.Virtual (append (codes "Ljava/lang/String;")) ∷ int (negsuc 4) ∷ invoke Mode.Virtual (append (codes "I")) ∷ int (pos 120) ∷ invoke Mode.Virtual (append (codes "C")) ∷ invoke Mode.Virtual (to_string buffer) ∷ print_line (codes "(Ljava/lang/String;)V") ∷ void_return ∷ []) [] ∷ []) ≡ returns (said (codes "amount -5x") ∷ [])
concatenates = refl

-- a class that answers toString() or getMessage() itself, with a word
abbrev pub answers : List ℕ → List ℕ → ListedMethod
answers name word = object_method name (codes "()Ljava/lang/String;") (text word ∷ basic (Basic.Return (Some Kind.Reference)) ∷ []) []

abbrev pub print_new : List ℕ → ListedClass
print_new class = main_action (get_static output_field ∷ make class ++ print_line (codes "(Ljava/lang/Object;)V") ∷ void_return ∷ []) []

-- println(Object) pushes the frame of its toString(), and prints as that returns: 1 and 3 steps to make it, 3 of its
-- constructor, 1 of the call, 2 of toString() and 1 of the return
prints_object : acts 11 (print_new (codes "A") ∷ class (codes "A") [] (constructor_below object_class ∷ answers (codes "toString") (codes "an A") ∷ []) ∷ []) ≡ returns (said (codes "an A") ∷ [])
prints_object = refl

-- without a toString() of its own: the class and the number of the object
prints_name : acts 9 (print_new (codes "a/A") ∷ class (codes "a/A") [] (constructor_below object_class ∷ []) ∷ []) ≡ returns (said (codes "a.A@1") ∷ [])
prints_name = refl

-- the library's toString() of an exception asks its getMessage()
prints_exception : acts 20 (print_new (codes "X") ∷ class_below (codes "X") (codes "java/lang/RuntimeException") [] [] (constructor_below (codes "java/lang/RuntimeException") ∷ answers (codes "getMessage") (codes "why") ∷ []) ∷ []) ≡ returns (said (codes "X: why") ∷ [])
prints_exception = refl

-- Class.forName initialises the class and is executed again; its name is that of the class object
finds_class : acts 20 (main_action (get_static output_field ∷ text (codes "b.B") ∷ invoke Mode.Static (reference class_class (codes "forName") (codes "(Ljava/lang/String;)Ljava/lang/Class;")) ∷ invoke Mode.Virtual (reference class_class (codes "getName") (codes "()Ljava/lang/String;")) ∷ print_line (codes "(Ljava/lang/String;)V") ∷ void_return ∷ []) [] ∷ class (codes "b/B") [] (initialiser (say (codes "B") ++ void_return ∷ []) ∷ []) ∷ []) ≡ returns (said (codes "B") ∷ said (codes "b.B") ∷ [])
finds_class = refl

no_class : acts 20 (main_action (text (codes "b/B") ∷ invoke Mode.Static (reference class_class (codes "forName") (codes "(Ljava/lang/String;)Ljava/lang/Class;")) ∷ void_return ∷ []) [] ∷ class (codes "b/B") [] [] ∷ []) ≡ ends [] (events.Uncaught (codes "java/lang/ClassNotFoundException") (Some (codes "b/B")))
no_class = refl

-- an array type's name is its descriptor, and `[Q` is none
abbrev pub name_of_class : List ℕ → List ListedClass
name_of_class name = main_action (get_static output_field ∷ text name ∷ invoke Mode.Static (reference class_class (codes "forName") (codes "(Ljava/lang/String;)Ljava/lang/Class;")) ∷ invoke Mode.Virtual (reference class_class (codes "getName") (codes "()Ljava/lang/String;")) ∷ print_line (codes "(Ljava/lang/String;)V") ∷ void_return ∷ []) [] ∷ []

finds_array : acts 20 (name_of_class (codes "[[I")) ≡ returns (said (codes "[[I") ∷ [])
finds_array = refl

no_array : acts 20 (name_of_class (codes "[Q")) ≡ ends [] (events.Uncaught (codes "java/lang/ClassNotFoundException") (Some (codes "[Q")))
no_array = refl

-- a boxed long: its hash is the low half xor the high half
hashes : runs 5 (main_class (long (pos 4294967298) ∷ invoke Mode.Static (reference (codes "java/lang/Long") (codes "valueOf") (codes "(J)Ljava/lang/Long;")) ∷ invoke Mode.Virtual (reference object_class (codes "hashCode") (codes "()I")) ∷ int_return ∷ []) [] ∷ []) ≡ gives (pos 3)
hashes = refl

-- the hash of "ab" is 97 * 31 + 98
text_hash : runs 3 (main_class (text (codes "ab") ∷ invoke Mode.Virtual (reference string_class (codes "hashCode") (codes "()I")) ∷ int_return ∷ []) [] ∷ []) ≡ gives (pos 3105)
text_hash = refl

past_end : runs 3 (main_class (text (codes "ab") ∷ int (pos 2) ∷ invoke Mode.Virtual (reference string_class (codes "charAt") (codes "(I)C")) ∷ int_return ∷ []) [] ∷ []) ≡ ends [] (events.Uncaught (codes "java/lang/StringIndexOutOfBoundsException") None)
past_end = refl
