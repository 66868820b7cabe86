-- Operands, locals, jumps, subroutines and exceptions.
use Rattle.std.specs.Prelude.{◌≡◌, [], ◌∷◌, codes, Some, None, pos, negsuc}
use Rattle.std.proofs.Common.{refl}
use Rattle.class_machine.specs.declared.kinds.Kind.{Kind}
use Rattle.class_machine.specs.declared.kinds.Element.{Element}
use Rattle.class_machine.specs.declared.kinds.Binary.TheVariants.{Subtract, Multiply}
use Rattle.class_machine.specs.declared.kinds.Division.TheVariants.{Quotient, Remainder}
use Rattle.class_machine.specs.declared.kinds.Shift.TheVariants.{Left, Right, Unsigned}
use Rattle.class_machine.specs.declared.kinds.Test.TheVariants.{AtMost}
use Rattle.class_machine.specs.declared.kinds.Slots.TheVariants.{Zero, One, Two}
use Rattle.class_machine.specs.declared.kinds.Conversion.TheVariants.{LongToInt}
use Rattle.class_machine.specs.declared.kinds.Mode.{Mode}
use Rattle.class_machine.specs.declared.meaning.Basic.{Basic}
use Rattle.class_machine.specs.Events as events
use Rattle.class_machine.specs.Operations.{Switch, NewArrays, NewReferenceArray}
use Rattle.class_machine.specs.Classes.{reference}
use Rattle.class_machine.specs.Listed.{class, static_method}
use Rattle.class_machine.specs.Examples.{plain, basic, to, int, long, load, store, add, int_return, ends, gives, main_class, runs, invoke}

wraps : runs 4 (main_class (int (pos 2147483647) ∷ int (pos 1) ∷ add ∷ int_return ∷ []) [] ∷ []) ≡ gives (negsuc 2147483647)
wraps = refl

-- the least long divided by -1 is itself
least_quotient : runs 7 (main_class (long (negsuc 9223372036854775807) ∷ long (negsuc 0) ∷ basic (Basic.LongDivide Quotient) ∷ int (pos 40) ∷ basic (Basic.LongShift Right) ∷ basic (Basic.Convert LongToInt) ∷ int_return ∷ []) [] ∷ []) ≡ gives (negsuc 8388607)
least_quotient = refl

-- a count of 33 shifts an int by 1
shifts : runs 8 (main_class (int (negsuc 0) ∷ int (pos 33) ∷ basic (Basic.IntShift Unsigned) ∷ int (pos 1) ∷ int (pos 33) ∷ basic (Basic.IntShift Left) ∷ basic (Basic.IntBinary Multiply) ∷ int_return ∷ []) [] ∷ []) ≡ gives (negsuc 1)
shifts = refl

-- dup2_x2 on two longs: b a b, of which a - b, then b less that
wide_copies : runs 7 (main_class (long (pos 100) ∷ long (pos 7) ∷ basic (Basic.Duplicate Two Two) ∷ basic (Basic.LongBinary Subtract) ∷ basic (Basic.LongBinary Subtract) ∷ basic (Basic.Convert LongToInt) ∷ int_return ∷ []) [] ∷ []) ≡ gives (negsuc 85)
wide_copies = refl

-- dup_x2 over a long
under_wide : runs 7 (main_class (long (pos 100) ∷ int (pos 7) ∷ basic (Basic.Duplicate One Two) ∷ basic (Basic.Pop One) ∷ basic (Basic.Convert LongToInt) ∷ basic (Basic.IntBinary Subtract) ∷ int_return ∷ []) [] ∷ []) ≡ gives (negsuc 92)
under_wide = refl

-- a pop of one slot doesn't split a long
splits : runs 4 (main_class (long (pos 100) ∷ basic (Basic.Pop One) ∷ int (pos 1) ∷ int_return ∷ []) [] ∷ []) ≡ ends [] events.Broken
splits = refl

-- nor does a load of its second local
half : runs 4 (main_class (long (pos 100) ∷ basic (Basic.Store Kind.Long 0) ∷ load 1 ∷ int_return ∷ []) [] ∷ []) ≡ ends [] events.Broken
half = refl

-- the sum of 1 to 10, in just so many steps
loops : runs 86 (main_class (int (pos 0) ∷ store 0 ∷ int (pos 1) ∷ store 1 ∷ load 0 ∷ load 1 ∷ add ∷ store 0 ∷ basic (Basic.Increment 1 (pos 1)) ∷ load 1 ∷ int (pos 10) ∷ to (Basic.IfInts AtMost) 4 ∷ load 0 ∷ int_return ∷ []) [] ∷ []) ≡ gives (pos 55)
loops = refl

-- the key 21 has the second target behind the default's
switches : runs 4 (main_class (int (pos 21) ∷ record { operation = Switch (pos 20 ∷ pos 21 ∷ []); to = 2 ∷ 4 ∷ 6 ∷ [] } ∷ int (pos 0) ∷ int_return ∷ int (pos 1) ∷ int_return ∷ int (pos 2) ∷ int_return ∷ []) [] ∷ []) ≡ gives (pos 2)
switches = refl

-- a finally: the subroutine adds 1 to local 0, and is called twice
finally : runs 14 (main_class (int (pos 5) ∷ store 0 ∷ to Basic.Jsr 6 ∷ to Basic.Jsr 6 ∷ load 0 ∷ int_return ∷ basic (Basic.Store Kind.Reference 1) ∷ basic (Basic.Increment 0 (pos 1)) ∷ basic (Basic.Ret 1) ∷ []) [] ∷ []) ≡ gives (pos 7)
finally = refl

-- the callee divides by its argument, 0; the caller catches that, with what it had in its locals
caught_in_caller : runs 12 (class (codes "C") [] (static_method (codes "main") (codes "()I") (int (pos 4) ∷ store 0 ∷ int (pos 0) ∷ invoke Mode.Static (reference (codes "C") (codes "f") (codes "(I)I")) ∷ int_return ∷ basic (Basic.Store Kind.Reference 1) ∷ load 0 ∷ int_return ∷ []) (record { start = 3; end = 4; handler = 5; catch = Some (codes "java/lang/RuntimeException") } ∷ []) ∷ static_method (codes "f") (codes "(I)I") (int (pos 5) ∷ load 0 ∷ basic (Basic.IntDivide Remainder) ∷ int_return ∷ []) [] ∷ []) ∷ []) ≡ gives (pos 4)
caught_in_caller = refl

-- the same without the entry
uncaught_in_caller : runs 6 (class (codes "C") [] (static_method (codes "main") (codes "()I") (int (pos 0) ∷ invoke Mode.Static (reference (codes "C") (codes "f") (codes "(I)I")) ∷ int_return ∷ []) [] ∷ static_method (codes "f") (codes "(I)I") (int (pos 5) ∷ load 0 ∷ basic (Basic.IntDivide Quotient) ∷ int_return ∷ []) [] ∷ []) ∷ []) ≡ ends [] (events.Uncaught (codes "java/lang/ArithmeticException") None)
uncaught_in_caller = refl

-- a byte array keeps the low 8 bits with their sign: 456 is -56
bytes : runs 8 (main_class (int (pos 3) ∷ basic (Basic.NewArray Element.Byte) ∷ basic (Basic.Duplicate One Zero) ∷ int (pos 2) ∷ int (pos 456) ∷ basic (Basic.ArrayStore Element.Byte) ∷ int (pos 2) ∷ basic (Basic.ArrayLoad Element.Byte) ∷ int_return ∷ []) [] ∷ []) ≡ record { events = []; ending = None }
bytes = refl

bytes_more : runs 9 (main_class (int (pos 3) ∷ basic (Basic.NewArray Element.Byte) ∷ basic (Basic.Duplicate One Zero) ∷ int (pos 2) ∷ int (pos 456) ∷ basic (Basic.ArrayStore Element.Byte) ∷ int (pos 2) ∷ basic (Basic.ArrayLoad Element.Byte) ∷ int_return ∷ []) [] ∷ []) ≡ gives (negsuc 55)
bytes_more = refl

bad_index : runs 4 (main_class (int (pos 3) ∷ basic (Basic.NewArray Element.Long) ∷ int (pos 3) ∷ basic (Basic.ArrayLoad Element.Long) ∷ []) [] ∷ []) ≡ ends [] (events.Uncaught (codes "java/lang/ArrayIndexOutOfBoundsException") None)
bad_index = refl

-- an int[2][3]: the length of its element 1
arrays_in_arrays : runs 7 (main_class (int (pos 2) ∷ int (pos 3) ∷ plain (NewArrays (codes "[[I") 2) ∷ int (pos 1) ∷ basic (Basic.ArrayLoad Element.Reference) ∷ basic Basic.ArrayLength ∷ int_return ∷ []) [] ∷ []) ≡ gives (pos 3)
arrays_in_arrays = refl

-- a String array doesn't hold an int array
bad_store : runs 7 (main_class (int (pos 1) ∷ plain (NewReferenceArray (codes "java/lang/String")) ∷ int (pos 0) ∷ int (pos 1) ∷ basic (Basic.NewArray Element.Int) ∷ basic (Basic.ArrayStore Element.Reference) ∷ []) [] ∷ []) ≡ ends [] (events.Uncaught (codes "java/lang/ArrayStoreException") None)
bad_store = refl

-- monitorexit at count 0
not_entered : runs 3 (main_class (int (pos 1) ∷ basic (Basic.NewArray Element.Int) ∷ basic Basic.LeaveMonitor ∷ []) [] ∷ []) ≡ ends [] (events.Uncaught (codes "java/lang/IllegalMonitorStateException") None)
not_entered = refl
