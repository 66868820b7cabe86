-- What the arithmetic of ints and longs gives (JVMS 3.3.1, 3.11.3, 3.11.4). Results wrap to the width.
use Rattle.std.specs.Prelude.{ℕ, zero, suc, ◌+◌, ◌/◌, ◌%◌, ◌^◌, ◌==◌, Bool, false, not, if◌then◌else◌, nat_lt, List, [], ◌∷◌, ◌++◌, ℤ, pos, negsuc, int_rem, int_lt}
use Rattle.std.specs.Int.{Width, w32, cast_signed, cast_unsigned, int_wrapping_add, int_wrapping_sub, int_wrapping_mul, int_wrapping_div, int_bit_and, int_bit_or, int_bit_xor, int_shl, int_shr}
use mir.Val.{bits}
use Rattle.class_machine.specs.declared.kinds.Binary.{Binary}
use Rattle.class_machine.specs.declared.kinds.Binary.TheVariants.{Add, Subtract, Multiply, And, Or, Xor}
use Rattle.class_machine.specs.declared.kinds.Division.{Division}
use Rattle.class_machine.specs.declared.kinds.Division.TheVariants.{Quotient, Remainder}
use Rattle.class_machine.specs.declared.kinds.Shift.{Shift}
use Rattle.class_machine.specs.declared.kinds.Shift.TheVariants.{Left, Right, Unsigned}
use Rattle.class_machine.specs.declared.kinds.Test.{Test}
use Rattle.class_machine.specs.declared.kinds.Test.TheVariants.{Equal, NotEqual, Less, AtLeast, Greater, AtMost}

abbrev pub binary : Width → Binary → ℤ → ℤ → ℤ
binary w Add x y = int_wrapping_add w x y
binary w Subtract x y = int_wrapping_sub w x y
binary w Multiply x y = int_wrapping_mul w x y
binary w And x y = int_bit_and w x y
binary w Or x y = int_bit_or w x y
binary w Xor x y = int_bit_xor w x y

-- towards zero; the least value divided by -1 is itself, with rest 0
abbrev pub divide : Width → Division → ℤ → ℤ → ℤ
divide w Quotient x y = int_wrapping_div w x y
divide w Remainder x y = int_rem x y

-- the low 5 bits of the count of an int's shift, the low 6 of a long's
abbrev pub distance : Width → ℤ → ℕ
distance w count = cast_unsigned w32 count % bits w

abbrev pub shift : Width → Shift → ℤ → ℤ → ℤ
shift w Left x count = int_shl w x (distance w count)
shift w Right x count = int_shr x (distance w count)
shift w Unsigned x count = cast_signed w (cast_unsigned w x / 2 ^ distance w count)

-- the low bits of a number, as one of the narrower width with its sign
abbrev pub low_signed : Width → Width → ℤ → ℤ
low_signed from to x = cast_signed to (cast_unsigned from x % 2 ^ bits to)

-- the low bits of an int, without sign
abbrev pub low_unsigned : Width → ℤ → ℤ
low_unsigned to x = pos (cast_unsigned w32 x % 2 ^ bits to)

-- the low 32 bits of a count, as an int
abbrev pub count_int : ℕ → ℤ
count_int n = cast_signed w32 (n % 2 ^ 32)

abbrev pub same_int : ℤ → ℤ → Bool
same_int (pos a) (pos b) = a == b
same_int (negsuc a) (negsuc b) = a == b
same_int _ _ = false

abbrev pub compare : ℤ → ℤ → ℤ
compare x y = if int_lt x y then negsuc 0 else (if same_int x y then pos 0 else pos 1)

abbrev pub passes : Test → ℤ → ℤ → Bool
passes Equal x y = same_int x y
passes NotEqual x y = not (same_int x y)
passes Less x y = int_lt x y
passes AtLeast x y = not (int_lt x y)
passes Greater x y = int_lt y x
passes AtMost x y = not (int_lt y x)

abbrev pub opposite : Test → Test
opposite Equal = NotEqual
opposite NotEqual = Equal
opposite Less = AtLeast
opposite AtLeast = Less
opposite Greater = AtMost
opposite AtMost = Greater

-- ---- numbers as texts

-- a digit, 0 to 9 and then a to f
abbrev pub digit : ℕ → ℕ
digit d = if nat_lt d 10 then 48 + d else 87 + d

-- the digits of a number, the highest first, at most so many
abbrev pub digits : ℕ → ℕ → ℕ → List ℕ
digits base zero n = []
digits base (suc most) n = if nat_lt n base then digit n ∷ [] else digits base most (n / base) ++ digit (n % base) ∷ []

-- an int or a long in decimal, with a - before a negative one
abbrev pub decimal : ℤ → List ℕ
decimal (pos n) = digits 10 20 n
decimal (negsuc n) = 45 ∷ digits 10 20 (suc n)

-- the 32 bits of a number, in lower hexadecimal without leading zeros
abbrev pub hexadecimal : ℕ → List ℕ
hexadecimal n = digits 16 8 (n % 2 ^ 32)
