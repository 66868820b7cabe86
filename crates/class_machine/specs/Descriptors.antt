-- The types that descriptors name (JVMS 4.3.2, 4.3.3), each by its own descriptor.
use Rattle.std.specs.Prelude.{ℕ, ◌==◌, ◌%◌, Bool, true, false, not, if◌then◌else◌, List, [], ◌∷◌, ◌++◌, drop, Option, Some, None, ℤ, pos}
use Rattle.std.specs.Int.{w8, w16, w32, cast_unsigned}
use Rattle.boot_library.specs.declared.rule.Primitive.{Primitive}
use Rattle.boot_library.specs.declared.rule.Primitive.TheVariants as boxed
use Rattle.class_heads.specs.Hierarchy.{is_array, before_semicolon}
use Rattle.class_machine.specs.declared.kinds.Kind.{Kind}
use Rattle.class_machine.specs.declared.kinds.Element.{Element}
use Rattle.class_machine.specs.Values.{Held, Int, Long, Float, Double, Null}
use Rattle.class_machine.specs.Numbers.{low_signed, low_unsigned}

-- ---- one type

-- what a type is, by the first byte of its descriptor
abbrev pub element_of : List ℕ → Element
element_of [] = Element.Reference
element_of (b ∷ bytes) =
    if b == 90 then Element.Boolean else (if b == 66 then Element.Byte else (if b == 67 then Element.Char else (if b == 83 then Element.Short
    else (if b == 73 then Element.Int else (if b == 74 then Element.Long else (if b == 70 then Element.Float else (if b == 68 then Element.Double
    else Element.Reference)))))))

-- a primitive type
abbrev pub element : Primitive → Element
element boxed.Boolean = Element.Boolean
element boxed.Byte = Element.Byte
element boxed.Char = Element.Char
element boxed.Short = Element.Short
element boxed.Int = Element.Int
element boxed.Long = Element.Long
element boxed.Float = Element.Float
element boxed.Double = Element.Double

-- the descriptor of a primitive type
abbrev pub primitive : Element → List ℕ
primitive Element.Boolean = 90 ∷ []
primitive Element.Byte = 66 ∷ []
primitive Element.Char = 67 ∷ []
primitive Element.Short = 83 ∷ []
primitive Element.Int = 73 ∷ []
primitive Element.Long = 74 ∷ []
primitive Element.Float = 70 ∷ []
primitive Element.Double = 68 ∷ []
primitive Element.Reference = []

-- the kind of an operand that holds a value of the type (JVMS 3.11.1)
abbrev pub element_kind : Element → Kind
element_kind Element.Long = Kind.Long
element_kind Element.Float = Kind.Float
element_kind Element.Double = Kind.Double
element_kind Element.Reference = Kind.Reference
element_kind _ = Kind.Int

abbrev pub kind_in : List ℕ → Kind
kind_in descriptor = element_kind (element_of descriptor)

-- what a field or an element of the type is at first (JVMS 2.5.1)
abbrev pub blank : Element → Held
blank Element.Long = Long (pos 0)
blank Element.Float = Float 0
blank Element.Double = Double 0
blank Element.Reference = Null
blank _ = Int (pos 0)

-- the bits of an int that a field or an element of the type keeps
abbrev pub low_bits : Element → ℤ → ℤ
low_bits Element.Boolean n = pos (cast_unsigned w32 n % 2)
low_bits Element.Byte n = low_signed w32 w8 n
low_bits Element.Char n = low_unsigned w16 n
low_bits Element.Short n = low_signed w32 w16 n
low_bits _ n = n

abbrev pub narrowed : Element → Held → Held
narrowed e (Int n) = Int (low_bits e n)
narrowed e h = h

-- ---- classes

-- the descriptor of a class or array type that is named as Class entries name it
abbrev pub descriptor_of : List ℕ → List ℕ
descriptor_of class = if is_array class then class else 76 ∷ class ++ 59 ∷ []

-- the type of arrays of this class or array type
abbrev pub array_of : List ℕ → List ℕ
array_of class = 91 ∷ descriptor_of class

-- the class or array type of a descriptor, and none where it is primitive
abbrev pub class_in : List ℕ → Option (List ℕ)
class_in [] = None
class_in (b ∷ bytes) = if b == 91 then Some (b ∷ bytes) else (if b == 76 then Some (before_semicolon bytes) else None)

-- the descriptor of an array type's elements
abbrev pub elements_of : List ℕ → List ℕ
elements_of type = drop 1 type

-- what an array of the type holds
abbrev pub held_in : List ℕ → Element
held_in type = element_of (elements_of type)

-- ---- methods

-- one more byte at the front of the first type
abbrev pub ahead : ℕ → List (List ℕ) → List (List ℕ)
ahead b [] = (b ∷ []) ∷ []
ahead b (type ∷ types) = (b ∷ type) ∷ types

-- The types up to a ), where the bytes begin a type or stand in a class name: [ and L go on, and any other letter
-- is a type.
abbrev pub types_in : Bool → List ℕ → List (List ℕ)
types_in inside [] = []
types_in true (b ∷ bytes) = if b == 59 then (b ∷ []) ∷ types_in false bytes else ahead b (types_in true bytes)
types_in false (b ∷ bytes) =
    if b == 41 then [] else (if b == 91 then ahead b (types_in false bytes) else (if b == 76 then ahead b (types_in true bytes)
    else (b ∷ []) ∷ types_in false bytes))

-- the types of a method's parameters, behind its (
abbrev pub parameters_in : List ℕ → List (List ℕ)
parameters_in descriptor = types_in false (drop 1 descriptor)

-- what stands behind the closing bracket; `inside` the name of a class, which ; ends, a bracket is part of the name
abbrev pub behind_bracket : Bool → List ℕ → List ℕ
behind_bracket inside [] = []
behind_bracket true (b ∷ bytes) = behind_bracket (not (b == 59)) bytes
behind_bracket false (b ∷ bytes) = if b == 41 then bytes else behind_bracket (b == 76) bytes

abbrev pub unless_void : List ℕ → Option (List ℕ)
unless_void [] = None
unless_void (b ∷ bytes) = if b == 86 then None else Some (b ∷ bytes)

-- the type of a method's result, and none where it is void
abbrev pub result_in : List ℕ → Option (List ℕ)
result_in descriptor = unless_void (behind_bracket false descriptor)
