-- How many bytes the first type of a method's descriptor has, behind its opening bracket.
use Rattle.std.specs.Prelude.{ℕ, ◌+◌, ◌==◌, if◌then◌else◌, List, [], ◌∷◌}

-- up to the semicolon that ends the name of a class, and with it
abbrev pub class_length : List ℕ → ℕ
class_length [] = 0
class_length (b ∷ bytes) = if b == 59 then 1 else 1 + class_length bytes

-- 0 where none stands before the closing bracket
abbrev pub type_length : List ℕ → ℕ
type_length [] = 0
type_length (b ∷ bytes) =
    if b == 41 then 0 else (if b == 91 then 1 + type_length bytes else (if b == 76 then 1 + class_length bytes else 1))
