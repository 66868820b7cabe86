-- Texts of UTF-16 units, and names of classes as texts.
use Rattle.std.specs.Prelude.{ℕ, ◌+◌, ◌*◌, ◌%◌, ◌==◌, ◌||◌, Bool, false, if◌then◌else◌, nat_lt, nat_eq, List, [], ◌∷◌, map, codes}
use Rattle.std.specs.List.{list_any, starts_with}
use Rattle.aj_names.specs.ModifiedUtf8.{text_spelling}
use Rattle.class_machine.specs.Classes.{dotted}

-- The units of a text in modified UTF-8 (JVMS 4.4.7): a byte below 80 is a unit, one below E0 begins a unit of two bytes,
-- and any other one of three.
abbrev pub units_of : List ℕ → List ℕ
units_of [] = []
units_of (a ∷ []) = a ∷ []
units_of (a ∷ b ∷ []) = if nat_lt a 128 then a ∷ units_of (b ∷ []) else ((a % 32) * 64 + b % 64) ∷ []
units_of (a ∷ b ∷ c ∷ rest) =
    if nat_lt a 128 then a ∷ units_of (b ∷ c ∷ rest)
    else (if nat_lt a 224 then ((a % 32) * 64 + b % 64) ∷ units_of (c ∷ rest)
    else ((a % 16) * 4096 + (b % 64) * 64 + c % 64) ∷ units_of rest)

-- the dotted name of a class or array type
abbrev pub class_text : List ℕ → List ℕ
class_text class = units_of (dotted class)

-- the class or array type of which a text would be the dotted name
abbrev pub class_of_text : List ℕ → List ℕ
class_of_text units = text_spelling (map (λ u. if u == 46 then 47 else u) units)

-- the text has ajc$ in it
abbrev pub is_reserved : List ℕ → Bool
is_reserved [] = false
is_reserved (u ∷ units) = starts_with nat_eq (u ∷ units) (codes "ajc$") || is_reserved units

-- no class has such a dotted name, or it is one that a program may not find
abbrev pub is_unfit : List ℕ → Bool
is_unfit units = list_any (nat_eq 47) units || is_reserved units
