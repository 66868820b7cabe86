-- The fields of a line: what stands between its blanks.
use Rattle.std.specs.Prelude.{◌≡◌, ℕ, zero, suc, ◌==◌, Bool, not, ◌||◌, if◌then◌else◌, List, [], ◌∷◌, length, codes, refl}
use Rattle.std.specs.List.{list_all}

-- a space or a tab; a line feed too, which no line of a text has
abbrev pub is_blank : ℕ → Bool
is_blank b = b == 32 || (b == 9 || b == 10)

abbrev pub is_inside : ℕ → Bool
is_inside b = not (is_blank b)

-- the longest run of bytes at the front that pass
abbrev pub run_of : (ℕ → Bool) → List ℕ → List ℕ
run_of test [] = []
run_of test (b ∷ rest) = if test b then b ∷ run_of test rest else []

-- what stands behind that run
abbrev pub behind_run : (ℕ → Bool) → List ℕ → List ℕ
behind_run test [] = []
behind_run test (b ∷ rest) = if test b then behind_run test rest else b ∷ rest

-- the bytes without the blanks at their end
abbrev pub trimmed : List ℕ → List ℕ
trimmed [] = []
trimmed (b ∷ rest) = if list_all is_blank (b ∷ rest) then [] else b ∷ trimmed rest

-- A field is a run without blanks, and then the next ones. One that begins with a quote goes on to the end of the line, but for the blanks there.
abbrev pub field_and : (List ℕ → List (List ℕ)) → List ℕ → List (List ℕ)
field_and next [] = []
field_and next (b ∷ rest) =
    if b == 34 then trimmed (b ∷ rest) ∷ []
    else run_of is_inside (b ∷ rest) ∷ next (behind_run is_inside (b ∷ rest))

-- the fields of some bytes; they are fewer than turns
abbrev pub fields_in : ℕ → List ℕ → List (List ℕ)
fields_in zero bytes = []
fields_in (suc turns) bytes = field_and (fields_in turns) (behind_run is_blank bytes)

-- the fields of a line
abbrev pub fields : List ℕ → List (List ℕ)
fields line = fields_in (suc (length line)) line

-- ---- examples

plain : fields (codes "  L0:  goto L1 ") ≡ codes "L0:" ∷ codes "goto" ∷ codes "L1" ∷ []
plain = refl

quoted : fields (codes "ldc \"a b\"  ") ≡ codes "ldc" ∷ codes "\"a b\"" ∷ []
quoted = refl

tab : fields (codes "nop\t\t; a") ≡ codes "nop" ∷ codes ";" ∷ codes "a" ∷ []
tab = refl

empty : fields (codes "   ") ≡ []
empty = refl
