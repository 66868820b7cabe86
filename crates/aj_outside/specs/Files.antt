-- Named files, as a list of each name with its bytes, in the byte order of the names.
use Rattle.std.specs.Prelude.{◌≡◌, ◌≢◌, ℕ, List, [], ◌∷◌, ◌++◌, Bool, cond, nat_eq, map, take}
use Rattle.std.specs.declared.option.Option.{Option}
use Rattle.std.specs.declared.option.Option.TheVariants.{Some, None}
use Rattle.std.specs.declared.cmp.Ordering.{Ordering}
use Rattle.std.specs.Ordering.{nat_cmp, is_eq, match_ordering}
use Rattle.std.specs.Cmp.Lexicographic.{slice_cmp}
use Rattle.std.specs.List.{filter, starts_with}
use Rattle.std.specs.List.Sorted.{IsStrictlySortedBy}
use Rattle.std.specs.Option.{option_map}

-- the order of two texts by their bytes: the first byte that differs decides, else the shorter comes first
abbrev pub byte_order : List ℕ → List ℕ → Ordering
byte_order = slice_cmp nat_cmp

-- these names rise strictly in byte order, so none stands twice
abbrev pub AreRising : List (List ℕ) → Type 0
AreRising = IsStrictlySortedBy byte_order

-- each name with the bytes of its file
abbrev pub Files : Type 0
Files = List (List ℕ × List ℕ)

-- the names of the files
abbrev pub names : Files → List (List ℕ)
names files = map (λ file. file.0) files

-- each name stands once, in byte order
abbrev pub AreFiles : Files → Type 0
AreFiles files = AreRising (names files)

-- the bytes of the file with this name, or `None` where there is none
abbrev pub file_at : Files → List ℕ → Option (List ℕ)
file_at [] name = None
file_at (file ∷ files) name = cond (is_eq (byte_order name file.0)) (Some file.1) (file_at files name)

-- these files, with these bytes at this name, which goes to its place in the order where it is new
abbrev pub put_file : Files → List ℕ → List ℕ → Files
put_file [] name bytes = (name, bytes) ∷ []
put_file (file ∷ files) name bytes =
    match_ordering (byte_order name file.0) ((name, bytes) ∷ file ∷ files) ((file.0, bytes) ∷ files) (file ∷ put_file files name bytes)

-- these files, with each of the others put in turn: where a name stands twice, the last one counts
abbrev pub put_each : Files → Files → Files
put_each files [] = files
put_each files (other ∷ others) = put_each (put_file files other.0 other.1) others

-- the name begins with the folder's name and a slash
abbrev pub is_under : List ℕ → List ℕ → Bool
is_under folder name = starts_with nat_eq name (folder ++ 47 ∷ [])

-- the names of the files under a folder, at any depth, in byte order
abbrev pub names_under : List ℕ → Files → List (List ℕ)
names_under folder files = filter (is_under folder) (names files)

-- What a refused write to this name leaves: told files stay told, still each name once and in order,
-- and each other name has what it had.
abbrev pub OthersStay : List ℕ → Option Files → Option Files → Type 0
OthersStay name None None = Unit {0}
OthersStay name (Some before) (Some now) =
    (AreFiles before → AreFiles now) × ((other : List ℕ) → other ≢ name → file_at now other ≡ file_at before other)
OthersStay name None (Some now) = ⊥
OthersStay name (Some before) None = ⊥

-- some first bytes of these were appended to what was written before, where that is told
abbrev pub AppendsPrefix : List ℕ → Option (List ℕ) → Option (List ℕ) → Type 0
AppendsPrefix bytes before now = (count : ℕ) × (now ≡ option_map (λ written. written ++ take count bytes) before)
