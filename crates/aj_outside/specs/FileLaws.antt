-- What follows of named files from their definitions.
use Rattle.std.proofs.Common.{refl, ap, sym, ◌∙◌, subst, take, drop, length}
use Rattle.std.specs.Prelude.{◌≡◌, ◌≢◌, ℕ, zero, suc, List, [], ◌∷◌, ◌++◌, Bool, true, false, cond, IsSome, option_map}
use Rattle.std.specs.declared.option.Option.{Option}
use Rattle.std.specs.declared.option.Option.TheVariants.{Some, None}
use Rattle.std.specs.declared.cmp.Ordering.{Ordering}
use Rattle.std.specs.declared.cmp.Ordering.TheVariants.{Less, Equal, Greater}
use Rattle.std.specs.Ordering.{is_eq, match_ordering, ordering_reverse}
use Rattle.std.specs.Cmp.Lexicographic.{nat_list_cmp_total}
use Rattle.std.specs.List.{All, AllByRecursion}
use Rattle.std.specs.List.Sorted.{IsStrictlySortedBy}
use Rattle.std.proofs.lemmas.Bool.{false_from_ne_true}
use Rattle.std.proofs.lemmas.Bool.Decides.{Decides-eqb}
use Rattle.std.proofs.lemmas.Cmp.{tied_itself}
use Rattle.std.proofs.lemmas.List.{append-nil}
use Rattle.std.proofs.lemmas.Map.Text.{is_eq-slice_cmp}
use Rattle.std.proofs.lemmas.Slice.Eq.{bytes_eq-Decides, starts_is}
use Rattle.std.proofs.lemmas.List.Elements.{All-from_recursion, All-filter, All-same, All-take, filter_passes}
use Rattle.std.proofs.lemmas.List.Kept.{IsStrictlySortedBy-filter}
use Rattle.aj_outside.specs.Files.{byte_order, AreRising, Files, AreFiles, names, file_at, put_file, put_each, is_under, names_under, AppendsPrefix}

-- ---- the byte order

-- texts that compare as equal are equal
pub byte_order-equal : (x y : List ℕ) → byte_order x y ≡ Equal → x ≡ y
byte_order-equal x y h = (bytes_eq-Decides x y).0 (sym (is_eq-slice_cmp x y) ∙ ap is_eq h)

-- texts that differ do not compare as equal
pub byte_order-differs : (x y : List ℕ) → (x ≢ y) → is_eq (byte_order x y) ≡ false
byte_order-differs x y n = false_from_ne_true _ (λ t. n ((bytes_eq-Decides x y).0 (sym (is_eq-slice_cmp x y) ∙ t)))

-- ---- `file_at` after `put_file`

-- the name that was set has the bytes that were set
pub file_at-put_same : (files : Files) (name bytes : List ℕ) → file_at (put_file files name bytes) name ≡ Some bytes
file_at-put_same [] name bytes = ap (λ o. cond (is_eq o) (Some bytes) None) (tied_itself nat_list_cmp_total name)
file_at-put_same (file ∷ files) name bytes = by (file_at-put_same files name bytes) (byte_order name file.0) refl
  where
    by : file_at (put_file files name bytes) name ≡ Some bytes → (o : Ordering) → byte_order name file.0 ≡ o → file_at (match_ordering o ((name, bytes) ∷ file ∷ files) ((file.0, bytes) ∷ files) (file ∷ put_file files name bytes)) name ≡ Some bytes
    by later Less e = ap (λ o. cond (is_eq o) (Some bytes) (file_at (file ∷ files) name)) (tied_itself nat_list_cmp_total name)
    by later Equal e = ap (λ o. cond (is_eq o) (Some bytes) (file_at files name)) e
    by later Greater e = ap (λ o. cond (is_eq o) (Some file.1) (file_at (put_file files name bytes) name)) e ∙ later

-- each other name has what it had
pub file_at-put_other : (files : Files) (name bytes other : List ℕ) → (other ≢ name) → file_at (put_file files name bytes) other ≡ file_at files other
file_at-put_other [] name bytes other n = ap (λ b. cond b (Some bytes) None) (byte_order-differs other name n)
file_at-put_other (file ∷ files) name bytes other n = by (file_at-put_other files name bytes other n) (byte_order name file.0) refl
  where
    by : file_at (put_file files name bytes) other ≡ file_at files other → (o : Ordering) → byte_order name file.0 ≡ o → file_at (match_ordering o ((name, bytes) ∷ file ∷ files) ((file.0, bytes) ∷ files) (file ∷ put_file files name bytes)) other ≡ file_at (file ∷ files) other
    by later Less e = ap (λ b. cond b (Some bytes) (file_at (file ∷ files) other)) (byte_order-differs other name n)
    by later Equal e =
        let d = byte_order-differs other file.0 (λ same. n (same ∙ sym (byte_order-equal name file.0 e))) in
        ap (λ b. cond b (Some bytes) (file_at files other)) d ∙ sym (ap (λ b. cond b (Some file.1) (file_at files other)) d)
    by later Greater e = ap (λ r. cond (is_eq (byte_order other file.0)) (Some file.1) r) later

-- ---- the order of the names

weaker : (P Q : List ℕ → Type 0) → ((x : List ℕ) → P x → Q x) → (xs : List (List ℕ)) → AllByRecursion P xs → AllByRecursion Q xs
weaker P Q f [] h = h
weaker P Q f (x ∷ xs) h = (f x h.0, weaker P Q f xs h.1)

all-put : (P : List ℕ → Type 0) (files : Files) (name bytes : List ℕ) → P name → AllByRecursion P (names files) → AllByRecursion P (names (put_file files name bytes))
all-put P [] name bytes p h = (p, h)
all-put P (file ∷ files) name bytes p h = by (all-put P files name bytes p h.1) (byte_order name file.0)
  where
    by : AllByRecursion P (names (put_file files name bytes)) → (o : Ordering) → AllByRecursion P (names (match_ordering o ((name, bytes) ∷ file ∷ files) ((file.0, bytes) ∷ files) (file ∷ put_file files name bytes)))
    by later Less = (p, h)
    by later Equal = h
    by later Greater = (h.0, later)

-- the names stay in order, each once
pub AreFiles-put : (files : Files) (name bytes : List ℕ) → AreFiles files → AreFiles (put_file files name bytes)
unfolding IsStrictlySortedBy
AreFiles-put [] name bytes h = (tt, tt)
AreFiles-put (file ∷ files) name bytes h = by (AreFiles-put files name bytes h.1) (byte_order name file.0) refl
  where
    by : AreFiles (put_file files name bytes) → (o : Ordering) → byte_order name file.0 ≡ o → AreFiles (match_ordering o ((name, bytes) ∷ file ∷ files) ((file.0, bytes) ∷ files) (file ∷ put_file files name bytes))
    by later Less e = ((e, weaker (λ y. byte_order file.0 y ≡ Less) (λ y. byte_order name y ≡ Less) (λ y l. nat_list_cmp_total.trans name file.0 y e l) (names files) h.0), h)
    by later Equal e = h
    by later Greater e =
        let below : byte_order file.0 name ≡ Less = nat_list_cmp_total.antisymm file.0 name ∙ ap ordering_reverse e in
        (all-put (λ y. byte_order file.0 y ≡ Less) files name bytes below h.0, later)

-- the same after any number of files
pub AreFiles-put_each : (files others : Files) → AreFiles files → AreFiles (put_each files others)
AreFiles-put_each files [] h = h
AreFiles-put_each files (other ∷ others) h = AreFiles-put_each (put_file files other.0 other.1) others (AreFiles-put files other.0 other.1 h)

-- no files are in order
pub AreFiles-none : AreFiles []
unfolding IsStrictlySortedBy
AreFiles-none = tt

all-take : (P : List ℕ → Type 0) (count : ℕ) (xs : List (List ℕ)) → AllByRecursion P xs → AllByRecursion P (take count xs)
all-take P zero xs h = tt
all-take P (suc count) [] h = tt
all-take P (suc count) (x ∷ xs) h = (h.0, all-take P count xs h.1)

-- the first of some rising names rise
pub AreRising-take : (count : ℕ) (xs : List (List ℕ)) → AreRising xs → AreRising (take count xs)
unfolding IsStrictlySortedBy
AreRising-take zero xs h = tt
AreRising-take (suc count) [] h = tt
AreRising-take (suc count) (x ∷ xs) h = (all-take (λ y. byte_order x y ≡ Less) count xs h.0, AreRising-take count xs h.1)

-- the names under a folder rise
pub AreRising-names_under : (folder : List ℕ) (files : Files) → AreFiles files → AreRising (names_under folder files)
AreRising-names_under folder files h = IsStrictlySortedBy-filter byte_order (is_under folder) (names files) h

-- ---- names under a folder

some-either : (b : Bool) (bytes : List ℕ) (r : Option (List ℕ)) → IsSome r → IsSome (cond b (Some bytes) r)
some-either true bytes r h = refl
some-either false bytes r h = h

some-here : (o : Ordering) (bytes : List ℕ) (r : Option (List ℕ)) → o ≡ Equal → IsSome (cond (is_eq o) (Some bytes) r)
some-here o bytes r e = let P : Ordering → Type 0 = λ p. IsSome (cond (is_eq p) (Some bytes) r) in subst P (sym e) refl

all-held : (files : Files) → AllByRecursion (λ name. IsSome (file_at files name)) (names files)
all-held [] = tt
all-held (file ∷ files) =
    (some-here (byte_order file.0 file.0) file.1 (file_at files file.0) (tied_itself nat_list_cmp_total file.0), weaker (λ name. IsSome (file_at files name)) (λ name. IsSome (file_at (file ∷ files) name)) (λ name h. some-either (is_eq (byte_order name file.0)) file.1 (file_at files name) h) (names files) (all-held files))

-- each name that is given under a folder is that of a file
pub file_at-names_under : (folder : List ℕ) (files : Files) → All (λ name. IsSome (file_at files name)) (names_under folder files)
file_at-names_under folder files =
    All-filter (is_under folder) (λ name. IsSome (file_at files name)) (names files) (All-from_recursion (λ name. IsSome (file_at files name)) (names files) (all-held files))

-- a folder's name, a slash and more is a name under the folder
pub is_under-joined : (folder rest name : List ℕ) → name ≡ folder ++ 47 ∷ [] ++ rest → is_under folder name ≡ true
is_under-joined folder rest name e = (starts_is Decides-eqb name (folder ++ 47 ∷ []) (is_under folder name) refl).1 rest e

-- a name under a folder is the folder's name, a slash and more
pub is_under-rest : (folder name : List ℕ) → is_under folder name ≡ true → (rest : List ℕ) × (name ≡ folder ++ 47 ∷ [] ++ rest)
is_under-rest folder name t =
    (drop (length (folder ++ 47 ∷ [])) name, (starts_is Decides-eqb name (folder ++ 47 ∷ []) (is_under folder name) refl).0 t)

-- a name that is never the folder's name, a slash and more is not under the folder
pub is_under-never : (folder name : List ℕ) → ((rest : List ℕ) → name ≢ (folder ++ 47 ∷ [] ++ rest)) → is_under folder name ≡ false
is_under-never folder name h = false_from_ne_true _ (λ t. h (is_under-rest folder name t).0 (is_under-rest folder name t).1)

-- the first names that are listed under a folder rise
pub AreRising_listed : (count : ℕ) (folder : List ℕ) (files : Files) (listed : List (List ℕ)) → listed ≡ take count (names_under folder files) → AreFiles files → AreRising listed
AreRising_listed count folder files listed e h = subst AreRising (sym e) (AreRising-take count (names_under folder files) (AreRising-names_under folder files h))

-- the first names that are listed under a folder are under it
pub all_under_listed : (count : ℕ) (folder : List ℕ) (files : Files) (listed : List (List ℕ)) → listed ≡ take count (names_under folder files) → All (λ name. is_under folder name ≡ true) listed
all_under_listed count folder files listed e =
    All-same (λ name. is_under folder name ≡ true) listed (take count (names_under folder files)) e (All-take (λ name. is_under folder name ≡ true) count (names_under folder files) (filter_passes (is_under folder) (names files)))

-- the first names that are listed under a folder are names of files
pub all_held_listed : (count : ℕ) (folder : List ℕ) (files : Files) (listed : List (List ℕ)) → listed ≡ take count (names_under folder files) → All (λ name. IsSome (file_at files name)) listed
all_held_listed count folder files listed e =
    All-same (λ name. IsSome (file_at files name)) listed (take count (names_under folder files)) e (All-take (λ name. IsSome (file_at files name)) count (names_under folder files) (file_at-names_under folder files))

-- ---- appended bytes

append-none : (bytes : List ℕ) (before : Option (List ℕ)) → before ≡ option_map (λ written. written ++ take 0 bytes) before
append-none bytes None = refl
append-none bytes (Some written) = ap (λ w. Some w) (sym (append-nil written))

-- where nothing was written, no first bytes were appended
pub AppendsPrefix_none : (bytes : List ℕ) (before now : Option (List ℕ)) → now ≡ before → AppendsPrefix bytes before now
AppendsPrefix_none bytes before now e = (0, e ∙ append-none bytes before)
