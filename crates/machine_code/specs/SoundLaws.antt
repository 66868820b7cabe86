-- The classes of a sound world, with those of a library behind them, are a program.
use Rattle.std.specs.Prelude.{◌≡◌, ℕ, zero, suc, ◌+◌, ◌-◌, ◌<◌, ◌≤◌, Bool, true, cond, List, [], ◌∷◌, ◌++◌, length, map, slice_get, Option, Some, unwrap_or, IsTrue, refl}
use Rattle.std.proofs.Common.{sym, ap, ◌∙◌, arith, inl, inr}
use Rattle.std.specs.List.{count_by, Contains, AllByRecursion}
use Rattle.std.specs.Option.{option_map}
use Rattle.std.proofs.lemmas.Bool.{cases_lt, false≢true, lt-ltb}
use Rattle.std.proofs.lemmas.List.{length-map}
use Rattle.std.proofs.lemmas.List.Sums.{sum_by-cons}
use Rattle.std.proofs.lemmas.Option.{slice_get-map, slice_get_within, get_or_from_slice_get}
use Rattle.std.proofs.lemmas.Slice.Eq.{bytes_eq-Decides}
use Rattle.class_file.specs.declared.types.ClassFile.{ClassFile}
use Rattle.class_file.specs.WellFormed.{is_well_formed}
use Rattle.class_heads.specs.declared.types.ClassHead.{ClassHead}
use Rattle.class_heads.specs.Heads.{head_of}
use Rattle.class_heads.specs.Hierarchy.{is_named, place_of, name_at}
use Rattle.class_heads.specs.Faults.{has_twin, world_heads, IsLibrary, IsSound}
use Rattle.class_heads.specs.PlaceLaws.{place-is}
use Rattle.machine_code.specs.Programs.{IsProgram}

-- ---- elements that pass a test twice

count_cons : {X : Type 0} (t : X → Bool) (x : X) (xs : List X) → count_by t (x ∷ xs) ≡ cond (t x) 1 0 + count_by t xs
count_cons t x xs = sum_by-cons (λ x. cond (t x) 1 0) x xs

count_yes : {X : Type 0} (t : X → Bool) (x : X) (xs : List X) → t x ≡ true → count_by t (x ∷ xs) ≡ suc (count_by t xs)
count_yes t x xs e = count_cons t x xs ∙ ap (λ b. cond b 1 0 + count_by t xs) e ∙ (let s : 1 + count_by t xs ≡ suc (count_by t xs) = omega arith in s)

count_grows : {X : Type 0} (t : X → Bool) (x : X) (xs : List X) → count_by t xs ≤ count_by t (x ∷ xs)
count_grows t x xs = let e = count_cons t x xs in omega arith

one_counts : {X : Type 0} (t : X → Bool) (xs : List X) (i : ℕ) (x : X) → slice_get xs i ≡ Some x → t x ≡ true → 0 < count_by t xs
one_counts t [] i x h e = absurd (cc)
one_counts t (y ∷ xs) zero x h e = let same : y ≡ x = cc in let c = count_yes t y xs (ap t same ∙ e) in omega arith
one_counts t (y ∷ xs) (suc i) x h e = let r = one_counts t xs i x h e in let g = count_grows t y xs in omega arith

two_count : {X : Type 0} (t : X → Bool) (xs : List X) (i j : ℕ) (x y : X) → i < j → slice_get xs i ≡ Some x → slice_get xs j ≡ Some y → t x ≡ true → t y ≡ true → 1 < count_by t xs
two_count t [] i j x y lt h k e f = absurd (cc)
two_count t (z ∷ xs) i zero x y lt h k e f = absurd (omega arith)
two_count t (z ∷ xs) zero (suc j) x y lt h k e f = let same : z ≡ x = cc in let c = count_yes t z xs (ap t same ∙ e) in let r = one_counts t xs j y k f in omega arith
two_count t (z ∷ xs) (suc i) (suc j) x y lt h k e f = let r = two_count t xs i j x y (omega arith) h k e f in let g = count_grows t z xs in omega arith

-- ---- two lists one behind the other

get_within : {X : Type 0} (xs : List X) (k : ℕ) → k < length xs → (x : X) × (slice_get xs k ≡ Some x)
get_within [] k lt = absurd (omega arith)
get_within (x ∷ xs) zero lt = (x, refl)
get_within (x ∷ xs) (suc k) lt = get_within xs k (omega arith)

get_front : {X : Type 0} (xs ys : List X) (k : ℕ) → k < length xs → slice_get (xs ++ ys) k ≡ slice_get xs k
get_front [] ys k lt = absurd (omega arith)
get_front (x ∷ xs) ys zero lt = refl
get_front (x ∷ xs) ys (suc k) lt = get_front xs ys k (omega arith)

get_behind : {X : Type 0} (xs ys : List X) (k : ℕ) → slice_get (xs ++ ys) (length xs + k) ≡ slice_get ys k
get_behind [] ys k = ap (slice_get ys) (let e : 0 + k ≡ k = omega arith in e)
get_behind (x ∷ xs) ys k = ap (slice_get (x ∷ xs ++ ys)) (let e : suc (length xs) + k ≡ suc (length xs + k) = omega arith in e) ∙ get_behind xs ys k

contains_at : {X : Type 0} (xs : List X) (k : ℕ) (x : X) → slice_get xs k ≡ Some x → Contains xs x
contains_at xs k x at = (k, slice_get_within xs k x at, get_or_from_slice_get xs k x x at)

-- ---- names

name_here : (heads : List ClassHead) (place : ℕ) (head : ClassHead) → slice_get heads place ≡ Some head → name_at heads place ≡ head.name
name_here heads place head at = ap (λ (o : Option ClassHead). unwrap_or (option_map (λ (c : ClassHead). c.name) o) []) at

-- two classes of one name are twins
twins : (heads : List ClassHead) (i j : ℕ) (c d e : ClassHead) → i < j → slice_get heads i ≡ Some c → slice_get heads j ≡ Some d → c.name ≡ e.name → d.name ≡ e.name → has_twin heads e ≡ true
twins heads i j c d e lt at behind one other =
    lt-ltb 1 (count_by (is_named e.name) heads)
    (two_count (is_named e.name) heads i j c d lt at behind ((bytes_eq-Decides c.name e.name).1 one) ((bytes_eq-Decides d.name e.name).1 other))

module _ (files : List ClassFile) (library : List ClassHead) (woven : Bool) (own : IsLibrary library) (sound : IsSound files library woven) where
  -- a given class and another don't have one name
  given_alone : (i j : ℕ) (c d e : ClassHead) (place : ℕ) → i < j → slice_get (world_heads files library woven) i ≡ Some c → slice_get (world_heads files library woven) j ≡ Some d → c.name ≡ e.name → d.name ≡ e.name
      → place < length files → slice_get (world_heads files library woven) place ≡ Some e → ⊥
  given_alone i j c d e place lt at behind one other given here =
      let file = get_within files place given in
      let mapped : slice_get (map head_of files) place ≡ Some (head_of file.0) = slice_get-map head_of files place ∙ ap (option_map head_of) file.1 in
      let front = get_front (map head_of files) library place (slice_get_within (map head_of files) place (head_of file.0) mapped) ∙ mapped in
      let same : head_of file.0 ≡ e = some_head (head_of file.0) e (sym front ∙ here) in
      sound.different file.0 (contains_at files place file.0 file.1) (ap (has_twin (world_heads files library woven)) same ∙ twins (world_heads files library woven) i j c d e lt at behind one other)
    where
      some_head : (a b : ClassHead) → Some a ≡ Some b → a ≡ b
      some_head a b e = cc

  -- nor do two of the library
  library_alone : (i j : ℕ) (c d : ClassHead) → i < j → slice_get library i ≡ Some c → slice_get library j ≡ Some d → c.name ≡ d.name → ⊥
  library_alone i j c d lt at behind same =
      false≢true (sym (own.different d (contains_at library j d behind)) ∙ twins library i j c d d lt at behind same refl)

  from_library : (k : ℕ) (c : ClassHead) → length files ≤ k → slice_get (world_heads files library woven) k ≡ Some c → slice_get library (k - length files) ≡ Some c
  from_library k c past at =
      let len = length-map files head_of in
      let there : k ≡ length (map head_of files) + (k - length files) = omega arith in
      sym (get_behind (map head_of files) library (k - length files)) ∙ ap (slice_get (world_heads files library woven)) (sym there) ∙ at

  alone : (k place : ℕ) (c d : ClassHead) → k < place → slice_get (world_heads files library woven) k ≡ Some c → slice_get (world_heads files library woven) place ≡ Some d → c.name ≡ d.name → ⊥
  alone k place c d lt at here same =
      elim (cases_lt k (length files)) [
        | inl given ↦ given_alone k place c d c k lt at here refl (sym same) given at
        | inr past ↦ library_alone (k - length files) (place - length files) c d (omega arith) (from_library k c past at) (from_library place d (omega arith) here) same
      ]

  -- each place is that of its name
  pub sound_is_different : (place : ℕ) → place < length (world_heads files library woven) → place_of (world_heads files library woven) (name_at (world_heads files library woven) place) ≡ Some place
  sound_is_different place within =
      let heads = world_heads files library woven in
      let here = get_within heads place within in
      place-is heads (name_at heads place) place within refl
      (λ k before named.
      let there = get_within heads k (omega arith) in
      alone k place there.0 here.0 before there.1 here.1 (sym (name_here heads k there.0 there.1) ∙ named ∙ name_here heads place here.0 here.1))

-- a sound world of well-formed class files is a program
pub sound_is_program : (files : List ClassFile) (library : List ClassHead) (woven : Bool) → IsLibrary library → IsSound files library woven → AllByRecursion (λ c. IsTrue (is_well_formed c)) files → IsProgram files (world_heads files library woven)
sound_is_program files library woven own sound formed = record {
  library = library;
  given = refl;
  different = sound_is_different files library woven own sound;
  formed = formed;
}
