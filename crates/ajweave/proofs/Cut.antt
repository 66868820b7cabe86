-- Files that are cut to their first bytes: one is too long exactly where the cut one is, and where none
-- is, all are whole.
use Rattle.std.proofs.Common.{◌≡◌, ℕ, ◌<◌, ◌≤◌, ◌&&◌, Bool, true, false, ltb, List, [], ◌∷◌, length, map, take, cond, inl, inr, Option, Some, None, refl, ap, sym, ◌∙◌, arith}
use Rattle.std.specs.Option.{unwrap_or}
use Rattle.std.specs.Ordering.{is_eq, ordering_reverse}
use Rattle.std.specs.declared.cmp.Ordering.TheVariants.{Less, Greater}
use Rattle.std.specs.Cmp.Lexicographic.{nat_list_cmp_total}
use Rattle.std.specs.List.{filter, find, AllByRecursion}
use Rattle.std.specs.List.Sorted.{IsStrictlySortedBy}
use Rattle.std.proofs.lemmas.Bool.{cases_lt, lt-ltb, le-ltb, ltb-false}
use Rattle.std.proofs.lemmas.Cmp.{tied_itself}
use Rattle.std.proofs.lemmas.List.{take_all, length-take}
use Rattle.std.proofs.lemmas.Option.{none-some, same_Some}
use Rattle.aj_outside.specs.Files.{byte_order, Files, AreFiles, names, file_at, is_under, names_under}
use Rattle.jp_model.specs.Input.{is_big, IsFirst}
use Rattle.ajweave.specs.Runs.{files_under}

abbrev File : Type 0
File = List ℕ × List ℕ

abbrev some : File → Option File
some f = Some f

-- the first n bytes of a file
abbrev pub cut : ℕ → List ℕ × List ℕ → List ℕ × List ℕ
cut n f = (f.0, take n f.1)

-- ---- the bytes

-- the first bytes of a file are too long where all are
pub big_same : (n : ℕ) (xs : List ℕ) → 16777216 < n → ltb 16777216 (length (take n xs)) ≡ ltb 16777216 (length xs)
big_same n xs big = elim (cases_lt 16777216 (length xs)) [
  | inl more ↦ lt-ltb 16777216 (length (take n xs)) (omega (arith, length-take n xs)) ∙ sym (lt-ltb 16777216 (length xs) more)
  | inr few ↦ le-ltb 16777216 (length (take n xs)) (omega (arith, length-take n xs)) ∙ sym (le-ltb 16777216 (length xs) few)
]

first_here : (f : File) (files : Files) (b : Bool) → is_big f ≡ b → b ≡ true → find is_big (f ∷ files) ≡ Some f
first_here f files b e t = ap (λ (x : Bool). cond x (some f) (find is_big files)) (e ∙ t)

first_behind : (f : File) (files : Files) (name : List ℕ) → is_big f ≡ false → IsFirst is_big files name → IsFirst is_big (f ∷ files) name
first_behind f files name e h = record { bytes = h.bytes; found = ap (λ (x : Bool). cond x (some f) (find is_big files)) e ∙ h.found }

abbrev pair : List ℕ → List ℕ → File
pair name bytes = (name, bytes)

-- the first of the cut files that is too long is the first of the whole ones
pub IsFirst-from_cut : (n : ℕ) (files : Files) (name : List ℕ) → 16777216 < n → IsFirst is_big (map (cut n) files) name → IsFirst is_big files name
IsFirst-from_cut n [] name big h = absurd (none-some (name, h.bytes) h.found)
IsFirst-from_cut n (f ∷ files) name big h =
    by (is_big f) refl (ap (λ (b : Bool). cond b (some (cut n f)) (find is_big (map (cut n) files))) (sym (big_same n f.1 big)) ∙ h.found)
    (λ e. IsFirst-from_cut n files name big (record { bytes = h.bytes; found = e }))
  where
    by : (b : Bool) → is_big f ≡ b → cond b (some (cut n f)) (find is_big (map (cut n) files)) ≡ Some (name, h.bytes) → (find is_big (map (cut n) files) ≡ Some (name, h.bytes) → IsFirst is_big files name) → IsFirst is_big (f ∷ files) name
    by true e g later =
        let same : f.0 ≡ name = ap (λ (x : File). x.0) (same_Some (cut n f) (name, h.bytes) g) in
        record { bytes = f.1; found = first_here f files true e refl ∙ ap (λ (m : List ℕ). some (pair m f.1)) same }
    by false e g later = first_behind f files name e (later g)

same_file : (f : File) (bytes : List ℕ) → bytes ≡ f.1 → ◌≡◌ {A = File} (f.0, bytes) f
same_file f bytes e = ap (pair f.0) e

-- where none of the cut files is too long, they are whole
pub whole-from_cut : (n : ℕ) (files : Files) → 16777216 < n → find is_big (map (cut n) files) ≡ None → map (cut n) files ≡ files
whole-from_cut n [] big h = refl
whole-from_cut n (f ∷ files) big h = by (is_big (cut n f)) refl h (whole-from_cut n files big)
  where
    by : (b : Bool) → is_big (cut n f) ≡ b → cond b (some (cut n f)) (find is_big (map (cut n) files)) ≡ None → (find is_big (map (cut n) files) ≡ None → map (cut n) files ≡ files) → map (cut n) (f ∷ files) ≡ f ∷ files
    by true e h later = absurd (none-some (cut n f) (sym h))
    by false e h later =
        let few : length (take n f.1) ≤ 16777216 = ltb-false 16777216 (length (take n f.1)) e in
        let all : take n f.1 ≡ f.1 = take_all n f.1 (omega (arith, length-take n f.1)) in
        ap (λ (g : File). g ∷ map (cut n) files) (same_file f (take n f.1) all) ∙ ap (λ (fs : Files). f ∷ fs) (later h)

-- ---- reading by the names

zipped : (P : List ℕ → Type 0) (Q R : File → Type 0) → ((f : File) → P f.0 → Q f → R f) → (files : Files) → AllByRecursion P (names files) → AllByRecursion Q files → AllByRecursion R files
zipped P Q R h [] p q = tt
zipped P Q R h (f ∷ files) p q = (h f p.0 q.0, zipped P Q R h files p.1 q.1)

found_here : (file : File) (files : Files) → file_at (file ∷ files) file.0 ≡ Some file.1
found_here file files = ap (λ o. cond (is_eq o) (Some file.1) (file_at files file.0)) (tied_itself nat_list_cmp_total file.0)

found_behind : (file : File) (files : Files) (name bytes : List ℕ) → byte_order file.0 name ≡ Less → file_at files name ≡ Some bytes → file_at (file ∷ files) name ≡ Some bytes
found_behind file files name bytes less found =
    let above : byte_order name file.0 ≡ Greater = nat_list_cmp_total.antisymm name file.0 ∙ ap ordering_reverse less in
    ap (λ o. cond (is_eq o) (Some file.1) (file_at files name)) above ∙ found

-- where each name stands once, each file is found by its name
each_found : (files : Files) → AreFiles files → AllByRecursion (λ f. file_at files f.0 ≡ Some f.1) files
unfolding IsStrictlySortedBy
each_found [] h = tt
each_found (file ∷ files) h =
    (found_here file files, zipped (λ y. byte_order file.0 y ≡ Less) (λ f. file_at files f.0 ≡ Some f.1) (λ f. file_at (file ∷ files) f.0 ≡ Some f.1) (λ f less found. found_behind file files f.0 f.1 less found) files h.0 (each_found files h.1))

filter-cond : {X : Type 0} (test : X → Bool) (b : Bool) (x : X) (xs : List X) → filter test (cond b (x ∷ xs) xs) ≡ cond b (cond (test x) (x ∷ filter test xs) (filter test xs)) (filter test xs)
filter-cond test true x xs = refl
filter-cond test false x xs = refl

both : (u i : Bool) (F : List ℕ → File) (G : File → File) (f : File) (xs : List (List ℕ)) (ys : Files) → F f.0 ≡ G f → map F xs ≡ map G ys → map F (cond u (cond i (f.0 ∷ xs) xs) xs) ≡ map G (cond (u && i) (f ∷ ys) ys)
both true true F G f xs ys head tail = cc
both true false F G f xs ys head tail = tail
both false i F G f xs ys head tail = tail

abbrev named : List ℕ → List ℕ → File
named name bytes = (name, bytes)

abbrev read_at : ℕ → Files → List ℕ → List ℕ × List ℕ
read_at n all name = (name, take n (unwrap_or (file_at all name) []))

read_each : (test : List ℕ → Bool) (n : ℕ) (folder : List ℕ) (all files : Files) → AllByRecursion (λ f. file_at all f.0 ≡ Some f.1) files → map (read_at n all) (filter test (filter (is_under folder) (names files))) ≡ map (cut n) (files_under test folder files)
read_each test n folder all [] h = refl
read_each test n folder all (f ∷ files) h =
    ap (map (read_at n all)) (filter-cond test (is_under folder f.0) f.0 (filter (is_under folder) (names files)))
    ∙ both (is_under folder f.0) (test f.0) (read_at n all) (cut n) f (filter test (filter (is_under folder) (names files))) (files_under test folder files)
    (ap (λ (o : Option (List ℕ)). named f.0 (take n (unwrap_or o []))) h.0)
    (read_each test n folder all files h.1)

-- the files that pass the test, read by their names
pub reads_kept : (test : List ℕ → Bool) (n : ℕ) (folder : List ℕ) (files : Files) → AreFiles files → map (λ name. (name, take n (unwrap_or (file_at files name) []))) (filter test (names_under folder files)) ≡ map (cut n) (files_under test folder files)
reads_kept test n folder files h = read_each test n folder files files (each_found files h)
