-- What is listed and read of files that are told.
use Rattle.std.proofs.Common.{◌≡◌, ℕ, ◌+◌, ◌<◌, ◌≤◌, List, [], ◌∷◌, ◌++◌, length, map, take, get_or, cond, Bool, true, false, Option, Some, None, Result, Ok, Err, refl, ap, sym, ◌∙◌, subst, arith}
use Rattle.std.specs.Prelude.{IfSome, IsSome}
use Rattle.std.specs.Option.{option_map, unwrap_or}
use Rattle.std.specs.List.{filter, All, AllByRecursion}
use Rattle.std.proofs.lemmas.List.{take_all, length-take, map-append}
use Rattle.std.proofs.lemmas.List.Elements.{filter-append, All-same, All-filter, All-from_recursion, recursion_from_All}
use Rattle.std.proofs.lemmas.Option.{none-some, same_Some}
use Rattle.aj_outside.specs.Files.{Files, AreFiles, file_at, is_under, names_under}
use Rattle.aj_outside.specs.FileLaws.{file_at-names_under}
use Rattle.weave_plan.specs.declared.planning.NamedFile.{NamedFile}
use Rattle.weave_plan.specs.Plan.{files_of}
use Rattle.ajweave.specs.declared.status.Refusal.{Refusal}
use Rattle.ajweave.specs.declared.stop.Stop.{Stop}
use Rattle.ajweave.specs.declared.stop.Stop.TheVariants as stop
use Rattle.ajweave.specs.Answers.{most_names}
use Rattle.ajweave.specs.Runs.{files_under}
use Rattle.ajweave.specs.Steps.{OnStop, IsRefusal, IsNoWriteStop, AreListed, IsMany, cut_at, most_bytes}
use Rattle.ajweave.proofs.Cut.{cut, reads_kept}

-- ---- the list of names

all_listed : (folder : List ℕ) (files : Files) (names : List (List ℕ)) (n : ℕ) → n ≡ most_names + 1 → AreFiles files → names ≡ take n (names_under folder files) → length names ≤ most_names → AreListed folder files names
all_listed folder files names n more ordered given few =
    let xs = names_under folder files in
    let cut : length names ≡ length (take n xs) = ap length given in
    let short : length xs ≤ n = omega (arith, length-take n xs) in
    let same : names ≡ xs = given ∙ take_all n xs short in
    let as_long : length names ≡ length xs = ap length same in
    record { all = same; few = omega arith; ordered = ordered }

-- all names were listed
pub AreListed-whole : (folder : List ℕ) (held held_now : Option Files) (names listed : List (List ℕ)) (n : ℕ) → n ≡ most_names + 1 → held_now ≡ held → IfSome held_now AreFiles → IfSome held (λ files. names ≡ take n (names_under folder files)) → (listed ≡ names) × (length names ≤ most_names) → IfSome held (λ files. AreListed folder files listed)
AreListed-whole folder held held_now names listed n more same ordered given whole =
    by held (subst (λ (h : Option Files). IfSome h AreFiles) same ordered) given
  where
    by : (held : Option Files) → IfSome held AreFiles → IfSome held (λ files. names ≡ take n (names_under folder files)) → IfSome held (λ files. AreListed folder files listed)
    by None o g = tt
    by (Some files) o g = subst (λ (ns : List (List ℕ)). AreListed folder files ns) (sym whole.0) (all_listed folder files names n more o g whole.1)

many-from_take : (n : ℕ) (names xs : List (List ℕ)) (refusal : Refusal) → names ≡ take n xs → IsMany (length names) refusal → IsMany (length xs) refusal
many-from_take n names xs refusal given h =
    let cut : length names ≡ length (take n xs) = ap length given in
    (h.0, omega (arith, h.1, length-take n xs))

too_many : (folder : List ℕ) (held : Option Files) (names : List (List ℕ)) (n : ℕ) (refusal : Refusal) → IfSome held (λ files. names ≡ take n (names_under folder files)) → IsMany (length names) refusal → IfSome held (λ files. IsMany (length (names_under folder files)) refusal)
too_many folder None names n refusal given h = tt
too_many folder (Some files) names n refusal given h = many-from_take n names (names_under folder files) refusal given h

-- too many names are refused
pub IsNoWriteStop-list : {T : Type 0} (folder : List ℕ) (held : Option Files) (names : List (List ℕ)) (n : ℕ) (r : Result T Stop) → IfSome held (λ files. names ≡ take n (names_under folder files)) → OnStop r (IsRefusal (IsMany (length names))) → OnStop r (IsNoWriteStop (λ refusal. IfSome held (λ files. IsMany (length (names_under folder files)) refusal)))
IsNoWriteStop-list folder held names n (Ok x) given h = tt
IsNoWriteStop-list folder held names n (Err stop.Read) given h = tt
IsNoWriteStop-list folder held names n (Err stop.Write) given h = h
IsNoWriteStop-list folder held names n (Err (stop.Refused refusal)) given h = too_many folder held names n refusal given h
IsNoWriteStop-list folder held names n (Err stop.Memory) given h = tt

-- ---- a file

abbrev named : List ℕ → List ℕ → List ℕ × List ℕ
named name bytes = (name, bytes)

cut_bytes : (n : ℕ) (file : Option (List ℕ)) (bytes : List ℕ) → option_map (take n) file ≡ Some bytes → bytes ≡ take n (unwrap_or file [])
cut_bytes n None bytes h = absurd (none-some bytes h)
cut_bytes n (Some whole) bytes h = sym (same_Some (take n whole) bytes h)

pub cut_at-read : (held : Option Files) (name bytes : List ℕ) (n : ℕ) → IfSome held (λ files. option_map (take n) (file_at files name) ≡ Some bytes) → IfSome held (λ files. ◌≡◌ {A = List ℕ × List ℕ} (name, bytes) (name, take n (unwrap_or (file_at files name) [])))
cut_at-read None name bytes n h = tt
cut_at-read (Some files) name bytes n h = ap (named name) (cut_bytes n (file_at files name) bytes h)

-- ---- the files

abbrev record_of : NamedFile → List ℕ × List ℕ
record_of f = (f.name, f.bytes.items)

-- a name more, whose file was read
pub named-more : (test : List ℕ → Bool) (files : List NamedFile) (read : List (List ℕ)) (file : NamedFile) (name : List ℕ) → test name ≡ true → file.name ≡ name → map (λ input. input.name) files ≡ filter test read → map (λ input. input.name) (files ++ file ∷ []) ≡ filter test (read ++ name ∷ [])
named-more test files read file name is same so_far =
    map-append (λ (f : NamedFile). f.name) files (file ∷ []) ∙ ap (λ (ns : List (List ℕ)). ns ++ file.name ∷ []) so_far
    ∙ ap (λ (n : List ℕ). filter test read ++ n ∷ []) same
    ∙ sym (filter-append test read (name ∷ []) ∙ ap (λ (b : Bool). filter test read ++ cond b (name ∷ []) []) is)

given_more : (test : List ℕ → Bool) (all : Files) (files : List NamedFile) (read : List (List ℕ)) (file : NamedFile) (name : List ℕ) → test name ≡ true → record_of file ≡ cut_at all name → files_of files ≡ map (cut_at all) (filter test read) → files_of (files ++ file ∷ []) ≡ map (cut_at all) (filter test (read ++ name ∷ []))
given_more test all files read file name is same so_far =
    map-append record_of files (file ∷ []) ∙ ap (λ (fs : Files). fs ++ record_of file ∷ []) so_far
    ∙ ap (λ (f : List ℕ × List ℕ). map (cut_at all) (filter test read) ++ f ∷ []) same
    ∙ sym (ap (map (cut_at all)) (filter-append test read (name ∷ []) ∙ ap (λ (b : Bool). filter test read ++ cond b (name ∷ []) []) is) ∙ map-append (cut_at all) (filter test read) (name ∷ []))

pub given-more : (test : List ℕ → Bool) (held held_mid : Option Files) (files : List NamedFile) (read : List (List ℕ)) (file : NamedFile) (name : List ℕ) → held_mid ≡ held → test name ≡ true → IfSome held_mid (λ all. record_of file ≡ cut_at all name) → IfSome held (λ all. files_of files ≡ map (cut_at all) (filter test read)) → IfSome held (λ all. files_of (files ++ file ∷ []) ≡ map (cut_at all) (filter test (read ++ name ∷ [])))
given-more test held held_mid files read file name same is one so_far =
    by held (subst (λ (h : Option Files). IfSome h (λ all. record_of file ≡ cut_at all name)) same one) so_far
  where
    by : (held : Option Files) → IfSome held (λ all. record_of file ≡ cut_at all name) → IfSome held (λ all. files_of files ≡ map (cut_at all) (filter test read)) → IfSome held (λ all. files_of (files ++ file ∷ []) ≡ map (cut_at all) (filter test (read ++ name ∷ [])))
    by None o s = tt
    by (Some all) o s = given_more test all files read file name is o s

-- a name more, which is passed over
pub passed_over : (test : List ℕ → Bool) (read : List (List ℕ)) (name : List ℕ) → test name ≡ false → filter test (read ++ name ∷ []) ≡ filter test read
passed_over test read name isnt =
    filter-append test read (name ∷ []) ∙ ap (λ (b : Bool). filter test read ++ cond b (name ∷ []) []) isnt ∙ append_nil_of (filter test read)
  where
    append_nil_of : (xs : List (List ℕ)) → xs ++ [] ≡ xs
    append_nil_of [] = refl
    append_nil_of (x ∷ xs) = ap (◌∷◌ x) (append_nil_of xs)

-- a name that was listed is that of a file
pub held-at : (held held_mid : Option Files) (names : List (List ℕ)) (k : ℕ) (name : List ℕ) → held_mid ≡ held → k < length names → name ≡ get_or names k name → IfSome held (λ files. All (λ n. IsSome (file_at files n)) names) → IfSome held_mid (λ files. IsSome (file_at files name))
held-at held held_mid names k name same lt is h =
    subst (λ (h : Option Files). IfSome h (λ files. IsSome (file_at files name))) (sym same) (by held h)
  where
    by : (held : Option Files) → IfSome held (λ files. All (λ n. IsSome (file_at files n)) names) → IfSome held (λ files. IsSome (file_at files name))
    by None h = tt
    by (Some files) h = subst (λ (n : List ℕ). IsSome (file_at files n)) (sym is) (h k name lt)

-- ---- what was listed and read

-- each name that was listed is that of a file
pub listed-held : (folder : List ℕ) (held held_mid : Option Files) (names : List (List ℕ)) → held_mid ≡ held → IfSome held (λ files. AreListed folder files names) → IfSome held_mid (λ files. All (λ n. IsSome (file_at files n)) names)
listed-held folder held held_mid names same listed =
    subst (λ (h : Option Files). IfSome h (λ files. All (λ n. IsSome (file_at files n)) names)) (sym same) (by held listed)
  where
    by : (held : Option Files) → IfSome held (λ files. AreListed folder files names) → IfSome held (λ files. All (λ n. IsSome (file_at files n)) names)
    by None l = tt
    by (Some files) l = All-same (λ n. IsSome (file_at files n)) names (names_under folder files) l.all (file_at-names_under folder files)

each-from_map : {X Y : Type 0} (P : Y → Type 0) (f : X → Y) (xs : List X) → AllByRecursion P (map f xs) → AllByRecursion (λ x. P (f x)) xs
each-from_map P f [] h = tt
each-from_map P f (x ∷ xs) h = (h.0, each-from_map P f xs h.1)

-- the files that were read are under the folder, as the names that were listed
pub inputs-under : (test : List ℕ → Bool) (folder : List ℕ) (names : List (List ℕ)) (inputs slice : List NamedFile) → slice ≡ inputs → map (λ input. input.name) inputs ≡ filter test names → All (λ n. is_under folder n ≡ true) names → All (λ input. is_under folder input.name ≡ true) slice
inputs-under test folder names inputs slice same named under =
    let P : List ℕ → Type 0 = λ n. is_under folder n ≡ true in
    let Q : NamedFile → Type 0 = λ input. is_under folder input.name ≡ true in
    let given = All-same P (map (λ input. input.name) inputs) (filter test names) named (All-filter test P names under) in
    All-same Q slice inputs same (All-from_recursion Q inputs (each-from_map P (λ input. input.name) inputs (recursion_from_All P (map (λ input. input.name) inputs) given)))

-- What was read are the first bytes of the files under the folder that pass the test, of which there are not too many.
abbrev pub IsCut : (List ℕ → Bool) → List ℕ → Option Files → List NamedFile → Type 0
IsCut test folder held inputs =
    IfSome held (λ files. (length (names_under folder files) ≤ most_names) × (files_of inputs ≡ map (cut most_bytes) (files_under test folder files)))

pub IsCut-from_reading : (test : List ℕ → Bool) (folder : List ℕ) (held held_mid : Option Files) (names : List (List ℕ)) (inputs : List NamedFile) → held_mid ≡ held → IfSome held (λ files. AreListed folder files names) → IfSome held_mid (λ files. files_of inputs ≡ map (cut_at files) (filter test names)) → IsCut test folder held inputs
IsCut-from_reading test folder held held_mid names inputs same listed given =
    by held listed (subst (λ (h : Option Files). IfSome h (λ files. files_of inputs ≡ map (cut_at files) (filter test names))) same given)
  where
    by : (held : Option Files) → IfSome held (λ files. AreListed folder files names) → IfSome held (λ files. files_of inputs ≡ map (cut_at files) (filter test names)) → IsCut test folder held inputs
    by None l g = tt
    by (Some files) l g = (l.few, g ∙ ap (λ (ns : List (List ℕ)). map (cut_at files) (filter test ns)) l.all ∙ reads_kept test most_bytes folder files l.ordered)
