-- Paths that are joined to a folder's name.
use Rattle.std.proofs.Common.{◌≡◌, ℕ, true, List, [], ◌∷◌, ◌++◌, map, take, length, refl, ap, sym, ◌∙◌, subst}
use Rattle.std.specs.declared.alloc.Global.{Global}
use Rattle.std.specs.declared.string.String.{String}
use Rattle.std.specs.declared.cmp.Ordering.TheVariants.{Less}
use Rattle.std.specs.Ordering.{ordering_then}
use Rattle.std.specs.List.{All, AllByRecursion}
use Rattle.std.specs.List.Sorted.{IsStrictlySortedBy}
use Rattle.std.specs.String.{string_bytes, string_cmp}
use Rattle.std.proofs.Math.Seq.{take-append_seam}
use Rattle.std.proofs.lemmas.Cmp.{tied_itself, nat_cmp_total}
use Rattle.std.proofs.lemmas.List.Elements.{All-from_recursion, All-take, All-same}
use Rattle.aj_outside.specs.Files.{byte_order, AreRising, is_under}
use Rattle.aj_outside.specs.FileLaws.{AreRising-take, is_under-joined}

-- the name of a folder, a slash and a path
abbrev pub joined : List ℕ → String Global → List ℕ
joined folder rest = folder ++ 47 ∷ [] ++ string_bytes rest

-- what begins alike is ordered by what follows
same-start : (start xs ys : List ℕ) → byte_order (start ++ xs) (start ++ ys) ≡ byte_order xs ys
same-start [] xs ys = refl
same-start (x ∷ start) xs ys = ap (λ o. ordering_then o (byte_order (start ++ xs) (start ++ ys))) (tied_itself nat_cmp_total x) ∙ same-start start xs ys

below-joined : (folder : List ℕ) (rest : String Global) (rests : List (String Global)) → AllByRecursion (λ other. string_cmp rest other ≡ Less) rests → AllByRecursion (λ name. byte_order (joined folder rest) name ≡ Less) (map (joined folder) rests)
below-joined folder rest [] h = tt
below-joined folder rest (other ∷ rests) h = (same-start (folder ++ 47 ∷ []) (string_bytes rest) (string_bytes other) ∙ h.0, below-joined folder rest rests h.1)

rising-joined : (folder : List ℕ) (rests : List (String Global)) → IsStrictlySortedBy string_cmp rests → AreRising (map (joined folder) rests)
unfolding IsStrictlySortedBy
rising-joined folder [] h = tt
rising-joined folder (rest ∷ rests) h = (below-joined folder rest rests h.0, rising-joined folder rests h.1)

under-joined : (folder : List ℕ) (rests : List (String Global)) → AllByRecursion (λ name. is_under folder name ≡ true) (map (joined folder) rests)
under-joined folder [] = tt
under-joined folder (rest ∷ rests) = (is_under-joined folder (string_bytes rest) (joined folder rest) refl, under-joined folder rests)

first-of : (listed left all : List (List ℕ)) → listed ++ left ≡ all → listed ≡ take (length listed) all
first-of listed left all e = sym (take-append_seam listed left) ∙ ap (take (length listed)) e

-- the first names that rising paths make rise
pub listed-rising : (folder : List ℕ) (listed : List (List ℕ)) (left rests : List (String Global)) → listed ++ map (joined folder) left ≡ map (joined folder) rests → IsStrictlySortedBy string_cmp rests → AreRising listed
listed-rising folder listed left rests e h =
    subst AreRising (sym (first-of listed (map (joined folder) left) (map (joined folder) rests) e)) (AreRising-take (length listed) (map (joined folder) rests) (rising-joined folder rests h))

-- the first names that paths make are under the folder
pub listed-under : (folder : List ℕ) (listed : List (List ℕ)) (left rests : List (String Global)) → listed ++ map (joined folder) left ≡ map (joined folder) rests → All (λ name. is_under folder name ≡ true) listed
listed-under folder listed left rests e =
    All-same (λ name. is_under folder name ≡ true) listed (take (length listed) (map (joined folder) rests)) (first-of listed (map (joined folder) left) (map (joined folder) rests) e) (All-take (λ name. is_under folder name ≡ true) (length listed) (map (joined folder) rests) (All-from_recursion (λ name. is_under folder name ≡ true) (map (joined folder) rests) (under-joined folder rests)))
