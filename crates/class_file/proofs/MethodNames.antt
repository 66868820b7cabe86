-- Names of methods.
use Rattle.std.proofs.Common.{◌≡◌, ℕ, Bool, true, false, ◌||◌, List, [], ◌∷◌, Option, Some, None, ◌&&◌, ◌-◌, ◌+◌, length, take, drop, refl, sym, subst, ◌∙◌}
use Rattle.std.proofs.lemmas.List.{length-drop, drop-drop}
use Rattle.std.proofs.Math.Seq.{take-length}
use Rattle.std.specs.List.{list_any}
use Rattle.std.specs.Str.{bytes_eq}
use Rattle.class_file.specs.declared.pool.PoolEntry.{PoolEntry}
use Rattle.class_file.specs.declared.types.Member.{Member}
use Rattle.class_file.specs.Pool.{text_at}
use Rattle.class_file.specs.Sound.{is_some_that}
use Rattle.class_file.specs.FirstForm.{is_text, names_in, are_distinct}
use Rattle.std.specs.List.{cons_option}

any_cons : (name : List ℕ) (o : Option (List ℕ)) (names : List (List ℕ)) → list_any (bytes_eq name) (cons_option o names) ≡ (is_some_that (bytes_eq name) o || list_any (bytes_eq name) names)
any_cons name None names = refl
any_cons name (Some text) names = refl

pub any_named : (pool : List PoolEntry) (name : List ℕ) (methods : List Member) → list_any (bytes_eq name) (names_in pool methods) ≡ list_any (λ m. is_text pool name m.name) methods
any_named pool name [] = refl
any_named pool name (m ∷ methods) = rw (any_cons name (text_at pool m.name) (names_in pool methods), any_named pool name methods) refl

-- ---- distinct names

from_the_end : {X : Type 0} (i : ℕ) (xs : List X) → take (length xs - i) (drop i xs) ≡ drop i xs
from_the_end i xs = rw (← length-drop i xs) (take-length (drop i xs))

one_further : {X : Type 0} (i : ℕ) (xs : List X) → drop 1 (drop i xs) ≡ drop (i + 1) xs
one_further i xs = drop-drop 1 i xs

pub distinct_further : (pool : List PoolEntry) (methods : List Member) (i : ℕ) (r : Bool) (total : Bool)
    → are_distinct (names_in pool (take (length methods - i) (drop i methods))) ≡ (r && are_distinct (names_in pool (drop 1 (take (length methods - i) (drop i methods))))) → r ≡ true
    → are_distinct (names_in pool (drop i methods)) ≡ total → are_distinct (names_in pool (drop (i + 1) methods)) ≡ total
distinct_further pool methods i true total h passed so_far =
    let step : are_distinct (names_in pool (drop i methods)) ≡ are_distinct (names_in pool (drop 1 (drop i methods))) =
    subst (λ (part : List Member). are_distinct (names_in pool part) ≡ are_distinct (names_in pool (drop 1 part))) (from_the_end i methods) h in
    subst (λ (part : List Member). are_distinct (names_in pool part) ≡ total) (one_further i methods) (sym step ∙ so_far)
distinct_further pool methods i false total h passed so_far = absurd cc
