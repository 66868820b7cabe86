-- The first file that is too long.
use Rattle.std.proofs.Common.{◌≡◌, ℕ, zero, suc, ◌+◌, ◌<◌, ◌≤◌, Bool, true, false, cond, List, [], ◌∷◌, ◌++◌, length, take, drop, get_or, Option, Some, None, ap, sym, ◌∙◌, subst, arith}
use Rattle.std.specs.List.{find}
use Rattle.std.proofs.lemmas.Bool.{lt-ltb, le-ltb}
use Rattle.std.proofs.lemmas.List.{take_more, map-append}
use Rattle.std.proofs.lemmas.Option.{none-some}
use Rattle.aj_outside.specs.Files.{Files}
use Rattle.jp_model.specs.Input.{is_big}
use Rattle.weave_plan.specs.declared.planning.NamedFile.{NamedFile}
use Rattle.weave_plan.specs.Plan.{files_of}
use Rattle.ajweave.specs.declared.status.Refusal.TheVariants.{BigFile}
use Rattle.ajweave.specs.declared.stop.Stop.{Stop}
use Rattle.ajweave.specs.declared.stop.Stop.TheVariants as stop
use Rattle.ajweave.specs.Steps.{IsRefusal, IsNamed, IsBig}

abbrev File : Type 0
File = List ℕ × List ℕ

abbrev record_of : NamedFile → File
record_of f = (f.name, f.bytes.items)

abbrev some : File → Option File
some f = Some f

abbrev pair : List ℕ → List ℕ → File
pair name bytes = (name, bytes)

find_behind : (xs ys : Files) (x : File) → find is_big xs ≡ None → is_big x ≡ true → find is_big (xs ++ x ∷ ys) ≡ Some x
find_behind [] ys x e h = ap (λ (b : Bool). cond b (some x) (find is_big ys)) h
find_behind (y ∷ xs) ys x e h = by (is_big y) e (λ d. find_behind xs ys x d h)
  where
    by : (b : Bool) → cond b (some y) (find is_big xs) ≡ None → (find is_big xs ≡ None → find is_big (xs ++ x ∷ ys) ≡ Some x) → cond b (some y) (find is_big (xs ++ x ∷ ys)) ≡ Some x
    by true e later = absurd (none-some y (sym e))
    by false e later = later e

find_none_more : (xs : Files) (x : File) → find is_big xs ≡ None → is_big x ≡ false → find is_big (xs ++ x ∷ []) ≡ None
find_none_more [] x e h = ap (λ (b : Bool). cond b (some x) None) h
find_none_more (y ∷ xs) x e h = by (is_big y) e (λ d. find_none_more xs x d h)
  where
    by : (b : Bool) → cond b (some y) (find is_big xs) ≡ None → (find is_big xs ≡ None → find is_big (xs ++ x ∷ []) ≡ None) → cond b (some y) (find is_big (xs ++ x ∷ [])) ≡ None
    by true e later = absurd (none-some y (sym e))
    by false e later = later e

split_at : {X : Type 0} (xs : List X) (i : ℕ) (x : X) → i < length xs → x ≡ get_or xs i x → xs ≡ take i xs ++ x ∷ drop (i + 1) xs
split_at [] i x lt e = absurd (omega arith)
split_at (y ∷ xs) zero x lt e = ap (λ z. z ∷ xs) (sym e)
split_at (y ∷ xs) (suc i) x lt e =
    let one : suc i + 1 ≡ suc (i + 1) = omega arith in
    ap (λ zs. y ∷ zs) (split_at xs i x (omega arith) e) ∙ ap (λ k. y ∷ (take i xs ++ x ∷ drop k (y ∷ xs))) (sym one)

-- one more file is not too long
pub small_more : (files : List NamedFile) (i : ℕ) (file : NamedFile) → i < length files → file ≡ get_or files i file → length file.bytes.items ≤ 16777216 → find is_big (files_of (take i files)) ≡ None → find is_big (files_of (take (i + 1) files)) ≡ None
small_more files i file lt e few so_far =
    let named : files_of (take (i + 1) files) ≡ files_of (take i files) ++ record_of file ∷ [] =
    ap files_of (take_more files i file lt ∙ ap (λ (x : NamedFile). take i files ++ x ∷ []) (sym e)) ∙ map-append record_of (take i files) (file ∷ []) in
    ap (find is_big) named ∙ find_none_more (files_of (take i files)) (record_of file) so_far (le-ltb 16777216 (length file.bytes.items) few)

-- the file at a place is the first that is too long
pub big_at : (files : List NamedFile) (i : ℕ) (file : NamedFile) (folder : List ℕ) (ended : Stop) → i < length files → file ≡ get_or files i file → 16777216 < length file.bytes.items → find is_big (files_of (take i files)) ≡ None → IsRefusal (IsNamed (λ rest. BigFile rest) folder file.name) ended → IsRefusal (IsBig folder (files_of files)) ended
big_at files i file folder stop.Read lt e more so_far h = h
big_at files i file folder stop.Write lt e more so_far h = h
big_at files i file folder stop.Memory lt e more so_far h = h
big_at files i file folder (stop.Refused refusal) lt e more so_far h =
    let whole : files_of files ≡ files_of (take i files) ++ record_of file ∷ files_of (drop (i + 1) files) =
    ap files_of (split_at files i file lt e) ∙ map-append record_of (take i files) (file ∷ drop (i + 1) files) in
    let found : find is_big (files_of files) ≡ Some (record_of file) =
    ap (find is_big) whole ∙ find_behind (files_of (take i files)) (files_of (drop (i + 1) files)) (record_of file) so_far (lt-ltb 16777216 (length file.bytes.items) more) in
    subst (IsBig folder (files_of files)) (sym h.2) (record { bytes = file.bytes.items; found = found ∙ ap (λ (n : List ℕ). some (pair n file.bytes.items)) h.1 })
