-- Words that are all of a kind, one by one.
use Rattle.std.proofs.Common.{◌≡◌, ℕ, suc, zero, ◌<◌, ◌≤◌, Bool, true, false, ◌&&◌, Bor, List, [], ◌∷◌, ◌++◌, length, drop, get_or, drop-cons, Option, Some, None, refl, sym, ap, ◌∙◌, arith, inl, inr, append_assoc}
use Rattle.std.specs.Prelude.{if◌then◌else◌}
use Rattle.std.specs.List.{list_all}
use Rattle.std.proofs.lemmas.Bool.{cases_Bool}
use Rattle.std.proofs.lemmas.List.{append-nil}
use Rattle.class_lines.specs.declared.words.WordKind.{WordKind}
use Rattle.class_lines.specs.Words.{Text, texts, fits, words_at}

abbrev pub before : {X : Type 0} → List X → Option (List X) → Option (List X)
before found None = None
before found (Some more) = Some (found ++ more)

-- each word, if it is of the kind
abbrev pub each_of : WordKind → List Text → Option (List Text)
each_of kind [] = Some []
each_of kind (w ∷ words) = if fits kind w then before (w ∷ []) (each_of kind words) else None

abbrev all_or : List Text → Bool → Option (List Text)
all_or words t = if t then Some words else None

step : (kind : WordKind) (w : Text) (words : List Text) → each_of kind words ≡ all_or words (list_all (fits kind) words) → each_of kind (w ∷ words) ≡ all_or (w ∷ words) (list_all (fits kind) (w ∷ words))
step kind w words e =
    elim (cases_Bool (fits kind w)) [
      | inr isnt ↦ ap (λ (t : Bool). if t then before (w ∷ []) (each_of kind words) else None) isnt ∙ sym (ap (λ (t : Bool). all_or (w ∷ words) (t && list_all (fits kind) words)) isnt)
      | inl is_so ↦
          ap (λ (t : Bool). if t then before (w ∷ []) (each_of kind words) else None) is_so
          ∙ ap (before (w ∷ [])) e
          ∙ inside (list_all (fits kind) words)
          ∙ sym (ap (λ (t : Bool). all_or (w ∷ words) (t && list_all (fits kind) words)) is_so)
    ]
  where
    inside : (t : Bool) → before (w ∷ []) (all_or words t) ≡ all_or (w ∷ words) t
    inside true = refl
    inside false = refl

pub each_is_all : (kind : WordKind) (words : List Text) → each_of kind words ≡ words_at kind words
unfolding words_at
each_is_all kind [] = refl
each_is_all kind (w ∷ words) = step kind w words (each_is_all kind words)

before_before : {X : Type 0} (found : List X) (x : X) (more : Option (List X)) → before found (before (x ∷ []) more) ≡ before (found ++ x ∷ []) more
before_before found x None = refl
before_before found x (Some more) = ap Some (sym (append_assoc found (x ∷ []) more))

-- a word that is of the kind
pub each_more : (kind : WordKind) (found : List Text) (w : Text) (words : List Text) → fits kind w ≡ true → before found (each_of kind (w ∷ words)) ≡ before (found ++ w ∷ []) (each_of kind words)
each_more kind found w words is_so = ap (λ (t : Bool). before found (if t then before (w ∷ []) (each_of kind words) else None)) is_so ∙ before_before found w (each_of kind words)

-- a word that isn't
pub each_fails : (kind : WordKind) (found : List Text) (w : Text) (words : List Text) → fits kind w ≡ false → before found (each_of kind (w ∷ words)) ≡ None
each_fails kind found w words isnt = ap (λ (t : Bool). before found (if t then before (w ∷ []) (each_of kind words) else None)) isnt

pub texts_at : (words : List (Bor (List ℕ))) (i : ℕ) (d : Bor (List ℕ)) → i < length words → texts (drop i words) ≡ (get_or words i d).now ∷ texts (drop (suc i) words)
texts_at words i d lt = ap texts (drop-cons words i d lt)

pub no_texts : (words : List (Bor (List ℕ))) (i : ℕ) → length words ≤ i → texts (drop i words) ≡ []
no_texts [] i le = drop_nil i
  where
    drop_nil : (i : ℕ) → texts (drop i (let l : List (Bor (List ℕ)) = [] in l)) ≡ []
    drop_nil zero = refl
    drop_nil (suc i) = refl
no_texts (w ∷ words) zero le = absurd (omega arith)
no_texts (w ∷ words) (suc i) le = no_texts words i (omega arith)

-- the loop, where a word isn't of the kind
pub word_fails : (kind : WordKind) (words : List (Bor (List ℕ))) (found : List Text) (i : ℕ) (d : Bor (List ℕ)) (t : Bool) → t ≡ fits kind (get_or words i d).now → i < length words → each_of kind (texts words) ≡ before found (each_of kind (texts (drop i words))) → t ≡ false → words_at kind (texts words) ≡ None
word_fails kind words found i d t is lt same isnt =
    sym (each_is_all kind (texts words)) ∙ same ∙ ap (λ (l : List Text). before found (each_of kind l)) (texts_at words i d lt) ∙ each_fails kind found _ _ (sym is ∙ isnt)

pub texts_push : (words more : List (Bor (List ℕ))) (w : Bor (List ℕ)) (x : Text) → more ≡ words ++ w ∷ [] → w.now ≡ x → texts more ≡ texts words ++ x ∷ []
texts_push words more w x e is = ap texts e ∙ append_one words ∙ ap (λ (y : Text). texts words ++ y ∷ []) is
  where
    append_one : (l : List (Bor (List ℕ))) → texts (l ++ w ∷ []) ≡ texts l ++ w.now ∷ []
    append_one [] = refl
    append_one (v ∷ l) = ap (λ (r : List Text). v.now ∷ r) (append_one l)

-- where no word is left
pub words_end : (kind : WordKind) (words : List (Bor (List ℕ))) (found : List Text) (i : ℕ) → length words ≤ i → each_of kind (texts words) ≡ before found (each_of kind (texts (drop i words))) → words_at kind (texts words) ≡ Some found
words_end kind words found i le same =
    sym (each_is_all kind (texts words)) ∙ same ∙ ap (λ (l : List Text). before found (each_of kind l)) (no_texts words i le) ∙ ap Some (append-nil found)
