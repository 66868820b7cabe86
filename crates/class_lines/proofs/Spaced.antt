-- Words with blanks before them are the fields of their text.
use Rattle.std.proofs.Common.{◌≡◌, ℕ, zero, suc, ◌<◌, Bool, true, false, not, List, [], ◌∷◌, ◌++◌, length, refl, ap, ◌∙◌, arith, append_assoc, length-append}
use Rattle.std.specs.Prelude.{if◌then◌else◌, ◌==◌}
use Rattle.std.specs.List.{list_all}
use Rattle.std.proofs.lemmas.Bool.{and_parts, not-true, false≢true}
use Rattle.class_lines.specs.Fields.{is_blank, is_inside, run_of, behind_run, trimmed, field_and, fields_in, fields}
use Rattle.class_lines.specs.Words.{Text, is_plain}
use Rattle.class_lines.specs.Printing.{spaced, all_spaced}
use Rattle.class_lines.proofs.FieldLists.{behind_le, behind_again, begins_inside}

-- ---- more turns find no more

more_of : (t u : ℕ) (y : Text) → behind_run is_blank y ≡ y → ((z : Text) → length z < length y → fields_in t z ≡ fields_in u z) → field_and (fields_in t) y ≡ field_and (fields_in u) y
more_of t u [] begun same = refl
more_of t u (b ∷ rest) begun same =
    let isnt = begins_inside b rest begun in
    ap (λ (more : List Text). if b == 34 then trimmed (b ∷ rest) ∷ [] else run_of is_inside (b ∷ rest) ∷ more) (same (behind_run is_inside (b ∷ rest)) (behind_field b rest isnt))
  where
    behind_field : (b : ℕ) (rest : Text) → is_blank b ≡ false → length (behind_run is_inside (b ∷ rest)) < length (b ∷ rest)
    behind_field b rest isnt =
        let e : length (behind_run is_inside (b ∷ rest)) ≡ length (behind_run is_inside rest) = ap (λ (t : Bool). length (if not t then behind_run is_inside rest else b ∷ rest)) isnt in
        omega (arith, e, behind_le is_inside rest)

pub enough : (t u : ℕ) (x : Text) → length x < t → length x < u → fields_in t x ≡ fields_in u x
enough zero u x lt lu = absurd (omega arith)
enough (suc t) zero x lt lu = absurd (omega arith)
enough (suc t) (suc u) x lt lu =
    more_of t u (behind_run is_blank x) (behind_again is_blank x) (λ z less. enough t u z (omega (arith, less, behind_le is_blank x)) (omega (arith, less, behind_le is_blank x)))

-- ---- one word

-- nothing, or a blank first
abbrev pub ends : Text → Bool
ends [] = true
ends (b ∷ rest) = is_blank b

run_ends : (rest : Text) → ends rest ≡ true → run_of is_inside rest ≡ []
run_ends [] h = refl
run_ends (b ∷ rest) h = ap (λ (t : Bool). if not t then b ∷ run_of is_inside rest else []) h

behind_ends : (rest : Text) → ends rest ≡ true → behind_run is_inside rest ≡ rest
behind_ends [] h = refl
behind_ends (b ∷ rest) h = ap (λ (t : Bool). if not t then behind_run is_inside rest else b ∷ rest) h

run_word : (w rest : Text) → list_all is_inside w ≡ true → ends rest ≡ true → run_of is_inside (w ++ rest) ≡ w
run_word [] rest all h = run_ends rest h
run_word (b ∷ w) rest all h =
    let both = and_parts (is_inside b) (list_all is_inside w) all in
    ap (λ (t : Bool). if t then b ∷ run_of is_inside (w ++ rest) else []) both.0 ∙ ap (λ (r : Text). b ∷ r) (run_word w rest both.1 h)

behind_word : (w rest : Text) → list_all is_inside w ≡ true → ends rest ≡ true → behind_run is_inside (w ++ rest) ≡ rest
behind_word [] rest all h = behind_ends rest h
behind_word (b ∷ w) rest all h =
    let both = and_parts (is_inside b) (list_all is_inside w) all in
    ap (λ (t : Bool). if t then behind_run is_inside (w ++ rest) else b ∷ w ++ rest) both.0 ∙ behind_word w rest both.1 h

-- a word at the start, and then the fields of the rest
pub fields_word : (w rest : Text) → is_plain w ≡ true → ends rest ≡ true → fields (w ++ rest) ≡ w ∷ fields rest
fields_word [] rest plain h = absurd (false≢true plain)
fields_word (b ∷ w) rest plain h =
    let both = and_parts (not (b == 34)) (list_all is_inside (b ∷ w)) plain in
    let inside = and_parts (is_inside b) (list_all is_inside w) both.1 in
    let all : Text = b ∷ w ++ rest in
    let more : List Text = fields_in (length all) (behind_run is_inside all) in
    ap (λ (t : Bool). field_and (fields_in (length all)) (if t then behind_run is_blank (w ++ rest) else all)) (not-true (is_blank b) inside.0)
    ∙ ap (λ (t : Bool). if t then trimmed all ∷ [] else run_of is_inside all ∷ more) (not-true (b == 34) both.0)
    ∙ ap (λ (r : Text). r ∷ more) (run_word (b ∷ w) rest both.1 h)
    ∙ ap (λ (r : Text). (b ∷ w) ∷ fields_in (length all) r) (behind_word (b ∷ w) rest both.1 h)
    ∙ ap (λ (l : List Text). (b ∷ w) ∷ l) (enough (length all) (suc (length rest)) rest (omega (arith, length-append (b ∷ w) rest)) (omega arith))

-- a blank is passed over
pub fields_blank : (rest : Text) → fields (32 ∷ rest) ≡ fields rest
fields_blank rest = ap (λ (l : List Text). l) (same_turns rest)
  where
    same_turns : (x : Text) → fields_in (suc (length (32 ∷ x))) (32 ∷ x) ≡ fields_in (suc (length x)) x
    same_turns x = enough (suc (length (32 ∷ x))) (suc (length x)) x (omega arith) (omega arith)

pub fields_spaced : (w rest : Text) → is_plain w ≡ true → ends rest ≡ true → fields (spaced w ++ rest) ≡ w ∷ fields rest
fields_spaced w rest plain h = fields_blank (w ++ rest) ∙ fields_word w rest plain h

-- each of the words is plain
abbrev pub all_plain : List Text → Bool
all_plain words = list_all is_plain words

pub spaced_ends : (words : List Text) (rest : Text) → ends rest ≡ true → ends (all_spaced words ++ rest) ≡ true
spaced_ends [] rest h = h
spaced_ends (w ∷ words) rest h = refl

pub fields_all : (words : List Text) (rest : Text) → all_plain words ≡ true → ends rest ≡ true → fields (all_spaced words ++ rest) ≡ words ++ fields rest
fields_all [] rest plain h = refl
fields_all (w ∷ words) rest plain h =
    let both = and_parts (is_plain w) (list_all is_plain words) plain in
    ap fields (append_assoc (spaced w) (all_spaced words) rest)
    ∙ fields_spaced w (all_spaced words ++ rest) both.0 (spaced_ends words rest h)
    ∙ ap (λ (l : List Text). w ∷ l) (fields_all words rest both.1 h)
