-- Bytes without the blanks at their end.
use Rattle.std.proofs.Common.{◌≡◌, ℕ, Bool, true, false, ◌&&◌, List, [], ◌∷◌, ◌++◌, refl, sym, ap, ◌∙◌}
use Rattle.std.specs.Prelude.{if◌then◌else◌}
use Rattle.std.specs.List.{list_all}
use Rattle.class_lines.specs.Fields.{is_blank, trimmed}

blanks_and_one : (front : List ℕ) (x : ℕ) → is_blank x ≡ true → list_all is_blank (front ++ x ∷ []) ≡ list_all is_blank front
blanks_and_one [] x h = ap (λ (t : Bool). t && true) h
blanks_and_one (b ∷ front) x h = ap (λ (t : Bool). is_blank b && t) (blanks_and_one front x h)

-- a blank at the end is left out
pub trimmed_blank : (front : List ℕ) (x : ℕ) → is_blank x ≡ true → trimmed (front ++ x ∷ []) ≡ trimmed front
trimmed_blank [] x h = ap (λ (t : Bool). if t && true then [] else x ∷ []) h
trimmed_blank (b ∷ front) x h =
    ap (λ (t : Bool). if is_blank b && t then [] else b ∷ trimmed (front ++ x ∷ [])) (blanks_and_one front x h)
    ∙ ap (λ (rest : List ℕ). if is_blank b && list_all is_blank front then [] else b ∷ rest) (trimmed_blank front x h)

other_is_no_blank : (front : List ℕ) (x : ℕ) → is_blank x ≡ false → list_all is_blank (front ++ x ∷ []) ≡ false
other_is_no_blank [] x h = ap (λ (t : Bool). t && true) h
other_is_no_blank (b ∷ front) x h = ap (λ (t : Bool). is_blank b && t) (other_is_no_blank front x h) ∙ and_false (is_blank b)
  where
    and_false : (t : Bool) → (t && false) ≡ false
    and_false true = refl
    and_false false = refl

-- another byte at the end stays
pub trimmed_other : (front : List ℕ) (x : ℕ) → is_blank x ≡ false → trimmed (front ++ x ∷ []) ≡ front ++ x ∷ []
trimmed_other [] x h = ap (λ (t : Bool). if t && true then [] else x ∷ []) h
trimmed_other (b ∷ front) x h =
    ap (λ (t : Bool). if t then [] else b ∷ trimmed (front ++ x ∷ [])) (other_is_no_blank (b ∷ front) x h)
    ∙ ap (λ (rest : List ℕ). b ∷ rest) (trimmed_other front x h)

pub trimmed_less : (front before : List ℕ) (last : ℕ) → front ≡ before ++ last ∷ [] → is_blank last ≡ true → trimmed before ≡ trimmed front
trimmed_less front before last is blank = sym (ap trimmed is ∙ trimmed_blank before last blank)

pub trimmed_whole : (front before : List ℕ) (last : ℕ) → front ≡ before ++ last ∷ [] → is_blank last ≡ false → trimmed front ≡ front
trimmed_whole front before last is other = ap trimmed is ∙ trimmed_other before last other ∙ sym is
