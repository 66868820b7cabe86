-- The places of rows, row by row.
use Rattle.std.proofs.Common.{◌≡◌, ℕ, zero, suc, ◌+◌, ◌<◌, ◌≤◌, Bool, true, false, List, [], ◌∷◌, ◌++◌, length, get_or, arith, refl, sym, ap, subst, ◌∙◌, add-one, inl, inr, length-append}
use Rattle.std.proofs.lemmas.Bool.{cases_lt}
use Rattle.code_layout.specs.declared.row.Row.{Row}
use Rattle.code_layout.specs.Places.{behind, place_from, place_of, first_wide, other_wide}
use Rattle.code_layout.specs.Spelled.{ArePlaces, place_in}

pub first_is : (wide : List Bool) → first_wide wide ≡ get_or wide 0 false
first_is [] = refl
first_is (w ∷ wide) = refl

pub other_is : (wide : List Bool) (i : ℕ) → get_or (other_wide wide) i false ≡ get_or wide (suc i) false
other_is [] i = refl
other_is (w ∷ wide) i = refl

place_zero : (pc : ℕ) (rows : List Row) (wide : List Bool) → place_from pc rows wide 0 ≡ pc
place_zero pc [] wide = omega arith
place_zero pc (r ∷ rows) wide = refl

step_from : (pc : ℕ) (rows : List Row) (wide : List Bool) (i : ℕ) (row : Row) → i < length rows → row ≡ get_or rows i row → place_from pc rows wide (suc i) ≡ behind (get_or wide i false) (place_from pc rows wide i) row
step_from pc [] wide i row lt is = absurd (omega arith)
step_from pc (r ∷ rows) wide zero row lt is =
    place_zero (behind (first_wide wide) pc r) rows (other_wide wide)
    ∙ ap (λ (w : Bool). behind w pc r) (first_is wide) ∙ ap (λ (q : Row). behind (get_or wide 0 false) pc q) (sym is)
step_from pc (r ∷ rows) wide (suc i) row lt is =
    step_from (behind (first_wide wide) pc r) rows (other_wide wide) i row (omega arith) is
    ∙ ap (λ (w : Bool). behind w (place_from (behind (first_wide wide) pc r) rows (other_wide wide) i) row) (other_is wide i)

-- the place behind a row is the next one's
pub place_step : (rows : List Row) (wide : List Bool) (i : ℕ) (row : Row) → i < length rows → row ≡ get_or rows i row → place_of rows wide (i + 1) ≡ behind (get_or wide i false) (place_of rows wide i) row
place_step rows wide i row lt is = rw add-one (step_from 0 rows wide i row lt is)

pub place_begins : (rows : List Row) (wide : List Bool) → place_of rows wide 0 ≡ 0
place_begins rows wide = place_zero 0 rows wide

-- the places up to row i, which stands at pc
pub record PlacesTo (rows : List Row) (wide : List Bool) (places : List ℕ) (i pc : ℕ) : Type 0 where
  pub count : length places ≡ i + 1
  pub each : (k : ℕ) → k ≤ i → place_in places k ≡ place_of rows wide k
  pub here : pc ≡ place_of rows wide i

pub places_begin : (rows : List Row) (wide : List Bool) (places : List ℕ) → places ≡ 0 ∷ [] → PlacesTo rows wide places 0 0
places_begin rows wide places is = record {
  count = ap length is;
  each = λ k le. let zero_is : k ≡ 0 = omega arith in ap (λ (n : ℕ). place_in places n) zero_is ∙ ap (λ (l : List ℕ). place_in l 0) is ∙ sym (place_begins rows wide) ∙ ap (place_of rows wide) (sym zero_is);
  here = sym (place_begins rows wide);
}

before_last : (places : List ℕ) (k pc : ℕ) → k < length places → place_in (places ++ pc ∷ []) k ≡ place_in places k
before_last [] k pc lt = absurd (omega arith)
before_last (p ∷ places) zero pc lt = refl
before_last (p ∷ places) (suc k) pc lt = before_last places k pc (omega arith)

at_last : (places : List ℕ) (pc : ℕ) → place_in (places ++ pc ∷ []) (length places) ≡ pc
at_last [] pc = refl
at_last (p ∷ places) pc = at_last places pc

pub places_more : (rows : List Row) (wide : List Bool) (places places' : List ℕ) (i pc end : ℕ) (row : Row) → i < length rows → row ≡ get_or rows i row → PlacesTo rows wide places i pc → end ≡ behind (get_or wide i false) pc row → places' ≡ places ++ end ∷ [] → PlacesTo rows wide places' (i + 1) end
places_more rows wide places places' i pc end row lt is to behind_is more =
    let count = to.count in
    let next : end ≡ place_of rows wide (i + 1) = behind_is ∙ ap (λ (p : ℕ). behind (get_or wide i false) p row) to.here ∙ sym (place_step rows wide i row lt is) in
    record {
      count = ap length more ∙ length-append places (end ∷ []) ∙ omega arith;
      each = λ k le. ap (λ (l : List ℕ). place_in l k) more ∙ elim (cases_lt k (i + 1)) [
        | inl below ↦ before_last places k end (omega arith) ∙ to.each k (omega arith)
        | inr above ↦ (let last : k ≡ length places = omega arith in let at : k ≡ i + 1 = omega arith in ap (place_in (places ++ end ∷ [])) last ∙ at_last places end ∙ next ∙ ap (place_of rows wide) (sym at))
      ];
      here = next;
    }

pub places_end : (rows : List Row) (wide : List Bool) (places : List ℕ) (i pc : ℕ) → length wide ≡ length rows → length rows ≤ i → i ≤ length rows → PlacesTo rows wide places i pc → ArePlaces rows wide places
places_end rows wide places i pc flags ge le to =
    let count = to.count in
    record {
      flags = flags;
      count = omega arith;
      each = λ k lt. to.each k (omega arith);
    }
