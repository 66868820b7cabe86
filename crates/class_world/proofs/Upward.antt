-- Searches along walks upward and along lists of places, each once.
use Rattle.std.specs.Prelude.{◌≡◌, ℕ, suc, ◌==◌, Bool, true, false, not, cond, List, [], ◌∷◌, ◌++◌, Option, Some, None, refl}
use Rattle.std.proofs.Common.{sym, ap, ◌∙◌, subst}
use Rattle.std.specs.List.{filter}
use Rattle.std.specs.Option.{option_to_list, option_map, option_or}
use Rattle.std.proofs.lemmas.List.{append-nil}
use Rattle.std.proofs.lemmas.Bool.{eqb-true}
use Rattle.class_heads.specs.Graph.{walk, each_once}
use Rattle.class_heads.specs.Searches.{MemberPlace, first_found, in_class}

-- the walk from a place, if there is one
abbrev pub walk_from : (ℕ → List ℕ) → ℕ → Option ℕ → List ℕ
walk_from steps most None = []
walk_from steps most (Some place) = walk steps most place

-- ---- one step of a search upward

pub up_found : (search : ℕ → Option ℕ) (steps : ℕ → List ℕ) (left place position : ℕ) → search place ≡ Some position → first_found search (walk_from steps (suc left) (Some place)) ≡ Some (in_class place position)
up_found search steps left place position e = rw e refl

walk-step : (steps : ℕ → List ℕ) (left place : ℕ) (next : Option ℕ) → option_to_list next ≡ steps place → walk steps (suc left) place ≡ place ∷ walk_from steps left next
walk-step steps left place None e = rw (sym e) refl
walk-step steps left place (Some up) e = rw (sym e) (ap (λ (rest : List ℕ). place ∷ rest) (append-nil (walk steps left up)))

skipped : (search : ℕ → Option ℕ) (place : ℕ) (places : List ℕ) → search place ≡ None → first_found search (place ∷ places) ≡ first_found search places
skipped search place places none = rw none refl

pub up_next : (search : ℕ → Option ℕ) (steps : ℕ → List ℕ) (left place : ℕ) (next : Option ℕ) → search place ≡ None → option_to_list next ≡ steps place → first_found search (walk_from steps (suc left) (Some place)) ≡ first_found search (walk_from steps left next)
up_next search steps left place next none e = ap (first_found search) (walk-step steps left place next e) ∙ skipped search place (walk_from steps left next) none

pub up_none : (search : ℕ → Option ℕ) (steps : ℕ → List ℕ) (at : Option ℕ) → first_found search (walk_from steps 0 at) ≡ None
up_none search steps None = refl
up_none search steps (Some place) = refl

-- ---- lists

joined : (x : ℕ) (found : Option ℕ) (search : ℕ → Option ℕ) (xs ys : List ℕ) → first_found search (xs ++ ys) ≡ option_or (first_found search xs) (first_found search ys) → option_or (option_map (in_class x) found) (first_found search (xs ++ ys)) ≡ option_or (option_or (option_map (in_class x) found) (first_found search xs)) (first_found search ys)
joined x None search xs ys e = e
joined x (Some position) search xs ys e = refl

pub first_found-append : (search : ℕ → Option ℕ) (xs ys : List ℕ) → first_found search (xs ++ ys) ≡ option_or (first_found search xs) (first_found search ys)
first_found-append search [] ys = refl
first_found-append search (x ∷ xs) ys = joined x (search x) search xs ys (first_found-append search xs ys)

-- the search, at places that pass alone
abbrev gated : (ℕ → Bool) → (ℕ → Option ℕ) → ℕ → Option ℕ
gated test search place = cond (test place) (search place) None

chosen : (b : Bool) (x : ℕ) (found : Option ℕ) (search : ℕ → Option ℕ) (passing : List ℕ) (rest : Option MemberPlace) → found ≡ search x → first_found search passing ≡ rest → first_found search (cond b (x ∷ passing) passing) ≡ option_or (option_map (in_class x) (cond b found None)) rest
chosen true x found search passing rest f e = rw (f, e) refl
chosen false x found search passing rest f e = e

first_found-filter : (test : ℕ → Bool) (search : ℕ → Option ℕ) (xs : List ℕ) → first_found search (filter test xs) ≡ first_found (gated test search) xs
first_found-filter test search [] = refl
first_found-filter test search (x ∷ xs) = chosen (test x) x (search x) search (filter test xs) (first_found (gated test search) xs) refl (first_found-filter test search xs)

left_out : (search : ℕ → Option ℕ) (place x : ℕ) (b : Bool) (passing : List ℕ) (rest : Option MemberPlace) → search place ≡ None → (place == x) ≡ b → first_found search passing ≡ rest → first_found search (cond (not b) (x ∷ passing) passing) ≡ option_or (option_map (in_class x) (search x)) rest
left_out search place x true passing rest none e r =
    let here : search x ≡ None = subst (λ p. search p ≡ None) (eqb-true place x e) none in
    rw here r
left_out search place x false passing rest none e r = rw r refl

-- a place where nothing is found may be left out
first_found-without : (search : ℕ → Option ℕ) (place : ℕ) → search place ≡ None → (xs : List ℕ) → first_found search (filter (λ other. not (place == other)) xs) ≡ first_found search xs
first_found-without search place none [] = refl
first_found-without search place none (x ∷ xs) =
    left_out search place x (place == x) (filter (λ other. not (place == other)) xs) (first_found search xs) none refl (first_found-without search place none xs)

kept : (search : ℕ → Option ℕ) (x : ℕ) (found : Option ℕ) (once xs : List ℕ) → search x ≡ found → first_found search once ≡ first_found search xs → option_or (option_map (in_class x) found) (first_found search (filter (λ other. not (x == other)) once)) ≡ option_or (option_map (in_class x) found) (first_found search xs)
kept search x None once xs e r = first_found-without search x e once ∙ r
kept search x (Some position) once xs e r = refl

pub first_found-once : (search : ℕ → Option ℕ) (xs : List ℕ) → first_found search (each_once xs) ≡ first_found search xs
first_found-once search [] = refl
first_found-once search (x ∷ xs) = kept search x (search x) (each_once xs) xs refl (first_found-once search xs)

-- the same of those that pass
pub first_found-filter_once : (test : ℕ → Bool) (search : ℕ → Option ℕ) (xs : List ℕ) → first_found search (filter test (each_once xs)) ≡ first_found search (filter test xs)
first_found-filter_once test search xs =
    first_found-filter test search (each_once xs) ∙ first_found-once (gated test search) xs ∙ sym (first_found-filter test search xs)

-- a search in one list, then in those that pass of another, in which each stands once
pub first_of_both : (test : ℕ → Bool) (search : ℕ → Option ℕ) (xs ys : List ℕ) → option_or (first_found search xs) (first_found search (filter test (each_once ys))) ≡ first_found search (xs ++ filter test ys)
first_of_both test search xs ys =
    ap (λ (rest : Option MemberPlace). option_or (first_found search xs) rest) (first_found-filter_once test search ys) ∙ sym (first_found-append search xs (filter test ys))

pub found_in_first : (search : ℕ → Option ℕ) (xs ys : List ℕ) (found : MemberPlace) → Some found ≡ first_found search xs → Some found ≡ first_found search (xs ++ ys)
found_in_first search xs ys found e =
    ap (λ (first : Option MemberPlace). option_or first (first_found search ys)) e ∙ sym (first_found-append search xs ys)

pub found_in_second : (test : ℕ → Bool) (search : ℕ → Option ℕ) (xs ys table : List ℕ) (found : Option MemberPlace) → None ≡ first_found search xs → table ≡ each_once ys → found ≡ first_found search (filter test table) → found ≡ first_found search (xs ++ filter test ys)
found_in_second test search xs ys table found none is e =
    e ∙ ap (λ places. first_found search (filter test places)) is
    ∙ ap (λ (first : Option MemberPlace). option_or first (first_found search (filter test (each_once ys)))) none
    ∙ first_of_both test search xs ys
