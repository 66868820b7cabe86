-- One more file that is built or refused.
use Rattle.std.proofs.Common.{◌≡◌, ℕ, ◌+◌, ◌<◌, Bool, true, false, cond, not, ◌||◌, List, [], ◌∷◌, ◌++◌, length, take, drop, get_or, Option, Some, refl, sym, ap, ◌∙◌}
use Rattle.std.proofs.lemmas.List.{take_more}
use Rattle.std.proofs.lemmas.List.Folds.{list_any-append}
use Rattle.class_file.specs.declared.types.ClassFile.{ClassFile}
use Rattle.jp_model.specs.declared.first_aspect.FirstAspect.{FirstAspect}
use Rattle.weave_plan.specs.declared.parsing.Parsed.{Parsed}
use Rattle.weave_plan.specs.declared.parsing.Parsed.TheVariants.{Class, Aspect}
use Rattle.weave_plan.specs.Parsed.{is_aspect, has_aspect, has_form, is_hidden, is_built, first_refused}
use Rattle.weave_plan.proofs.Lists.{drop_at}

or_false : (a : Bool) → (a || false) ≡ a
or_false true = refl
or_false false = refl

or_swapped : (a b : Bool) → (a || b) ≡ (b || a)
or_swapped true true = refl
or_swapped true false = refl
or_swapped false true = refl
or_swapped false false = refl

-- ---- the file at a place

at_place : (all : List Parsed) (i : ℕ) (p : Parsed) → i < length all → p ≡ get_or all i p → first_refused all (take i all) i (drop i all) ≡ cond (is_built all (take i all) p) (first_refused all (take i all ++ p ∷ []) (i + 1) (drop (i + 1) all)) (Some i)
at_place all i p lt e = ap (first_refused all (take i all) i) (drop_at all i p lt e)

taken : (all : List Parsed) (i : ℕ) (p : Parsed) → i < length all → p ≡ get_or all i p → take (i + 1) all ≡ take i all ++ p ∷ []
taken all i p lt e = take_more all i p lt ∙ ap (λ (x : Parsed). take i all ++ x ∷ []) (sym e)

-- it isn't built
pub refuses : (all : List Parsed) (i : ℕ) (p : Parsed) (whole : Option ℕ) → i < length all → p ≡ get_or all i p → first_refused all (take i all) i (drop i all) ≡ whole → is_built all (take i all) p ≡ false → Some i ≡ whole
refuses all i p whole lt e so_far built =
    sym (at_place all i p lt e ∙ ap (λ (b : Bool). cond b (first_refused all (take i all ++ p ∷ []) (i + 1) (drop (i + 1) all)) (Some i)) built) ∙ so_far

-- it is built
pub passes : (all : List Parsed) (i : ℕ) (p : Parsed) (whole : Option ℕ) → i < length all → p ≡ get_or all i p → first_refused all (take i all) i (drop i all) ≡ whole → is_built all (take i all) p ≡ true → first_refused all (take (i + 1) all) (i + 1) (drop (i + 1) all) ≡ whole
passes all i p whole lt e so_far built =
    ap (λ (before : List Parsed). first_refused all before (i + 1) (drop (i + 1) all)) (taken all i p lt e)
    ∙ sym (at_place all i p lt e ∙ ap (λ (b : Bool). cond b (first_refused all (take i all ++ p ∷ []) (i + 1) (drop (i + 1) all)) (Some i)) built) ∙ so_far

-- ---- a class

-- it isn't built where it is of another form
pub class_form : (all before : List Parsed) (p : Parsed) (c : ClassFile) (n : ℕ) (beside form : Bool) → p ≡ Class c n → beside ≡ has_aspect all → form ≡ has_form beside c n → is_built all before p ≡ form
class_form all before p c n beside form is b f = ap (is_built all before) is ∙ sym (f ∙ ap (λ (x : Bool). has_form x c n) b)

-- whether there is an aspect among the files with this one
pub aspects_more : (all : List Parsed) (i : ℕ) (p : Parsed) → i < length all → p ≡ get_or all i p → has_aspect (take (i + 1) all) ≡ (has_aspect (take i all) || is_aspect p)
aspects_more all i p lt e =
    ap has_aspect (taken all i p lt e) ∙ list_any-append is_aspect (take i all) (p ∷ []) ∙ ap (λ (x : Bool). has_aspect (take i all) || x) (or_false (is_aspect p))

pub class_aspects : (all : List Parsed) (i : ℕ) (p : Parsed) (c : ClassFile) (n : ℕ) (behind : Bool) → i < length all → p ≡ get_or all i p → p ≡ Class c n → behind ≡ has_aspect (take i all) → behind ≡ has_aspect (take (i + 1) all)
class_aspects all i p c n behind lt e is h =
    h ∙ sym (aspects_more all i p lt e ∙ ap (λ (x : Parsed). has_aspect (take i all) || is_aspect x) is ∙ or_false (has_aspect (take i all)))

-- ---- an aspect

pub aspect_built : (all before : List Parsed) (p : Parsed) (a : FirstAspect) (behind hidden : Bool) → p ≡ Aspect a → behind ≡ has_aspect before → behind ≡ false → hidden ≡ is_hidden all a → hidden ≡ false → is_built all before p ≡ true
aspect_built all before p a behind hidden is b e h f =
    ap (is_built all before) is ∙ ap (λ (x : Bool). not (x || is_hidden all a)) (sym b ∙ e) ∙ ap not (sym h ∙ f)

pub aspect_aspects : (all : List Parsed) (i : ℕ) (p : Parsed) (a : FirstAspect) → i < length all → p ≡ get_or all i p → p ≡ Aspect a → true ≡ has_aspect (take (i + 1) all)
aspect_aspects all i p a lt e is =
    sym (aspects_more all i p lt e ∙ ap (λ (x : Parsed). has_aspect (take i all) || is_aspect x) is ∙ or_swapped (has_aspect (take i all)) true)
