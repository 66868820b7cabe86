-- Cases of tests, and of what a file is.
use Rattle.std.proofs.Common.{◌≡◌, ℕ, Bool, true, false, cond, ◌||◌, not, List, Option, Some, None, refl}
use Rattle.std.specs.Prelude.{MatchBool}
use Rattle.class_file.specs.declared.types.ClassFile.{ClassFile}
use Rattle.class_file.specs.Sound.{is_some_that}
use Rattle.jp_model.specs.declared.first_aspect.FirstAspect.{FirstAspect}
use Rattle.jp_model.specs.Input.{is_class_file}
use Rattle.weave_plan.specs.declared.parsing.Parsed.{Parsed}
use Rattle.weave_plan.specs.declared.parsing.Parsed.TheVariants.{Class, Aspect, Other}
use Rattle.weave_plan.specs.Parsed.{SpellsOneClass, SpellsOneAspect, SpellsNoAspect, IsParsed, IsFormed}

abbrev File : Type 0
File = List ℕ × List ℕ

pub match_true : (P Q : Type 0) (b : Bool) → b ≡ true → P → MatchBool b P Q
match_true P Q true e h = h
match_true P Q false e h = absurd cc

pub match_false : (P Q : Type 0) (b : Bool) → b ≡ false → Q → MatchBool b P Q
match_false P Q true e h = absurd cc
match_false P Q false e h = h

pub of_true : (P Q : Type 0) (b : Bool) → b ≡ true → MatchBool b P Q → P
of_true P Q true e h = h
of_true P Q false e h = absurd cc

pub of_false : (P Q : Type 0) (b : Bool) → b ≡ false → MatchBool b P Q → Q
of_false P Q true e h = absurd cc
of_false P Q false e h = h

pub true_only : (P : Type 0) (b : Bool) → MatchBool b P ⊥ → (b ≡ true) × P
true_only P true h = (refl, h)
true_only P false h = absurd h

pub false_only : (P : Type 0) (b : Bool) → MatchBool b ⊥ P → (b ≡ false) × P
false_only P true h = absurd h
false_only P false h = (refl, h)

pub or_false : (x y : Bool) → (x || y) ≡ false → (x ≡ false) × (y ≡ false)
or_false true y h = absurd cc
or_false false y h = (refl, h)

pub not_only : (x : Bool) → not x ≡ true → x ≡ false
not_only true h = absurd cc
not_only false h = refl

pub not_not : (x : Bool) → not x ≡ false → x ≡ true
not_not true h = refl
not_not false h = absurd cc

pub cond_none : {X : Type 0} (b : Bool) (x : X) (o : Option X) → cond b o (Some x) ≡ None → (b ≡ true) × (o ≡ None)
cond_none true x o h = (refl, h)
cond_none false x o h = absurd cc

pub some_same : {X : Type 0} (x y : X) → Some x ≡ Some y → x ≡ y
some_same x y h = cc

pub some_of : {X : Type 0} (test : X → Bool) (o : Option X) → is_some_that test o ≡ true → (x : X) × (o ≡ Some x) × (test x ≡ true)
some_of test None h = absurd cc
some_of test (Some x) h = (x, refl, h)

-- ---- the class of a file

pub class_of : (f : File) (c : ClassFile) (n : ℕ) → IsParsed f (Class c n) → (is_class_file f.0 ≡ true) × SpellsOneClass f.1 c n
class_of f c n q = true_only (SpellsOneClass f.1 c n) (is_class_file f.0) q

pub aspect_in : (f : File) (a : FirstAspect) → IsParsed f (Aspect a) → (is_class_file f.0 ≡ false) × SpellsOneAspect f.1 a
aspect_in f a q = false_only (SpellsOneAspect f.1 a) (is_class_file f.0) q

pub other_in : (f : File) → IsParsed f Other → (is_class_file f.0 ≡ false) × SpellsNoAspect f.1
other_in f q = false_only (SpellsNoAspect f.1) (is_class_file f.0) q

pub formed_one : (f : File) (p : Parsed) → IsParsed f p → IsFormed p
formed_one f (Class c n) q = (class_of f c n q).1.spelled.formed
formed_one f (Aspect a) q = tt
formed_one f Other q = tt
