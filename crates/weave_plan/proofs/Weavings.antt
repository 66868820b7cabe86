-- Classes without an aspect are a weaving as they are.
use Rattle.std.proofs.Common.{◌≡◌, ℕ, Bool, true, false, not, ◌&&◌, ◌||◌, List, [], ◌∷◌, map, Option, Some, None, refl, sym, ap, subst, ◌∙◌, append-nil}
use Rattle.std.specs.Prelude.{IsTrue, nat_eq, codes}
use Rattle.std.specs.List.{list_all, list_any, filter, starts_with, AllByRecursion, AllZip}
use Rattle.std.proofs.lemmas.Bool.{and_parts, cond-true}
use Rattle.class_file.specs.declared.pool.PoolEntry.{PoolEntry}
use Rattle.class_file.specs.declared.types.ClassFile.{ClassFile}
use Rattle.class_file.specs.declared.types.Member.{Member}
use Rattle.class_file.specs.Pool.{text_at}
use Rattle.class_file.specs.Sound.{is_some_that}
use Rattle.class_file.specs.WellFormed.{is_well_formed}
use Rattle.jp_model.specs.declared.first_aspect.FirstAspect.{FirstAspect}
use Rattle.class_heads.specs.Reserved.{has_mark, is_marked, entry_is_marked, member_is_marked, is_reserved}
use Rattle.jp_model.specs.Headline.{Behaves, has_within, is_generated, declared_member, declared_members, KeepsUntouched, KeepsDeclared, IsWritten, IsWeaving}
use Rattle.weave_plan.specs.Fit.{Fit, IsWovenOf}
use Rattle.weave_plan.proofs.Cases.{not_only}

filter_all : {X : Type 0} (p : X → Bool) (xs : List X) → list_all p xs ≡ true → filter p xs ≡ xs
filter_all p [] h = refl
filter_all p (x ∷ xs) h =
    let both = and_parts (p x) (list_all p xs) h in
    cond-true (p x) (x ∷ filter p xs) (filter p xs) both.0 ∙ ap (λ t. x ∷ t) (filter_all p xs both.1)

or_parts : (x y : Bool) → (x || y) ≡ false → (x ≡ false) × (y ≡ false)
or_parts true y h = absurd cc
or_parts false y h = (refl, h)

-- a name that is generated is one that is kept for what weaving makes
marked : (text : List ℕ) → has_mark text ≡ has_within (codes "ajc$") text
marked [] = refl
marked (b ∷ text) = by (starts_with nat_eq (b ∷ text) (codes "ajc$")) refl (marked text)
  where
    by : (x : Bool) → starts_with nat_eq (b ∷ text) (codes "ajc$") ≡ x → has_mark text ≡ has_within (codes "ajc$") text → has_mark (b ∷ text) ≡ has_within (codes "ajc$") (b ∷ text)
    by true e later = rw e refl
    by false e later = rw e later

unmarked : (o : Option (List ℕ)) → is_some_that has_mark o ≡ false → not (is_generated o) ≡ true
unmarked None h = refl
unmarked (Some text) h = ap not (sym (marked text) ∙ h)

free_names : (pool : List PoolEntry) (ms : List Member) → list_any (member_is_marked pool) ms ≡ false → list_all (λ (m : Member). not (is_generated (text_at pool m.name))) ms ≡ true
free_names pool [] h = refl
free_names pool (m ∷ ms) h =
    let both = or_parts (member_is_marked pool m) (list_any (member_is_marked pool) ms) h in
    let name = or_parts (is_marked pool m.name) (is_marked pool m.descriptor) both.0 in
    ap (λ (b : Bool). b && list_all (λ (x : Member). not (is_generated (text_at pool x.name))) ms) (unmarked (text_at pool m.name) name.0) ∙ free_names pool ms both.1

all_declared : (c : ClassFile) (ms : List Member) → list_any (member_is_marked c.pool) ms ≡ false → declared_members c ms ≡ map declared_member ms
all_declared c ms h = ap (map declared_member) (filter_all (λ (m : Member). not (is_generated (text_at c.pool m.name))) ms (free_names c.pool ms h))

keeps_same : (c : ClassFile) → is_reserved c ≡ false → KeepsDeclared c c
keeps_same c h =
    let a = or_parts (list_any (entry_is_marked c.pool) c.pool) _ h in
    let b = or_parts (list_any (member_is_marked c.pool) c.fields) (list_any (member_is_marked c.pool) c.methods) a.1 in
    record {
      pool = record { rest = []; whole = append-nil c.pool };
      minor = refl;
      major = refl;
      flags = refl;
      this_class = refl;
      super_class = refl;
      interfaces = refl;
      attributes = refl;
      fields = all_declared c c.fields b.0;
      methods = all_declared c c.methods b.1;
    }

abbrev IsFree : ClassFile → Type 0
IsFree c = IsTrue (is_well_formed c && not (is_reserved c))

formed : (classes : List ClassFile) → AllByRecursion IsFree classes → AllByRecursion IsWritten classes
formed [] h = tt
formed (c ∷ classes) h = ((and_parts (is_well_formed c) (not (is_reserved c)) h.0).0, formed classes h.1)

kept : (classes : List ClassFile) → AllZip (KeepsUntouched []) classes classes
kept [] = tt
kept (c ∷ classes) = ((λ u. refl), kept classes)

members : (classes : List ClassFile) → AllByRecursion IsFree classes → AllZip KeepsDeclared classes classes
members [] h = tt
members (c ∷ classes) h = (keeps_same c (not_only (is_reserved c) (and_parts (is_well_formed c) (not (is_reserved c)) h.0).1), members classes h.1)

-- such classes are a weaving of no aspect into them
free_woven : (classes : List ClassFile) → AllByRecursion IsFree classes → Behaves classes [] classes → IsWeaving classes [] classes
free_woven classes h b = record {
  formed = formed classes h;
  extended = sym (append-nil _);
  behaves = b;
  untouched = record { woven = classes; made = []; parts = sym (append-nil classes); kept = kept classes };
  declared = record { woven = classes; made = []; parts = sym (append-nil classes); members = members classes h; generated = tt };
}

pub woven_without_aspect : (classes : List ClassFile) (aspect : Option FirstAspect) → aspect ≡ None → Fit classes aspect → Behaves classes [] classes → IsWovenOf classes aspect classes
woven_without_aspect classes aspect e h b =
    subst (λ (a : Option FirstAspect). IsWovenOf classes a classes) (sym e) (free_woven classes (subst (Fit classes) e h) b)
