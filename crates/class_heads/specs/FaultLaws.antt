-- Laws of what may be wrong with classes.
use Rattle.std.specs.Prelude.{◌≡◌, ℕ, ◌+◌, ◌<◌, Bool, true, false, not, ◌&&◌, List, [], length, Option, Some, None, is_none, refl, nat_lt}
use Rattle.std.proofs.Common.{sym, ◌∙◌, subst, inl, inr, arith}
use Rattle.std.specs.List.{list_all, range_with_len, filter_map, Contains}
use Rattle.std.proofs.lemmas.Bool.{and_parts, cases_Bool, false≢true, ltb-true, ltb-false}
use Rattle.std.proofs.lemmas.List.Elements.{All-contains}
use Rattle.std.proofs.lemmas.List.Sums.{AllPass-from_list_all}
use Rattle.std.proofs.lemmas.List.FromFn.{get_or-range_with_len, length-range_with_len}
use Rattle.std.proofs.lemmas.Option.{slice_get_past}
use Rattle.class_file.specs.declared.types.ClassFile.{ClassFile}
use Rattle.class_heads.specs.declared.types.ClassHead.{ClassHead}
use Rattle.class_heads.specs.declared.fault.WorldFault.{WorldFault}
use Rattle.class_heads.specs.declared.fault.WorldFault.TheVariants.{Duplicate, Reserved, MissingSuper, FinalSuper, Circle, Memory}
use Rattle.class_heads.specs.Hierarchy.{place_of, supers_at, super_names}
use Rattle.class_heads.specs.Faults.{has_twin, missing_super, IsFirstFault, IsSound, IsLibrary}
use Rattle.class_heads.specs.WalkLaws.{no_circle}

-- classes without a fault have no first fault
pub sound_has_none : (classes : List ClassFile) (library : List ClassHead) (woven : Bool) → IsSound classes library woven → (fault : WorldFault) → IsFirstFault classes library woven fault → ⊥
sound_has_none classes library woven sound (Duplicate name) first = sound.different first.class first.given first.holds
sound_has_none classes library woven sound (Reserved name) first = sound.unreserved first.1.class first.1.given first.1.holds
sound_has_none classes library woven sound (MissingSuper class name) first = sound.complete first.2.0.class first.2.0.given first.2.0.holds
sound_has_none classes library woven sound (FinalSuper name) first = sound.fitting first.3.class first.3.given first.3.holds
sound_has_none classes library woven sound (Circle name) first = sound.ending first.4.class first.4.given first.4.holds
sound_has_none classes library woven sound Memory first = first

-- ---- a library's classes

-- each class's supertypes stand before it
abbrev pub supers_before : List ClassHead → ℕ → Bool
supers_before library place = list_all (λ next. nat_lt next place) (supers_at library place)

-- a test that a library passes whose classes stand behind their supertypes
abbrev pub is_library : List ClassHead → Bool
is_library library =
    list_all (λ c. not (has_twin library c)) library
    && (list_all (λ c. is_none (missing_super library c)) library && list_all (supers_before library) (range_with_len 0 (length library)))

module _ (library : List ClassHead) (passes : is_library library ≡ true) where
  alone : list_all (λ c. not (has_twin library c)) library ≡ true
  alone = (and_parts _ _ passes).0

  whole : list_all (λ c. is_none (missing_super library c)) library ≡ true
  whole = (and_parts _ _ (and_parts _ _ passes).1).0

  rising : list_all (supers_before library) (range_with_len 0 (length library)) ≡ true
  rising = (and_parts _ _ (and_parts _ _ passes).1).1

  not_true : (b : Bool) → not b ≡ true → b ≡ false
  not_true true is = sym is
  not_true false is = refl

  none_there : (o : Option (List ℕ)) → is_none o ≡ true → o ≡ None
  none_there None is = refl
  none_there (Some name) is = absurd (false≢true is)

  nothing : (next : ℕ) → Contains [] next → ⊥
  nothing next there = let below = there.1 in omega arith

  falls : (place next : ℕ) → Contains (supers_at library place) next → next < place
  falls place next there = elim (cases_Bool (nat_lt place (length library))) [
    | inl within ↦
        let below = ltb-true place (length library) within in
        let zero_first : 0 + place ≡ place = omega arith in
        let here : Contains (range_with_len 0 (length library)) place = (place, subst (λ (n : ℕ). place < n) (sym (length-range_with_len 0 (length library))) below, get_or-range_with_len 0 (length library) place place below ∙ zero_first) in
        let before = All-contains (λ x. supers_before library x ≡ true) _ place (AllPass-from_list_all (supers_before library) _ rising) here in
        ltb-true next place (All-contains (λ x. nat_lt x place ≡ true) _ next (AllPass-from_list_all (λ q. nat_lt q place) _ before) there)
    | inr past ↦ absurd (nothing next (subst (λ (o : Option ClassHead). Contains (filter_map (place_of library) (super_names o)) next) (slice_get_past library place (ltb-false place (length library) past)) there))
  ]

  pub library-from : IsLibrary library
  library-from = record {
    different = λ c there. not_true (has_twin library c) (All-contains (λ d. not (has_twin library d) ≡ true) _ c (AllPass-from_list_all (λ d. not (has_twin library d)) library alone) there);
    complete = λ c there. none_there (missing_super library c) (All-contains (λ d. is_none (missing_super library d) ≡ true) _ c (AllPass-from_list_all (λ d. is_none (missing_super library d)) library whole) there);
    ending = no_circle (supers_at library) (λ place. place) falls;
  }
