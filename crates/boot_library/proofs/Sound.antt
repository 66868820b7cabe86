-- The library's heads are a library, and none of their superclasses is final or an interface: both by computation.
use Rattle.std.specs.Prelude.{◌≡◌, Bool, true, false, not, List}
use Rattle.std.specs.List.{list_all, Contains}
use Rattle.std.proofs.Common.{refl, sym, subst}
use Rattle.std.proofs.lemmas.List.Elements.{All-contains}
use Rattle.std.proofs.lemmas.List.Sums.{AllPass-from_list_all}
use Rattle.class_heads.specs.declared.types.ClassHead.{ClassHead}
use Rattle.class_heads.specs.Faults.{has_wrong_super, IsLibrary}
use Rattle.class_heads.specs.FaultLaws.{is_library, library-from}
use Rattle.boot_library.specs.Heads.{library_heads}

abbrev all_fitting : List ClassHead → Bool
all_fitting heads = list_all (λ c. not (has_wrong_super heads c)) heads

passes : is_library library_heads ≡ true
passes = refl

fitting : all_fitting library_heads ≡ true
fitting = refl

failed : (b : Bool) → not b ≡ true → b ≡ false
failed false e = refl
failed true e = sym e

fitting_in : (heads : List ClassHead) → all_fitting heads ≡ true → (c : ClassHead) → Contains heads c → has_wrong_super heads c ≡ false
fitting_in heads all c here =
    failed (has_wrong_super heads c) (All-contains (λ d. not (has_wrong_super heads d) ≡ true) heads c (AllPass-from_list_all (λ d. not (has_wrong_super heads d)) heads all) here)

-- ---- of a list that equals it

pub are_library : (heads : List ClassHead) → heads ≡ library_heads → IsLibrary heads
are_library heads e = subst (λ (xs : List ClassHead). IsLibrary xs) (sym e) (library-from library_heads passes)

pub are_all_fitting : (heads : List ClassHead) → heads ≡ library_heads → (c : ClassHead) → Contains heads c → has_wrong_super heads c ≡ false
are_all_fitting heads e =
    subst (λ (xs : List ClassHead). (c : ClassHead) → Contains xs c → has_wrong_super xs c ≡ false) (sym e) (fitting_in library_heads fitting)
