-- The library's classes are those of a world that has them.
use Rattle.std.specs.Prelude.{◌≡◌, ℕ, ◌+◌, Bool, true, false, cond, List, [], ◌∷◌, ◌++◌, map, Some, is_some, refl}
use Rattle.std.specs.List.{position_from}
use Rattle.std.proofs.Common.{◌∙◌, ap}
use Rattle.class_heads.specs.declared.types.ClassHead.{ClassHead}
use Rattle.class_heads.specs.Heads.{head_of}
use Rattle.class_heads.specs.Hierarchy.{is_named, place_of}
use Rattle.boot_library.specs.Heads.{library_heads}
use Rattle.class_world.specs.Tables.{Known}
use Rattle.class_machine.specs.Values.{object_class, string_class, throwable_class}
use Rattle.machine_rules.specs.Library.{HasLibrary}

found_behind : (test : ClassHead → Bool) (i : ℕ) (given library : List ClassHead) → ((j : ℕ) → is_some (position_from test j library) ≡ true) → is_some (position_from test i (given ++ library)) ≡ true
found_behind test i [] library h = h i
found_behind test i (x ∷ given) library h = by (test x) (found_behind test (i + 1) given library h) where
  by : (hit : Bool) → is_some (position_from test (i + 1) (given ++ library)) ≡ true → is_some (cond hit (Some i) (position_from test (i + 1) (given ++ library))) ≡ true
  by true rest = refl
  by false rest = rest

pub library_knows : (k : Known) (name : List ℕ) → HasLibrary k → ((j : ℕ) → is_some (position_from (is_named name) j library_heads) ≡ true) → is_some (place_of k.heads name) ≡ true
unfolding HasLibrary
library_knows k name library there =
    ap (λ (heads : List ClassHead). is_some (place_of heads name)) library ∙ found_behind (is_named name) 0 (map head_of k.files) library_heads there

pub knows_strings : (k : Known) → HasLibrary k → is_some (place_of k.heads string_class) ≡ true
knows_strings k library = library_knows k string_class library (λ j. refl)

pub knows_objects : (k : Known) → HasLibrary k → is_some (place_of k.heads object_class) ≡ true
knows_objects k library = library_knows k object_class library (λ j. refl)

pub knows_throwables : (k : Known) → HasLibrary k → is_some (place_of k.heads throwable_class) ≡ true
knows_throwables k library = library_knows k throwable_class library (λ j. refl)
