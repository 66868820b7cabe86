-- What may be wrong with given classes beside a library's: the first kind of fault that there is, and of
-- it the least class name in the order of its bytes (JVMS 2.6.7, 4.1).
use Rattle.std.specs.Prelude.{◌≡◌, ◌≢◌, ℕ, Bool, false, not, ◌&&◌, ◌||◌, List, map, ◌++◌, nat_lt, Option, Some, None, is_none, IsTrue, IsSome}
use Rattle.std.specs.List.{find, list_any, count_by, Contains}
use Rattle.std.specs.Option.{option_to_list}
use Rattle.std.specs.Ordering.{nat_cmp}
use Rattle.std.specs.declared.cmp.Ordering.TheVariants.{Greater}
use Rattle.std.specs.Cmp.Lexicographic.{slice_cmp}
use Rattle.class_file.specs.declared.types.ClassFile.{ClassFile}
use Rattle.class_heads.specs.declared.types.ClassHead.{ClassHead}
use Rattle.class_heads.specs.declared.fault.WorldFault.{WorldFault}
use Rattle.class_heads.specs.declared.fault.WorldFault.TheVariants.{Duplicate, Reserved, MissingSuper, FinalSuper, Circle, Memory}
use Rattle.class_heads.specs.Heads.{head_of}
use Rattle.class_heads.specs.Reserved.{is_reserved}
use Rattle.class_heads.specs.Graph.{LiesOnCircle}
use Rattle.class_heads.specs.Hierarchy.{is_named, is_interface, is_final, place_of, class_named, supers_at}

-- the one name is the other, or stands before it in the order of bytes
abbrev pub IsAtMost : List ℕ → List ℕ → Type 0
IsAtMost a b = slice_cmp nat_cmp a b ≢ Greater

-- the names of the superclass and then of the interfaces
abbrev pub direct_supers : ClassHead → List (List ℕ)
direct_supers c = option_to_list c.super_class ++ c.interfaces

abbrev pub is_class_that : (ClassHead → Bool) → Option ClassHead → Bool
is_class_that test None = false
is_class_that test (Some c) = test c

module _ (heads : List ClassHead) where
  abbrev pub has_twin : ClassHead → Bool
  has_twin c = nat_lt 1 (count_by (is_named c.name) heads)

  -- the first of its supertypes that isn't there
  abbrev pub missing_super : ClassHead → Option (List ℕ)
  missing_super c = find (λ name. is_none (place_of heads name)) (direct_supers c)

  abbrev pub is_no_superclass : List ℕ → Bool
  is_no_superclass name = is_class_that (λ c. is_final c || is_interface c) (class_named heads name)

  abbrev pub is_no_interface : List ℕ → Bool
  is_no_interface name = is_class_that (λ c. not (is_interface c)) (class_named heads name)

  abbrev pub has_wrong_super : ClassHead → Bool
  has_wrong_super c = list_any is_no_superclass (option_to_list c.super_class) || list_any is_no_interface c.interfaces

  abbrev pub IsOnCircleAt : Option ℕ → Type 0
  IsOnCircleAt None = ⊥
  IsOnCircleAt (Some place) = LiesOnCircle (supers_at heads) place

module _ (classes : List ClassFile) (library : List ClassHead) (woven : Bool) where
  -- the given classes, then the library's
  abbrev pub world_heads : List ClassHead
  world_heads = map head_of classes ++ library

  -- ---- the kinds of fault of a given class

  abbrev pub IsDuplicate : ClassFile → Type 0
  IsDuplicate c = IsTrue (has_twin world_heads (head_of c))

  abbrev pub TakesReserved : ClassFile → Type 0
  TakesReserved c = IsTrue (not woven && is_reserved c)

  abbrev pub LacksSuper : ClassFile → Type 0
  LacksSuper c = IsSome (missing_super world_heads (head_of c))

  abbrev pub HasWrongSuper : ClassFile → Type 0
  HasWrongSuper c = IsTrue (has_wrong_super world_heads (head_of c))

  abbrev pub IsOnCircle : ClassFile → Type 0
  IsOnCircle c = IsOnCircleAt world_heads (place_of world_heads (head_of c).name)

  -- ---- the first

  abbrev pub Never : (ClassFile → Type 0) → Type 0
  Never Holds = (c : ClassFile) → Contains classes c → Holds c → ⊥

  -- the name of a given class of which it holds, and the least
  pub record IsLeast (Holds : ClassFile → Type 0) (name : List ℕ) : Type 0 where
    pub class : ClassFile
    pub given : Contains classes class
    pub named : (head_of class).name ≡ name
    pub holds : Holds class
    pub least : (other : ClassFile) → Contains classes other → Holds other → IsAtMost name (head_of other).name

  abbrev pub IsLacking : List ℕ → List ℕ → Type 0
  IsLacking class name = (least : IsLeast LacksSuper class) × (missing_super world_heads (head_of least.class) ≡ Some name)

  -- the first fault of the classes
  abbrev pub IsFirstFault : WorldFault → Type 0
  IsFirstFault (Duplicate name) = IsLeast IsDuplicate name
  IsFirstFault (Reserved name) = Never IsDuplicate × IsLeast TakesReserved name
  IsFirstFault (MissingSuper class name) = Never IsDuplicate × Never TakesReserved × IsLacking class name
  IsFirstFault (FinalSuper name) = Never IsDuplicate × Never TakesReserved × Never LacksSuper × IsLeast HasWrongSuper name
  IsFirstFault (Circle name) =
      Never IsDuplicate × Never TakesReserved × Never LacksSuper × Never HasWrongSuper × IsLeast IsOnCircle name
  IsFirstFault Memory = ⊥

  -- there is no fault
  pub record IsSound : Type 0 where
    pub different : Never IsDuplicate
    pub unreserved : Never TakesReserved
    pub complete : Never LacksSuper
    pub fitting : Never HasWrongSuper
    pub ending : Never IsOnCircle

-- Classes of a library: they have different names and one another as supertypes, and none lies on a circle.
pub record IsLibrary (library : List ClassHead) : Type 0 where
  pub different : (c : ClassHead) → Contains library c → has_twin library c ≡ false
  pub complete : (c : ClassHead) → Contains library c → missing_super library c ≡ None
  pub ending : (place : ℕ) → LiesOnCircle (supers_at library) place → ⊥
