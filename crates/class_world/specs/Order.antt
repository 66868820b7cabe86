-- What the steps of a building find, by places.
use Rattle.std.specs.Prelude.{◌≡◌, ℕ, Bool, true, List, length, Option, Some, None, slice_get, ◌<◌}
use Rattle.class_file.specs.declared.types.ClassFile.{ClassFile}
use Rattle.class_heads.specs.declared.types.ClassHead.{ClassHead}
use Rattle.class_heads.specs.declared.fault.WorldFault.{WorldFault}
use Rattle.class_heads.specs.declared.fault.WorldFault.TheVariants.{Duplicate, Reserved, MissingSuper, FinalSuper, Circle, Memory}
use Rattle.class_heads.specs.Graph.{LiesOnCircle}
use Rattle.class_heads.specs.Hierarchy.{name_at, supers_at}
use Rattle.class_heads.specs.Faults.{missing_super}
use Rattle.class_world.specs.First.{IsBefore, IsFirst, IsFirstPlace, is_later, takes_reserved_at, lacks_super_at, has_wrong_super_at}
use Rattle.class_world.specs.Tables.{IsSupers}

module _ (heads : List ClassHead) where
  -- the class at the place has that name, and lacks a supertype of the other name
  pub record IsLackingOf (place : ℕ) (class name : List ℕ) : Type 0 where
    pub head : ClassHead
    pub stands : slice_get heads place ≡ Some head
    pub named : class ≡ name_at heads place
    pub missing : missing_super heads head ≡ Some name

  abbrev pub IsLackingAt : ℕ → WorldFault → Type 0
  IsLackingAt place (MissingSuper class name) = IsLackingOf place class name
  IsLackingAt place Memory = Unit {0}
  IsLackingAt place _ = ⊥

  module _ (files : List ClassFile) (woven : Bool) where
    abbrev pub Later : Option ℕ → Type 0
    Later = IsFirst heads (IsBefore (length heads)) (λ place. is_later heads place ≡ true)

    abbrev pub Taking : Option ℕ → Type 0
    Taking = IsFirst heads (IsBefore (length files)) (λ place. takes_reserved_at woven files place ≡ true)

    abbrev pub Lacking : Option ℕ → Type 0
    Lacking = IsFirst heads (IsBefore (length files)) (λ place. lacks_super_at heads place ≡ true)

    abbrev pub Wrong : Option ℕ → Type 0
    Wrong = IsFirst heads (IsBefore (length files)) (λ place. has_wrong_super_at heads place ≡ true)

    -- nothing is wrong but for circles
    pub record AreOrderly : Type 0 where
      pub later : Later None
      pub taking : Taking None
      pub lacking : Lacking None
      pub wrong : Wrong None

    -- the first fault that isn't a circle
    abbrev pub IsDisorder : WorldFault → Type 0
    IsDisorder (Duplicate name) = (place : ℕ) × Later (Some place) × (name ≡ name_at heads place)
    IsDisorder (Reserved name) = (place : ℕ) × Later None × Taking (Some place) × (name ≡ name_at heads place)
    IsDisorder (MissingSuper class name) = (place : ℕ) × Later None × Taking None × Lacking (Some place) × IsLackingOf place class name
    IsDisorder (FinalSuper name) = (place : ℕ) × Later None × Taking None × Lacking None × Wrong (Some place) × (name ≡ name_at heads place)
    IsDisorder (Circle name) = ⊥
    IsDisorder Memory = Unit {0}

  -- the table of supertypes, which ends since no class lies on a circle
  pub record AreTabled (tables : List (List ℕ)) : Type 0 where
    pub supers : IsSupers heads tables
    pub ending : (place : ℕ) → place < length heads → LiesOnCircle (supers_at heads) place → ⊥

  -- the first class that lies on a circle
  abbrev pub IsRing : WorldFault → Type 0
  IsRing (Circle name) = (place : ℕ) × IsFirstPlace heads (IsBefore (length heads)) (LiesOnCircle (supers_at heads)) place × (name ≡ name_at heads place)
  IsRing Memory = Unit {0}
  IsRing _ = ⊥
