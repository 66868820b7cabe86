-- What is wrong with the files of a folder, and when they are taken.
use Rattle.std.specs.Prelude.{◌≡◌, ℕ, ◌&&◌, Bool, true, false, List, Option, Some, None, Err, IfSome, IsTrue, slice_get}
use Rattle.std.specs.List.{find}
use Rattle.std.specs.Result.{is_err}
use Rattle.aj_outside.specs.Files.{Files}
use Rattle.class_file.specs.declared.types.ClassFile.{ClassFile}
use Rattle.class_file.specs.WellFormed.{is_well_formed}
use Rattle.class_format.specs.declared.fault.ClassFault.{ClassFault}
use Rattle.class_format.specs.declared.fault.ClassFault.TheVariants as class_fault
use Rattle.class_format.specs.Reading.{reading}
use Rattle.class_heads.specs.declared.fault.WorldFault.{WorldFault}
use Rattle.jp_model.specs.Input.{is_class_file, AllBuilt, IsFirstNotBuilt, IsNotBuilt}
use Rattle.weave_plan.specs.declared.class_files.ReadFault.{ReadFault}
use Rattle.weave_plan.specs.declared.class_files.ReadFault.TheVariants as faults
use Rattle.weave_plan.specs.declared.planning.PlanFault.{PlanFault}
use Rattle.weave_plan.specs.declared.planning.PlanFault.TheVariants.{Class, World, NotBuilt, Memory}
use Rattle.weave_plan.specs.Worlds as world

-- the file is one of a class, and its bytes are no class file
abbrev pub is_faulty : (List ℕ × List ℕ) → Bool
is_faulty file = is_class_file file.0 && is_err (reading file.1)

-- the class file of this name is the first that is none, and this is its first fault
pub record IsFirstFault (files : Files) (name : List ℕ) (fault : ClassFault) : Type 0 where
  pub bytes : List ℕ
  pub first : find is_faulty files ≡ Some (name, bytes)
  pub read : reading bytes ≡ Err fault

-- each class file is one, and this is the first fault of their world
pub record HaveFirstFault (files : Files) (fault : WorldFault) : Type 0 where
  pub read : find is_faulty files ≡ None
  pub first : world.IsFirstFault (world.classes_of files) fault

-- each class file is one, and their world has no fault
pub record AreSound (files : Files) : Type 0 where
  pub read : find is_faulty files ≡ None
  pub world : world.AreSound (world.classes_of files)

-- the classes are sound, and the file of this name is the first that isn't built
pub record IsFirstUnbuilt (files : Files) (name : List ℕ) : Type 0 where
  pub sound : AreSound files
  pub first : IsNotBuilt files name

-- the classes are sound, and each file is built
pub record AreTaken (files : Files) : Type 0 where
  pub sound : AreSound files
  pub built : AllBuilt files

-- The files are refused so, by the place of the refused one or by the names of classes: a class file that
-- is none comes before a fault of the world of classes, and this before any file that isn't built.
abbrev pub AreRefused : Files → PlanFault → Type 0
AreRefused files (Class place fault) =
    (file : List ℕ × List ℕ) × (slice_get files place ≡ Some file) × IsFirstFault files file.0 fault
AreRefused files (World fault) = HaveFirstFault files fault
AreRefused files (NotBuilt place) =
    (file : List ℕ × List ℕ) × AreSound files × IsFirstNotBuilt files place file
AreRefused files Memory = Unit {0}

-- the class file at this place is the first that is none, with its first fault, unless memory ran out
abbrev pub AreUnread : Files → ReadFault → Type 0
AreUnread files (faults.Class place fault) =
    (file : List ℕ × List ℕ) × (slice_get files place ≡ Some file) × IsFirstFault files file.0 fault
AreUnread files faults.Memory = Unit {0}

-- the file says this class, or is not one of a class and says none
pub record IsReadOf (file : List ℕ × List ℕ) (found : Option ClassFile) : Type 0 where
  pub class : found ≡ world.class_in file
  pub formed : IfSome found (λ c. IsTrue (is_well_formed c))
  pub sound : is_faulty file ≡ false

-- the file at this place is one of a class that is none, for this fault, unless memory ran out
abbrev pub IsUnreadAt : ℕ → (List ℕ × List ℕ) → ReadFault → Type 0
IsUnreadAt place file (faults.Class at fault) = (at ≡ place) × (is_class_file file.0 ≡ true) × (reading file.1 ≡ Err fault)
IsUnreadAt place file faults.Memory = Unit {0}

-- why the class at a place, with this fault, was not read
abbrev pub unread_at : ℕ → ClassFault → ReadFault
unread_at place class_fault.Memory = faults.Memory
unread_at place fault = faults.Class place fault
