-- The classes of the input as a world, beside the library of the platform, in which no name is kept
-- for what weaving made.
use Rattle.std.specs.Prelude.{ℕ, if◌then◌else◌, false, List, Option, None}
use Rattle.std.specs.List.{filter_map}
use Rattle.std.specs.Result.{result_ok}
use Rattle.aj_outside.specs.Files.{Files}
use Rattle.boot_library.specs.Heads.{library_heads}
use Rattle.class_file.specs.declared.types.ClassFile.{ClassFile}
use Rattle.class_format.specs.Reading.{reading}
use Rattle.class_heads.specs.declared.fault.WorldFault.{WorldFault}
use Rattle.class_heads.specs.Faults as world
use Rattle.jp_model.specs.Input.{is_class_file}
use Rattle.weave_plan.specs.declared.planning.PlanFault.{PlanFault}
use Rattle.weave_plan.specs.declared.planning.PlanFault.TheVariants.{Class, World, NotBuilt, Memory}

-- the class that a file says, where it is one of a class
abbrev pub class_in : (List ℕ × List ℕ) → Option ClassFile
class_in file = if is_class_file file.0 then result_ok (reading file.1) else None

-- the classes that the files say, in their order
abbrev pub classes_of : Files → List ClassFile
classes_of files = filter_map class_in files

-- the classes have no fault
abbrev pub AreSound : List ClassFile → Type 0
AreSound classes = world.IsSound classes library_heads false

-- this is the classes' first fault
abbrev pub IsFirstFault : List ClassFile → WorldFault → Type 0
IsFirstFault classes fault = world.IsFirstFault classes library_heads false fault

-- the plan's fault is that of the classes, unless memory ran out
abbrev pub IsFaultOf : List ClassFile → PlanFault → Type 0
IsFaultOf classes (Class place fault) = ⊥
IsFaultOf classes (World fault) = IsFirstFault classes fault
IsFaultOf classes (NotBuilt place) = ⊥
IsFaultOf classes Memory = Unit {0}
