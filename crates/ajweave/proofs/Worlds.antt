-- There is one first fault of a world of classes, and none of a sound one.
use Rattle.std.proofs.Common.{◌≡◌, false, List}
use Rattle.boot_library.specs.Heads.{library_heads}
use Rattle.class_file.specs.declared.types.ClassFile.{ClassFile}
use Rattle.class_heads.specs.declared.fault.WorldFault.{WorldFault}
use Rattle.class_heads.specs.FaultLaws.{sound_has_none}
use Rattle.class_heads.specs.FirstLaws.{first_fault_same}
use Rattle.weave_plan.specs.Worlds.{AreSound, IsFirstFault}

pub first_fault-same : (classes : List ClassFile) (a b : WorldFault) → IsFirstFault classes a → IsFirstFault classes b → a ≡ b
first_fault-same classes a b g h = first_fault_same classes library_heads false a b g h

pub sound-never_faulty : (classes : List ClassFile) (fault : WorldFault) → AreSound classes → IsFirstFault classes fault → ⊥
sound-never_faulty classes fault s h = sound_has_none classes library_heads false s fault h
