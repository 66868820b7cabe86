use Rattle.std.proofs.Common.{take}
use Rattle.weave_plan.specs.Plan.{files_of}
use Rattle.weave_plan.proofs.ReadClasses.{AreClassesOf}
use Rattle.weave_plan.proofs.class_files.read_classes.Given as goal

abbrev pub invariant-loop-place : goal.invariant-loop-place
invariant-loop-place l = AreClassesOf (files_of (take l.place l.files)) l.classes.items
