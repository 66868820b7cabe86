use Rattle.std.proofs.Common.{take}
use Rattle.weave_plan.specs.Plan.{files_of}
use Rattle.weave_plan.proofs.Read.{AreRead}
use Rattle.weave_plan.proofs.parsing.parsed_files.Given as goal

abbrev pub invariant-loop-place : goal.invariant-loop-place
invariant-loop-place l = AreRead (files_of (take l.place l.files)) l.all.items
