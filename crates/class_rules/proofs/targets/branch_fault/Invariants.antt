use Rattle.std.proofs.Common.{◌≡◌, drop}
use Rattle.std.specs.Prelude.{map}
use Rattle.class_file.specs.Code.{first_failing, leads_well}
use Rattle.class_rules.specs.Instructions.{as_placed}
use Rattle.class_rules.proofs.targets.branch_fault.Given as goal

abbrev pub invariant-loop-placed : goal.invariant-loop-placed
invariant-loop-placed l =
    first_failing (leads_well l.code (map as_placed l.insns)) (map as_placed (drop l.placed-index l.insns))
    ≡ first_failing (leads_well l.code (map as_placed l.insns)) (map as_placed l.insns)
