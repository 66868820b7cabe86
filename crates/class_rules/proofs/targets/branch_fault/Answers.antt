use Rattle.std.proofs.Common.{sym, ◌∙◌}
use Rattle.std.specs.Prelude.{map}
use Rattle.class_file.specs.Code.{leads_well, first_failing}
use Rattle.class_rules.specs.Instructions.{as_placed}
use Rattle.class_rules.proofs.FirstFailing.{another}
use Rattle.class_rules.proofs.targets.branch_fault.Goals as goal

pub loop-placed-preserved : goal.loop-placed-preserved
loop-placed-preserved c =
    let insns = map as_placed c.args.insns.now in
    let test = leads_well c.args.code.now insns in
    another test c.args.insns.now c.loop-placed.placed-index _ (first_failing test insns) c.loop-placed-test.true c.loop-placed.invariant (sym (c.leads_well.ensures insns c.requires.marked) ∙ c.if-not-leads_well.false)
