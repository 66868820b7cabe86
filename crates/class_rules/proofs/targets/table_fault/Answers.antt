use Rattle.class_file.specs.Code.{first_stray}
use Rattle.class_rules.proofs.Strays.{stray_here, none_here}
use Rattle.class_rules.proofs.targets.table_fault.Goals as goal

pub returns-in-Some : goal.returns-in-Some
returns-in-Some c = λ insns marked.
    stray_here c.args.code.now insns c.args.entries.now c.loop-entry.entry-index _ c.loop-entry-test.true c.stray_in.result (first_stray c.args.code.now insns c.args.entries.now)
    (c.stray_in.ensures insns marked) (c.loop-entry.invariant insns marked) c.in-Some.place c.in-Some.is

pub loop-entry-preserved : goal.loop-entry-preserved
loop-entry-preserved c = λ insns marked.
    none_here c.args.code.now insns c.args.entries.now c.loop-entry.entry-index _ c.loop-entry-test.true c.stray_in.result (first_stray c.args.code.now insns c.args.entries.now)
    (c.stray_in.ensures insns marked) (c.loop-entry.invariant insns marked) c.in_default.is
