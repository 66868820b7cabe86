use Rattle.run_lines.proofs.Printed.{all_values}
use Rattle.run_lines.proofs.values.put_values.Goals as goal

pub returns-after-loop-value : goal.returns-after-loop-value
returns-after-loop-value c =
    all_values c.args.values.now c.in-Some.others.now c.in-Some.first.now c.args.out.now.items c.put_value.new.out.items c.loop-value.out.items c.loop-value.value-index
    (c.in-Some.ensures.cases.0) c.in_ok-put_value.ensures c.loop-value.invariant c.loop-value-test.false
