use Rattle.std.proofs.lemmas.Result.{IfOk-weaker}
use Rattle.machine_rules.proofs.Asked.{copy_makes, box_makes}
use Rattle.machine_rules.proofs.asking.made_text.Goals as goal

pub returns-in-Copy : goal.returns-in-Copy
returns-in-Copy c =
    IfOk-weaker c.copied.result _ _ (λ text same. copy_makes c.args.world.now c.args.heap.now c.args.at c.args.rule _ c.in-Copy.is c.requires same) c.copied.ensures

pub returns-in_ok-units-in-DescribeBox : goal.returns-in_ok-units-in-DescribeBox
returns-in_ok-units-in-DescribeBox c =
    box_makes c.args.world.now c.args.heap.now c.args.at c.args.rule c.in-DescribeBox.boxed c.in_ok-units-in-DescribeBox.units.items c.in-DescribeBox.is c.in_ok-units-in-DescribeBox.ensures
