use Rattle.std.proofs.Common.{ℕ, List, ◌++◌, ap, ◌∙◌}
use Rattle.class_machine.specs.LibraryCalls as calls
use Rattle.machine_values.specs.Standing.{held}
use Rattle.machine_rules.proofs.Asked.{box_read}
use Rattle.machine_rules.proofs.asking.box_text.Goals as goal

pub returns : goal.returns
returns c =
    let k = c.args.world.now in
    let things = c.args.heap.now in
    box_read k things c.args.at c.args.boxed c.box_value.result c.put_box.new.out.items c.box_value.ensures.reads
    (c.in_ok-put_box.ensures k.heads things.names ∙ ap (λ (l : List ℕ). l ++ calls.box_text c.args.boxed (held k.heads things.names c.box_value.result)) c.new-units.ensures.items)
