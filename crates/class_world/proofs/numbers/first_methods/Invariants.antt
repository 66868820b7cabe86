use Rattle.class_heads.specs.Numbers.{method_counts}
use Rattle.class_world.specs.Tables.{AreFirsts}
use Rattle.class_world.proofs.numbers.first_methods.Given as goal

abbrev pub invariant-loop-head : goal.invariant-loop-head
invariant-loop-head l = AreFirsts (method_counts l.heads) l.firsts.items l.head-index l.next
