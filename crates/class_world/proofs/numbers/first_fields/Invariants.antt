use Rattle.class_heads.specs.Numbers.{field_counts}
use Rattle.class_world.specs.Tables.{AreFirsts}
use Rattle.class_world.proofs.numbers.first_fields.Given as goal

abbrev pub invariant-loop-head : goal.invariant-loop-head
invariant-loop-head l = AreFirsts (field_counts l.heads) l.firsts.items l.head-index l.next
