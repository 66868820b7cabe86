use Rattle.std.specs.List.{AllWithin}
use Rattle.aj_names.specs.Hierarchy.{IsNamed}
use Rattle.class_heads.specs.declared.types.ClassHead.{ClassHead}
use Rattle.class_world.proofs.lookups.naming.find_named.Given as goal

-- no head before this one has the name
abbrev pub invariant-loop-head : goal.invariant-loop-head
invariant-loop-head l = AllWithin (λ (head : ClassHead). IsNamed l.«package» l.name l.dollars head.name → ⊥) l.heads 0 l.head-index
