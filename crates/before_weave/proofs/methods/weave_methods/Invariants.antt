use Rattle.std.proofs.Common.{take}
use Rattle.before_weave.specs.Walk.{AreMarkedMethods}
use Rattle.before_weave.proofs.methods.weave_methods.Given as goal

-- the methods so far
abbrev pub invariant-loop-method : goal.invariant-loop-method
invariant-loop-method l = AreMarkedMethods l.marks l.index (take l.method-index l.methods) l.members.items l.advised
