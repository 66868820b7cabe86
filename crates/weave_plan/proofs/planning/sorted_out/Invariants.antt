use Rattle.std.proofs.Common.{◌≡◌, None}
use Rattle.weave_plan.specs.Parsed.{classes_in, aspects_in, last_of}
use Rattle.weave_plan.proofs.planning.sorted_out.Given as goal

abbrev pub invariant-loop-file : goal.invariant-loop-file
invariant-loop-file l = (l.classes.items ≡ classes_in l.yielded) × (l.aspect ≡ last_of None (aspects_in l.yielded))
