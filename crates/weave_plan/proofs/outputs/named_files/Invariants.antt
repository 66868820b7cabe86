use Rattle.std.proofs.Common.{◌≡◌, map}
use Rattle.weave_plan.specs.Plan.{files_of}
use Rattle.weave_plan.proofs.outputs.named_files.Given as goal

abbrev pub invariant-loop-name : goal.invariant-loop-name
invariant-loop-name l = files_of l.named.items ≡ map (λ e. (e.0, e.1.items)) l.yielded
