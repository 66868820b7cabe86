use Rattle.std.proofs.Common.{◌≡◌, ◌++◌, length}
use Rattle.jp_model.specs.Headline.{utf8_of}
use Rattle.weave_plan.proofs.file_names.utf8_of.Given as goal

abbrev pub invariant-loop-rest : goal.invariant-loop-rest
invariant-loop-rest l = l.text.items ++ utf8_of l.rest ≡ utf8_of l.name

abbrev pub decreases-loop-rest : goal.decreases-loop-rest
decreases-loop-rest l = length l.rest
