use Rattle.std.proofs.Common.{◌≡◌, length}
use Rattle.jp_model.specs.AspectText.{is_space}
use Rattle.aspect_form.specs.Reading.{behind_run}
use Rattle.aspect_form.proofs.tokens.skip_spaces.Given as goal

abbrev pub invariant-loop-rest : goal.invariant-loop-rest
invariant-loop-rest l = behind_run is_space l.rest ≡ behind_run is_space l.text

abbrev pub decreases-loop-rest : goal.decreases-loop-rest
decreases-loop-rest l = length l.rest
