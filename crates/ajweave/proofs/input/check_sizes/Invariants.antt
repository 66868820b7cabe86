use Rattle.std.proofs.Common.{◌≡◌, None, take}
use Rattle.std.specs.List.{find}
use Rattle.jp_model.specs.Input.{is_big}
use Rattle.weave_plan.specs.Plan.{files_of}
use Rattle.ajweave.proofs.input.check_sizes.Given as goal

abbrev pub invariant-loop-file : goal.invariant-loop-file
invariant-loop-file l = find is_big (files_of (take l.file-index l.files)) ≡ None
