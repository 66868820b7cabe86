use Rattle.std.proofs.Common.{◌≡◌, [], take, map}
use Rattle.aj_outside.specs.Files.{put_each}
use Rattle.jp_model.specs.Headline.{output}
use Rattle.weave_plan.proofs.outputs.sorted.Given as goal

abbrev pub invariant-loop-class : goal.invariant-loop-class
invariant-loop-class l = map (λ e. (e.0, e.1.items)) l.files.entries ≡ put_each [] (map (output l.folder) (take l.class-index l.classes))
