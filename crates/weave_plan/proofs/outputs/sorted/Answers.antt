use Rattle.std.proofs.Common.{List, ℕ, ap, ◌∙◌}
use Rattle.aj_outside.specs.Files.{put_file}
use Rattle.jp_model.specs.Headline.{IsWritten, output_name}
use Rattle.weave_plan.proofs.Lists.{all_at}
use Rattle.weave_plan.proofs.Placed.{seen, inserted, put_more}
use Rattle.weave_plan.proofs.outputs.sorted.Goals as goal

pub file_name-requires : goal.file_name-requires
file_name-requires c = all_at IsWritten c.args.classes.now c.loop-class.class-index c.class-item.result c.requires c.loop-class-test.true c.class-item.is

pub loop-class-preserved : goal.loop-class-preserved
loop-class-preserved c =
    let files = seen (λ v. v.items) c.loop-class.files.entries in
    put_more c.args.folder.now c.args.classes.now c.loop-class.class-index c.class-item.result files (seen (λ v. v.items) c.insert.new.self.entries) c.loop-class-test.true c.class-item.is c.loop-class.invariant
    (ap (seen (λ v. v.items)) c.in_ok-insert.ensures.entries ∙ inserted (λ v. v.items) c.loop-class.files.entries c.in_ok-name.name c.in_ok-write_class.field-0
    ∙ ap (λ (n : List ℕ). put_file files n c.in_ok-write_class.field-0.items) c.in_ok-name.ensures
    ∙ ap (put_file files (output_name c.args.folder.now c.class-item.result)) c.in_ok-write_class.ensures.spelled)
