use Rattle.std.proofs.Common.{◌≡◌, ap, ◌∙◌}
use Rattle.std.proofs.lemmas.Grind.{common_steps}
use Rattle.std.proofs.Common.{arith}
use Rattle.class_file.specs.Spelling.{spelling}
use Rattle.class_format.specs.Reading.{reading}
use Rattle.class_format.specs.LawsReading.{reading_again}
use Rattle.class_format.proofs.writing.write_class.Goals as goal

pub returns-clause-back : goal.returns-clause-back
returns-clause-back c =
    let e : c.put_body.new.out.items ≡ spelling c.args.class.now = grind (arith, common_steps) in
    λ h. ap reading e ∙ reading_again c.args.class.now h
