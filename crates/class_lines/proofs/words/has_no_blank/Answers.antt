use Rattle.std.proofs.Common.{rules, tests}
use Rattle.std.proofs.lemmas.Iterator.{YieldsList-from_slice}
use Rattle.std.proofs.lemmas.Iterator.Search.{all_from_yields_List}
use Rattle.class_lines.specs.Fields.{is_inside}
use Rattle.class_lines.proofs.words.has_no_blank.Goals as goal

pub returns : goal.returns
returns c =
    all_from_yields_List is_inside _ _ _ c.all.ensures.ran (YieldsList-from_slice c.args.word.now cc) (λ x b q k. search (rules, tests))
