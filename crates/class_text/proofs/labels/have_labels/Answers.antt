use Rattle.std.proofs.Common.{rules, tests}
use Rattle.std.proofs.lemmas.Iterator.{YieldsList-from_slice}
use Rattle.std.proofs.lemmas.Iterator.Search.{all_from_yields_List}
use Rattle.class_text.specs.Labels.{has_label}
use Rattle.class_text.proofs.labels.have_labels.Goals as goal

pub returns : goal.returns
returns c = all_from_yields_List (has_label c.args.body.now) _ _ _ c.all.ensures.ran (YieldsList-from_slice c.args.names.now cc) (λ x b q k. search (rules, tests))
