use Rattle.std.proofs.Common.{rules, tests}
use Rattle.std.proofs.lemmas.Iterator.{YieldsList-from_slice}
use Rattle.std.proofs.lemmas.Iterator.Search.{all_from_yields_List}
use Rattle.class_lines.specs.declared.line.Case.{Case}
use Rattle.class_text.specs.Labels.{has_label}
use Rattle.class_text.proofs.labels.cases_have_labels.Goals as goal

pub returns : goal.returns
returns c = all_from_yields_List (λ (c0 : Case). has_label c.args.body.now c0.label) _ _ _ c.all.ensures.ran (YieldsList-from_slice c.args.cases.now cc) (λ x b q k. search (rules, tests))
