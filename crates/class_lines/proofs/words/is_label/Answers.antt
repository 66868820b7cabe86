use Rattle.std.proofs.Common.{Bool, ◌&&◌, ap, ◌∙◌, sym, rules, tests, length}
use Rattle.std.specs.List.{list_all}
use Rattle.std.proofs.lemmas.Bool.{lt-ltb}
use Rattle.std.proofs.lemmas.Iterator.{YieldsList-from_slice}
use Rattle.std.proofs.lemmas.Iterator.Search.{all_from_yields_List}
use Rattle.class_lines.specs.Words.{is_label_byte, is_label}
use Rattle.class_lines.proofs.words.is_label.Goals as goal

pub returns-then-not-is_empty : goal.returns-then-not-is_empty
unfolding is_label
returns-then-not-is_empty c =
    let word = c.args.word.now in
    all_from_yields_List is_label_byte _ _ _ c.all.ensures.ran (YieldsList-from_slice word cc) (λ x b q k. search (rules, tests))
    ∙ sym (ap (λ (t : Bool). t && list_all is_label_byte word) (lt-ltb 0 (length word) (search rules)))
