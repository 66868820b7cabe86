use Rattle.std.proofs.Common.{◌≡◌, ℕ, not, drop, sym, ap, ◌∙◌, rules, tests}
use Rattle.std.specs.List.{position_or_len}
use Rattle.std.proofs.lemmas.Iterator.{YieldsList-from_slice}
use Rattle.std.proofs.lemmas.Iterator.Search.{position_from_yields_List}
use Rattle.class_lines.specs.Fields.{is_blank}
use Rattle.class_lines.proofs.Runs.{behind_is_back, run_len}
use Rattle.class_lines.proofs.fields.skip_blanks.Goals as goal

pub returns : goal.returns
returns c =
    let text = c.args.text.now in
    let place = position_from_yields_List (λ (b : ℕ). not (is_blank b)) _ _ c.position.result c.position.ensures.ran (YieldsList-from_slice text cc) (λ x b q k. search (rules, tests)) in
    let len : c.unwrap_or-len.result ≡ position_or_len (λ b. not (is_blank b)) text = c.unwrap_or-len.ensures ∙ run_len is_blank text c.position.result place in
    c.split_at.ensures.back ∙ ap (λ (n : ℕ). drop n text) len ∙ sym (behind_is_back is_blank text)
