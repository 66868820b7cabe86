use Rattle.std.proofs.Common.{◌≡◌, ℕ, not, take, drop, sym, ap, ◌∙◌, rules, tests}
use Rattle.std.specs.List.{position_or_len}
use Rattle.std.proofs.lemmas.Iterator.{YieldsList-from_slice}
use Rattle.std.proofs.lemmas.Iterator.Search.{position_from_yields_List}
use Rattle.class_text.specs.Texts.{is_in_line}
use Rattle.class_text.proofs.Runs.{run_is_front, behind_is_back, run_len}
use Rattle.class_text.proofs.numbered.split_at_feed.Goals as goal

pub returns-clause-run : goal.returns-clause-run
returns-clause-run c =
    let text = c.args.text.now in
    let place = position_from_yields_List (λ (b : ℕ). not (is_in_line b)) _ _ c.position.result c.position.ensures.ran (YieldsList-from_slice text cc) (λ x b q k. search (rules, tests)) in
    let len : c.unwrap_or-len.result ≡ position_or_len (λ b. not (is_in_line b)) text = c.unwrap_or-len.ensures ∙ run_len is_in_line text c.position.result place in
    c.split_at.ensures.front ∙ ap (λ (n : ℕ). take n text) len ∙ sym (run_is_front is_in_line text)

pub returns-clause-behind : goal.returns-clause-behind
returns-clause-behind c =
    let text = c.args.text.now in
    let place = position_from_yields_List (λ (b : ℕ). not (is_in_line b)) _ _ c.position.result c.position.ensures.ran (YieldsList-from_slice text cc) (λ x b q k. search (rules, tests)) in
    let len : c.unwrap_or-len.result ≡ position_or_len (λ b. not (is_in_line b)) text = c.unwrap_or-len.ensures ∙ run_len is_in_line text c.position.result place in
    c.split_at.ensures.back ∙ ap (λ (n : ℕ). drop n text) len ∙ sym (behind_is_back is_in_line text)
