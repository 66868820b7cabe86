use Rattle.std.proofs.Common.{◌++◌, ◌∷◌, [], ℕ, List, ◌-◌, ◌/◌, ◌%◌, ap, sym, ◌∙◌, rules, arith, append_assoc}
use Rattle.std.proofs.lemmas.List.{append-nil}
use Rattle.class_lines.specs.Printing.{hex_digit, hex_digits}
use Rattle.class_lines.proofs.TextRead.{hex_more, hex_none}
use Rattle.class_lines.proofs.printing.+put_hex.Goals as goal

pub returns-in_ok-push : goal.returns-in_ok-push
returns-in_ok-push t c =
    let out = c.args.out.now.items in
    let before : List ℕ = hex_digits (c.args.count - 1) (c.args.n / 16) in
    let last : ℕ = hex_digit (c.args.n % 16) in
    c.in_ok-push.ensures.items
    ∙ ap (λ (d : ℕ). c.put_hex.new.out.items ++ d ∷ []) c.hex_digit.ensures
    ∙ ap (λ (l : List ℕ). l ++ last ∷ []) c.in_ok-put_hex.ensures
    ∙ append_assoc out before (last ∷ [])
    ∙ ap (λ (l : List ℕ). out ++ l) (sym (hex_more c.args.count c.args.n (search rules)))

pub returns-else-count-gt0 : goal.returns-else-count-gt0
returns-else-count-gt0 t c =
    let out = c.args.out.now.items in
    sym (append-nil out) ∙ ap (λ (l : List ℕ). out ++ l) (sym (hex_none c.args.count c.args.n (omega arith)))
