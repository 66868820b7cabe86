use Rattle.std.proofs.Common.{◌++◌, ◌∷◌, [], ℕ, List, ◌-◌, ◌/◌, ◌%◌, ap, sym, ◌∙◌, rules, arith, append_assoc}
use Rattle.std.proofs.lemmas.List.{append-nil}
use Rattle.class_machine.specs.Numbers.{digit}
use Rattle.class_machine.specs.Lines.{fixed_digits}
use Rattle.run_lines.proofs.Printed.{fixed_more, fixed_none}
use Rattle.run_lines.proofs.printing.+put_digits.Goals as goal

pub returns-in_ok-push : goal.returns-in_ok-push
returns-in_ok-push t c =
    let out = c.args.out.now.items in
    let before : List ℕ = fixed_digits (c.args.count - 1) (c.args.value / 16) in
    let last : ℕ = digit (c.args.value % 16) in
    c.in_ok-push.ensures.items
    ∙ ap (λ (d : ℕ). c.put_digits.new.out.items ++ d ∷ []) c.digit.ensures
    ∙ ap (λ (l : List ℕ). l ++ last ∷ []) c.in_ok-put_digits.ensures
    ∙ append_assoc out before (last ∷ [])
    ∙ ap (λ (l : List ℕ). out ++ l) (sym (fixed_more c.args.count c.args.value (search rules)))

pub returns-else-count-gt0 : goal.returns-else-count-gt0
returns-else-count-gt0 t c =
    let out = c.args.out.now.items in
    sym (append-nil out) ∙ ap (λ (l : List ℕ). out ++ l) (sym (fixed_none c.args.count c.args.value (omega arith)))
