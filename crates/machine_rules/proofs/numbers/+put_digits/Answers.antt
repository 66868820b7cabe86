use Rattle.std.proofs.Common.{◌++◌, ◌∷◌, [], ℕ, List, ◌-◌, ◌/◌, ◌%◌, ap, sym, ◌∙◌, arith}
use Rattle.class_machine.specs.Numbers.{digit, digits}
use Rattle.machine_rules.proofs.Decimals.{digits_before, joined}
use Rattle.machine_rules.proofs.numbers.+put_digits.Goals as goal

pub returns : goal.returns
returns t c =
    let out = c.args.out.now.items in
    let mid = c.put_digits.new.out.items in
    joined out mid c.push-2.new.self.items (digits 16 (c.args.most - 1) (c.args.value / 16)) (digit (c.args.value % 16) ∷ []) c.in_ok-put_digits.ensures
    (c.in_ok-push-2.ensures.items ∙ ap (λ (d : ℕ). mid ++ d ∷ []) c.digit-2.ensures)
    ∙ ap (λ (l : List ℕ). out ++ l) (sym (digits_before 16 c.args.most c.args.value (omega arith) (omega arith)))
