use Rattle.std.proofs.Common.{◌≡◌, sym, arith, rules, None}
use Rattle.class_lines.specs.Numbers.{number}
use Rattle.class_lines.proofs.Digits.{number_fails, number_ends}
use Rattle.class_lines.proofs.numbers.number.Goals as goal

pub returns-in_err-value-clause-exact : goal.returns-in_err-value-clause-exact
returns-in_err-value-clause-exact c =
    let low = c.requires.low in
    let none : number c.args.radix c.args.most c.args.digits.now ≡ None =
    number_fails c.args.radix c.args.most c.loop-digit.value c.loop-digit.digit-index c.args.digits.now (omega arith) (omega arith) c.loop-digit.invariant.0 (search rules) in
    search (rules, none)

pub returns-else-is_empty-clause-exact : goal.returns-else-is_empty-clause-exact
returns-else-is_empty-clause-exact c =
    let low = c.requires.low in
    sym (number_ends c.args.radix c.args.most c.loop-digit.value c.loop-digit.digit-index c.args.digits.now (omega arith) (search rules) (omega arith) c.loop-digit.invariant.0)
