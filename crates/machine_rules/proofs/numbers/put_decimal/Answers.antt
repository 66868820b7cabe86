use Rattle.std.proofs.Common.{◌++◌, List, ℕ, ap, ◌∙◌, arith}
use Rattle.std.specs.Int.{w64}
use Rattle.std.specs.Fmt.{signed_decimal}
use Rattle.std.proofs.lemmas.Int.{to_z-of_z}
use Rattle.std.proofs.lemmas.Result.{on_ok_weaker}
use Rattle.machine_rules.proofs.Decimals.{same_integer}
use Rattle.machine_rules.proofs.numbers.put_decimal.Goals as goal

pub returns : goal.returns
returns c =
    on_ok_weaker c.put_bytes.result (λ e. e ∙ ap (λ (b : List ℕ). c.args.out.now.items ++ b) (c.as_bytes.ensures.value ∙ c.format.ensures.text ∙ ap signed_decimal (to_z-of_z w64 c.args.number c.ranges.number) ∙ same_integer c.args.number (omega (arith, c.ranges.number.sfits)))) c.put_bytes.ensures
