use Rattle.std.proofs.Common.{◌++◌, List, ℕ, ap, ◌∙◌, arith}
use Rattle.std.proofs.lemmas.Result.{on_ok_weaker}
use Rattle.run_lines.proofs.Printed.{same_natural}
use Rattle.run_lines.proofs.printing.put_number.Goals as goal

pub returns : goal.returns
returns c =
    on_ok_weaker c.put.result (λ e. e ∙ ap (λ (b : List ℕ). c.args.out.now.items ++ b) (c.as_bytes.ensures.value ∙ c.format.ensures.text ∙ same_natural c.args.number (omega (arith, c.ranges.number.fits)))) c.put.ensures
