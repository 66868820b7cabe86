use Rattle.std.proofs.Common.{[], ◌∷◌, ◌++◌, ℤ, ap, ◌∙◌}
use Rattle.std.specs.Int.{w64}
use Rattle.std.proofs.lemmas.Int.{to_z-of_z}
use Rattle.std.proofs.lemmas.Result.{on_ok_weaker}
use Rattle.class_machine.specs.Numbers.{decimal}
use Rattle.run_lines.proofs.Printed.{joined}
use Rattle.run_lines.proofs.values.put_long.Goals as goal

pub returns : goal.returns
returns c =
    let old = c.args.out.now.items in
    on_ok_weaker c.put.result
    (λ e. joined old c.put_integer.new.out.items c.put.new.out.items _ (76 ∷ []) c.in_ok-put_integer.ensures e ∙ ap (λ (z : ℤ). old ++ (decimal z ++ 76 ∷ [])) (to_z-of_z w64 c.args.number c.ranges.number)) c.put.ensures
