use Rattle.std.proofs.Common.{◌≡◌, ℕ, sym, ap, ◌∙◌}
use Rattle.std.specs.Prelude.{nat_le, ◌&&◌}
use Rattle.std.proofs.lemmas.Bool.{lt-ltb}
use Rattle.class_file.specs.Text.{dimensions}
use Rattle.machine_arrays.proofs.Descriptors.{dims_behind}
use Rattle.machine_arrays.proofs.named.has_dimensions.Goals as goal

pub returns-then-dims-gt0 : goal.returns-then-dims-gt0
returns-then-dims-gt0 c =
    let counted : dimensions c.args.named.now ≡ c.brackets-count.result.0 = ap dimensions c.brackets-count.ensures.parts ∙ dims_behind c.brackets-count.result.0 c.brackets-count.result.1.now c.brackets-count.ensures.last in
    ap (λ (n : ℕ). nat_le n c.brackets-count.result.0) c.from.ensures ∙ ap (λ (n : ℕ). nat_le c.args.dims n) (sym counted) ∙ sym (ap (λ b. b && nat_le c.args.dims (dimensions c.args.named.now)) (lt-ltb 0 c.args.dims c.if-dims-gt0.true))
