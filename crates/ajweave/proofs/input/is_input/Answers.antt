use Rattle.std.proofs.Common.{◌||◌, ap, sym, ◌∙◌, Bool}
use Rattle.std.specs.Prelude.{codes}
use Rattle.std.proofs.lemmas.Str.Pattern.{ends_text}
use Rattle.jp_model.specs.Input.{is_aspect_file}
use Rattle.ajweave.proofs.input.is_input.Goals as goal

pub returns-else-ends_with : goal.returns-else-ends_with
returns-else-ends_with c =
    let class = ends_text c.ends_with.result (codes ".class") c.args.name.now c.ends_with.ensures.cases in
    let aspect = ends_text c.ends_with-else-ends_with.result (codes ".aj") c.args.name.now c.ends_with-else-ends_with.ensures.cases in
    aspect ∙ sym (ap (λ (b : Bool). b || is_aspect_file c.args.name.now) (sym class ∙ c.if-ends_with.false))
