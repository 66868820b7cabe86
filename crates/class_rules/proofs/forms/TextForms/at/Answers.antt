use Rattle.std.proofs.Common.{Some, None, ◌∙◌}
use Rattle.class_rules.proofs.FormsAt.{form_judged}
use Rattle.class_rules.proofs.forms.TextForms.at.Goals as goal

pub returns-in-Some : goal.returns-in-Some
returns-in-Some c = λ pool judged. form_judged pool c.args.index c.as_slice.result.now (Some c.in-Some.form.now) c.in-Some.ensures (c.as_slice.ensures.value ∙ judged)

pub returns-in-None : goal.returns-in-None
returns-in-None c = λ pool judged. form_judged pool c.args.index c.as_slice.result.now None c.in-None.ensures (c.as_slice.ensures.value ∙ judged)
