use Rattle.std.proofs.Common.{sym, ◌∙◌}
use Rattle.aj_names.proofs.Characters.{class_found, class_again}
use Rattle.aj_names.proofs.names.is_class_name.Goals as goal

pub returns : goal.returns
returns c = (λ h. class_found c.args.bytes.now (sym c.is_name.ensures ∙ h), λ is. c.is_name.ensures ∙ class_again c.args.bytes.now is)
