use Rattle.std.proofs.Common.{sym, ◌∙◌}
use Rattle.aj_names.specs.declared.names.NameKind.TheVariants.{Member}
use Rattle.aj_names.proofs.Characters.{member_found, member_again}
use Rattle.aj_names.proofs.names.is_member_name.Goals as goal

pub returns : goal.returns
returns c = (λ h. member_found c.args.bytes.now (sym c.is_name.ensures ∙ h), λ is. c.is_name.ensures ∙ member_again Member c.args.bytes.now is)
