use Rattle.std.proofs.Common.{◌∙◌}
use Rattle.std.specs.Int.{w32}
use Rattle.std.proofs.lemmas.Int.{to_z-of_z}
use Rattle.class_rules.proofs.Numbered.{default_leads, default_strays}
use Rattle.class_rules.proofs.targets.table_switch_leads_well.Goals as goal

pub returns-then-is_start_from : goal.returns-then-is_start_from
returns-then-is_start_from c = λ insns marked.
    default_leads insns c.args.pc _ _ c.is_start_from.result (to_z-of_z w32 c.switch_default.result (record { sfits = c.switch_default.type_inv }) ∙ c.switch_default.ensures) (c.is_start_from.ensures insns marked)
    c.table_leads_well.result _ c.if-is_start_from.true (c.table_leads_well.ensures insns marked)

pub returns-else-is_start_from : goal.returns-else-is_start_from
returns-else-is_start_from c = λ insns marked.
    default_strays insns c.args.pc _ _ c.is_start_from.result (to_z-of_z w32 c.switch_default.result (record { sfits = c.switch_default.type_inv }) ∙ c.switch_default.ensures) (c.is_start_from.ensures insns marked)
    _ c.if-is_start_from.false
