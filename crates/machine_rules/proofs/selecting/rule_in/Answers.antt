use Rattle.std.proofs.Common.{ap, ◌∙◌}
use Rattle.std.specs.Prelude.{option_and_then}
use Rattle.boot_library.specs.Rules.{rule_of}
use Rattle.class_heads.specs.declared.types.MethodHead.{MethodHead}
use Rattle.machine_rules.proofs.selecting.rule_in.Goals as goal

pub returns-in-Some : goal.returns-in-Some
returns-in-Some c = c.library_rule.ensures.exact ∙ ap (option_and_then (λ (m : MethodHead). rule_of c.args.head.now.name m.name)) c.in-Some.ensures.value
