use Rattle.std.proofs.Common.{sym, ap, ◌∙◌}
use Rattle.std.specs.Option.{option_copied}
use Rattle.machine_invocations.proofs.Seen.{given_rule, library_rule}
use Rattle.machine_invocations.proofs.methods.rule_of.Goals as goal

pub returns-in-Some : goal.returns-in-Some
returns-in-Some c m sees =
    given_rule c.args.world.now c.args.method.0 c.declared-place.result.class.0 c.declared-place.result.head.now c.declared-place.result.method.now m _ (c.declared-place.ensures.seen m sees) (sym c.file.ensures ∙ ap option_copied c.in-Some.is)

pub returns-in-None : goal.returns-in-None
returns-in-None c m sees =
    library_rule c.args.world.now c.args.method.0 c.declared-place.result.class.0 c.declared-place.result.head.now c.declared-place.result.method.now m c.library_rule.result (c.declared-place.ensures.seen m sees) (sym c.file.ensures ∙ ap option_copied c.in-None.is) c.library_rule.ensures.exact
