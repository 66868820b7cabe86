-- The rule is found among the methods of the class, and the rules agree with the heads.
use Rattle.boot_library.specs.Rows.{methods_of}
use Rattle.boot_library.proofs.Agreement.{rule_where_declared}
use Rattle.boot_library.proofs.Lookups.{rule_from, no_rule_from}
use Rattle.boot_library.proofs.lookup.library_rule.Goals as goal

pub returns-in_err-methods_of_class-clause-exact : goal.returns-in_err-methods_of_class-clause-exact
returns-in_err-methods_of_class-clause-exact c =
    no_rule_from (λ rows. methods_of rows.now) c.methods_of_class.result c.as_slice.result.now c.args.class.now c.args.method.now c.from_residual.result c.as_slice.ensures c.methods_of_class.ensures c.in_err-methods_of_class.was c.from_residual.ensures

pub returns-in_err-methods_of_class-clause-agrees : goal.returns-in_err-methods_of_class-clause-agrees
returns-in_err-methods_of_class-clause-agrees c = rule_where_declared c.args.class.now c.args.method.now c.from_residual.result (returns-in_err-methods_of_class-clause-exact c)

pub returns-clause-exact : goal.returns-clause-exact
returns-clause-exact c =
    rule_from (λ rows. methods_of rows.now) c.methods_of_class.result c.in_ok-methods_of_class.field-0 c.as_slice.result.now c.args.class.now c.args.method.now c.find_rule.result c.as_slice.ensures c.methods_of_class.ensures c.in_ok-methods_of_class.was c.find_rule.ensures

pub returns-clause-agrees : goal.returns-clause-agrees
returns-clause-agrees c = rule_where_declared c.args.class.now c.args.method.now c.find_rule.result (returns-clause-exact c)
