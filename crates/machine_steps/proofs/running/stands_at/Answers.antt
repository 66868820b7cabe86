use Rattle.std.proofs.Common.{rules, ◌≡◌, refl, sym, ◌∙◌, ap}
use Rattle.std.specs.Prelude.{Option, is_some, option_and_then}
use Rattle.class_machine.specs.ClassFiles.{MethodCode, line_at}
use Rattle.machine_code.specs.Views.{code_seen}
use Rattle.machine_steps.specs.Going.{line_stands}
use Rattle.machine_steps.proofs.running.stands_at.Goals as goal

pub returns-in-Some-clause-place : goal.returns-in-Some-clause-place
returns-in-Some-clause-place c m answers t f below is runs same =
    let found = c.in-Some.code in
    let tested : is_some c.operation_at.result ≡ c.is_some.result = search rules in
    sym (ap (λ (o : Option MethodCode). is_some (option_and_then (line_at c.args.pc) o)) (c.in-Some.ensures.code m answers t f below is runs same))
    ∙ line_stands (code_seen found) found c.args.pc c.operation_at.result refl c.operation_at.ensures ∙ tested

pub returns-in-None-clause-place : goal.returns-in-None-clause-place
returns-in-None-clause-place c m answers t f below is runs same =
    sym (ap (λ (o : Option MethodCode). is_some (option_and_then (line_at c.args.pc) o)) (c.in-None.ensures.code m answers t f below is runs same))
