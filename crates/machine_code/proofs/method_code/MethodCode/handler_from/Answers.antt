use Rattle.std.proofs.Common.{sym, ◌∙◌}
use Rattle.std.specs.Option.{option_copied}
use Rattle.class_file.specs.declared.types.ExceptionEntry.{ExceptionEntry}
use Rattle.machine_code.specs.Views.{code_seen}
use Rattle.machine_code.proofs.Handled.{handled}
use Rattle.machine_code.proofs.method_code.MethodCode.handler_from.Goals as goal

pub returns-then-covers-clause-entries : goal.returns-then-covers-clause-entries
returns-then-covers-clause-entries c = λ method.
    let none : ExceptionEntry = record { start = 0; end = 0; handler = 0; catch_type = 0 } in
    handled method c.args.pc (code_seen c.args.self.now) c.as_slice-entries.result.now c.args.from c.loop-number.number none (option_copied c.catch_of.result) c.from.result
    c.as_slice-entries.ensures c.loop-number-test.true (sym c.covers.ensures ∙ c.if-covers.true) c.loop-number.invariant c.catch_of.ensures c.from.ensures
