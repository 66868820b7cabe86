use Rattle.std.proofs.Common.{◌∙◌}
use Rattle.std.proofs.lemmas.Result.{IfOk-weaker}
use Rattle.machine_rules.specs.Finishing.{text_of}
use Rattle.machine_rules.proofs.Finished.{finished_as_units}
use Rattle.machine_rules.proofs.finishing.finish_text.Goals as goal

pub returns-in_ok-units-in_default-clause-work : goal.returns-in_ok-units-in_default-clause-work
returns-in_ok-units-in_default-clause-work c =
    let k = c.args.world.now in
    let things = c.args.heap.now in
    IfOk-weaker c.finish_units.result _ _ (λ work done.
    finished_as_units k things c.args.to c.args.text (text_of things c.args.text) c.as_slice.result.now c.finish_units.new.heap work c.in_default.not-Gives (c.as_slice.ensures.value ∙ c.in_ok-units-in_default.ensures) done)
    c.finish_units.ensures.work
