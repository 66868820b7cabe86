use Rattle.machine_steps.specs.Runs.{answers_left}
use Rattle.machine_natives.proofs.Entries.{entry_answers}
use Rattle.machine_natives.proofs.closing.call_entry.Goals as goal

pub returns-in-Ok-clause-answers : goal.returns-in-Ok-clause-answers
returns-in-Ok-clause-answers c =
    let responds = c.in_ok-response.ensures.responds in
    entry_answers c.args.world.now c.args.state.now c.respond.new.heap (answers_left c.args.script.now) (answers_left c.respond.new.script) c.args.method.0 c.in_ok-response.response c.in-Ok.ending c.args.event
    (responds.grows.more, responds.grows.names) responds c.in-Ok.ensures
