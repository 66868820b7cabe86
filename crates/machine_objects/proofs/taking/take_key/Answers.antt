use Rattle.machine_objects.proofs.Taken.{key_taken}
use Rattle.machine_objects.proofs.taking.take_key.Goals as goal

pub returns-clause-taken : goal.returns-clause-taken
returns-clause-taken c =
    key_taken c.args.state.now c.in-Some.top c.index_mut.result.now c.in-Some.ensures.top c.index_mut.ensures.value c.switch.new.frame c.switch.result c.switch.ensures.rest c.switch.ensures.room c.switch.ensures.taken c.switch.ensures.within
