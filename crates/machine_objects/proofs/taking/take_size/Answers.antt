use Rattle.machine_objects.proofs.Taken.{size_taken}
use Rattle.machine_objects.proofs.taking.take_size.Goals as goal

pub returns-clause-taken : goal.returns-clause-taken
returns-clause-taken c =
    size_taken c.args.state.now c.in-Some.top c.index_mut.result.now c.in-Some.ensures.top c.index_mut.ensures.value c.pop_size.new.frame c.pop_size.result c.pop_size.ensures.taken c.pop_size.ensures.popped c.pop_size.ensures.within
