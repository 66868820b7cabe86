use Rattle.std.proofs.Common.{sym, ◌∙◌}
use Rattle.machine_natives.proofs.Messages.{thrown_comes}
use Rattle.machine_natives.proofs.throwing.throw.Goals as goal

pub returns-in-Ok-clause-thrown : goal.returns-in-Ok-clause-thrown
returns-in-Ok-clause-thrown c =
    thrown_comes c.args.world.now c.requires.runnable c.args.heap.now c.make_exception.new.heap c.make_string.new.heap c.keep_message.new.heap c.args.class c.args.message.now c.in_ok-x.x c.in-Ok.text c.requires.class
    (sym c.count-count.ensures.contents ∙ c.count-count.ensures.count) c.in_ok-x.ensures.made c.in-Ok.ensures.made c.keep_message.ensures
