use Rattle.std.proofs.Common.{sym, subst, arith}
use Rattle.machine_values.specs.Things.{Things}
use Rattle.machine_natives.specs.Throwables.{KeepsMessage}
use Rattle.machine_natives.proofs.Messages.{never_far, never_short, message_kept}
use Rattle.machine_natives.proofs.throwing.keep_message.Goals as goal

pub returns-in_default : goal.returns-in_default
returns-in_default c =
    never_far c.args.world.now c.args.class c.args.heap.now c.args.x c.args.text c.requires.exception c.requires.text c.len-count.result c.len-count.ensures (omega (arith, c.len-count.type_inv)) c.in_default.ensures

pub returns-then-index-count : goal.returns-then-index-count
returns-then-index-count c =
    subst (λ (h : Things). KeepsMessage c.args.world.now c.args.class c.args.heap.now h c.args.x c.args.text) (sym c.store.ensures)
    (message_kept c.args.world.now c.args.class c.args.heap.now c.args.x c.args.text c.requires.exception c.requires.text c.in-Some.index c.in-Some.ensures (omega (arith, c.if-index-count.true, c.len-count.ensures)))

pub returns-else-index-count : goal.returns-else-index-count
returns-else-index-count c =
    never_short c.args.world.now c.args.class c.args.heap.now c.args.x c.args.text c.requires.exception c.requires.text c.in-Some.index c.in-Some.ensures c.len-count.result c.len-count.ensures (omega arith)
