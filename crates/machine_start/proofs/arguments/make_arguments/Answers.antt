use Rattle.std.proofs.Common.{◌+◌, List, [], sym, subst, arith, take}
use Rattle.std.specs.Prelude.{map}
use Rattle.std.proofs.lemmas.List.{take_all}
use Rattle.machine_values.specs.declared.script.EntryArg.{EntryArg}
use Rattle.machine_start.specs.Arguments.{argument_of, MakesValues}
use Rattle.machine_start.proofs.Made.{none_made, next_made}
use Rattle.machine_start.proofs.arguments.make_arguments.Goals as goal

pub loop-arg-init : goal.loop-arg-init
loop-arg-init c = subst (MakesValues c.args.world.now c.args.heap.now [] c.args.heap.now) (sym c.new-values.ensures) (none_made c.args.world.now c.args.heap.now)

pub loop-arg-preserved : goal.loop-arg-preserved
loop-arg-preserved c =
    let k = c.args.world.now in
    let i = c.loop-arg.arg-index in
    let arg = c.arg-item.result in
    subst (MakesValues k c.args.heap.now (map argument_of (take (i + 1) c.args.args.now)) c.make_argument.new.heap) (sym c.in_ok-push.ensures.ok)
    (next_made k c.args.heap.now c.loop-arg.heap c.make_argument.new.heap argument_of c.args.args.now i arg arg c.loop-arg.values c.in_ok-value.value c.loop-arg-test.true c.arg-item.is c.loop-arg.invariant c.in_ok-value.ensures)

pub returns : goal.returns
returns c =
    subst (λ (xs : List EntryArg). MakesValues c.args.world.now c.args.heap.now (map argument_of xs) c.loop-arg.heap c.loop-arg.values) (take_all c.loop-arg.arg-index c.args.args.now (omega arith)) c.loop-arg.invariant
