use Rattle.std.proofs.Common.{◌+◌, sym, subst, arith, get_or, pos}
use Rattle.std.proofs.lemmas.List.{get_or_default}
use Rattle.machine_values.specs.declared.values.Value.{Value}
use Rattle.machine_values.specs.declared.values.Value.TheVariants.{Int}
use Rattle.machine_values.specs.Stacks.{width}
use Rattle.machine_invocations.proofs.Filled.{Fills, fills_first, length_is, place_there, fills_next, fills_all}
use Rattle.machine_invocations.proofs.entering.call_locals.Goals as goal

pub loop-value-init : goal.loop-value-init
loop-value-init c = fills_first c.args.given.now c.args.count c.in_ok-locals.locals c.in_ok-locals.ensures

pub put_argument-at-requires : goal.put_argument-at-requires
put_argument-at-requires c =
    let given = c.args.given.now in
    let v : Value = get_or given c.loop-value.value-index (Int (pos 0)) in
    let there = place_there given c.args.count c.loop-value.value-index c.loop-value.at c.loop-value.locals v c.loop-value.invariant (omega arith) (get_or_default given c.loop-value.value-index (Int (pos 0)) v (omega arith)) c.requires in
    let len = length_is given c.args.count c.loop-value.value-index c.loop-value.at c.loop-value.locals c.loop-value.invariant c.requires in
    record { there = there; fits = omega arith }

pub loop-value-preserved : goal.loop-value-preserved
loop-value-preserved c =
    let given = c.args.given.now in
    let v : Value = get_or given c.loop-value.value-index (Int (pos 0)) in
    subst (λ n. Fills given c.args.count (c.loop-value.value-index + 1) n c.put_argument-at.new.locals) (sym c.put_argument-at.ensures.next)
    (subst (Fills given c.args.count (c.loop-value.value-index + 1) (c.loop-value.at + width v)) (sym c.put_argument-at.ensures.put)
    (fills_next given c.args.count c.loop-value.value-index c.loop-value.at c.loop-value.locals v c.loop-value.invariant (omega arith) (get_or_default given c.loop-value.value-index (Int (pos 0)) v (omega arith)) c.requires))

pub returns : goal.returns
returns c = fills_all c.args.given.now c.args.count c.loop-value.value-index c.loop-value.at c.loop-value.locals c.loop-value.invariant (omega arith)
