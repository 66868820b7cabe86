use Rattle.std.specs.Prelude.{◌+◌, List, length, refl}
use Rattle.std.proofs.Common.{sym, subst, arith}
use Rattle.std.proofs.lemmas.Bool.{ltb-true}
use Rattle.std.proofs.lemmas.Option.{slice_get_read}
use Rattle.machine_invokes.proofs.Refilled.{PutsLocals, puts_first, puts_next, puts_all}
use Rattle.machine_values.specs.declared.values.Local.{Local}
use Rattle.machine_invokes.proofs.undoing.put_locals.Goals as goal

pub loop-index-init : goal.loop-index-init
loop-index-init c = puts_first c.args.kept.now c.args.locals.now

pub loop-index-preserved : goal.loop-index-preserved
loop-index-preserved c =
    subst (λ (ls : List Local). PutsLocals c.args.kept.now ls c.args.locals.now (c.loop-index.index + 1)) (sym c.set.ensures)
    (puts_next c.args.kept.now c.loop-index.kept c.args.locals.now c.loop-index.index c.in-Some.local.now (let count = c.loop-index.invariant.count in omega arith)
    (slice_get_read c.args.locals.now (length c.args.locals.now) c.loop-index.index c.in-Some.local.now refl (ltb-true c.loop-index.index (length c.args.locals.now) (sym c.in-Some.ensures.lookup.0)) c.in-Some.ensures.lookup.1) c.loop-index.invariant)

pub returns-in-None : goal.returns-in-None
returns-in-None c len = absurd (let past = c.in-None.ensures.lookup.3 in let count = c.loop-index.invariant.count in omega (arith, len))

pub returns : goal.returns
returns c len = puts_all c.args.kept.now c.loop-index.kept c.args.locals.now c.loop-index.index (let count = c.loop-index.invariant.count in omega arith) c.loop-index.invariant len
