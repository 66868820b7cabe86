use Rattle.std.proofs.Common.{sym, ◌∙◌}
use Rattle.std.proofs.lemmas.Result.{IfOk-weaker}
use Rattle.class_heads.specs.PlaceLaws.{place-named}
use Rattle.machine_natives.proofs.Fits.{thrown_same}
use Rattle.machine_natives.proofs.Library.{throwable_there}
use Rattle.machine_natives.proofs.fitting.thrown.Goals as goal

pub unreachable-requires : goal.unreachable-requires
unreachable-requires c = throwable_there c.args.world.now c.requires c.args.class.now (sym c.in_ok-is_throwable.ensures ∙ c.if-not-branch.false) (sym c.in_default.ensures.place)

pub returns-clause-comes : goal.returns-clause-comes
returns-clause-comes c =
    let heads = c.args.world.now.heads in
    IfOk-weaker c.throw.result _ _ (λ response comes.
    thrown_same c.args.world.now c.args.heap.now c.throw.new.heap c.args.class.now c.args.message.now c.in-Some.class.0 response (sym c.if-not-branch.false ∙ c.in_ok-is_throwable.ensures)
    (sym (place-named heads c.args.class.now c.in-Some.class.0 (sym c.in-Some.ensures.place))) comes) c.throw.ensures.thrown
