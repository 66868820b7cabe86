use Rattle.std.proofs.Common.{sym, subst}
use Rattle.std.proofs.lemmas.Result.{IfOk-weaker, on_err_weaker}
use Rattle.machine_rules.specs.declared.work.Work.{Work}
use Rattle.machine_works.specs.Finishing.{Finishes, StaysAtThrow}
use Rattle.machine_works.proofs.Finished.{thrown_there, called_there, finishes_results, finishes_throws, finishes_calls, finishes_loads}
use Rattle.machine_works.proofs.Kept.{on_equal, on_same, on_any}
use Rattle.machine_works.proofs.finishing.finish_work.Goals as goal

pub raise-requires-clause-class : goal.raise-requires-clause-class
raise-requires-clause-class c = thrown_there c.args.world.now c.args.state.now c.args.work c.in-Throws.x c.in-Throws.is c.requires.runnable c.requires.there

pub call_within-requires-clause-method : goal.call_within-requires-clause-method
call_within-requires-clause-method c = called_there c.args.world.now c.args.state.now c.args.work c.in-Calls.method c.in-Calls.object c.in-Calls.wait c.in-Calls.is c.requires.there

pub returns-in-Results-clause-moves : goal.returns-in-Results-clause-moves
returns-in-Results-clause-moves c =
    let k = c.args.world.now in
    let old = c.args.state.now in
    subst (Finishes k old c.end_call.new.state c.end_call.result c.args.super_call) (sym c.in-Results.is)
    (finishes_results k old c.end_call.new.state c.end_call.result c.args.super_call c.in-Results.said c.in-Results.value c.end_call.ensures.moves)

pub returns-in-Throws-clause-moves : goal.returns-in-Throws-clause-moves
returns-in-Throws-clause-moves c =
    let k = c.args.world.now in
    let old = c.args.state.now in
    IfOk-weaker c.raise.result _ _
    (λ step moves. subst (Finishes k old c.raise.new.state step c.args.super_call) (sym c.in-Throws.is) (finishes_throws k old c.raise.new.state step c.args.super_call c.in-Throws.x moves)) c.raise.ensures.moves

pub returns-in-Throws-clause-err : goal.returns-in-Throws-clause-err
returns-in-Throws-clause-err c = on_equal c.args.world.now c.args.state.now c.raise.new.state c.raise.result c.raise.ensures.err

pub returns-in-Calls-clause-moves : goal.returns-in-Calls-clause-moves
returns-in-Calls-clause-moves c =
    let k = c.args.world.now in
    let old = c.args.state.now in
    IfOk-weaker c.call_within.result _ _
    (λ step moves. subst (Finishes k old c.call_within.new.state step c.args.super_call) (sym c.in-Calls.is)
    (finishes_calls k old c.call_within.new.state step c.args.super_call c.in-Calls.method c.in-Calls.object c.in-Calls.wait moves)) c.call_within.ensures.moves

pub returns-in-Loads-clause-moves : goal.returns-in-Loads-clause-moves
returns-in-Loads-clause-moves c =
    let k = c.args.world.now in
    let old = c.args.state.now in
    IfOk-weaker c.load_class.result _ _ (λ step moves.
    subst (Finishes k old c.load_class.new.state step c.args.super_call) (sym c.in-Loads.is) (finishes_loads k old c.load_class.new.state step c.args.super_call c.in-Loads.class moves)) c.load_class.ensures.moves

pub returns-in-Throws-clause-thrown : goal.returns-in-Throws-clause-thrown
returns-in-Throws-clause-thrown c = on_err_weaker c.raise.result (λ same. subst (λ (w : Work). StaysAtThrow w c.args.state.now c.raise.new.state) (sym c.in-Throws.is) same) c.raise.ensures.err

pub returns-in-Faults-clause-thrown : goal.returns-in-Faults-clause-thrown
returns-in-Faults-clause-thrown c = on_any c.fail.result (subst (λ (w : Work). StaysAtThrow w c.args.state.now c.fail.new.state) (sym c.in-Faults.is) tt)

pub returns-in-Calls-clause-thrown : goal.returns-in-Calls-clause-thrown
returns-in-Calls-clause-thrown c = on_any c.call_within.result (subst (λ (w : Work). StaysAtThrow w c.args.state.now c.call_within.new.state) (sym c.in-Calls.is) tt)

pub returns-in-Loads-clause-thrown : goal.returns-in-Loads-clause-thrown
returns-in-Loads-clause-thrown c = on_any c.load_class.result (subst (λ (w : Work). StaysAtThrow w c.args.state.now c.load_class.new.state) (sym c.in-Loads.is) tt)

pub returns-in-Throws-clause-same : goal.returns-in-Throws-clause-same
returns-in-Throws-clause-same c = on_same c.args.state.now c.raise.new.state c.raise.result c.raise.ensures.err

pub returns-in-Faults-clause-same : goal.returns-in-Faults-clause-same
returns-in-Faults-clause-same c = on_same c.args.state.now c.fail.new.state c.fail.result c.fail.ensures.err
