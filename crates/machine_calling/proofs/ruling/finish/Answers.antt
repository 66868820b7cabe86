use Rattle.std.proofs.Common.{sym, subst}
use Rattle.std.proofs.lemmas.Result.{IfOk-weaker}
use Rattle.machine_rules.specs.declared.work.Work.{Work}
use Rattle.machine_works.proofs.Finished.{thrown_there}
use Rattle.machine_calling.specs.Working.{FinishesOwn, RanWith, Undoes, Restores}
use Rattle.machine_calling.proofs.Worked.{thrown_known, loaded_type, loads_none, results_own}
use Rattle.machine_calling.proofs.Refused.{on_err_from, work_undone, work_restored}
use Rattle.machine_calling.proofs.ruling.finish.Goals as goal

pub throw-requires-clause-known : goal.throw-requires-clause-known
throw-requires-clause-known c = thrown_known c.args.world.now c.args.state.now c.args.work c.in-Throws.x c.in-Throws.is c.requires.there

pub throw-requires-clause-class : goal.throw-requires-clause-class
throw-requires-clause-class c = thrown_there c.args.world.now c.args.state.now c.args.work c.in-Throws.x c.in-Throws.is c.requires.runnable c.requires.there

pub load_class-requires-clause-class : goal.load_class-requires-clause-class
load_class-requires-clause-class c = loaded_type c.args.world.now c.args.state.now c.args.work c.in-Loads.class c.in-Loads.is c.requires.there

pub returns-in-Throws-clause-ran : goal.returns-in-Throws-clause-ran
returns-in-Throws-clause-ran c =
    let k = c.args.world.now in
    let old = c.args.state.now in
    IfOk-weaker c.throw.result _ _ (λ ran h. subst (λ (w : Work). RanWith k old c.throw.new.state c.args.super_call w ran) (sym c.in-Throws.is) (h c.args.super_call)) c.throw.ensures.ran

pub returns-in-Throws-clause-err : goal.returns-in-Throws-clause-err
returns-in-Throws-clause-err c =
    let k = c.args.world.now in
    on_err_from c.throw.result (λ h. subst (Undoes k c.args.count c.args.state.now c.throw.new.state) (sym c.in-Throws.is) h) c.throw.ensures.err

pub returns-in-Loads-clause-ran : goal.returns-in-Loads-clause-ran
returns-in-Loads-clause-ran c =
    let k = c.args.world.now in
    let old = c.args.state.now in
    IfOk-weaker c.load_class.result _ _ (λ ran h. subst (λ (w : Work). RanWith k old c.load_class.new.state c.args.super_call w ran) (sym c.in-Loads.is) (h c.args.super_call)) c.load_class.ensures.ran

pub returns-in-Loads-clause-err : goal.returns-in-Loads-clause-err
returns-in-Loads-clause-err c =
    let k = c.args.world.now in
    on_err_from c.load_class.result (λ h. subst (Undoes k c.args.count c.args.state.now c.load_class.new.state) (sym c.in-Loads.is) h) c.load_class.ensures.err

pub returns-in-Results-clause-ran : goal.returns-in-Results-clause-ran
returns-in-Results-clause-ran c =
    let k = c.args.world.now in
    let old = c.args.state.now in
    subst (λ (w : Work). FinishesOwn k old c.end_call-step.new.state c.args.super_call w c.end_call-step.result) (sym c.in-Results.is)
    (results_own k old c.end_call-step.new.state c.args.super_call c.end_call-step.result c.in-Results.said c.in-Results.value c.end_call-step.ensures.moves)

pub returns-in_default-clause-ran : goal.returns-in_default-clause-ran
returns-in_default-clause-ran c = IfOk-weaker c.finish_other.result _ _ (λ ran h. h (loads_none c.args.work (λ class is. c.in_default.not-Loads class is))) c.finish_other.ensures.ran

pub returns-in_default-clause-err : goal.returns-in_default-clause-err
returns-in_default-clause-err c =
    on_err_from c.finish_other.result
    (λ h. work_undone c.args.world.now c.args.count c.args.state.now c.finish_other.new.state c.args.work (λ said v is. c.in_default.not-Results said v is) (λ x is. c.in_default.not-Throws x is) h) c.finish_other.ensures.err

pub returns-in-Throws-clause-same : goal.returns-in-Throws-clause-same
returns-in-Throws-clause-same c = on_err_from c.throw.result (λ h. subst (Restores c.args.count c.args.state.now c.throw.new.state) (sym c.in-Throws.is) h) c.throw.ensures.err

pub returns-in-Loads-clause-same : goal.returns-in-Loads-clause-same
returns-in-Loads-clause-same c = on_err_from c.load_class.result (λ h. subst (Restores c.args.count c.args.state.now c.load_class.new.state) (sym c.in-Loads.is) h) c.load_class.ensures.same

pub returns-in_default-clause-same : goal.returns-in_default-clause-same
returns-in_default-clause-same c =
    on_err_from c.finish_other.result
    (λ h. work_restored c.args.count c.args.state.now c.finish_other.new.state c.args.work (λ said v is. c.in_default.not-Results said v is) (λ x is. c.in_default.not-Throws x is) h) c.finish_other.ensures.same
