use Rattle.std.proofs.Common.{◌+◌, List, take, sym, subst}
use Rattle.std.proofs.lemmas.Result.{err_from_is_err_and}
use Rattle.weave_plan.specs.declared.parsing.Parsed.{Parsed}
use Rattle.weave_plan.specs.Plan.{files_of}
use Rattle.weave_plan.specs.Faults.{AreRefused}
use Rattle.weave_plan.proofs.Read.{AreRead, read_more, refused_at, err_of}
use Rattle.weave_plan.proofs.parsing.parsed_files.Goals as goal

pub returns-in_err-one-clause-refused : goal.returns-in_err-one-clause-refused
returns-in_err-one-clause-refused c =
    let p = err_from_is_err_and c.from_residual.result c.from_residual.ensures.1 in
    err_of (AreRefused (files_of c.args.files.now)) c.from_residual.result p.0 c.in_err-one.field-0.0 p.1 p.2
    (refused_at c.args.files.now c.loop-place.place c.index-files-place.result c.in_err-one.field-0.0 c.loop-place-test.true c.index-files-place.is c.loop-place.invariant.read c.in_err-one.ensures.fault)

pub loop-place-preserved : goal.loop-place-preserved
loop-place-preserved c =
    subst (λ (all : List Parsed). AreRead (files_of (take (c.loop-place.place + 1) c.args.files.now)) all) (sym c.in_ok-push.ensures.items)
    (read_more c.args.files.now c.loop-place.all.items c.loop-place.place c.index-files-place.result c.in_ok-one.one c.loop-place-test.true c.index-files-place.is c.loop-place.invariant c.in_ok-one.ensures.parsed)
