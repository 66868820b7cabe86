use Rattle.std.proofs.Common.{◌∙◌, sym, refl}
use Rattle.std.proofs.lemmas.Result.{err_from_is_err_and}
use Rattle.code_layout.proofs.taking.by_number.Goals as goal
use Rattle.code_layout.proofs.Taken.{astray_at, stray_at, whole_at}

pub returns : goal.returns
returns c =
    whole_at c.args.code.now c.as_slice.result.now c.as_slice-2.result.now c.as_slice-attributes.result.now c.args.steps.now c.args.numbers.now _ _ c.in_ok-targets.targets c.in_ok-entries.entries
    c.as_slice.ensures c.as_slice-2.ensures c.as_slice-attributes.ensures c.requires.are refl (c.from_vec.ensures ∙ c.in_ok-insns.ensures)
    (sym c.targets.view_is) c.in_ok-targets.ensures.found (sym c.entries-2.view_is) c.in_ok-entries.ensures.found c.in_ok-line_tables.ensures c.in_ok-variable_tables.ensures refl refl

pub returns-in_err-targets : goal.returns-in_err-targets
returns-in_err-targets c =
    let p = err_from_is_err_and c.from_residual.result c.from_residual.ensures.1 in
    rw (p.1, p.2) (astray_at c.args.code.now c.as_slice.result.now c.args.steps.now c.args.numbers.now _ c.as_slice.ensures c.requires.are c.in_err-targets.ensures.fault)

pub returns-in_err-entries : goal.returns-in_err-entries
returns-in_err-entries c =
    let p = err_from_is_err_and c.from_residual-in_err-entries.result c.from_residual-in_err-entries.ensures.1 in
    rw (p.1, p.2) (stray_at c.args.code.now c.as_slice.result.now c.as_slice-2.result.now c.args.steps.now c.args.numbers.now _ c.in_ok-targets.targets _ c.as_slice.ensures c.as_slice-2.ensures c.requires.are refl c.in_ok-targets.ensures.found c.in_err-entries.ensures.fault)
