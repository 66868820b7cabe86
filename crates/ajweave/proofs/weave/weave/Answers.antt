use Rattle.std.proofs.Common.{◌∙◌, sym, subst, List}
use Rattle.std.proofs.lemmas.Result.{err_from_is_err_and}
use Rattle.weave_plan.specs.declared.planning.NamedFile.{NamedFile}
use Rattle.weave_plan.specs.Plan.{IsPlan, files_of}
use Rattle.ajweave.specs.Words.{Folders}
use Rattle.ajweave.specs.Steps.{Ends}
use Rattle.jp_model.specs.Input.{is_input}
use Rattle.ajweave.proofs.Reading.{listed-held, inputs-under, IsCut-from_reading}
use Rattle.ajweave.proofs.Weaving.{Ended, err_at, sizes_end, refusal_ends, writing_ends, IsInput, IsWhole-seen}
use Rattle.ajweave.proofs.weave.weave.Goals as goal

pub read_inputs-requires-clause-held : goal.read_inputs-requires-clause-held
read_inputs-requires-clause-held g c =
    listed-held c.args.input.now (g.S.Shelf.held c.args.shelf.now) (g.S.Shelf.held c.listed.new.shelf) c.in_ok-names.names.items c.in_ok-names.ensures.kept c.in_ok-names.ensures.all

pub check_sizes-requires : goal.check_sizes-requires
check_sizes-requires g c = record {
  under = inputs-under is_input c.args.input.now c.in_ok-names.names.items c.in_ok-inputs.inputs.items c.as_slice.result.now c.as_slice.ensures.value c.in_ok-inputs.ensures.named c.in_ok-names.ensures.under;
}

pub planned-requires : goal.planned-requires
planned-requires g c = record {
  under = inputs-under is_input c.args.input.now c.in_ok-names.names.items c.in_ok-inputs.inputs.items c.as_slice-2.result.now c.as_slice-2.ensures.value c.in_ok-inputs.ensures.named c.in_ok-names.ensures.under;
}

pub returns-in_err-check_sizes-clause-ended : goal.returns-in_err-check_sizes-clause-ended
returns-in_err-check_sizes-clause-ended g c =
    let folders : Folders = record { input = c.args.input.now; output = c.args.output.now } in
    let held = g.S.Shelf.held c.args.shelf.now in
    let now = g.S.Shelf.held c.read_inputs.new.shelf in
    let read = IsCut-from_reading is_input c.args.input.now held (g.S.Shelf.held c.listed.new.shelf) c.in_ok-names.names.items c.in_ok-inputs.inputs.items c.in_ok-names.ensures.kept c.in_ok-names.ensures.all c.in_ok-inputs.ensures.given in
    let input = subst (λ (xs : List NamedFile). IsInput c.args.input.now held xs) (sym c.as_slice.ensures.value) read in
    let p = err_from_is_err_and c.from_residual-in_err-check_sizes.result c.from_residual-in_err-check_sizes.ensures.1 in
    subst (λ (r : Ended). Ends r folders held now) (sym (p.1 ∙ err_at p.0 c.in_err-check_sizes.field-0.0 p.2))
    (sizes_end folders held now c.as_slice.result.now c.in_err-check_sizes.field-0.0 input c.in_err-check_sizes.ensures.stopped (c.in_ok-inputs.ensures.kept ∙ c.in_ok-names.ensures.kept))

pub returns-in_err-outputs-clause-ended : goal.returns-in_err-outputs-clause-ended
returns-in_err-outputs-clause-ended g c =
    let folders : Folders = record { input = c.args.input.now; output = c.args.output.now } in
    let held = g.S.Shelf.held c.args.shelf.now in
    let now = g.S.Shelf.held c.read_inputs.new.shelf in
    let read = IsCut-from_reading is_input c.args.input.now held (g.S.Shelf.held c.listed.new.shelf) c.in_ok-names.names.items c.in_ok-inputs.inputs.items c.in_ok-names.ensures.kept c.in_ok-names.ensures.all c.in_ok-inputs.ensures.given in
    let whole = IsWhole-seen c.args.input.now held c.in_ok-inputs.inputs.items c.as_slice.result.now c.as_slice-2.result.now c.as_slice.ensures.value c.as_slice-2.ensures.value read c.in_ok-check_sizes.ensures.small in
    let p = err_from_is_err_and c.from_residual-in_err-outputs.result c.from_residual-in_err-outputs.ensures.1 in
    subst (λ (r : Ended). Ends r folders held now) (sym (p.1 ∙ err_at p.0 c.in_err-outputs.field-0.0 p.2))
    (refusal_ends folders held now c.as_slice-2.result.now c.in_err-outputs.field-0.0 whole c.in_err-outputs.ensures.stopped (c.in_ok-inputs.ensures.kept ∙ c.in_ok-names.ensures.kept))

pub returns-clause-ended : goal.returns-clause-ended
returns-clause-ended g c =
    let folders : Folders = record { input = c.args.input.now; output = c.args.output.now } in
    let held = g.S.Shelf.held c.args.shelf.now in
    let read = IsCut-from_reading is_input c.args.input.now held (g.S.Shelf.held c.listed.new.shelf) c.in_ok-names.names.items c.in_ok-inputs.inputs.items c.in_ok-names.ensures.kept c.in_ok-names.ensures.all c.in_ok-inputs.ensures.given in
    let whole = IsWhole-seen c.args.input.now held c.in_ok-inputs.inputs.items c.as_slice.result.now c.as_slice-2.result.now c.as_slice.ensures.value c.as_slice-2.ensures.value read c.in_ok-check_sizes.ensures.small in
    let plan = subst (λ (xs : List NamedFile). IsPlan (files_of c.as_slice-2.result.now) c.args.output.now (files_of xs)) (sym c.as_slice-3.ensures.value) c.in_ok-outputs.ensures.planned in
    writing_ends folders held (g.S.Shelf.held c.read_inputs.new.shelf) (g.S.Shelf.held c.write_all.new.shelf) c.as_slice-2.result.now c.as_slice-3.result.now c.write_all.result whole plan c.in_ok-outputs.ensures.taken (c.in_ok-inputs.ensures.kept ∙ c.in_ok-names.ensures.kept) c.write_all.ensures.written c.write_all.ensures.some c.write_all.ensures.stopped
