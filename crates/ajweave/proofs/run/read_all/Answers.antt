use Rattle.std.proofs.Common.{◌∙◌, refl}
use Rattle.jp_model.specs.Input.{is_class_file}
use Rattle.ajweave.proofs.Outcomes.{WereRead-from}
use Rattle.ajweave.proofs.Reading.{listed-held, inputs-under, IsCut-from_reading}
use Rattle.ajweave.proofs.run.read_all.Goals as goal

pub read_inputs-requires-clause-held : goal.read_inputs-requires-clause-held
read_inputs-requires-clause-held g c =
    listed-held c.args.input.now (g.S.Shelf.held c.args.shelf.now) (g.S.Shelf.held c.listed.new.shelf) c.in_ok-names.names.items c.in_ok-names.ensures.kept c.in_ok-names.ensures.all

pub returns-clause-given : goal.returns-clause-given
returns-clause-given g c =
    let held = g.S.Shelf.held c.args.shelf.now in
    let cut = IsCut-from_reading is_class_file c.args.input.now held (g.S.Shelf.held c.listed.new.shelf) c.in_ok-names.names.items c.in_ok-inputs.inputs.items c.in_ok-names.ensures.kept c.in_ok-names.ensures.all c.in_ok-inputs.ensures.given in
    WereRead-from c.args.input.now _ held (g.S.Shelf.held c.read_inputs.new.shelf) c.in_ok-inputs.inputs.items c.in_ok-script.script (c.in_ok-inputs.ensures.kept ∙ c.in_ok-names.ensures.kept) cut c.in_ok-script.ensures.found

pub returns-clause-under : goal.returns-clause-under
returns-clause-under g c =
    inputs-under is_class_file c.args.input.now c.in_ok-names.names.items c.in_ok-inputs.inputs.items c.in_ok-inputs.inputs.items refl c.in_ok-inputs.ensures.named c.in_ok-names.ensures.under
