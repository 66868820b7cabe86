use Rattle.std.proofs.Common.{sym, ◌∙◌, subst}
use Rattle.std.proofs.lemmas.Result.{on_ok_weaker}
use Rattle.machine_values.specs.Things.{Things}
use Rattle.machine_requests.specs.Objects.{AreFilled}
use Rattle.machine_rules.specs.Finishing.{Sets}
use Rattle.machine_rules.proofs.Buffers.{set_made, set_fixed}
use Rattle.machine_rules.proofs.Filling.{text_changed}
use Rattle.machine_rules.proofs.finishing.fill.Goals as goal

pub returns-then-is_made-clause-ok : goal.returns-then-is_made-clause-ok
returns-then-is_made-clause-ok c =
    let things = c.args.heap.now in
    on_ok_weaker c.set_text.result (λ e. subst (Sets things c.args.buffer c.args.units.now) (sym e) (set_made things c.args.buffer c.args.units.now c.requires.known (sym c.is_made.ensures ∙ c.if-is_made.true))) c.set_text.ensures.ok

pub returns-else-is_made-clause-ok : goal.returns-else-is_made-clause-ok
returns-else-is_made-clause-ok c = set_fixed c.args.heap.now c.args.buffer c.args.units.now c.requires.known (sym c.is_made.ensures ∙ c.if-is_made.false)

pub returns-then-is_made-clause-filled : goal.returns-then-is_made-clause-filled
returns-then-is_made-clause-filled c =
    on_ok_weaker c.set_text.result (λ e s filled. subst (λ (after : Things). AreFilled after s) (sym e) (text_changed c.args.heap.now c.args.buffer _ c.requires.text s filled)) c.set_text.ensures.ok
