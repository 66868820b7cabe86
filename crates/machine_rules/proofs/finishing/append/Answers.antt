use Rattle.std.proofs.Common.{◌++◌, sym, ◌∙◌, ap, subst}
use Rattle.std.specs.Prelude.{is_some}
use Rattle.std.proofs.lemmas.Result.{on_ok_weaker}
use Rattle.machine_values.specs.Things.{Things}
use Rattle.machine_requests.specs.Objects.{AreFilled}
use Rattle.machine_rules.specs.Finishing.{Sets}
use Rattle.machine_rules.specs.Texts.{units_at}
use Rattle.machine_rules.proofs.Buffers.{made_text, set_fixed, append_made}
use Rattle.machine_rules.proofs.Filling.{text_changed}
use Rattle.machine_rules.proofs.finishing.append.Goals as goal

pub append-requires-clause-text : goal.append-requires-clause-text
append-requires-clause-text c = ap is_some (sym (made_text c.args.heap.now c.args.buffer.0 c.requires.known (sym c.is_made.ensures ∙ c.if-is_made.true))) ∙ c.requires.text

pub returns-then-is_made-clause-ok : goal.returns-then-is_made-clause-ok
returns-then-is_made-clause-ok c =
    let things = c.args.heap.now in
    on_ok_weaker c.append.result (λ e. subst (Sets things c.args.buffer (units_at things c.args.buffer.0 ++ c.args.units.now)) (sym e)
    (append_made things c.args.buffer c.args.units.now c.requires.known (sym c.is_made.ensures ∙ c.if-is_made.true))) c.append.ensures.ok

pub returns-else-is_made-clause-ok : goal.returns-else-is_made-clause-ok
returns-else-is_made-clause-ok c =
    let things = c.args.heap.now in
    set_fixed things c.args.buffer (units_at things c.args.buffer.0 ++ c.args.units.now) c.requires.known (sym c.is_made.ensures ∙ c.if-is_made.false)

pub returns-then-is_made-clause-filled : goal.returns-then-is_made-clause-filled
returns-then-is_made-clause-filled c =
    on_ok_weaker c.append.result (λ e s filled. subst (λ (after : Things). AreFilled after s) (sym e) (text_changed c.args.heap.now c.args.buffer _ c.requires.text s filled)) c.append.ensures.ok
