use Rattle.std.proofs.Common.{◌++◌, List, [], ◌∷◌, sym, ap, ◌∙◌}
use Rattle.std.specs.Prelude.{Option, None, replicate}
use Rattle.std.proofs.lemmas.List.{append-nil, append_assoc}
use Rattle.machine_values.specs.declared.values.Value.{Value}
use Rattle.machine_start.proofs.Opened.{replicate_more}
use Rattle.machine_start.proofs.starting.push_unset.Goals as goal

pub loop-field-init : goal.loop-field-init
loop-field-init c = sym (append-nil c.args.statics.now)

pub loop-field-preserved : goal.loop-field-preserved
loop-field-preserved c =
    c.in_ok-push.ensures.ok ∙ ap (λ (os : List (Option Value)). os ++ None ∷ []) c.loop-field.invariant
    ∙ append_assoc c.args.statics.now (replicate c.loop-field._field None) (None ∷ []) ∙ ap (λ (os : List (Option Value)). c.args.statics.now ++ os) (sym (replicate_more c.loop-field._field None))
