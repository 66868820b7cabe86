use Rattle.std.proofs.Common.{◌∙◌, ap, refl}
use Rattle.std.proofs.lemmas.Result.{IfOk-weaker}
use Rattle.class_machine.specs.Classes.{member_text}
use Rattle.machine_natives.proofs.Shown.{method_named}
use Rattle.machine_start.proofs.entering.text_of.Goals as goal

pub returns : goal.returns
returns c =
    IfOk-weaker c.member_text.result _ _
    (λ text e callee sees.
    e c.declared-place.result.method.now.name.descriptor
    ∙ ap member_text (method_named c.args.world.now c.declared-place.result.class.0 c.declared-place.result.head.now c.declared-place.result.method.now callee _ _ _ (c.declared-place.ensures.seen callee sees) c.as_slice-class.ensures c.as_slice.ensures refl)) c.member_text.ensures
