use Rattle.std.proofs.Common.{subst}
use Rattle.machine_values.specs.declared.frames.Frame.{Frame}
use Rattle.machine_frames.specs.Peeks.{TellsPut}
use Rattle.machine_statics.proofs.Tops.{last_frame}
use Rattle.machine_statics.proofs.operands.has_value.Goals as goal

pub returns-in-Some : goal.returns-in-Some
returns-in-Some c rest g split =
    subst (λ (x : Frame). TellsPut c.args.kind x c.can_put_static.result) (last_frame c.args.state.now.frames.items c.deref.result.now c.in-Some.frame.now c.deref.ensures.value c.in-Some.ensures.value rest g split) c.can_put_static.ensures
