use Rattle.std.specs.Prelude.{◌-◌, refl}
use Rattle.std.proofs.Common.{arith, subst}
use Rattle.std.proofs.lemmas.Option.{slice_get_read}
use Rattle.machine_frames.specs.declared.effect.Effect.{Effect}
use Rattle.machine_frames.specs.Undoing.{Undoes}
use Rattle.machine_basics.proofs.Restored.{set_back}
use Rattle.machine_basics.proofs.performing.restore_running.Goals as goal

pub returns-in-Ask : goal.returns-in-Ask
returns-in-Ask c =
    let old = c.args.state.now in
    let top = c.len-top.result - 1 in
    let x = c.index_mut.result.now in
    record {
      same = refl;
      frames = λ rest before after at undone fails. set_back old.frames.items rest before after x c.restore.new.frame top c.in-Ask.request at
          (slice_get_read old.frames.items c.len-top.result top x (omega (arith, old.frames.ok.0)) (omega arith) c.index_mut.ensures.value) (omega (arith, old.frames.ok.0, c.requires))
          (subst (λ (e : Effect). Undoes before after e) c.in-Ask.is undone) c.restore.ensures;
    }
