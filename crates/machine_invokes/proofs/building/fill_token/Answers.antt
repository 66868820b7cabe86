use Rattle.std.specs.Prelude.{◌≡◌, length, reverse, slice_get, Some, refl}
use Rattle.std.proofs.Common.{sym, ◌∙◌, ap, arith}
use Rattle.std.proofs.lemmas.Option.{slice_get_read, same_Some}
use Rattle.machine_values.specs.declared.frames.Frame.{Frame}
use Rattle.machine_invokes.proofs.Filling.{fills_frame, filled_formed}
use Rattle.machine_invokes.proofs.building.fill_token.Goals as goal

pub returns-clause-filled : goal.returns-clause-filled
returns-clause-filled c =
    let old = c.args.state.now in
    let f = c.index-frame.result.now in
    let g = c.index_mut.result.now in
    let there : slice_get old.frames.items c.args.top ≡ Some f = slice_get_read old.frames.items (length old.frames.items) c.args.top f refl (omega (arith, c.requires.top)) c.index-frame.ensures in
    let at_end : slice_get old.frames.items c.args.top ≡ Some g = slice_get_read old.frames.items (length old.frames.items) c.args.top g refl (omega (arith, c.requires.top)) c.index_mut.ensures.value in
    let same : g ≡ f = same_Some g f (sym at_end ∙ there) in
    record {
      added = c.in_ok-at.ensures.added;
      same = refl;
      frames = fills_frame old _ c.args.top g c.fill_in.new.frame c.requires.top at_end refl c.args.number c.in_ok-at.at c.in_ok-operands.operands c.in_ok-locals.locals
          (record { rest = c.fill_in.ensures.rest; room = c.fill_in.ensures.room; operands = c.fill_in.ensures.operands; locals = c.fill_in.ensures.locals; within = c.fill_in.ensures.within })
          (ap (λ (h : Frame). h.operands.values) same ∙ c.as_slice.ensures ∙ ap reverse (sym c.in_ok-operands.ensures))
          (ap (λ (h : Frame). h.locals) same ∙ sym c.as_slice-2.ensures ∙ sym c.in_ok-locals.ensures);
    }

pub returns-clause-formed : goal.returns-clause-formed
returns-clause-formed c formed =
    let old = c.args.state.now in
    let g = c.index_mut.result.now in
    let at_end : slice_get old.frames.items c.args.top ≡ Some g = slice_get_read old.frames.items (length old.frames.items) c.args.top g refl (omega (arith, c.requires.top)) c.index_mut.ensures.value in
    filled_formed old _ c.args.top g c.fill_in.new.frame c.requires.top at_end refl c.args.world.now (ap (λ (h : Frame). h.method) c.fill_in.ensures.rest) refl refl refl formed
