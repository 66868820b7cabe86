use Rattle.std.proofs.Common.{◌≡◌, refl, ap, ◌∙◌, subst, length, arith}
use Rattle.std.specs.Prelude.{List, Bool, not, ◌==◌, vec_len}
use Rattle.machine_values.specs.declared.state.MachineState.{MachineState}
use Rattle.machine_invocations.specs.Initialising.{ArePending}
use Rattle.machine_invocations.proofs.Begun.{keeps_same, formed_same, on_err, begins, begins_formed, none_fresh}
use Rattle.machine_invocations.proofs.initialisers.begin.Goals as goal

pub returns-in_err-fresh-clause-err : goal.returns-in_err-fresh-clause-err
returns-in_err-fresh-clause-err c = on_err c.from_residual.result (keeps_same c.args.world.now c.args.state.now c.args.state.now refl refl)

pub returns-in_err-put_frames-clause-formed : goal.returns-in_err-put_frames-clause-formed
returns-in_err-put_frames-clause-formed c =
    let new : MachineState = record c.args.state.now { frames = c.put_frames.new.frames } in
    formed_same c.args.world.now c.args.state.now new refl c.in_err-put_frames.ensures.err c.requires.formed

pub returns-in_err-put_frames-clause-err : goal.returns-in_err-put_frames-clause-err
returns-in_err-put_frames-clause-err c =
    let new : MachineState = record c.args.state.now { frames = c.put_frames.new.frames } in
    on_err c.from_residual-in_err-put_frames.result (keeps_same c.args.world.now c.args.state.now new refl c.in_err-put_frames.ensures.err)

pub returns-clause-begun : goal.returns-clause-begun
returns-clause-begun c =
    let k = c.args.world.now in
    let old = c.args.state.now in
    let new : MachineState = record old { frames = c.put_frames.new.frames; begun = c.mark.new.begun } in
    let fresh = c.in_ok-fresh.fresh in
    let pends = subst (λ (begun : List Bool). ArePending k begun c.args.class.0 fresh.items) c.as_slice.ensures c.in_ok-fresh.ensures in
    begins k old new fresh.items c.mark.new.begun c.args.class.0 c.requires.class pends c.in_ok-put_frames.ensures.ok c.mark.ensures.marked new (not c.is_empty-some.result) refl
    (ap not (c.is_empty-some.ensures ∙ ap (λ n. n == 0) (let n : vec_len fresh ≡ length fresh.items = omega (arith, fresh.ok.0) in n)))

pub returns-clause-formed : goal.returns-clause-formed
returns-clause-formed c =
    let k = c.args.world.now in
    let old = c.args.state.now in
    let new : MachineState = record old { frames = c.put_frames.new.frames; begun = c.mark.new.begun } in
    let fresh = c.in_ok-fresh.fresh in
    let pends = subst (λ (begun : List Bool). ArePending k begun c.args.class.0 fresh.items) c.as_slice.ensures c.in_ok-fresh.ensures in
    begins_formed k old new fresh.items c.mark.new.begun c.args.class.0 c.requires.class pends c.in_ok-put_frames.ensures.ok c.mark.ensures.marked (c.mark.ensures.len ∙ c.requires.formed.begun) c.requires.formed

pub returns-clause-added : goal.returns-clause-added
returns-clause-added c =
    let fresh = c.in_ok-fresh.fresh in
    record {
      own = fresh.items;
      frames = c.in_ok-put_frames.ensures.ok;
      none = none_fresh fresh.items (not c.is_empty-some.result) (ap not (c.is_empty-some.ensures ∙ ap (λ n. n == 0) (let n : vec_len fresh ≡ length fresh.items = omega (arith, fresh.ok.0) in n)));
      same = refl;
    }

pub returns-in_err-fresh-clause-same : goal.returns-in_err-fresh-clause-same
returns-in_err-fresh-clause-same c = on_err c.from_residual.result (record { rest = refl; frames = refl })

pub returns-in_err-put_frames-clause-same : goal.returns-in_err-put_frames-clause-same
returns-in_err-put_frames-clause-same c = on_err c.from_residual-in_err-put_frames.result (record { rest = refl; frames = c.in_err-put_frames.ensures.err })
