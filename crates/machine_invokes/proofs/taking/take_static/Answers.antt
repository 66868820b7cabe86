use Rattle.std.specs.Prelude.{◌≡◌, ◌-◌, ◌+◌, ℕ, Option, Some, length, reverse, slice_get, MatchOption, IfSome}
use Rattle.std.proofs.Common.{arith, subst, Vec, Global}
use Rattle.std.proofs.lemmas.Option.{slice_get_read}
use Rattle.machine_values.specs.declared.values.Value.{Value}
use Rattle.machine_frames.specs.Calls.{CallsStatic, StaticCallBreaks, AreSettledIn}
use Rattle.machine_frames.specs.Undoing.{IsTaken}
use Rattle.machine_invocations.proofs.Begun.{on_err}
use Rattle.machine_invokes.proofs.Taken.{unchanged, static_fails, takes_static}
use Rattle.machine_invokes.proofs.taking.take_static.Goals as goal

pub returns-in_err-arguments-clause-err : goal.returns-in_err-arguments-clause-err
returns-in_err-arguments-clause-err c =
    let old = c.args.state.now in
    let top : ℕ = c.len-top.result - 1 in
    let f = c.index_mut.result.now in
    let last : top + 1 ≡ length old.frames.items = omega (arith, old.frames.ok.0, c.requires) in
    let there : slice_get old.frames.items top ≡ Some f = slice_get_read old.frames.items c.len-top.result top f (omega (arith, old.frames.ok.0)) (omega arith) c.index_mut.ensures.value in
    on_err c.from_residual.result (unchanged old top f c.call_static.new.frame last there c.in_err-arguments.ensures.err)

pub returns-in_default-clause-taken : goal.returns-in_default-clause-taken
returns-in_default-clause-taken c =
    let old = c.args.state.now in
    let top : ℕ = c.len-top.result - 1 in
    let f = c.index_mut.result.now in
    let p = c.call_static.new.frame in
    let kinds = c.args.kinds.now in
    let last : top + 1 ≡ length old.frames.items = omega (arith, old.frames.ok.0, c.requires) in
    let there : slice_get old.frames.items top ≡ Some f = slice_get_read old.frames.items c.len-top.result top f (omega (arith, old.frames.ok.0)) (omega arith) c.index_mut.ensures.value in
    static_fails old top f p last there c.call_static.ensures.rest kinds
    (subst (λ (o : Option (Vec Value Global)). MatchOption o (StaticCallBreaks kinds f) (λ x. CallsStatic kinds f x.items p)) c.in_default.is c.in_ok-arguments.ensures.taken)

pub returns-clause-taken : goal.returns-clause-taken
returns-clause-taken c =
    let old = c.args.state.now in
    let top : ℕ = c.len-top.result - 1 in
    let f = c.index_mut.result.now in
    let p = c.call_static.new.frame in
    let kinds = c.args.kinds.now in
    let last : top + 1 ≡ length old.frames.items = omega (arith, old.frames.ok.0, c.requires) in
    let there : slice_get old.frames.items top ≡ Some f = slice_get_read old.frames.items c.len-top.result top f (omega (arith, old.frames.ok.0)) (omega arith) c.index_mut.ensures.value in
    takes_static old top f p last there c.call_static.ensures.rest c.call_static.ensures.room c.call_static.ensures.within kinds c.in-Some.arguments.items
    (subst (λ (o : Option (Vec Value Global)). MatchOption o (StaticCallBreaks kinds f) (λ x. CallsStatic kinds f x.items p)) c.in-Some.is c.in_ok-arguments.ensures.taken)
    (subst (λ (o : Option (Vec Value Global)). IfSome o (λ x. AreSettledIn f.operands x.items)) c.in-Some.is c.in_ok-arguments.ensures.settled)
    (subst (λ (o : Option (Vec Value Global)). IfSome o (λ x. IsTaken f (reverse x.items) p)) c.in-Some.is c.in_ok-arguments.ensures.popped)
