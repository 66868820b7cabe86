use Rattle.std.specs.Prelude.{◌≡◌, ◌-◌, ◌+◌, ◌++◌, ◌∷◌, [], ℕ, Option, Some, length, reverse, slice_get, MatchOption, IfSome}
use Rattle.std.proofs.Common.{arith, subst}
use Rattle.std.proofs.lemmas.Option.{slice_get_read}
use Rattle.machine_frames.specs.declared.calls.Call.{Call}
use Rattle.machine_frames.specs.Calls.{CallsOn, CallBreaks, AreSettledIn, IsKnownReceiver}
use Rattle.machine_frames.specs.Undoing.{receiver_value, IsTaken}
use Rattle.machine_invocations.proofs.Begun.{on_err}
use Rattle.machine_invokes.proofs.Taken.{unchanged, call_fails, takes_on}
use Rattle.machine_invokes.proofs.taking.take_on.Goals as goal

pub returns-in_err-call-clause-err : goal.returns-in_err-call-clause-err
returns-in_err-call-clause-err c =
    let old = c.args.state.now in
    let top : ℕ = c.len-top.result - 1 in
    let f = c.index_mut.result.now in
    let last : top + 1 ≡ length old.frames.items = omega (arith, old.frames.ok.0, c.requires) in
    let there : slice_get old.frames.items top ≡ Some f = slice_get_read old.frames.items c.len-top.result top f (omega (arith, old.frames.ok.0)) (omega arith) c.index_mut.ensures.value in
    on_err c.from_residual.result (unchanged old top f c.call_on.new.frame last there c.in_err-call.ensures.err)

pub returns-in_default-clause-taken : goal.returns-in_default-clause-taken
returns-in_default-clause-taken c =
    let old = c.args.state.now in
    let top : ℕ = c.len-top.result - 1 in
    let f = c.index_mut.result.now in
    let p = c.call_on.new.frame in
    let kinds = c.args.kinds.now in
    let last : top + 1 ≡ length old.frames.items = omega (arith, old.frames.ok.0, c.requires) in
    let there : slice_get old.frames.items top ≡ Some f = slice_get_read old.frames.items c.len-top.result top f (omega (arith, old.frames.ok.0)) (omega arith) c.index_mut.ensures.value in
    call_fails old top f p last there c.call_on.ensures.rest kinds
    (subst (λ (o : Option (Call)). MatchOption o (CallBreaks kinds f) (λ x. CallsOn kinds f x.receiver x.arguments.items p)) c.in_default.is c.in_ok-call.ensures.taken)

pub returns-clause-taken : goal.returns-clause-taken
returns-clause-taken c =
    let old = c.args.state.now in
    let top : ℕ = c.len-top.result - 1 in
    let f = c.index_mut.result.now in
    let p = c.call_on.new.frame in
    let kinds = c.args.kinds.now in
    let last : top + 1 ≡ length old.frames.items = omega (arith, old.frames.ok.0, c.requires) in
    let there : slice_get old.frames.items top ≡ Some f = slice_get_read old.frames.items c.len-top.result top f (omega (arith, old.frames.ok.0)) (omega arith) c.index_mut.ensures.value in
    takes_on old top f p last there c.call_on.ensures.rest c.call_on.ensures.room c.call_on.ensures.within kinds c.in-Some.call.receiver c.in-Some.call.arguments.items
    (subst (λ (o : Option (Call)). MatchOption o (CallBreaks kinds f) (λ x. CallsOn kinds f x.receiver x.arguments.items p)) c.in-Some.is c.in_ok-call.ensures.taken)
    (subst (λ (o : Option (Call)). IfSome o (λ x. AreSettledIn f.operands x.arguments.items)) c.in-Some.is c.in_ok-call.ensures.settled)
    (subst (λ (o : Option (Call)). IfSome o (λ x. IsKnownReceiver f.operands x.receiver)) c.in-Some.is c.in_ok-call.ensures.known)
    (subst (λ (o : Option (Call)). IfSome o (λ x. IsTaken f (reverse x.arguments.items ++ receiver_value x.receiver ∷ []) p)) c.in-Some.is c.in_ok-call.ensures.popped)
