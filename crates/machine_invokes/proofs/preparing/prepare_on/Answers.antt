use Rattle.std.specs.Prelude.{◌≡◌, ℕ, ◌+◌, ◌-◌, ◌∷◌, ◌++◌, [], List, length, reverse, slice_get, Option, Some, MatchOption, refl}
use Rattle.std.proofs.Common.{sym, ◌∙◌, ap, subst, arith}
use Rattle.std.proofs.lemmas.Option.{slice_get_read}
use Rattle.class_file.specs.Lookup.{reference_seen}
use Rattle.class_machine.specs.Classes.{member_text}
use Rattle.class_machine.specs.Events as events
use Rattle.machine_values.specs.declared.observed.Ending.TheVariants as ending
use Rattle.machine_values.specs.declared.values.Value.{Value}
use Rattle.machine_values.specs.Observed.{machine_ending}
use Rattle.machine_frames.specs.declared.calls.Call.{Call}
use Rattle.machine_frames.specs.Calls.{kinds_for}
use Rattle.machine_frames.specs.Undoing.{receiver_value}
use Rattle.machine_steps.specs.Going.{formed_turned}
use Rattle.machine_invocations.specs.Keeping.{Keeps}
use Rattle.machine_invocations.proofs.Begun.{keeps_same, formed_same, on_err}
use Rattle.machine_invokes.specs.declared.callees.Callee.TheVariants.{Missing, Breaks, Null, On, Built}
use Rattle.machine_invokes.specs.Callees.{IsCallee}
use Rattle.machine_invokes.specs.Taking.{Takes, TakesOn, TakeBreaks}
use Rattle.machine_invokes.proofs.OnCalls.{call_breaks, on_ended, on_null, on_prepares, on_undone}
use Rattle.machine_invokes.proofs.Readied.{on_err_more, either_way, taken_method, callee_there, back_keeps, back_formed, token_readies}
use Rattle.machine_invokes.proofs.StaticCalls.{some_frames, taken_formed}
use Rattle.machine_invokes.proofs.Started.{if_ok}
use Rattle.machine_invokes.proofs.preparing.prepare_on.Goals as goal

pub returns-in_err-call-clause-formed : goal.returns-in_err-call-clause-formed
returns-in_err-call-clause-formed c =
    formed_same c.args.world.now c.args.state.now c.take_on.new.state c.in_err-call.ensures.err.same c.in_err-call.ensures.err.items c.requires.formed

pub returns-in_err-call-clause-err : goal.returns-in_err-call-clause-err
returns-in_err-call-clause-err c =
    on_err c.from_residual-in_err-call.result (keeps_same c.args.world.now c.args.state.now c.take_on.new.state c.in_err-call.ensures.err.same c.in_err-call.ensures.err.items)

pub returns-in_default-clause-ready : goal.returns-in_default-clause-ready
returns-in_default-clause-ready c =
    let k = c.args.world.now in
    let old = c.args.state.now in
    let mid = c.take_on.new.state in
    let kinds = c.as_slice.result.now in
    call_breaks k old mid mid c.args.special (reference_seen c.args.named) kinds (sym (c.as_slice.ensures.value ∙ c.in_ok-kinds.ensures))
    (subst (λ (o : Option Call). MatchOption o (TakeBreaks kinds old mid) (λ x. TakesOn kinds old x.receiver x.arguments.items mid)) c.in_default.is c.in_ok-call.ensures.taken)

pub returns-in_default-clause-formed : goal.returns-in_default-clause-formed
returns-in_default-clause-formed c =
    let old = c.args.state.now in
    let mid = c.take_on.new.state in
    let kinds = c.as_slice.result.now in
    let broken : TakeBreaks kinds old mid = subst (λ (o : Option Call). MatchOption o (TakeBreaks kinds old mid) (λ x. TakesOn kinds old x.receiver x.arguments.items mid)) c.in_default.is c.in_ok-call.ensures.taken in
    formed_turned c.args.world.now old mid broken.rest broken.before broken.after broken.turned broken.method c.requires.formed

pub overflow_sub-top : goal.overflow_sub-top
overflow_sub-top c =
    let k = c.args.world.now in
    let old = c.args.state.now in
    let mid = c.take_on.new.state in
    let r = reference_seen c.args.named in
    let kinds = c.as_slice.result.now in
    let receiver = c.in-Some.call.receiver in
    let given = c.in-Some.call.arguments.items in
    let vs : List Value = reverse given ++ receiver_value receiver ∷ [] in
    let takes : TakesOn kinds old receiver given mid = subst (λ (o : Option Call). MatchOption o (TakeBreaks kinds old mid) (λ x. TakesOn kinds old x.receiver x.arguments.items mid)) c.in-Some.is c.in_ok-call.ensures.taken in
    let taken : Takes old mid vs = takes.takes in
    let some = some_frames old mid vs taken in
    omega (arith, mid.frames.ok.0, some)

pub callee_of-requires-clause-frame : goal.callee_of-requires-clause-frame
callee_of-requires-clause-frame c =
    let k = c.args.world.now in
    let old = c.args.state.now in
    let mid = c.take_on.new.state in
    let r = reference_seen c.args.named in
    let kinds = c.as_slice.result.now in
    let receiver = c.in-Some.call.receiver in
    let given = c.in-Some.call.arguments.items in
    let vs : List Value = reverse given ++ receiver_value receiver ∷ [] in
    let takes : TakesOn kinds old receiver given mid = subst (λ (o : Option Call). MatchOption o (TakeBreaks kinds old mid) (λ x. TakesOn kinds old x.receiver x.arguments.items mid)) c.in-Some.is c.in_ok-call.ensures.taken in
    let taken : Takes old mid vs = takes.takes in
    let some = some_frames old mid vs taken in
    let top : ℕ = c.len-top.result - 1 in
    let last : top + 1 ≡ length mid.frames.items = omega (arith, mid.frames.ok.0, some) in
    let f = c.index.result.now in
    let there : slice_get mid.frames.items top ≡ Some f = slice_get_read mid.frames.items c.len-top.result top f (omega (arith, mid.frames.ok.0)) (omega (arith, some)) c.index.ensures in
    taken_method old mid vs taken top f last there k (taken_formed old mid vs taken k c.requires.formed)

pub returns-in-On-clause-ready : goal.returns-in-On-clause-ready
returns-in-On-clause-ready c =
    let k = c.args.world.now in
    let old = c.args.state.now in
    let mid = c.take_on.new.state in
    let r = reference_seen c.args.named in
    let kinds = c.as_slice.result.now in
    let receiver = c.in-Some.call.receiver in
    let given = c.in-Some.call.arguments.items in
    let vs : List Value = reverse given ++ receiver_value receiver ∷ [] in
    let takes : TakesOn kinds old receiver given mid = subst (λ (o : Option Call). MatchOption o (TakeBreaks kinds old mid) (λ x. TakesOn kinds old x.receiver x.arguments.items mid)) c.in-Some.is c.in_ok-call.ensures.taken in
    let taken : Takes old mid vs = takes.takes in
    let same : kinds_for r ≡ kinds = sym (c.as_slice.ensures.value ∙ c.in_ok-kinds.ensures) in
    let some = some_frames old mid vs taken in
    let top : ℕ = c.len-top.result - 1 in
    let last : top + 1 ≡ length mid.frames.items = omega (arith, mid.frames.ok.0, some) in
    let f = c.index.result.now in
    let there : slice_get mid.frames.items top ≡ Some f = slice_get_read mid.frames.items c.len-top.result top f (omega (arith, mid.frames.ok.0)) (omega (arith, some)) c.index.ensures in
    let callee = callee_there old mid vs taken top f last there k c.args.special r receiver given (On c.in-On.method c.in-On.at) c.callee_of.result c.in-On.is c.callee_of.ensures.called in
    λ mode on. (
      on_prepares k old mid c.args.special r kinds receiver given same takes c.in-On.method.0 c.in-On.at (subst (IsCallee k) c.in-On.is c.callee_of.ensures.method) callee _ refl refl refl (c.purpose_for.ensures r refl) mode on,
      on_undone k old mid c.args.special r kinds receiver given same takes c.in-On.method.0 c.in-On.at (subst (IsCallee k) c.in-On.is c.callee_of.ensures.method) callee _ refl refl refl,
    )

pub returns-in-On-clause-formed : goal.returns-in-On-clause-formed
returns-in-On-clause-formed c =
    let k = c.args.world.now in
    let old = c.args.state.now in
    let mid = c.take_on.new.state in
    let r = reference_seen c.args.named in
    let kinds = c.as_slice.result.now in
    let receiver = c.in-Some.call.receiver in
    let given = c.in-Some.call.arguments.items in
    let vs : List Value = reverse given ++ receiver_value receiver ∷ [] in
    let takes : TakesOn kinds old receiver given mid = subst (λ (o : Option Call). MatchOption o (TakeBreaks kinds old mid) (λ x. TakesOn kinds old x.receiver x.arguments.items mid)) c.in-Some.is c.in_ok-call.ensures.taken in
    let taken : Takes old mid vs = takes.takes in
    taken_formed old mid vs taken k c.requires.formed

pub build-requires-clause-top : goal.build-requires-clause-top
build-requires-clause-top c =
    let k = c.args.world.now in
    let old = c.args.state.now in
    let mid = c.take_on.new.state in
    let r = reference_seen c.args.named in
    let kinds = c.as_slice.result.now in
    let receiver = c.in-Some.call.receiver in
    let given = c.in-Some.call.arguments.items in
    let vs : List Value = reverse given ++ receiver_value receiver ∷ [] in
    let takes : TakesOn kinds old receiver given mid = subst (λ (o : Option Call). MatchOption o (TakeBreaks kinds old mid) (λ x. TakesOn kinds old x.receiver x.arguments.items mid)) c.in-Some.is c.in_ok-call.ensures.taken in
    let taken : Takes old mid vs = takes.takes in
    let some = some_frames old mid vs taken in
    let top : ℕ = c.len-top.result - 1 in
    let last : top + 1 ≡ length mid.frames.items = omega (arith, mid.frames.ok.0, some) in
    last

pub build-requires-clause-class : goal.build-requires-clause-class
build-requires-clause-class c =
    let k = c.args.world.now in
    let old = c.args.state.now in
    let mid = c.take_on.new.state in
    let r = reference_seen c.args.named in
    let kinds = c.as_slice.result.now in
    let receiver = c.in-Some.call.receiver in
    let given = c.in-Some.call.arguments.items in
    let vs : List Value = reverse given ++ receiver_value receiver ∷ [] in
    let takes : TakesOn kinds old receiver given mid = subst (λ (o : Option Call). MatchOption o (TakeBreaks kinds old mid) (λ x. TakesOn kinds old x.receiver x.arguments.items mid)) c.in-Some.is c.in_ok-call.ensures.taken in
    let taken : Takes old mid vs = takes.takes in
    let some = some_frames old mid vs taken in
    let top : ℕ = c.len-top.result - 1 in
    let last : top + 1 ≡ length mid.frames.items = omega (arith, mid.frames.ok.0, some) in
    let f = c.index.result.now in
    let there : slice_get mid.frames.items top ≡ Some f = slice_get_read mid.frames.items c.len-top.result top f (omega (arith, mid.frames.ok.0)) (omega (arith, some)) c.index.ensures in
    let callee = callee_there old mid vs taken top f last there k c.args.special r receiver given (Built c.in-Built.method c.in-Built.class c.in-Built.number) c.callee_of.result c.in-Built.is c.callee_of.ensures.called in
    callee.within

pub build-requires-clause-method : goal.build-requires-clause-method
build-requires-clause-method c = subst (IsCallee c.args.world.now) c.in-Built.is c.callee_of.ensures.method

pub returns-in-Built-clause-ready : goal.returns-in-Built-clause-ready
returns-in-Built-clause-ready c =
    let k = c.args.world.now in
    let old = c.args.state.now in
    let mid = c.take_on.new.state in
    let r = reference_seen c.args.named in
    let kinds = c.as_slice.result.now in
    let receiver = c.in-Some.call.receiver in
    let given = c.in-Some.call.arguments.items in
    let vs : List Value = reverse given ++ receiver_value receiver ∷ [] in
    let takes : TakesOn kinds old receiver given mid = subst (λ (o : Option Call). MatchOption o (TakeBreaks kinds old mid) (λ x. TakesOn kinds old x.receiver x.arguments.items mid)) c.in-Some.is c.in_ok-call.ensures.taken in
    let taken : Takes old mid vs = takes.takes in
    let same : kinds_for r ≡ kinds = sym (c.as_slice.ensures.value ∙ c.in_ok-kinds.ensures) in
    let some = some_frames old mid vs taken in
    let top : ℕ = c.len-top.result - 1 in
    let last : top + 1 ≡ length mid.frames.items = omega (arith, mid.frames.ok.0, some) in
    let f = c.index.result.now in
    let there : slice_get mid.frames.items top ≡ Some f = slice_get_read mid.frames.items c.len-top.result top f (omega (arith, mid.frames.ok.0)) (omega (arith, some)) c.index.ensures in
    let callee = callee_there old mid vs taken top f last there k c.args.special r receiver given (Built c.in-Built.method c.in-Built.class c.in-Built.number) c.callee_of.result c.in-Built.is c.callee_of.ensures.called in
    if_ok c.build.result _ _ (λ prepared by.
    token_readies k old mid c.build.new.state c.args.special r kinds given same c.in-Built.method c.in-Built.class c.in-Built.number (subst (IsCallee k) c.in-Built.is c.callee_of.ensures.method) receiver takes callee prepared by) c.build.ensures.built

pub returns-in-Built-clause-formed : goal.returns-in-Built-clause-formed
returns-in-Built-clause-formed c =
    let k = c.args.world.now in
    let old = c.args.state.now in
    let mid = c.take_on.new.state in
    let r = reference_seen c.args.named in
    let kinds = c.as_slice.result.now in
    let receiver = c.in-Some.call.receiver in
    let given = c.in-Some.call.arguments.items in
    let vs : List Value = reverse given ++ receiver_value receiver ∷ [] in
    let takes : TakesOn kinds old receiver given mid = subst (λ (o : Option Call). MatchOption o (TakeBreaks kinds old mid) (λ x. TakesOn kinds old x.receiver x.arguments.items mid)) c.in-Some.is c.in_ok-call.ensures.taken in
    let taken : Takes old mid vs = takes.takes in
    let some = some_frames old mid vs taken in
    let top : ℕ = c.len-top.result - 1 in
    let last : top + 1 ≡ length mid.frames.items = omega (arith, mid.frames.ok.0, some) in
    let were = taken_formed old mid vs taken k c.requires.formed in
    either_way c.build.result (λ ok. c.build.ensures.formed ok were) (λ puts. back_formed k old mid c.build.new.state vs vs taken top last refl puts c.requires.formed were) c.build.ensures.err

pub returns-in-Built-clause-err : goal.returns-in-Built-clause-err
returns-in-Built-clause-err c =
    let k = c.args.world.now in
    let old = c.args.state.now in
    let mid = c.take_on.new.state in
    let r = reference_seen c.args.named in
    let kinds = c.as_slice.result.now in
    let receiver = c.in-Some.call.receiver in
    let given = c.in-Some.call.arguments.items in
    let vs : List Value = reverse given ++ receiver_value receiver ∷ [] in
    let takes : TakesOn kinds old receiver given mid = subst (λ (o : Option Call). MatchOption o (TakeBreaks kinds old mid) (λ x. TakesOn kinds old x.receiver x.arguments.items mid)) c.in-Some.is c.in_ok-call.ensures.taken in
    let taken : Takes old mid vs = takes.takes in
    let some = some_frames old mid vs taken in
    let top : ℕ = c.len-top.result - 1 in
    let last : top + 1 ≡ length mid.frames.items = omega (arith, mid.frames.ok.0, some) in
    on_err_more c.build.result (λ puts. back_keeps k old mid c.build.new.state vs vs taken top last refl puts) c.build.ensures.err

pub returns-in-Breaks-clause-ready : goal.returns-in-Breaks-clause-ready
returns-in-Breaks-clause-ready c =
    let k = c.args.world.now in
    let old = c.args.state.now in
    let mid = c.take_on.new.state in
    let r = reference_seen c.args.named in
    let kinds = c.as_slice.result.now in
    let receiver = c.in-Some.call.receiver in
    let given = c.in-Some.call.arguments.items in
    let vs : List Value = reverse given ++ receiver_value receiver ∷ [] in
    let takes : TakesOn kinds old receiver given mid = subst (λ (o : Option Call). MatchOption o (TakeBreaks kinds old mid) (λ x. TakesOn kinds old x.receiver x.arguments.items mid)) c.in-Some.is c.in_ok-call.ensures.taken in
    let taken : Takes old mid vs = takes.takes in
    let same : kinds_for r ≡ kinds = sym (c.as_slice.ensures.value ∙ c.in_ok-kinds.ensures) in
    let some = some_frames old mid vs taken in
    let top : ℕ = c.len-top.result - 1 in
    let last : top + 1 ≡ length mid.frames.items = omega (arith, mid.frames.ok.0, some) in
    let f = c.index.result.now in
    let there : slice_get mid.frames.items top ≡ Some f = slice_get_read mid.frames.items c.len-top.result top f (omega (arith, mid.frames.ok.0)) (omega (arith, some)) c.index.ensures in
    let callee = callee_there old mid vs taken top f last there k c.args.special r receiver given Breaks c.callee_of.result c.in-Breaks.is c.callee_of.ensures.called in
    on_ended k old mid c.args.special r kinds receiver given same takes mid ending.Broken events.Broken refl callee

pub returns-in-Breaks-clause-formed : goal.returns-in-Breaks-clause-formed
returns-in-Breaks-clause-formed c =
    let k = c.args.world.now in
    let old = c.args.state.now in
    let mid = c.take_on.new.state in
    let r = reference_seen c.args.named in
    let kinds = c.as_slice.result.now in
    let receiver = c.in-Some.call.receiver in
    let given = c.in-Some.call.arguments.items in
    let vs : List Value = reverse given ++ receiver_value receiver ∷ [] in
    let takes : TakesOn kinds old receiver given mid = subst (λ (o : Option Call). MatchOption o (TakeBreaks kinds old mid) (λ x. TakesOn kinds old x.receiver x.arguments.items mid)) c.in-Some.is c.in_ok-call.ensures.taken in
    let taken : Takes old mid vs = takes.takes in
    taken_formed old mid vs taken k c.requires.formed

pub put_receiver_back-requires : goal.put_receiver_back-requires
put_receiver_back-requires c =
    let k = c.args.world.now in
    let old = c.args.state.now in
    let mid = c.take_on.new.state in
    let r = reference_seen c.args.named in
    let kinds = c.as_slice.result.now in
    let receiver = c.in-Some.call.receiver in
    let given = c.in-Some.call.arguments.items in
    let vs : List Value = reverse given ++ receiver_value receiver ∷ [] in
    let takes : TakesOn kinds old receiver given mid = subst (λ (o : Option Call). MatchOption o (TakeBreaks kinds old mid) (λ x. TakesOn kinds old x.receiver x.arguments.items mid)) c.in-Some.is c.in_ok-call.ensures.taken in
    let taken : Takes old mid vs = takes.takes in
    let some = some_frames old mid vs taken in
    let top : ℕ = c.len-top.result - 1 in
    let last : top + 1 ≡ length mid.frames.items = omega (arith, mid.frames.ok.0, some) in
    omega (arith, last)

pub returns-in_err-ending-in-Missing-clause-formed : goal.returns-in_err-ending-in-Missing-clause-formed
returns-in_err-ending-in-Missing-clause-formed c =
    let k = c.args.world.now in
    let old = c.args.state.now in
    let mid = c.take_on.new.state in
    let r = reference_seen c.args.named in
    let kinds = c.as_slice.result.now in
    let receiver = c.in-Some.call.receiver in
    let given = c.in-Some.call.arguments.items in
    let vs : List Value = reverse given ++ receiver_value receiver ∷ [] in
    let takes : TakesOn kinds old receiver given mid = subst (λ (o : Option Call). MatchOption o (TakeBreaks kinds old mid) (λ x. TakesOn kinds old x.receiver x.arguments.items mid)) c.in-Some.is c.in_ok-call.ensures.taken in
    let taken : Takes old mid vs = takes.takes in
    let some = some_frames old mid vs taken in
    let top : ℕ = c.len-top.result - 1 in
    let last : top + 1 ≡ length mid.frames.items = omega (arith, mid.frames.ok.0, some) in
    back_formed k old mid c.put_receiver_back.new.state vs vs taken top last refl c.put_receiver_back.ensures c.requires.formed (taken_formed old mid vs taken k c.requires.formed)

pub returns-in_err-ending-in-Missing-clause-err : goal.returns-in_err-ending-in-Missing-clause-err
returns-in_err-ending-in-Missing-clause-err c =
    let k = c.args.world.now in
    let old = c.args.state.now in
    let mid = c.take_on.new.state in
    let r = reference_seen c.args.named in
    let kinds = c.as_slice.result.now in
    let receiver = c.in-Some.call.receiver in
    let given = c.in-Some.call.arguments.items in
    let vs : List Value = reverse given ++ receiver_value receiver ∷ [] in
    let takes : TakesOn kinds old receiver given mid = subst (λ (o : Option Call). MatchOption o (TakeBreaks kinds old mid) (λ x. TakesOn kinds old x.receiver x.arguments.items mid)) c.in-Some.is c.in_ok-call.ensures.taken in
    let taken : Takes old mid vs = takes.takes in
    let some = some_frames old mid vs taken in
    let top : ℕ = c.len-top.result - 1 in
    let last : top + 1 ≡ length mid.frames.items = omega (arith, mid.frames.ok.0, some) in
    on_err c.from_residual-in_err-ending-in-Missing.result (back_keeps k old mid c.put_receiver_back.new.state vs vs taken top last refl c.put_receiver_back.ensures)

pub returns-in-Missing-clause-ready : goal.returns-in-Missing-clause-ready
returns-in-Missing-clause-ready c =
    let k = c.args.world.now in
    let old = c.args.state.now in
    let mid = c.take_on.new.state in
    let r = reference_seen c.args.named in
    let kinds = c.as_slice.result.now in
    let receiver = c.in-Some.call.receiver in
    let given = c.in-Some.call.arguments.items in
    let vs : List Value = reverse given ++ receiver_value receiver ∷ [] in
    let takes : TakesOn kinds old receiver given mid = subst (λ (o : Option Call). MatchOption o (TakeBreaks kinds old mid) (λ x. TakesOn kinds old x.receiver x.arguments.items mid)) c.in-Some.is c.in_ok-call.ensures.taken in
    let taken : Takes old mid vs = takes.takes in
    let same : kinds_for r ≡ kinds = sym (c.as_slice.ensures.value ∙ c.in_ok-kinds.ensures) in
    let some = some_frames old mid vs taken in
    let top : ℕ = c.len-top.result - 1 in
    let last : top + 1 ≡ length mid.frames.items = omega (arith, mid.frames.ok.0, some) in
    let f = c.index.result.now in
    let there : slice_get mid.frames.items top ≡ Some f = slice_get_read mid.frames.items c.len-top.result top f (omega (arith, mid.frames.ok.0)) (omega (arith, some)) c.index.ensures in
    let callee = callee_there old mid vs taken top f last there k c.args.special r receiver given Missing c.callee_of.result c.in-Missing.is c.callee_of.ensures.called in
    on_ended k old mid c.args.special r kinds receiver given same takes c.put_receiver_back.new.state c.in_ok-ending-in-Missing.ending (events.Unresolved (member_text r)) (ap machine_ending c.in_ok-ending-in-Missing.ensures) callee

pub returns-in-Missing-clause-formed : goal.returns-in-Missing-clause-formed
returns-in-Missing-clause-formed c =
    let k = c.args.world.now in
    let old = c.args.state.now in
    let mid = c.take_on.new.state in
    let r = reference_seen c.args.named in
    let kinds = c.as_slice.result.now in
    let receiver = c.in-Some.call.receiver in
    let given = c.in-Some.call.arguments.items in
    let vs : List Value = reverse given ++ receiver_value receiver ∷ [] in
    let takes : TakesOn kinds old receiver given mid = subst (λ (o : Option Call). MatchOption o (TakeBreaks kinds old mid) (λ x. TakesOn kinds old x.receiver x.arguments.items mid)) c.in-Some.is c.in_ok-call.ensures.taken in
    let taken : Takes old mid vs = takes.takes in
    let some = some_frames old mid vs taken in
    let top : ℕ = c.len-top.result - 1 in
    let last : top + 1 ≡ length mid.frames.items = omega (arith, mid.frames.ok.0, some) in
    back_formed k old mid c.put_receiver_back.new.state vs vs taken top last refl c.put_receiver_back.ensures c.requires.formed (taken_formed old mid vs taken k c.requires.formed)

pub put_receiver_back-requires-in-Null : goal.put_receiver_back-requires-in-Null
put_receiver_back-requires-in-Null c =
    let k = c.args.world.now in
    let old = c.args.state.now in
    let mid = c.take_on.new.state in
    let r = reference_seen c.args.named in
    let kinds = c.as_slice.result.now in
    let receiver = c.in-Some.call.receiver in
    let given = c.in-Some.call.arguments.items in
    let vs : List Value = reverse given ++ receiver_value receiver ∷ [] in
    let takes : TakesOn kinds old receiver given mid = subst (λ (o : Option Call). MatchOption o (TakeBreaks kinds old mid) (λ x. TakesOn kinds old x.receiver x.arguments.items mid)) c.in-Some.is c.in_ok-call.ensures.taken in
    let taken : Takes old mid vs = takes.takes in
    let some = some_frames old mid vs taken in
    let top : ℕ = c.len-top.result - 1 in
    let last : top + 1 ≡ length mid.frames.items = omega (arith, mid.frames.ok.0, some) in
    omega (arith, last)

pub fail-requires-clause-formed : goal.fail-requires-clause-formed
fail-requires-clause-formed c =
    let k = c.args.world.now in
    let old = c.args.state.now in
    let mid = c.take_on.new.state in
    let r = reference_seen c.args.named in
    let kinds = c.as_slice.result.now in
    let receiver = c.in-Some.call.receiver in
    let given = c.in-Some.call.arguments.items in
    let vs : List Value = reverse given ++ receiver_value receiver ∷ [] in
    let takes : TakesOn kinds old receiver given mid = subst (λ (o : Option Call). MatchOption o (TakeBreaks kinds old mid) (λ x. TakesOn kinds old x.receiver x.arguments.items mid)) c.in-Some.is c.in_ok-call.ensures.taken in
    let taken : Takes old mid vs = takes.takes in
    let some = some_frames old mid vs taken in
    let top : ℕ = c.len-top.result - 1 in
    let last : top + 1 ≡ length mid.frames.items = omega (arith, mid.frames.ok.0, some) in
    back_formed k old mid c.put_receiver_back-in-Null.new.state vs vs taken top last refl c.put_receiver_back-in-Null.ensures c.requires.formed (taken_formed old mid vs taken k c.requires.formed)

pub returns-in_err-step-in-Null-clause-err : goal.returns-in_err-step-in-Null-clause-err
returns-in_err-step-in-Null-clause-err c =
    let k = c.args.world.now in
    let old = c.args.state.now in
    let mid = c.take_on.new.state in
    let r = reference_seen c.args.named in
    let kinds = c.as_slice.result.now in
    let receiver = c.in-Some.call.receiver in
    let given = c.in-Some.call.arguments.items in
    let vs : List Value = reverse given ++ receiver_value receiver ∷ [] in
    let takes : TakesOn kinds old receiver given mid = subst (λ (o : Option Call). MatchOption o (TakeBreaks kinds old mid) (λ x. TakesOn kinds old x.receiver x.arguments.items mid)) c.in-Some.is c.in_ok-call.ensures.taken in
    let taken : Takes old mid vs = takes.takes in
    let some = some_frames old mid vs taken in
    let top : ℕ = c.len-top.result - 1 in
    let last : top + 1 ≡ length mid.frames.items = omega (arith, mid.frames.ok.0, some) in
    on_err c.from_residual-in_err-step-in-Null.result
    (subst (Keeps k old) (sym c.in_err-step-in-Null.ensures.err) (back_keeps k old mid c.put_receiver_back-in-Null.new.state vs vs taken top last refl c.put_receiver_back-in-Null.ensures))

pub returns-clause-ready : goal.returns-clause-ready
returns-clause-ready c =
    let k = c.args.world.now in
    let old = c.args.state.now in
    let mid = c.take_on.new.state in
    let r = reference_seen c.args.named in
    let kinds = c.as_slice.result.now in
    let receiver = c.in-Some.call.receiver in
    let given = c.in-Some.call.arguments.items in
    let vs : List Value = reverse given ++ receiver_value receiver ∷ [] in
    let takes : TakesOn kinds old receiver given mid = subst (λ (o : Option Call). MatchOption o (TakeBreaks kinds old mid) (λ x. TakesOn kinds old x.receiver x.arguments.items mid)) c.in-Some.is c.in_ok-call.ensures.taken in
    let taken : Takes old mid vs = takes.takes in
    let same : kinds_for r ≡ kinds = sym (c.as_slice.ensures.value ∙ c.in_ok-kinds.ensures) in
    let some = some_frames old mid vs taken in
    let top : ℕ = c.len-top.result - 1 in
    let last : top + 1 ≡ length mid.frames.items = omega (arith, mid.frames.ok.0, some) in
    let f = c.index.result.now in
    let there : slice_get mid.frames.items top ≡ Some f = slice_get_read mid.frames.items c.len-top.result top f (omega (arith, mid.frames.ok.0)) (omega (arith, some)) c.index.ensures in
    let callee = callee_there old mid vs taken top f last there k c.args.special r receiver given Null c.callee_of.result c.in-Null.is c.callee_of.ensures.called in
    on_null k old mid c.args.special r kinds receiver given same takes c.put_receiver_back-in-Null.new.state c.fail.new.state c.in_ok-step-in-Null.step
    (back_keeps k old mid c.put_receiver_back-in-Null.new.state vs vs taken top last refl c.put_receiver_back-in-Null.ensures) c.in_ok-step-in-Null.ensures.moves callee
