use Rattle.std.specs.Prelude.{◌≡◌, ℕ, ◌+◌, ◌-◌, [], length, reverse, Option, MatchOption, refl}
use Rattle.std.proofs.Common.{sym, ◌∙◌, ap, subst, arith, length-append, Vec, Global}
use Rattle.class_file.specs.Lookup.{reference_seen}
use Rattle.class_machine.specs.Classes.{member_text}
use Rattle.class_machine.specs.Events as events
use Rattle.machine_values.specs.declared.observed.Ending.TheVariants as ending
use Rattle.machine_values.specs.declared.state.MachineState.{MachineState}
use Rattle.machine_values.specs.declared.values.Value.{Value}
use Rattle.machine_values.specs.Observed.{machine_ending}
use Rattle.machine_frames.specs.Calls.{kinds_for}
use Rattle.machine_steps.specs.Going.{formed_turned}
use Rattle.machine_invocations.specs.Keeping.{Keeps}
use Rattle.machine_invocations.proofs.Begun.{keeps_same, formed_same, on_err}
use Rattle.machine_invokes.specs.declared.starting.Start.TheVariants.{Missing, Breaks, Begins, Runs}
use Rattle.machine_invokes.specs.Taking.{Takes, TakesStatic, StaticTakeBreaks, PutsBack}
use Rattle.machine_invokes.proofs.Restored.{keeps_back, formed_back}
use Rattle.machine_invokes.proofs.StaticCalls.{static_ended, begins_formed, begins_moves, static_prepares, static_undone, static_breaks, some_frames, taken_formed, puts_there, started_there}
use Rattle.machine_invokes.proofs.preparing.prepare_static.Goals as goal

pub returns-in_err-arguments-clause-formed : goal.returns-in_err-arguments-clause-formed
returns-in_err-arguments-clause-formed c =
    formed_same c.args.world.now c.args.state.now c.take_static.new.state c.in_err-arguments.ensures.err.same c.in_err-arguments.ensures.err.items c.requires.formed

pub returns-in_err-arguments-clause-err : goal.returns-in_err-arguments-clause-err
returns-in_err-arguments-clause-err c =
    on_err c.from_residual-in_err-arguments.result (keeps_same c.args.world.now c.args.state.now c.take_static.new.state c.in_err-arguments.ensures.err.same c.in_err-arguments.ensures.err.items)

pub returns-in_default-clause-ready : goal.returns-in_default-clause-ready
returns-in_default-clause-ready c =
    let k = c.args.world.now in
    let old = c.args.state.now in
    let mid = c.take_static.new.state in
    let kinds = c.as_slice.result.now in
    static_breaks k old mid mid (reference_seen c.args.named) kinds (sym (c.as_slice.ensures.value ∙ c.in_ok-kinds.ensures))
    (subst (λ (o : Option (Vec Value Global)). MatchOption o (StaticTakeBreaks kinds old mid) (λ vs. TakesStatic kinds old vs.items mid)) c.in_default.is c.in_ok-arguments.ensures.taken)

pub returns-in_default-clause-formed : goal.returns-in_default-clause-formed
returns-in_default-clause-formed c =
    let old = c.args.state.now in
    let mid = c.take_static.new.state in
    let kinds = c.as_slice.result.now in
    let broken : StaticTakeBreaks kinds old mid = subst (λ (o : Option (Vec Value Global)). MatchOption o (StaticTakeBreaks kinds old mid) (λ vs. TakesStatic kinds old vs.items mid)) c.in_default.is c.in_ok-arguments.ensures.taken in
    formed_turned c.args.world.now old mid broken.rest broken.before broken.after broken.turned broken.method c.requires.formed

pub overflow_sub-top : goal.overflow_sub-top
overflow_sub-top c =
    let k = c.args.world.now in
    let old = c.args.state.now in
    let mid = c.take_static.new.state in
    let r = reference_seen c.args.named in
    let kinds = c.as_slice.result.now in
    let given = c.in-Some.arguments.items in
    let takes : TakesStatic kinds old given mid = subst (λ (o : Option (Vec Value Global)). MatchOption o (StaticTakeBreaks kinds old mid) (λ vs. TakesStatic kinds old vs.items mid)) c.in-Some.is c.in_ok-arguments.ensures.taken in
    let taken : Takes old mid (reverse given) = takes.takes in
    let some = some_frames old mid (reverse given) taken in
    omega (arith, mid.frames.ok.0, some)

pub start_static-requires-clause-formed : goal.start_static-requires-clause-formed
start_static-requires-clause-formed c =
    let k = c.args.world.now in
    let old = c.args.state.now in
    let mid = c.take_static.new.state in
    let r = reference_seen c.args.named in
    let kinds = c.as_slice.result.now in
    let given = c.in-Some.arguments.items in
    let takes : TakesStatic kinds old given mid = subst (λ (o : Option (Vec Value Global)). MatchOption o (StaticTakeBreaks kinds old mid) (λ vs. TakesStatic kinds old vs.items mid)) c.in-Some.is c.in_ok-arguments.ensures.taken in
    let taken : Takes old mid (reverse given) = takes.takes in
    taken_formed old mid (reverse given) taken k c.requires.formed

pub start_static-requires-clause-there : goal.start_static-requires-clause-there
start_static-requires-clause-there c =
    let k = c.args.world.now in
    let old = c.args.state.now in
    let mid = c.take_static.new.state in
    let r = reference_seen c.args.named in
    let kinds = c.as_slice.result.now in
    let given = c.in-Some.arguments.items in
    let takes : TakesStatic kinds old given mid = subst (λ (o : Option (Vec Value Global)). MatchOption o (StaticTakeBreaks kinds old mid) (λ vs. TakesStatic kinds old vs.items mid)) c.in-Some.is c.in_ok-arguments.ensures.taken in
    let taken : Takes old mid (reverse given) = takes.takes in
    some_frames old mid (reverse given) taken

pub returns-in-Ok-Runs-clause-ready : goal.returns-in-Ok-Runs-clause-ready
returns-in-Ok-Runs-clause-ready c =
    let k = c.args.world.now in
    let old = c.args.state.now in
    let mid = c.take_static.new.state in
    let r = reference_seen c.args.named in
    let kinds = c.as_slice.result.now in
    let given = c.in-Some.arguments.items in
    let takes : TakesStatic kinds old given mid = subst (λ (o : Option (Vec Value Global)). MatchOption o (StaticTakeBreaks kinds old mid) (λ vs. TakesStatic kinds old vs.items mid)) c.in-Some.is c.in_ok-arguments.ensures.taken in
    let taken : Takes old mid (reverse given) = takes.takes in
    let same : kinds_for r ≡ kinds = sym (c.as_slice.ensures.value ∙ c.in_ok-kinds.ensures) in
    let new = c.start_static.new.state in
    let starts = started_there k old mid new r given c.as_slice-2.result.now taken (Runs c.in-Ok-Runs.method c.in-Ok-Runs.saved) c.in-Ok-Runs.field-0 c.as_slice-2.ensures.value c.in-Ok-Runs.field-0-is c.in-Ok-Runs.ensures.started in (
      static_prepares k old mid r kinds given same takes new c.in-Ok-Runs.method.0 c.in-Ok-Runs.saved starts _ refl refl refl refl,
      static_undone k old mid r kinds given same takes new c.in-Ok-Runs.method.0 c.in-Ok-Runs.saved starts _ refl refl,
    )

pub put_arguments_back-requires : goal.put_arguments_back-requires
put_arguments_back-requires c =
    let k = c.args.world.now in
    let old = c.args.state.now in
    let mid = c.take_static.new.state in
    let r = reference_seen c.args.named in
    let kinds = c.as_slice.result.now in
    let given = c.in-Some.arguments.items in
    let takes : TakesStatic kinds old given mid = subst (λ (o : Option (Vec Value Global)). MatchOption o (StaticTakeBreaks kinds old mid) (λ vs. TakesStatic kinds old vs.items mid)) c.in-Some.is c.in_ok-arguments.ensures.taken in
    let taken : Takes old mid (reverse given) = takes.takes in
    let same : kinds_for r ≡ kinds = sym (c.as_slice.ensures.value ∙ c.in_ok-kinds.ensures) in
    let some = some_frames old mid (reverse given) taken in
    let top : ℕ = c.len-top.result - 1 in
    let last : top + 1 ≡ length mid.frames.items = omega (arith, mid.frames.ok.0, some) in
    let new = c.start_static.new.state in
    let starts = started_there k old mid new r given c.as_slice-2.result.now taken Begins c.in-Ok-Begins.field-0 c.as_slice-2.ensures.value c.in-Ok-Begins.field-0-is c.in-Ok-Begins.ensures.started in
    let more = ap length starts.waiting.put.frames ∙ length-append mid.frames.items starts.waiting.put.own in
    omega (arith, more, last)

pub returns-in-Ok-Begins-clause-ready : goal.returns-in-Ok-Begins-clause-ready
returns-in-Ok-Begins-clause-ready c =
    let k = c.args.world.now in
    let old = c.args.state.now in
    let mid = c.take_static.new.state in
    let r = reference_seen c.args.named in
    let kinds = c.as_slice.result.now in
    let given = c.in-Some.arguments.items in
    let takes : TakesStatic kinds old given mid = subst (λ (o : Option (Vec Value Global)). MatchOption o (StaticTakeBreaks kinds old mid) (λ vs. TakesStatic kinds old vs.items mid)) c.in-Some.is c.in_ok-arguments.ensures.taken in
    let taken : Takes old mid (reverse given) = takes.takes in
    let same : kinds_for r ≡ kinds = sym (c.as_slice.ensures.value ∙ c.in_ok-kinds.ensures) in
    let some = some_frames old mid (reverse given) taken in
    let top : ℕ = c.len-top.result - 1 in
    let last : top + 1 ≡ length mid.frames.items = omega (arith, mid.frames.ok.0, some) in
    let new = c.start_static.new.state in
    let starts = started_there k old mid new r given c.as_slice-2.result.now taken Begins c.in-Ok-Begins.field-0 c.as_slice-2.ensures.value c.in-Ok-Begins.field-0-is c.in-Ok-Begins.ensures.started in
    let final = c.put_arguments_back.new.state in
    let puts : PutsBack (length taken.rest) (reverse given) new final = puts_there old mid (reverse given) taken top (reverse c.as_slice-in-Ok-Begins.result.now) new final last (ap reverse c.as_slice-in-Ok-Begins.ensures.value) c.put_arguments_back.ensures in
    begins_moves k old mid r kinds given same takes new final starts puts

pub returns-in-Ok-Begins-clause-formed : goal.returns-in-Ok-Begins-clause-formed
returns-in-Ok-Begins-clause-formed c =
    let k = c.args.world.now in
    let old = c.args.state.now in
    let mid = c.take_static.new.state in
    let r = reference_seen c.args.named in
    let kinds = c.as_slice.result.now in
    let given = c.in-Some.arguments.items in
    let takes : TakesStatic kinds old given mid = subst (λ (o : Option (Vec Value Global)). MatchOption o (StaticTakeBreaks kinds old mid) (λ vs. TakesStatic kinds old vs.items mid)) c.in-Some.is c.in_ok-arguments.ensures.taken in
    let taken : Takes old mid (reverse given) = takes.takes in
    let same : kinds_for r ≡ kinds = sym (c.as_slice.ensures.value ∙ c.in_ok-kinds.ensures) in
    let some = some_frames old mid (reverse given) taken in
    let top : ℕ = c.len-top.result - 1 in
    let last : top + 1 ≡ length mid.frames.items = omega (arith, mid.frames.ok.0, some) in
    let new = c.start_static.new.state in
    let starts = started_there k old mid new r given c.as_slice-2.result.now taken Begins c.in-Ok-Begins.field-0 c.as_slice-2.ensures.value c.in-Ok-Begins.field-0-is c.in-Ok-Begins.ensures.started in
    let final = c.put_arguments_back.new.state in
    let puts : PutsBack (length taken.rest) (reverse given) new final = puts_there old mid (reverse given) taken top (reverse c.as_slice-in-Ok-Begins.result.now) new final last (ap reverse c.as_slice-in-Ok-Begins.ensures.value) c.put_arguments_back.ensures in
    begins_formed k old mid r kinds given same takes new final starts puts c.requires.formed c.start_static.ensures.formed

pub returns-in-Ok-Breaks-clause-ready : goal.returns-in-Ok-Breaks-clause-ready
returns-in-Ok-Breaks-clause-ready c =
    let k = c.args.world.now in
    let old = c.args.state.now in
    let mid = c.take_static.new.state in
    let r = reference_seen c.args.named in
    let kinds = c.as_slice.result.now in
    let given = c.in-Some.arguments.items in
    let takes : TakesStatic kinds old given mid = subst (λ (o : Option (Vec Value Global)). MatchOption o (StaticTakeBreaks kinds old mid) (λ vs. TakesStatic kinds old vs.items mid)) c.in-Some.is c.in_ok-arguments.ensures.taken in
    let taken : Takes old mid (reverse given) = takes.takes in
    let same : kinds_for r ≡ kinds = sym (c.as_slice.ensures.value ∙ c.in_ok-kinds.ensures) in
    let new = c.start_static.new.state in
    let starts = started_there k old mid new r given c.as_slice-2.result.now taken Breaks c.in-Ok-Breaks.field-0 c.as_slice-2.ensures.value c.in-Ok-Breaks.field-0-is c.in-Ok-Breaks.ensures.started in
    static_ended k old mid r kinds given same takes new ending.Broken events.Broken refl starts.1

pub put_arguments_back-requires-in-Ok-Missing : goal.put_arguments_back-requires-in-Ok-Missing
put_arguments_back-requires-in-Ok-Missing c =
    let k = c.args.world.now in
    let old = c.args.state.now in
    let mid = c.take_static.new.state in
    let r = reference_seen c.args.named in
    let kinds = c.as_slice.result.now in
    let given = c.in-Some.arguments.items in
    let takes : TakesStatic kinds old given mid = subst (λ (o : Option (Vec Value Global)). MatchOption o (StaticTakeBreaks kinds old mid) (λ vs. TakesStatic kinds old vs.items mid)) c.in-Some.is c.in_ok-arguments.ensures.taken in
    let taken : Takes old mid (reverse given) = takes.takes in
    let some = some_frames old mid (reverse given) taken in
    let top : ℕ = c.len-top.result - 1 in
    let last : top + 1 ≡ length mid.frames.items = omega (arith, mid.frames.ok.0, some) in
    let new = c.start_static.new.state in
    let starts = started_there k old mid new r given c.as_slice-2.result.now taken Missing c.in-Ok-Missing.field-0 c.as_slice-2.ensures.value c.in-Ok-Missing.field-0-is c.in-Ok-Missing.ensures.started in
    let same_frames = ap (λ (s : MachineState). length s.frames.items) starts.0 in
    omega (arith, same_frames, last)

pub returns-in_err-ending-in-Ok-Missing-clause-formed : goal.returns-in_err-ending-in-Ok-Missing-clause-formed
returns-in_err-ending-in-Ok-Missing-clause-formed c =
    let k = c.args.world.now in
    let old = c.args.state.now in
    let mid = c.take_static.new.state in
    let r = reference_seen c.args.named in
    let kinds = c.as_slice.result.now in
    let given = c.in-Some.arguments.items in
    let takes : TakesStatic kinds old given mid = subst (λ (o : Option (Vec Value Global)). MatchOption o (StaticTakeBreaks kinds old mid) (λ vs. TakesStatic kinds old vs.items mid)) c.in-Some.is c.in_ok-arguments.ensures.taken in
    let taken : Takes old mid (reverse given) = takes.takes in
    let some = some_frames old mid (reverse given) taken in
    let top : ℕ = c.len-top.result - 1 in
    let last : top + 1 ≡ length mid.frames.items = omega (arith, mid.frames.ok.0, some) in
    let new = c.start_static.new.state in
    let starts = started_there k old mid new r given c.as_slice-2.result.now taken Missing c.in-Ok-Missing.field-0 c.as_slice-2.ensures.value c.in-Ok-Missing.field-0-is c.in-Ok-Missing.ensures.started in
    let final = c.put_arguments_back-in-Ok-Missing.new.state in
    let puts : PutsBack (length taken.rest) (reverse given) new final = puts_there old mid (reverse given) taken top (reverse c.as_slice-in-Ok-Missing.result.now) new final last (ap reverse c.as_slice-in-Ok-Missing.ensures.value) c.put_arguments_back-in-Ok-Missing.ensures in
    formed_back k old mid new final (reverse given) taken (length taken.rest) refl puts [] (ap (λ (s : MachineState). s.frames.items) starts.0 ∙ taken.turned.after) c.requires.formed c.start_static.ensures.formed

pub returns-in_err-ending-in-Ok-Missing-clause-err : goal.returns-in_err-ending-in-Ok-Missing-clause-err
returns-in_err-ending-in-Ok-Missing-clause-err c =
    let k = c.args.world.now in
    let old = c.args.state.now in
    let mid = c.take_static.new.state in
    let r = reference_seen c.args.named in
    let kinds = c.as_slice.result.now in
    let given = c.in-Some.arguments.items in
    let takes : TakesStatic kinds old given mid = subst (λ (o : Option (Vec Value Global)). MatchOption o (StaticTakeBreaks kinds old mid) (λ vs. TakesStatic kinds old vs.items mid)) c.in-Some.is c.in_ok-arguments.ensures.taken in
    let taken : Takes old mid (reverse given) = takes.takes in
    let some = some_frames old mid (reverse given) taken in
    let top : ℕ = c.len-top.result - 1 in
    let last : top + 1 ≡ length mid.frames.items = omega (arith, mid.frames.ok.0, some) in
    let new = c.start_static.new.state in
    let starts = started_there k old mid new r given c.as_slice-2.result.now taken Missing c.in-Ok-Missing.field-0 c.as_slice-2.ensures.value c.in-Ok-Missing.field-0-is c.in-Ok-Missing.ensures.started in
    let final = c.put_arguments_back-in-Ok-Missing.new.state in
    let puts : PutsBack (length taken.rest) (reverse given) new final = puts_there old mid (reverse given) taken top (reverse c.as_slice-in-Ok-Missing.result.now) new final last (ap reverse c.as_slice-in-Ok-Missing.ensures.value) c.put_arguments_back-in-Ok-Missing.ensures in
    on_err c.from_residual-in_err-ending-in-Ok-Missing.result
    (keeps_back k old mid new final (reverse given) taken (length taken.rest) refl puts (subst (Keeps k mid) (sym starts.0) (keeps_same k mid mid refl refl)))

pub returns-in-Ok-Missing-clause-ready : goal.returns-in-Ok-Missing-clause-ready
returns-in-Ok-Missing-clause-ready c =
    let k = c.args.world.now in
    let old = c.args.state.now in
    let mid = c.take_static.new.state in
    let r = reference_seen c.args.named in
    let kinds = c.as_slice.result.now in
    let given = c.in-Some.arguments.items in
    let takes : TakesStatic kinds old given mid = subst (λ (o : Option (Vec Value Global)). MatchOption o (StaticTakeBreaks kinds old mid) (λ vs. TakesStatic kinds old vs.items mid)) c.in-Some.is c.in_ok-arguments.ensures.taken in
    let taken : Takes old mid (reverse given) = takes.takes in
    let same : kinds_for r ≡ kinds = sym (c.as_slice.ensures.value ∙ c.in_ok-kinds.ensures) in
    let new = c.start_static.new.state in
    let starts = started_there k old mid new r given c.as_slice-2.result.now taken Missing c.in-Ok-Missing.field-0 c.as_slice-2.ensures.value c.in-Ok-Missing.field-0-is c.in-Ok-Missing.ensures.started in
    static_ended k old mid r kinds given same takes c.put_arguments_back-in-Ok-Missing.new.state c.in_ok-ending-in-Ok-Missing.ending (events.Unresolved (member_text r)) (ap machine_ending c.in_ok-ending-in-Ok-Missing.ensures) starts.1

pub returns-in-Ok-Missing-clause-formed : goal.returns-in-Ok-Missing-clause-formed
returns-in-Ok-Missing-clause-formed c =
    let k = c.args.world.now in
    let old = c.args.state.now in
    let mid = c.take_static.new.state in
    let r = reference_seen c.args.named in
    let kinds = c.as_slice.result.now in
    let given = c.in-Some.arguments.items in
    let takes : TakesStatic kinds old given mid = subst (λ (o : Option (Vec Value Global)). MatchOption o (StaticTakeBreaks kinds old mid) (λ vs. TakesStatic kinds old vs.items mid)) c.in-Some.is c.in_ok-arguments.ensures.taken in
    let taken : Takes old mid (reverse given) = takes.takes in
    let some = some_frames old mid (reverse given) taken in
    let top : ℕ = c.len-top.result - 1 in
    let last : top + 1 ≡ length mid.frames.items = omega (arith, mid.frames.ok.0, some) in
    let new = c.start_static.new.state in
    let starts = started_there k old mid new r given c.as_slice-2.result.now taken Missing c.in-Ok-Missing.field-0 c.as_slice-2.ensures.value c.in-Ok-Missing.field-0-is c.in-Ok-Missing.ensures.started in
    let final = c.put_arguments_back-in-Ok-Missing.new.state in
    let puts : PutsBack (length taken.rest) (reverse given) new final = puts_there old mid (reverse given) taken top (reverse c.as_slice-in-Ok-Missing.result.now) new final last (ap reverse c.as_slice-in-Ok-Missing.ensures.value) c.put_arguments_back-in-Ok-Missing.ensures in
    formed_back k old mid new final (reverse given) taken (length taken.rest) refl puts [] (ap (λ (s : MachineState). s.frames.items) starts.0 ∙ taken.turned.after) c.requires.formed c.start_static.ensures.formed

pub put_arguments_back-requires-in-Err : goal.put_arguments_back-requires-in-Err
put_arguments_back-requires-in-Err c =
    let k = c.args.world.now in
    let old = c.args.state.now in
    let mid = c.take_static.new.state in
    let r = reference_seen c.args.named in
    let kinds = c.as_slice.result.now in
    let given = c.in-Some.arguments.items in
    let takes : TakesStatic kinds old given mid = subst (λ (o : Option (Vec Value Global)). MatchOption o (StaticTakeBreaks kinds old mid) (λ vs. TakesStatic kinds old vs.items mid)) c.in-Some.is c.in_ok-arguments.ensures.taken in
    let taken : Takes old mid (reverse given) = takes.takes in
    let some = some_frames old mid (reverse given) taken in
    let top : ℕ = c.len-top.result - 1 in
    let last : top + 1 ≡ length mid.frames.items = omega (arith, mid.frames.ok.0, some) in
    let kept = ap length c.in-Err.ensures.err.frames in
    omega (arith, kept, last)

pub returns-clause-formed : goal.returns-clause-formed
returns-clause-formed c =
    let k = c.args.world.now in
    let old = c.args.state.now in
    let mid = c.take_static.new.state in
    let r = reference_seen c.args.named in
    let kinds = c.as_slice.result.now in
    let given = c.in-Some.arguments.items in
    let takes : TakesStatic kinds old given mid = subst (λ (o : Option (Vec Value Global)). MatchOption o (StaticTakeBreaks kinds old mid) (λ vs. TakesStatic kinds old vs.items mid)) c.in-Some.is c.in_ok-arguments.ensures.taken in
    let taken : Takes old mid (reverse given) = takes.takes in
    let some = some_frames old mid (reverse given) taken in
    let top : ℕ = c.len-top.result - 1 in
    let last : top + 1 ≡ length mid.frames.items = omega (arith, mid.frames.ok.0, some) in
    let new = c.start_static.new.state in
    let final = c.put_arguments_back-in-Err.new.state in
    let puts : PutsBack (length taken.rest) (reverse given) new final = puts_there old mid (reverse given) taken top (reverse c.as_slice-in-Err.result.now) new final last (ap reverse c.as_slice-in-Err.ensures.value) c.put_arguments_back-in-Err.ensures in
    formed_back k old mid new final (reverse given) taken (length taken.rest) refl puts [] (c.in-Err.ensures.err.frames ∙ taken.turned.after) c.requires.formed c.start_static.ensures.formed

pub returns-clause-err : goal.returns-clause-err
returns-clause-err c =
    let k = c.args.world.now in
    let old = c.args.state.now in
    let mid = c.take_static.new.state in
    let r = reference_seen c.args.named in
    let kinds = c.as_slice.result.now in
    let given = c.in-Some.arguments.items in
    let takes : TakesStatic kinds old given mid = subst (λ (o : Option (Vec Value Global)). MatchOption o (StaticTakeBreaks kinds old mid) (λ vs. TakesStatic kinds old vs.items mid)) c.in-Some.is c.in_ok-arguments.ensures.taken in
    let taken : Takes old mid (reverse given) = takes.takes in
    let some = some_frames old mid (reverse given) taken in
    let top : ℕ = c.len-top.result - 1 in
    let last : top + 1 ≡ length mid.frames.items = omega (arith, mid.frames.ok.0, some) in
    let new = c.start_static.new.state in
    let final = c.put_arguments_back-in-Err.new.state in
    let puts : PutsBack (length taken.rest) (reverse given) new final = puts_there old mid (reverse given) taken top (reverse c.as_slice-in-Err.result.now) new final last (ap reverse c.as_slice-in-Err.ensures.value) c.put_arguments_back-in-Err.ensures in
    keeps_back k old mid new final (reverse given) taken (length taken.rest) refl puts c.in-Err.ensures.err
