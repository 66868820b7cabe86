use Rattle.std.specs.Prelude.{◌≡◌, ◌<◌, ◌-◌, ℕ, suc, length}
use Rattle.std.proofs.Common.{arith}
use Rattle.class_file.specs.Lookup.{reference_seen}
use Rattle.machine_steps.specs.Runs.{answers_left}
use Rattle.machine_invocations.proofs.Seen.{seen_method}
use Rattle.machine_invokes.specs.Preparing.{runs_call}
use Rattle.machine_calling.proofs.Restored.{same_formed, same_frames, grows, prepared_stands, ran_frames, roomy}
use Rattle.machine_calling.proofs.invoking.run_prepared.Goals as goal

pub run_method-requires-clause-method : goal.run_method-requires-clause-method
run_method-requires-clause-method c =
    let prepared = c.requires.prepared in
    seen_method c.args.world.now c.args.call.method.0 prepared.prepares.callee prepared.prepares.sees

pub run_method-requires-clause-receiver : goal.run_method-requires-clause-receiver
run_method-requires-clause-receiver c = c.requires.prepared.prepares.receiver

pub run_method-requires-clause-arguments : goal.run_method-requires-clause-arguments
run_method-requires-clause-arguments c = c.requires.prepared.prepares.arguments

pub run_method-requires-clause-purpose : goal.run_method-requires-clause-purpose
run_method-requires-clause-purpose c = c.requires.prepared.prepares.purpose

pub run_method-requires-clause-there : goal.run_method-requires-clause-there
run_method-requires-clause-there c =
    let prepared = c.requires.prepared in
    prepared_stands c.args.world.now prepared.before c.args.state.now prepared.mode (reference_seen c.args.named) c.args.call prepared.prepares prepared.can prepared.there

pub go_on-requires : goal.go_on-requires
go_on-requires c =
    let k = c.args.world.now in
    let old = c.args.state.now in
    let r = reference_seen c.args.named in
    let left = answers_left c.args.script.now in
    let rest = answers_left c.run_method.new.script in
    let prepared = c.requires.prepared in
    let prepares = prepared.prepares in
    let index : ℕ = c.len-index.result - 1 in
    let some = (grows prepared.before old c.args.call prepared.can).some in
    let less : index < length old.frames.items = omega (arith, some, old.frames.ok.0) in
    record {
      there = λ going.
          ran_frames k old c.run_method.new.state left rest (runs_call r prepares.callee c.args.call old) c.in-Ok.ran index less
          (c.in-Ok.ensures.ran prepares.callee prepares.sees (roomy k prepared.before old c.run_method.new.state left rest prepared.mode r c.args.call prepares)) going;
    }

pub overflow_sub-index : goal.overflow_sub-index
overflow_sub-index c =
    let old = c.args.state.now in
    let prepared = c.requires.prepared in
    let some = (grows prepared.before old c.args.call prepared.can).some in
    omega (arith, some, old.frames.ok.0)

pub undo-requires : goal.undo-requires
undo-requires c =
    let prepared = c.requires.prepared in
    same_frames c.args.state.now c.run_method.new.state c.in-Err.ensures.same (grows prepared.before c.args.state.now c.args.call prepared.can).some

pub returns-in-Ok-clause-formed : goal.returns-in-Ok-clause-formed
returns-in-Ok-clause-formed c before can formed =
    let k = c.args.world.now in
    let old = c.args.state.now in
    let r = reference_seen c.args.named in
    let left = answers_left c.args.script.now in
    let rest = answers_left c.run_method.new.script in
    let prepared = c.requires.prepared in
    let prepares = prepared.prepares in
    let index : ℕ = c.len-index.result - 1 in
    let some = (grows before old c.args.call can).some in
    let counted : length old.frames.items ≡ suc index = omega (arith, some, old.frames.ok.0) in
    c.go_on.ensures.formed k before old left rest (runs_call r prepares.callee c.args.call old) can counted
    (c.in-Ok.ensures.ran prepares.callee prepares.sees (roomy k prepared.before old c.run_method.new.state left rest prepared.mode r c.args.call prepares)) formed c.run_method.ensures.formed

pub returns-in-Ok-clause-moves : goal.returns-in-Ok-clause-moves
returns-in-Ok-clause-moves c before mode prepares can =
    let k = c.args.world.now in
    let old = c.args.state.now in
    let r = reference_seen c.args.named in
    let left = answers_left c.args.script.now in
    let rest = answers_left c.run_method.new.script in
    let index : ℕ = c.len-index.result - 1 in
    let some = (grows before old c.args.call can).some in
    let counted : length old.frames.items ≡ suc index = omega (arith, some, old.frames.ok.0) in
    c.go_on.ensures.moves k before old left rest mode r prepares can counted
    (c.in-Ok.ensures.ran prepares.callee prepares.sees (roomy k before old c.run_method.new.state left rest mode r c.args.call prepares))

pub returns-in-Err-clause-formed : goal.returns-in-Err-clause-formed
returns-in-Err-clause-formed c before can formed =
    same_formed c.args.world.now before c.undo.new.state (c.undo.ensures before c.args.state.now can c.in-Err.ensures.same) formed

pub returns-in-Err-clause-err : goal.returns-in-Err-clause-err
returns-in-Err-clause-err c before can = c.undo.ensures before c.args.state.now can c.in-Err.ensures.same
