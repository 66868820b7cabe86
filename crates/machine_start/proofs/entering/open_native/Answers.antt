use Rattle.std.proofs.lemmas.Result.{on_ok_weaker}
use Rattle.machine_values.specs.declared.state.Due.TheVariants.{NativeEntry}
use Rattle.machine_start.proofs.Opened.{due_formed, opened_native}
use Rattle.machine_start.proofs.entering.open_native.Goals as goal

pub trigger-requires-clause-formed : goal.trigger-requires-clause-formed
trigger-requires-clause-formed c = due_formed c.args.world.now c.args.state.now (NativeEntry c.args.method c.args.given) c.requires.formed c.requires.method

pub returns-clause-ok : goal.returns-clause-ok
returns-clause-ok c =
    on_ok_weaker c.trigger.result (λ begins callee sees. opened_native c.args.world.now c.args.state.now c.trigger.new.state c.args.method c.args.given callee sees c.requires.given (begins callee sees)) c.trigger.ensures.ok
