use Rattle.std.proofs.Common.{sym}
use Rattle.std.specs.Prelude.{[]}
use Rattle.std.proofs.lemmas.List.{append-nil}
use Rattle.std.proofs.lemmas.Result.{IfOk-weaker}
use Rattle.machine_invocations.proofs.Forgotten.{adds_nothing, adds_found}
use Rattle.machine_invocations.proofs.Locked.{finds_receiver, finds_class}
use Rattle.machine_invocations.proofs.entering.locked_object.Goals as goal

pub returns-in-Some-clause-ok : goal.returns-in-Some-clause-ok
returns-in-Some-clause-ok c callee sees = finds_receiver c.args.world.now c.args.heap.now callee c.args.receiver c.in-Some.at c.in-Some.is

pub returns-in-Some-clause-names : goal.returns-in-Some-clause-names
returns-in-Some-clause-names c = ([], sym (append-nil c.args.heap.now.names))

pub returns-in_ok-name-in-None-clause-ok : goal.returns-in_ok-name-in-None-clause-ok
returns-in_ok-name-in-None-clause-ok c =
    IfOk-weaker c.class_object.result _ _
    (λ at e callee sees. finds_class c.args.world.now c.requires.runnable c.args.heap.now c.class_object.new.self c.args.method.0 c.declared.result.class.0 c.declared.result.head.now c.declared.result.method.now callee c.args.receiver at c.in_ok-name-in-None.name
    c.declared.ensures.stands (c.declared.ensures.seen callee sees) c.declared.ensures.within c.in-None.is c.in_ok-name-in-None.ensures e) c.class_object.ensures.ok

pub returns-in-Some-clause-adds : goal.returns-in-Some-clause-adds
returns-in-Some-clause-adds c = adds_nothing c.args.heap.now

pub returns-in_err-name-in-None-clause-adds : goal.returns-in_err-name-in-None-clause-adds
returns-in_err-name-in-None-clause-adds c = adds_nothing c.args.heap.now

pub returns-in_ok-name-in-None-clause-adds : goal.returns-in_ok-name-in-None-clause-adds
returns-in_ok-name-in-None-clause-adds c = adds_found c.class_object.result c.args.heap.now c.class_object.new.self _ c.class_object.ensures.ok c.class_object.ensures.err
